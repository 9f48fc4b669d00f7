-- A method's three questions, from its rows (`MethodAt`). Assumes nothing.
use mathlib.Core.Path.{refl}
use Rattle.sheet_rows.proofs.Laws.{told}
use Rattle.step.proofs.Decided.{method_unable, method_irrelevant, method_may, method_crowded}
use Rattle.step.proofs.questions.ask_method.Goals as goal

pub returns-in-Err : goal.returns-in-Err
returns-in-Err c =
    method_unable (c.method_rows-rows.ensures _ c.requires.indexed) _ _ _ (c.of_shop-head.ensures.rows_are _) c.test_literals.ensures
    c.unmet.result c.in-Err.is c.unmet.ensures

pub returns-then-not-relevant_to : goal.returns-then-not-relevant_to
returns-then-not-relevant_to c =
    method_irrelevant (c.method_rows-rows.ensures _ c.requires.indexed) _ _ _ (c.of_shop-head.ensures.rows_are _) c.test_literals.ensures
    c.in_default.is _ c.nodes_between-nodes.ensures (c.of_shop-last.ensures.rows_are _) c.relevant_to.ensures c.if-not-relevant_to.true c.by.result refl
    c.by.ensures

pub returns-then-not-allows : goal.returns-then-not-allows
returns-then-not-allows c =
    method_crowded (c.method_rows-rows.ensures _ c.requires.indexed) _ _ _ (c.of_shop-head.ensures.rows_are _) c.test_literals.ensures
    c.in_default.is _ c.nodes_between-nodes.ensures (c.of_shop-last.ensures.rows_are _) c.relevant_to.ensures c.if-not-relevant_to.false c.by-then-not-allows.result refl
    (told c.allows.ensures c.if-not-allows.true) c.by-then-not-allows.ensures

pub returns : goal.returns
returns c =
    method_may (c.method_rows-rows.ensures _ c.requires.indexed) _ _ _ (c.of_shop-head.ensures.rows_are _) c.test_literals.ensures
    c.in_default.is _ c.nodes_between-nodes.ensures (c.of_shop-last.ensures.rows_are _) c.relevant_to.ensures c.if-not-relevant_to.false refl
    (told c.allows.ensures c.if-not-allows.false)
