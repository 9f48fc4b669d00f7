-- The facts that the loop leaves. Assumes nothing.
use native.Mathlib.Omega.{arith}
use mathlib.Core.Path.{sym, subst, ◌∙◌}
use Rattle.sheet_rows.proofs.Laws.{told}
use Rattle.search_bound.proofs.OnlyMethods.{FoundTo, found_here, found_not, method_alone}
use Rattle.search_bound.proofs.relevance.only_method.Goals as goal
use Rattle.search_bound.proofs.relevance.only_method.Goals.{then-method_has+else-is_some, else-method_has}

pub loop-method-preserved : goal.loop-method-preserved
loop-method-preserved c =
    elim c.if-method_has.branch [
      | then-method_has+else-is_some w ↦
          subst (FoundTo _ _) (sym w.found-is) (found_here c.loop-method.invariant (sym w.is_some.ensures ∙ w.if-is_some.false))
      | else-method_has w ↦
          subst (FoundTo _ _) (sym w.found-is) (found_not c.loop-method.invariant (told c.method_has.ensures w.if-method_has.false))
    ]

pub returns : goal.returns
returns c =
    method_alone c.requires.indexed _ _ c.action_part-effects.ensures c.loop-method.invariant
    (omega (arith, c.loop-method-test.false, c.loop-method.auto.method-end, c.of-method-end.ensures.methods))
