-- The facts that the loop leaves. Assumes nothing.
use native.Mathlib.Omega.{arith}
use mathlib.Core.Path.{sym, ap, ◌∙◌}
use Rattle.sheet_index.specs.Index.{rows_in}
use Rattle.sheet_index.proofs.Columns.{row_at, none_from}
use Rattle.state.specs.Relevances.{wanted_in}
use Rattle.state.proofs.Relevances.{cut_here, cut_later, cut_none, behind_wants}
use Rattle.state.proofs.part.behind_first_alternative.Goals as goal

pub loop-i-preserved : goal.loop-i-preserved
unfolding rows_in
loop-i-preserved c =
    let n = c.count-i-end.ensures in
    cut_later (rows_in c.args.node) c.loop-i.invariant _ _ (row_at c.args.node.tags.now c.args.node.values.now c.loop-i.i (omega (arith, n)) (omega (arith, n))) c.if-node-i-eq-ALTERNATIVE.false

pub returns-then-node-i-eq-ALTERNATIVE-clause-behind : goal.returns-then-node-i-eq-ALTERNATIVE-clause-behind
unfolding rows_in
returns-then-node-i-eq-ALTERNATIVE-clause-behind c =
    let n = c.count-i-end.ensures in
    c.skip.ensures
    ∙ sym (cut_here (rows_in c.args.node) c.loop-i.invariant _ _ (row_at c.args.node.tags.now c.args.node.values.now c.loop-i.i (omega (arith, n)) (omega (arith, n)))
    c.if-node-i-eq-ALTERNATIVE.true)

pub returns-then-node-i-eq-ALTERNATIVE-clause-wants : goal.returns-then-node-i-eq-ALTERNATIVE-clause-wants
returns-then-node-i-eq-ALTERNATIVE-clause-wants c = ap wanted_in (returns-then-node-i-eq-ALTERNATIVE-clause-behind c) ∙ behind_wants _

pub returns-clause-behind : goal.returns-clause-behind
unfolding rows_in
returns-clause-behind c =
    let n = c.count-i-end.ensures in
    let m = c.count.ensures in
    c.skip-2.ensures
    ∙ none_from c.args.node.tags.now c.args.node.values.now _ (omega (arith, m))
    ∙ sym (cut_none (rows_in c.args.node) c.loop-i.invariant (none_from c.args.node.tags.now c.args.node.values.now c.loop-i.i (omega (arith, n))))

pub returns-clause-wants : goal.returns-clause-wants
returns-clause-wants c = ap wanted_in (returns-clause-behind c) ∙ behind_wants _
