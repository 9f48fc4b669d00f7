-- The facts that the loop leaves. Assumes nothing.
use native.Mathlib.Omega.{arith}
use mathlib.Core.Path.{refl, ◌∙◌}
use Rattle.hgn.specs.Meaning.{literals}
use Rattle.sheet_index.specs.Index.{rows_in}
use Rattle.sheet_index.proofs.Columns.{row_at, none_from, by_rows}
use Rattle.state.specs.Relevances.{effects_in}
use Rattle.state.proofs.ByRow.{row_literals}
use Rattle.state.proofs.relevance.next_effect.Goals as goal

pub loop-i-preserved : goal.loop-i-preserved
unfolding rows_in
loop-i-preserved c =
    let n = c.count-i-end.ensures in
    by_rows (effects_in c.args.signs) c.loop-i.invariant
    (row_at c.args.effects.tags.now c.args.effects.values.now c.loop-i.i (omega (arith, n)) (omega (arith, n))) (row_literals _ _ _ _ c.in_default.ensures)

pub returns-in-Some : goal.returns-in-Some
unfolding rows_in
returns-in-Some c =
    let n = c.count-i-end.ensures in
    by_rows (effects_in c.args.signs) c.loop-i.invariant
    (row_at c.args.effects.tags.now c.args.effects.values.now c.loop-i.i (omega (arith, n)) (omega (arith, n)))
    (row_literals _ _ _ _ c.in-Some.ensures ∙ rw c.skip.ensures)

pub returns : goal.returns
unfolding rows_in literals
returns c =
    by_rows (effects_in c.args.signs) c.loop-i.invariant
    (none_from c.args.effects.tags.now c.args.effects.values.now c.loop-i.i (omega (arith, c.count-i-end.ensures))) refl
