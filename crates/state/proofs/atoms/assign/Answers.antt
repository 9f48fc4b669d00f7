-- The facts that the loop leaves. Assumes nothing.
use native.Mathlib.Omega.{arith}
use mathlib.Core.Path.{refl, sym, ◌∙◌}
use lib.ListN.{length-set}
use Rattle.hgn.specs.Rows.{values_tagged}
use Rattle.hgn.specs.State.{assign}
use Rattle.sheet_index.proofs.Columns.{next_row, no_row_left, by_rows}
use Rattle.state.proofs.ByRow.{assigned_in, assigned_first, assigned_other, assigned_none}
use Rattle.state.proofs.atoms.assign.Goals as goal
use Rattle.state.proofs.atoms.assign.Goals.{else-own-tag-via-then-own-tag+else-at-atoms, else-own-tag-via-else-own-tag}

pub loop-own-init : goal.loop-own-init
loop-own-init c = (rw (c.into_iter-own-iterator.ensures.into_iter_gives, c.iter-own-items.ensures), refl)

pub loop-own-preserved-then-at-atoms : goal.loop-own-preserved-then-at-atoms
loop-own-preserved-then-at-atoms c = (
  by_rows (assigned_in _ _ _) c.loop-own.invariant.0 (next_row c.loop-own.own-iterator c.next.new.self c.next.ensures.steps c.in-Some.is) (assigned_first _ _ _ _ _ _ c.if-own-tag.true),
  length-set c.loop-own.atoms c.in-Some.value.now c.args.to ∙ c.loop-own.invariant.1,
)

pub loop-own-preserved : goal.loop-own-preserved
loop-own-preserved c = (
  elim c.else-own-tag.branch [
    | else-own-tag-via-then-own-tag+else-at-atoms w ↦
        by_rows (assigned_in _ _ _) c.loop-own.invariant.0
        (next_row c.loop-own.own-iterator c.next.new.self c.next.ensures.steps c.in-Some.is) (assigned_none _ _ _ _ _ _ w.if-own-tag.true (omega arith))
    | else-own-tag-via-else-own-tag w ↦
        by_rows (assigned_in _ _ _) c.loop-own.invariant.0
        (next_row c.loop-own.own-iterator c.next.new.self c.next.ensures.steps c.in-Some.is) (assigned_other _ _ _ _ _ _ w.if-own-tag.false)
  ],
  c.loop-own.invariant.1,
)

pub returns : goal.returns
unfolding assign values_tagged
returns c = sym (by_rows (assigned_in _ _ _) c.loop-own.invariant.0 (no_row_left c.loop-own.own-iterator c.next.new.self c.next.ensures.steps c.in-None.is) refl)
