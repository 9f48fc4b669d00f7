-- The facts that the loop leaves. Assumes nothing.
use mathlib.Core.Path.{refl, sym, ◌∙◌}
use lib.ListN.{length-set}
use Rattle.hgn.specs.Meaning.{literals}
use Rattle.state.specs.Literals.{literal_of}
use Rattle.state.specs.Effects.{set_each}
use Rattle.sheet_index.proofs.Columns.{next_row, no_row_left, by_rows}
use Rattle.state.proofs.ByRow.{set_in, set_row, set_no_row, set_no_atom}
use Rattle.state.proofs.atoms.set_each.Goals as goal

pub loop-tag-init : goal.loop-tag-init
loop-tag-init c = (rw (c.into_iter-tag-iterator.ensures.into_iter_gives, c.iter-tag-items.ensures), refl)

pub loop-tag-preserved-then-at-atoms : goal.loop-tag-preserved-then-at-atoms
loop-tag-preserved-then-at-atoms c = (
  by_rows (set_in _ _ _) c.loop-tag.invariant.0
      (next_row c.loop-tag.tag-iterator c.next.new.self c.next.ensures.steps c.in-Some.is)
      (set_row _ _ _ _ _ (literal_of c.in-Some-literal.literal) c.in-Some-literal.ensures),
  length-set c.loop-tag.atoms c.in-Some-literal.literal.atom.0 c.in-Some-literal.literal.sign ∙ c.loop-tag.invariant.1,
)

pub loop-tag-preserved-else-at-atoms : goal.loop-tag-preserved-else-at-atoms
loop-tag-preserved-else-at-atoms c = (
  by_rows (set_in _ _ _) c.loop-tag.invariant.0
      (next_row c.loop-tag.tag-iterator c.next.new.self c.next.ensures.steps c.in-Some.is)
      (set_no_atom _ _ _ _ _ (literal_of c.in-Some-literal.literal) c.in-Some-literal.ensures c.if-at-atoms.false),
  c.loop-tag.invariant.1,
)

pub loop-tag-preserved : goal.loop-tag-preserved
loop-tag-preserved c = (
  by_rows (set_in _ _ _) c.loop-tag.invariant.0
      (next_row c.loop-tag.tag-iterator c.next.new.self c.next.ensures.steps c.in-Some.is)
      (set_no_row _ _ _ _ _ c.in_default.ensures),
  c.loop-tag.invariant.1,
)

pub returns : goal.returns
unfolding set_each literals
returns c = sym (by_rows (set_in _ _ _) c.loop-tag.invariant.0 (no_row_left c.loop-tag.tag-iterator c.next.new.self c.next.ensures.steps c.in-None.is) refl)
