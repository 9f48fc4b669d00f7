-- A step of some accepted trace is taken, and its piece goes behind what the room holds (`TurnLaws`). Assumes nothing.
use Rattle.std.proofs.Common.{sym, rules}
use mathlib.Core.Logic.{inl, inr, ⊎_elim}
use Rattle.listing_main.proofs.Ahead.{told_narrow}
use Rattle.listing_main.proofs.TurnLaws.{turn_step}
use Rattle.listing_main.proofs.steps.turn.Goals as goal

pub put_piece-requires-clause-narrow : goal.put_piece-requires-clause-narrow
put_piece-requires-clause-narrow g c =
    let pre = c.requires.1 in
    told_narrow _ _ _ pre.ahead _ (sym pre.reads) _ _ _ c.take_step-told.ensures

pub returns : goal.returns
returns g c trace ahead reads =
    turn_step _ _ trace _ _ ahead _ (sym reads) _ _ _ c.take_step-told.ensures _ c.in_ok-space.ensures.0 (⊎_elim inl (λ w. inr w.0) c.in_ok-space.ensures.1) _ _ (search rules)
    c.put_piece.ensures.few c.put_piece.ensures.text
