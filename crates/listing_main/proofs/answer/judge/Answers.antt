-- The replay's answer tells which it is, and its heading is put. Assumes nothing.
use Rattle.std.proofs.Common.{ℕ, List, ap₂, ap, sym, ◌∙◌}
use Rattle.hgn.specs.Replay.{Replayed, refusal}
use Rattle.sheet_files.specs.Texts.{heading}
use Rattle.sheet_rows.proofs.Laws.{numbered}
use Rattle.listing_main.proofs.Judging.{judged_refused, heading_is_all}
use Rattle.listing_main.proofs.answer.judge.Goals as goal

pub returns-in-Ok : goal.returns-in-Ok
returns-in-Ok c = sym (ap (λ (r : Replayed). r.answer.refusal.number) c.in-Ok.ensures)

pub returns-in-Err : goal.returns-in-Err
unfolding refusal
returns-in-Err c =
    let q = c.in-Err.failure.refusal.question in (
      judged_refused _ _ _ c.in-Err.ensures (numbered q),
      heading_is_all _ _ _ c.in-Err.ensures (numbered q)
          (c.put_heading.ensures.text ∙ ap₂ {C = List ℕ} (λ (n a : ℕ). heading n c.in-Err.failure.refusal.place 0 0 a) c.number.ensures c.atom_word.ensures),
    )
