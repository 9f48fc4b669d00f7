-- The heading of the answer, then the lines of its plan; of a refusal the heading alone. Assumes nothing.
use Rattle.std.proofs.Common.{ℕ, List, refl, ap₂, ◌∙◌}
use Rattle.hgn.specs.Replay.{refusal}
use Rattle.sheet_files.specs.Texts.{heading}
use Rattle.replay_main.specs.Printed.{printed}
use Rattle.replay_main.proofs.Answering.{text_is, heading_is_text}
use Rattle.replay_main.proofs.answer.write_answer.Goals as goal

pub returns-in-Ok : goal.returns-in-Ok
unfolding printed
returns-in-Ok c =
    text_is _ _ _ c.in-Ok.ensures c.put_heading-heading.ensures.text (rw c.from.ensures at c.front.ensures) c.put_lines.ensures

pub returns-in-Err : goal.returns-in-Err
unfolding printed refusal
returns-in-Err c =
    heading_is_text c.in-Err.ensures
    (c.put_heading.ensures.text
    ∙ ap₂ {C = List ℕ} (λ (n a : ℕ). heading n c.in-Err.failure.refusal.place 0 0 a) c.number.ensures c.atom_word.ensures) refl
