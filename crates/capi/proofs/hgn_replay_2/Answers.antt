-- What is written is the replay's answer, its state as bytes. Assumes nothing.
use Rattle.std.proofs.Common.{◌≡◌, refl}
use Rattle.hgn.specs.Replay.{refusal}
use Rattle.replay.specs.Answers.{answer_of, with_state}
use Rattle.capi.specs.Words.{answer_words}
use Rattle.capi.proofs.Leaving.{replay_left}
use Rattle.capi.proofs.hgn_replay_2.Goals.{in-Ok, in-Err}
use Rattle.capi.proofs.hgn_replay_2.Goals as goal

pub returns : goal.returns
unfolding refusal
returns c =
    let words : c.match-replay_into.answer ≡ answer_words (answer_of (with_state c.replay_into.new.atoms c.replay_into.result))
    = elim c.match-replay_into.branch [
      | in-Ok w ↦ rw (w.in-Ok.is, w.answer-is, w.from.ensures, w.from-in-Ok.ensures, w.from-in-Ok-2.ensures) refl
      | in-Err w ↦
          rw (w.in-Err.is, w.answer-is, w.from-in-Err.ensures, w.number.ensures, w.from-in-Err-2.ensures, w.from-in-Err-3.ensures, w.atom_word.ensures) refl
    ] in
    replay_left c.replay_into.ensures.called words c.replay_into.ensures.state c.bytes_of.ensures
