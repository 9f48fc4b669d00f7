-- The words that the code writes are those of the definition, once its answer is. Assumes nothing.
use Prim.Native.Nat.{ℕ}
use mathlib.Core.Path.{◌≡◌, ap, ◌∙◌}
use mathlib.Core.List.{List}
use Rattle.hgn.specs.State.{State}
use Rattle.hgn.specs.Replay.{Replayed}
use Rattle.hgn.specs.Lent.{Lent}
use Rattle.capi.specs.Words.{refusal_words, answer_words, state_bytes, ReplayLeft, LentLeft}

pub replay_left : {r c : Replayed} {words atoms : List ℕ} {s : State} → r ≡ c → words ≡ answer_words r.answer → s ≡ c.answer.state → atoms ≡ state_bytes s
    → ReplayLeft c r.room words atoms
replay_left is words state atoms = record {
  leaves = ap (λ (e : Replayed). e.room) is;
  answers = words ∙ ap (λ (e : Replayed). answer_words e.answer) is;
  state = atoms ∙ ap state_bytes state;
}

pub lent_left : {r c : Lent (List ℕ)} {words : List ℕ} → r ≡ c → words ≡ refusal_words r.refusal → LentLeft c r.room words
lent_left is words = record {
  leaves = ap (λ (e : Lent (List ℕ)). e.room) is;
  answers = words ∙ ap (λ (e : Lent (List ℕ)). refusal_words e.refusal) is;
}
