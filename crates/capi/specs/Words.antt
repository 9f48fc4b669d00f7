-- The answers of the six calls, as the words and bytes that C reads them in. Document 01, "Questions"; document 02, Reqs 01 and 02.
use Rattle.std.specs.Prelude.{ℕ, ◌≡◌, Bool, true, false, List, [], ◌∷◌, ◌++◌, map}
use Rattle.hgn.specs.Questions.{Refusal}
use Rattle.hgn.specs.State.{State}
use Rattle.hgn.specs.Replay.{Answer, Replayed}
use Rattle.hgn.specs.Lent.{Lent}

-- "Sheet checks answer number and place". The other calls have them in their first two words.
abbrev pub refusal_words : Refusal → List ℕ
refusal_words r = r.number ∷ r.place ∷ []

-- "A replay's answer holds number, place, last state, plan count, cost" and "gains an atom field": all but the state, which has its own room.
abbrev pub answer_words : Answer → List ℕ
answer_words a = refusal_words a.refusal ++ (a.count ∷ a.cost ∷ a.atom ∷ [])

-- 1 for an atom that is in the state, 0 for one that is not.
abbrev pub atom_byte : Bool → ℕ
atom_byte true = 1
atom_byte false = 0

-- A state, atom by atom.
abbrev pub state_bytes : State → List ℕ
state_bytes s = map atom_byte s

-- What the replay's call leaves in the room for the plan, in the answer and in the atoms.
pub record ReplayLeft (c : Replayed) (plan answer atoms : List ℕ) : Type 0 where
  pub leaves : plan ≡ c.room
  pub answers : answer ≡ answer_words c.answer
  pub state : atoms ≡ state_bytes c.answer.state

-- What the calls of the search and of the join leave in the room, for a trace or for a sheet, and in the answer.
pub record LentLeft (c : Lent (List ℕ)) (room answer : List ℕ) : Type 0 where
  pub leaves : room ≡ c.room
  pub answers : answer ≡ refusal_words c.refusal
