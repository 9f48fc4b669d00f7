-- Demand 1 of document 00, demand 3, and Req 02 of document 02, read of the call `join`, and of the call `replay` on the sheet that it wrote: what
-- hgn's `specs/Demands.antt` says of answers and rooms, said of those that the calls give. `Joins` is the contract of the one, `Replays` of the
-- other, for whatever words are lent. A value of `Promised` stands in `proofs/CallDemands.antt`.
use Rattle.std.specs.Prelude.{ℕ, ◌+◌, ◌*◌, ◌≡◌, List, Result, length}
use Rattle.hgn.specs.Questions.{passed}
use Rattle.hgn.specs.Order.{order, row_count}
use Rattle.hgn.specs.Trace.{check_trace}
use Rattle.hgn.specs.JoinSheet.{write_join, sheet_in}
use Rattle.hgn.specs.Demands.{JoinAnswers, IsJoin, JoinNumbers, RuleOfSheet, OfWritten}
use Rattle.hgn.specs.Demands as Demands
use Rattle.sheet_rows.specs.Refusals.{answer_of, lent_of}
use Rattle.sheet_rows.specs.declared.refusal.Refusal.{Refusal}
use Rattle.replay.specs.Answers.{Answer, replayed_of}
use Rattle.replay.specs.Demands.{Replays}

-- The contract of the call.
abbrev pub Joins : List ℕ → List ℕ → List ℕ → List ℕ → Result (Unit {0}) Refusal → List ℕ → Type 0
Joins shop first second room r exit = lent_of r exit ≡ write_join shop first second room

-- What is proved of every call: demand 1, and each number by what the sheets mean; where it answers 0, that the sheet that it wrote is the
-- join, the join rule of that sheet through the replay's call, and demand 3 of the replays (a replay's call is one by `is_call` of its page).
pub record OfCall (shop first second room : List ℕ) (r : Result (Unit {0}) Refusal) (exit : List ℕ) : Type 0 where
  pub demand_1 : JoinAnswers shop first second room (lent_of r exit)
  pub numbers : (rows : ℕ)
      → rows + length (order second).start ≡ row_count first + row_count second + length (order first).goals * length (order second).goals
      → JoinNumbers shop first second room (lent_of r exit) (length (order first).goals + length (order second).goals) rows
  pub is_join : (answer_of r).number ≡ 0 → IsJoin shop first second room (lent_of r exit)
  pub join_rule : (answer_of r).number ≡ 0 → (trace plan : List ℕ) (a : Answer) (left : List ℕ) → Replays shop (sheet_in exit) trace plan a left
      → RuleOfSheet shop first second (sheet_in exit) trace plan (replayed_of a left)
  pub demand_3 : (answer_of r).number ≡ 0 → (trace : List ℕ) → check_trace shop first trace ≡ passed → OfWritten shop first second trace (sheet_in exit)

-- A call that answered 0, and the sheet that it left.
pub record Written (shop first second sheet : List ℕ) : Type 0 where
  pub room : List ℕ
  pub answer : Result (Unit {0}) Refusal
  pub exit : List ℕ
  pub called : Joins shop first second room answer exit
  pub zero : (answer_of answer).number ≡ 0
  pub leaves : sheet ≡ sheet_in exit

pub record Promised : Type 1 where
  pub of_call : (shop first second room : List ℕ) (r : Result (Unit {0}) Refusal) (exit : List ℕ) → Joins shop first second room r exit
      → OfCall shop first second room r exit
  -- Three orders: the sheet written of a and b, joined with c, and a joined with the sheet written of b and c. With equal rooms the two calls
  -- answer alike and leave their rooms alike; with any rooms, where both answer 0, they leave the same sheet.
  pub either_grouping : (shop a b c ab bc : List ℕ) → Written shop a b ab → Written shop b c bc
      → (room : List ℕ) (r s : Result (Unit {0}) Refusal) (one other : List ℕ) → Joins shop ab c room r one → Joins shop a bc room s other
      → (answer_of r ≡ answer_of s) × (one ≡ other)
  pub same_words : (shop a b c ab bc one other : List ℕ) → Written shop a b ab → Written shop b c bc
      → Written shop ab c one → Written shop a bc other → one ≡ other
  -- All that hgn's page of demands says.
  pub definitions : Demands.Promised
