-- The replay's whole answer and what the lent room holds at exit, for every four lists of words. Document 01, "Questions";
-- document 02, Req 01.
use Rattle.std.specs.Prelude.{ℕ, List, [], ◌∷◌, ◌++◌, leb, length, drop}
use Rattle.hgn.specs.Questions.{Refusal, no_refusal, Failure, placed, Question, ◌asks◌, Verdict, passed, refused, first_no}
use Rattle.hgn.specs.Meaning.{Domain}
use Rattle.hgn.specs.State.{State, no_atom, empty_state}
use Rattle.hgn.specs.Network.{most_waiting}
use Rattle.hgn.specs.Run.{Rules, strict, problem_of, Outcome, stopped, accepted, run, run_questions, plan_of, cost_of}
use Rattle.hgn.specs.Shop.{domain, shop_questions}
use Rattle.hgn.specs.Order.{order, order_questions}
use Rattle.hgn.specs.Trace.{step_count, steps_of, trace_questions}

-- The rules of a replay and of a search: 000's, with at most 64 waiting.
abbrev pub rules_of : List ℕ → Rules
rules_of shop = strict most_waiting (domain shop)

pub record Answer : Type 0 where
  pub refusal : Refusal  -- accepted, number 0 and place L
  pub state : State  -- the last state
  pub count : ℕ  -- the plan's length
  pub cost : ℕ
  pub atom : ℕ  -- the first atom that is not as wanted, where 29 or 30 is told; else `no_atom`

-- The answer, and the room at exit.
pub record Replayed : Type 0 where
  pub answer : Answer
  pub room : List ℕ

-- "Refused: empty state, both counts 0, the room unchanged."
unfoldable pub refusal : List ℕ → Failure → Replayed
refusal room f = record {
  answer = record { refusal = f.refusal; state = empty_state; count = 0; cost = 0; atom = f.atom };
  room = room;
}

-- "Accepted: number 0, place L, the plan in the first words of the lent room, later words unchanged."
unfoldable pub acceptance : Domain → ℕ → List ℕ → List ℕ → State → Replayed
acceptance d steps room plan s = record {
  answer = record { refusal = placed steps no_refusal; state = s; count = length plan; cost = cost_of d plan; atom = no_atom };
  room = plan ++ drop (length plan) room;
}

unfoldable pub reported : Domain → ℕ → List ℕ → Outcome → Replayed
reported d steps room (stopped f) = refusal room f
reported d steps room (accepted deeds s) = acceptance d steps room (plan_of deeds) s

-- The sheets' questions, then: "Room for L words of plan? 24."
unfoldable pub input_questions : List ℕ → List ℕ → List ℕ → List ℕ → List Question
input_questions shop sheet trace room =
    shop_questions shop ++ order_questions shop sheet ++ trace_questions trace
    ++ (24 asks leb (step_count trace) (length room) ∷ [])

unfoldable pub check_replay : List ℕ → List ℕ → List ℕ → List ℕ → Verdict
check_replay shop sheet trace room = first_no (input_questions shop sheet trace room)

unfoldable pub replay : List ℕ → List ℕ → List ℕ → List ℕ → Replayed
replay shop sheet trace room = elim (check_replay shop sheet trace room) [
  | refused f ↦ refusal room f
  | passed ↦ reported (domain shop) (step_count trace) room (run (rules_of shop) 0 (problem_of (order sheet)) (steps_of trace))
]

-- All questions of a replay, one list.
unfoldable pub replay_questions : List ℕ → List ℕ → List ℕ → List ℕ → List Question
replay_questions shop sheet trace room =
    input_questions shop sheet trace room ++ run_questions (rules_of shop) 0 (problem_of (order sheet)) (steps_of trace)
