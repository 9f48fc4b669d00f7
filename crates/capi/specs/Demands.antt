-- The demands of document 00, Req 01 and Req 02 of document 02, read of the six calls of C: what hgn's `specs/Demands.antt` says of answers and
-- rooms, said of the words and bytes that these calls leave. Each hypothesis is the contract of the call that its field names. "Lent memory"
-- of demand 1 is the room for the plan, for the trace and for the joined sheet: `answer`, and of the replay `atoms`, are the answer itself,
-- written whole by every call. A value of `Promised` stands in `proofs/CallDemands.antt`.
use Rattle.std.specs.Prelude.{ℕ, ◌+◌, ◌*◌, ◌≡◌, List, map, eqb, length, get_or}
use Rattle.hgn.specs.Questions.{Refusal, passed, answered}
use Rattle.hgn.specs.Shop.{check_shop}
use Rattle.hgn.specs.Order.{order, row_count, check_order}
use Rattle.hgn.specs.Trace.{check_trace}
use Rattle.hgn.specs.Replay.{Replayed, replay}
use Rattle.hgn.specs.Lent.{Lent}
use Rattle.hgn.specs.Search.{search}
use Rattle.hgn.specs.JoinSheet.{write_join, sheet_in}
use Rattle.hgn.specs.Demands.{ShopCheckAnswers, OrderCheckAnswers, TraceCheckAnswers, ReplayAnswers, SearchAnswers}
use Rattle.hgn.specs.Demands.{InputsPass, IsDefinition1, ReplayCall, NamesUnmet, TellsFirstUnmet, IsFirstOfShortest, SearchAndReplay}
use Rattle.hgn.specs.Demands.{JoinAnswers, IsJoin, JoinNumbers, RuleOfSheet, OfWritten}
use Rattle.hgn.specs.Demands as Demands
use Rattle.capi.specs.Words.{refusal_words, ReplayLeft, LentLeft}

-- What a caller reads in the words and bytes.
abbrev pub refusal_in : List ℕ → Refusal
refusal_in answer = record { number = get_or answer 0 0; place = get_or answer 1 0 }

abbrev pub replayed_in : List ℕ → List ℕ → List ℕ → Replayed
replayed_in plan answer atoms = record {
  answer = record { refusal = refusal_in answer; state = map (λ byte. eqb byte 1) atoms; count = get_or answer 2 0; cost = get_or answer 3 0; atom = get_or answer 4 0 };
  room = plan;
}

abbrev pub lent_in : List ℕ → List ℕ → Lent (List ℕ)
lent_in room answer = record { refusal = refusal_in answer; room = room }

-- What a caller of the replay may rely on. What is read is the definition's record; so on sheets that pass, with room enough, it is one of
-- the replays of which hgn's `Demand3OfReplays` speaks.
pub record OfReplay (shop sheet trace room plan answer atoms : List ℕ) : Type 0 where
  pub is : replayed_in plan answer atoms ≡ replay shop sheet trace room
  pub demand_1 : ReplayAnswers shop sheet trace room (replayed_in plan answer atoms)
  pub demand_2 : IsDefinition1 shop sheet trace room (replayed_in plan answer atoms)
  pub is_call : InputsPass shop sheet trace room
      → (k : ReplayCall shop sheet trace) × (k.result ≡ replayed_in plan answer atoms) × (k.room ≡ room)
  pub unmet_named : NamesUnmet shop (replayed_in plan answer atoms)
  pub unmet_first : TellsFirstUnmet shop sheet trace (replayed_in plan answer atoms)

-- What a caller of the search may rely on.
pub record OfSearch (shop sheet : List ℕ) (depth : ℕ) (room left answer : List ℕ) : Type 0 where
  pub is : lent_in left answer ≡ search shop sheet depth room
  pub demand_1 : SearchAnswers shop sheet depth room (lent_in left answer)
  pub demand_2 : IsFirstOfShortest shop sheet depth room (lent_in left answer)
  pub agrees_with_replay : SearchAndReplay shop sheet depth room (lent_in left answer)

-- The replay's call on the sheet that the join's call left in `left`, whatever it is handed: the join rule of that sheet.
abbrev pub RuleOfLeft : List ℕ → List ℕ → List ℕ → List ℕ → Type 0
RuleOfLeft shop first second left = (trace room plan answer atoms : List ℕ) → ReplayLeft (replay shop (sheet_in left) trace room) plan answer atoms
    → RuleOfSheet shop first second (sheet_in left) trace room (replayed_in plan answer atoms)

-- What a caller of the join may rely on.
pub record OfJoin (shop first second room left answer : List ℕ) : Type 0 where
  pub is : lent_in left answer ≡ write_join shop first second room
  pub demand_1 : JoinAnswers shop first second room (lent_in left answer)
  pub numbers : (rows : ℕ)
      → rows + length (order second).start ≡ row_count first + row_count second + length (order first).goals * length (order second).goals
      → JoinNumbers shop first second room (lent_in left answer) (length (order first).goals + length (order second).goals) rows
  pub is_join : get_or answer 0 0 ≡ 0 → IsJoin shop first second room (lent_in left answer)
  pub join_rule : get_or answer 0 0 ≡ 0 → RuleOfLeft shop first second left
  pub demand_3 : get_or answer 0 0 ≡ 0 → (trace : List ℕ) → check_trace shop first trace ≡ passed → OfWritten shop first second trace (sheet_in left)

-- The join's call answered 0 and left this sheet first in its room.
pub record JoinLeft (shop first second sheet : List ℕ) : Type 0 where
  pub room : List ℕ
  pub left : List ℕ
  pub answer : List ℕ
  pub called : LentLeft (write_join shop first second room) left answer
  pub zero : get_or answer 0 0 ≡ 0
  pub leaves : sheet ≡ sheet_in left

pub record Promised : Type 1 where
  pub hgn_check_shop : (shop answer : List ℕ) → answer ≡ refusal_words (answered (check_shop shop)) → ShopCheckAnswers shop (refusal_in answer)
  pub hgn_check_order : (shop sheet answer : List ℕ) → answer ≡ refusal_words (answered (check_order shop sheet))
      → OrderCheckAnswers shop sheet (refusal_in answer)
  pub hgn_check_trace : (shop sheet trace answer : List ℕ) → answer ≡ refusal_words (answered (check_trace shop sheet trace))
      → TraceCheckAnswers shop sheet trace (refusal_in answer)
  pub hgn_replay : (shop sheet trace room plan answer atoms : List ℕ) → ReplayLeft (replay shop sheet trace room) plan answer atoms
      → OfReplay shop sheet trace room plan answer atoms
  pub hgn_search : (shop sheet : List ℕ) (depth : ℕ) (room left answer : List ℕ) → LentLeft (search shop sheet depth room) left answer
      → OfSearch shop sheet depth room left answer
  pub hgn_join : (shop first second room left answer : List ℕ) → LentLeft (write_join shop first second room) left answer
      → OfJoin shop first second room left answer
  -- Three orders: the sheet written of a and b, joined with c, and a joined with the sheet written of b and c, leave the same in room and answer.
  pub either_grouping : (shop a b c ab bc : List ℕ) → JoinLeft shop a b ab → JoinLeft shop b c bc
      → (room one oneAnswer other otherAnswer : List ℕ)
      → LentLeft (write_join shop ab c room) one oneAnswer → LentLeft (write_join shop a bc room) other otherAnswer
      → (one ≡ other) × (oneAnswer ≡ otherAnswer)
  -- With any rooms, where both of these are written too, they are the same sheet.
  pub same_words : (shop a b c ab bc one other : List ℕ) → JoinLeft shop a b ab → JoinLeft shop b c bc
      → JoinLeft shop ab c one → JoinLeft shop a bc other → one ≡ other
  -- All that hgn's page of demands says; demand 3 of replays is about the calls of `is_call`.
  pub definitions : Demands.Promised
