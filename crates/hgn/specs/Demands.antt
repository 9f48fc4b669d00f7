-- What is proved of the calls and of the definitions: the three demands of document 00, Req 01 to Req 04 of document 02, each as a named type with its
-- words quoted above it. Demands 1 and 2, 3 of replays, and Req 01 and Req 02 speak of whatever answer and room at exit equal the definition's, and the contract
-- of each call says that its answer and room do; demand 3 itself speaks of orders and states, Req 03 of waiting goals and of what runs do, Req 04 of
-- lists of literals. What the definitions say, read a second time, stands in `Readings`. Values stand in `proofs/`, gathered in `proofs/Demands.antt`.
use Rattle.std.specs.Prelude.{ℕ, suc, ◌+◌, ◌*◌, ◌≤◌, ◌<◌, ◌≡◌, true, ◌↔◌, ◌⊎◌, ◌≢◌, eqb, length, take, drop, replicate}
use mathlib.Core.List.{List, [], ◌∷◌, ◌++◌, map, flatten, Memᴰ}
use Rattle.std.proofs.Math.Option.{none, some}
use Rattle.hgn.specs.Lists.{At, filter}
use Rattle.hgn.specs.Questions.{Refusal, Failure, without_atom, Question, passed, refused, answered, FirstNo, AllYes}
use Rattle.hgn.specs.Meaning.{Literal, Formula, Node, Method, Domain, Order, network_of}
use Rattle.hgn.specs.Rows.{most_rows}
use Rattle.hgn.specs.State.{State, most_atoms, no_atom, empty_state, Entails, EntailsAll, Satisfies, unmet, unmet_goal, opposite, relevant, Relevant}
use Rattle.hgn.specs.Relevance.{relevance, blocked, helping, neither}
use Rattle.hgn.specs.Network as Network
use Rattle.hgn.specs.Network.{most_waiting, Source, used, step_number, method_number, Waiting, goal_at, goals_above}
use Rattle.hgn.specs.Run.{Step, Move, release, act, use_method, move_of, action_at, method_at, Problem, problem_from, problem_of, start_of, Rules, cost_of}
use Rattle.hgn.specs.Run.{Leaving, Deed, releases, uses, taken, stepped, stopped, accepted, run}
use Rattle.hgn.specs.Join.{Accepted, Cut, join}
use Rattle.hgn.specs.Shop.{atom_count, domain, check_shop, shop_questions}
use Rattle.hgn.specs.Order.{order, row_count, check_order, order_questions}
use Rattle.hgn.specs.Trace.{size_words, step_count, steps_of, trace_questions, check_trace}
use Rattle.hgn.specs.Replay.{rules_of, Answer, Replayed, replay, replay_questions}
use Rattle.hgn.specs.Lent.{Lent}
use Rattle.hgn.specs.Search.{Earlier, most_depth, Searched, search, search_questions}
use Rattle.hgn.specs.JoinSheet.{join_questions, write_join, sheet_in}
use Rattle.hgn.specs.Listing.{Line, lines_of, lines_in, later_source, later_line}
use Rattle.hgn.specs.Written.{order_words}
use Rattle.hgn.specs.Definition1.{Derivation}
use Rattle.hgn.specs.Readings.{Reached}

-- Demand 1. "Where a sheet, trace or depth is malformed in any way or lent room is too short, the public call gives the refusal number of
-- document 01 for the first question it fails, writes nothing into lent memory, and stops."

-- A call that asks these questions and answers `a` refuses by the first no, with its number, its place and its atom, and answers 0 where
-- there is none. No question has the number 0. `Untouched` is what a refusal leaves.
pub record AnswersFirst (questions : List Question) (a : Failure) (Untouched : Type 0) : Type 0 where
  pub refused_iff : (f : Failure) → FirstNo questions f ↔ ((f.refusal.number ≢ 0) × (a ≡ f))
  pub passed_iff : AllYes questions ↔ (a.refusal.number ≡ 0)
  pub untouched : a.refusal.number ≢ 0 → Untouched

-- Refused: the empty state, no plan, no cost, the room unchanged.
pub record Refuses (room : List ℕ) (c : Replayed) : Type 0 where
  pub state : c.answer.state ≡ empty_state
  pub count : c.answer.count ≡ 0
  pub cost : c.answer.cost ≡ 0
  pub unchanged : c.room ≡ room

-- What a check of sheets answers: number and place, for its questions name no atom. No memory is lent to a check, so there is none that a
-- refusal could leave touched. "0 and 0 when passed."
pub record CheckAnswers (questions : List Question) (a : Refusal) : Type 0 where
  pub first : AnswersFirst questions (without_atom a) (Unit {0})
  pub passed_place : a.number ≡ 0 → a.place ≡ 0

abbrev pub ShopCheckAnswers : List ℕ → Refusal → Type 0
ShopCheckAnswers shop a = CheckAnswers (shop_questions shop) a

abbrev pub OrderCheckAnswers : List ℕ → List ℕ → Refusal → Type 0
OrderCheckAnswers shop sheet a = CheckAnswers (shop_questions shop ++ order_questions shop sheet) a

abbrev pub TraceCheckAnswers : List ℕ → List ℕ → List ℕ → Refusal → Type 0
TraceCheckAnswers shop sheet trace a = CheckAnswers (shop_questions shop ++ order_questions shop sheet ++ trace_questions trace) a

-- What a replay's answer tells: its refusal and its atom.
abbrev pub failure_of : Answer → Failure
failure_of a = record { refusal = a.refusal; atom = a.atom }

abbrev pub ReplayAnswers : List ℕ → List ℕ → List ℕ → List ℕ → Replayed → Type 0
ReplayAnswers shop sheet trace room c = AnswersFirst (replay_questions shop sheet trace room) (failure_of c.answer) (Refuses room c)

-- A call that is lent room, and tells number and place, refuses by the first no of these questions; then the room is as it was.
abbrev pub LentAnswers : {Room : Type 0} → List Question → Room → Lent Room → Type 0
LentAnswers questions room c = AnswersFirst questions (without_atom c.refusal) (c.room ≡ room)

-- The search's questions, 43 among them, name no atom.
abbrev pub SearchAnswers : List ℕ → List ℕ → ℕ → List ℕ → Searched → Type 0
SearchAnswers shop sheet depth room c = LentAnswers (search_questions shop sheet depth room) room c

-- A call that writes sheets refuses by the first no, nothing written, and answers "0 and 0 when written".
pub record WriteAnswers {Room : Type 0} (questions : List Question) (room : Room) (c : Lent Room) : Type 0 where
  pub first : LentAnswers questions room c
  pub written_place : c.refusal.number ≡ 0 → c.refusal.place ≡ 0

-- The join's questions are those of three sheets, then 81 to 83; none names an atom.
abbrev pub JoinAnswers : List ℕ → List ℕ → List ℕ → List ℕ → Lent (List ℕ) → Type 0
JoinAnswers shop first second room c = WriteAnswers (join_questions shop first second room) room c

pub record Demand1 : Type 0 where
  pub of_shop_check : (shop : List ℕ) (a : Refusal) → a ≡ answered (check_shop shop) → ShopCheckAnswers shop a
  pub of_order_check : (shop sheet : List ℕ) (a : Refusal) → a ≡ answered (check_order shop sheet) → OrderCheckAnswers shop sheet a
  pub of_trace_check : (shop sheet trace : List ℕ) (a : Refusal) → a ≡ answered (check_trace shop sheet trace)
      → TraceCheckAnswers shop sheet trace a
  pub of_replay : (shop sheet trace room : List ℕ) (c : Replayed) → c ≡ replay shop sheet trace room
      → ReplayAnswers shop sheet trace room c
  pub of_search : (shop sheet : List ℕ) (depth : ℕ) (room : List ℕ) (c : Searched) → c ≡ search shop sheet depth room
      → SearchAnswers shop sheet depth room c
  pub of_join : (shop first second room : List ℕ) (c : Lent (List ℕ)) → c ≡ write_join shop first second room
      → JoinAnswers shop first second room c

-- Demand 2. "With sheets that pass and room for as many words of plan as the trace has steps, a trace is accepted if and only if it is a
-- derivation under Definition 1 of source document 000, with at most 64 goals waiting at each moment; plan, cost and last state are that
-- derivation's."

-- The trace is a derivation of this plan, which leaves this state.
abbrev pub Derives : List ℕ → List ℕ → List ℕ → List ℕ → State → Type 0
Derives shop sheet trace plan last = Derivation (rules_of shop) 0 (problem_of (order sheet)) (steps_of trace) plan last

-- The sheets pass and the room holds as many words as the trace has steps.
abbrev pub InputsPass : List ℕ → List ℕ → List ℕ → List ℕ → Type 0
InputsPass shop sheet trace room = (check_trace shop sheet trace ≡ passed) × (step_count trace ≤ length room)

-- Accepted with this plan and this last state: the plan in the first words of the room, later words unchanged.
pub record Accepts (shop trace room plan : List ℕ) (last : State) (c : Replayed) : Type 0 where
  pub number : c.answer.refusal.number ≡ 0
  pub place : c.answer.refusal.place ≡ step_count trace
  pub state : c.answer.state ≡ last
  pub count : c.answer.count ≡ length plan
  pub cost : c.answer.cost ≡ cost_of (domain shop) plan
  pub plan_words : take (length plan) c.room ≡ plan
  pub later_words : drop (length plan) c.room ≡ drop (length plan) room
  pub room_length : length c.room ≡ length room

pub record IsDefinition1 (shop sheet trace room : List ℕ) (c : Replayed) : Type 0 where
  pub accepts_iff : (c.answer.refusal.number ≡ 0)
      ↔ (InputsPass shop sheet trace room × ((plan : List ℕ) × (last : State) × Derives shop sheet trace plan last))
  pub results : (plan : List ℕ) (last : State) → InputsPass shop sheet trace room → Derives shop sheet trace plan last
      → Accepts shop trace room plan last c

abbrev pub Demand2 : Type 0
Demand2 = (shop sheet trace room : List ℕ) (c : Replayed) → c ≡ replay shop sheet trace room → IsDefinition1 shop sheet trace room c

-- Demand 2, of the search. "The search gives the first of the shortest accepted traces, or 43 if none has at most D steps." Document 01:
-- "The search prefers fewer steps; among equally long traces, the first differing step decides: lower place, then lower move."

-- The steps are an accepted trace: a derivation of some plan.
abbrev pub Solves : List ℕ → List ℕ → List Step → Type 0
Solves shop sheet xs = (plan : List ℕ) × (last : State) × Derivation (rules_of shop) 0 (problem_of (order sheet)) xs plan last

-- The first of the shortest: accepted, none is shorter, and none of its length is earlier.
pub record FirstOfShortest (shop sheet : List ℕ) (xs : List Step) : Type 0 where
  pub solves : Solves shop sheet xs
  pub shortest : (ys : List Step) → Solves shop sheet ys → length xs ≤ length ys
  pub earliest : (ys : List Step) → Solves shop sheet ys → length ys ≡ length xs → ¬ Earlier ys xs

-- Sheets, depth and room pass.
abbrev pub SearchPasses : List ℕ → List ℕ → ℕ → List ℕ → Type 0
SearchPasses shop sheet depth room =
    (check_order shop sheet ≡ passed) × (depth ≤ most_depth) × (size_words + 2 * depth ≤ length room)

-- Found: 0 and L; the first 1 + 2L words of the room are a trace that passes and has these steps, the rest is unchanged.
pub record Finds (shop sheet : List ℕ) (room : List ℕ) (xs : List Step) (c : Searched) : Type 0 where
  pub number : c.refusal.number ≡ 0
  pub place : c.refusal.place ≡ length xs
  pub trace_passes : check_trace shop sheet (take (size_words + 2 * length xs) c.room) ≡ passed
  pub trace_steps : steps_of (take (size_words + 2 * length xs) c.room) ≡ xs
  pub later_words : drop (size_words + 2 * length xs) c.room ≡ drop (size_words + 2 * length xs) room
  pub room_length : length c.room ≡ length room

pub record IsFirstOfShortest (shop sheet : List ℕ) (depth : ℕ) (room : List ℕ) (c : Searched) : Type 0 where
  -- It finds a trace exactly when sheets, depth and room pass and a trace of at most D steps is accepted.
  pub finds_iff : (c.refusal.number ≡ 0)
      ↔ (SearchPasses shop sheet depth room × ((xs : List Step) × Solves shop sheet xs × (length xs ≤ depth)))
  -- What it finds is the first of the shortest traces, of which there is one only.
  pub results : c.refusal.number ≡ 0
      → (xs : List Step) × FirstOfShortest shop sheet xs × (length xs ≤ depth) × Finds shop sheet room xs c
  pub one_only : (xs ys : List Step) → FirstOfShortest shop sheet xs → FirstOfShortest shop sheet ys → xs ≡ ys
  -- 43 exactly when they pass and none of at most D steps is accepted.
  pub none_iff : (c.refusal.number ≡ 43)
      ↔ (SearchPasses shop sheet depth room × ((xs : List Step) → length xs ≤ depth → ¬ Solves shop sheet xs))

abbrev pub Demand2OfSearch : Type 0
Demand2OfSearch = (shop sheet : List ℕ) (depth : ℕ) (room : List ℕ) (c : Searched) → c ≡ search shop sheet depth room
    → IsFirstOfShortest shop sheet depth room c

-- The two calls together: a replay with room for L words of plan accepts the 1 + 2L words that a search leaves; and after 43 no replay
-- accepts a trace of at most D steps.
pub record SearchAndReplay (shop sheet : List ℕ) (depth : ℕ) (room : List ℕ) (c : Searched) : Type 0 where
  pub found_is_accepted : c.refusal.number ≡ 0 → (plan : List ℕ) (e : Replayed)
      → e ≡ replay shop sheet (take (size_words + 2 * c.refusal.place) c.room) plan → c.refusal.place ≤ length plan
      → e.answer.refusal.number ≡ 0
  pub none_is_accepted : c.refusal.number ≡ 43 → (trace plan : List ℕ) (e : Replayed) → e ≡ replay shop sheet trace plan
      → step_count trace ≤ depth → e.answer.refusal.number ≢ 0

abbrev pub SearchAgreesWithReplay : Type 0
SearchAgreesWithReplay = (shop sheet : List ℕ) (depth : ℕ) (room : List ℕ) (c : Searched) → c ≡ search shop sheet depth room
    → SearchAndReplay shop sheet depth room c

-- Demand 3. "For any two orders that pass with one shop sheet, and for every trace of at most 4,096 steps, whatever its moves and
-- places: it is accepted on their join (every goal of the first before every goal of the second) exactly when there is a cut such
-- that its front is accepted on the first order, with the second order's goals counted among the 64 throughout, and its back is
-- accepted on the second from the state that the front leaves. No trace has two such cuts. With such a cut, the plan on the join
-- is the front's followed by the back's, the cost is the sum of the two, and the last state is the back's."
-- It is stated of every list of steps, whatever its length, and under any rules with the limit 64, so of `rules_of shop`. That "accepted" under
-- `rules_of shop` is a derivation under Definition 1 is `AcceptedIsDerivation` of `Readings`.

-- The steps are accepted on the join of the two orders.
abbrev pub OnJoin : Rules → Order → Order → List Step → List ℕ → State → Type 0
OnJoin r a b xs plan last = Accepted r (problem_of (join a b)) xs plan last

-- What each waiting goal carries, in the order of places.
abbrev pub sources : List Waiting → List Source
sources w = map (λ q. q.source) w

-- What the waiting goals carry on `o`, the join of `a` and `b`, with a cut at `c` and this state between (document 02, Req 03): in the front
-- what those of the front carry, then the order for each goal of the second; in the back what the back's own carry, with the cut added to their steps.
pub record Carried (r : Rules) (o a b : Order) (xs : List Step) (c : ℕ) (between : State) : Type 0 where
  pub in_front : (i : ℕ) → i ≤ c → (Q : Problem) → Reached r (problem_of a) (take i xs) Q
      → (P : Problem) × Reached r (problem_of o) (take i xs) P
      × (sources P.waiting ≡ sources Q.waiting ++ replicate (length b.goals) Network.order)
  pub in_back : (i : ℕ) (Q : Problem) → Reached r (problem_from between b) (take i (drop c xs)) Q
      → (P : Problem) × Reached r (problem_of o) (take (c + i) xs) P × (sources P.waiting ≡ map (later_source c) (sources Q.waiting))

-- The listing of the parts of a cut at `c`: the front's lines, then the back's, with the cut added to their steps.
abbrev pub one_behind_other : ℕ → List Line → List Line → List Line
one_behind_other c front back = front ++ map (later_line c) back

pub record JoinRule (r : Rules) (a b : Order) (xs : List Step) : Type 0 where
  pub accepted_iff : ((plan : List ℕ) × (last : State) × OnJoin r a b xs plan last) ↔ ((c : ℕ) × Cut r a b xs c)
  pub one_cut : (c e : ℕ) → Cut r a b xs c → Cut r a b xs e → c ≡ e
  pub results : (c : ℕ) (cut : Cut r a b xs c) (plan : List ℕ) (last : State)
      → OnJoin r a b xs plan last ↔ ((plan ≡ cut.front_plan ++ cut.back_plan) × (last ≡ cut.last))
  pub cost : (c : ℕ) (cut : Cut r a b xs c) (plan : List ℕ) (last : State) → OnJoin r a b xs plan last
      → cost_of r.domain plan ≡ cost_of r.domain cut.front_plan + cost_of r.domain cut.back_plan
  -- Document 02, Req 03: "For a joined order, step numbers in the back of a trace count from the whole trace's first step".
  pub lines : (c : ℕ) (cut : Cut r a b xs c) (plan : List ℕ) (last : State) (on : OnJoin r a b xs plan last)
      → lines_of 0 on.deeds ≡ one_behind_other c (lines_of 0 cut.front.deeds) (lines_of 0 cut.back.deeds)
  pub carried : (c : ℕ) (cut : Cut r a b xs c) → Carried r (join a b) a b xs c cut.between
  -- "So where the two orders have more than 64 goals together, no trace is accepted on the join and no cut will do."
  pub too_many : most_waiting < length a.goals + length b.goals
      → ((plan : List ℕ) (last : State) → ¬ OnJoin r a b xs plan last) × ((c : ℕ) → ¬ Cut r a b xs c)

abbrev pub Demand3 : Type 1
Demand3 = (shop first second : List ℕ) → check_order shop first ≡ passed → check_order shop second ≡ passed
    → (r : Rules) → r.limit ≡ most_waiting → (xs : List Step) → JoinRule r (order first) (order second) xs

-- Demand 3 again, of three replays: on the join with the whole trace, on the first order with the front, on the second with the back. A
-- replay takes sheets, so the join is a sheet that means it, and the second order from a state is a sheet with its goals and that start.
-- Where such a sheet would be too long there is none (`CallsAreThere` says where there surely is one): demand 3 as stated above, of orders
-- and states, asks for no sheet, and `accepted_cut` for none of the back.

-- A replay of sheets that pass, with room enough.
pub record ReplayCall (shop sheet trace : List ℕ) : Type 0 where
  pub room : List ℕ
  pub result : Replayed
  pub inputs : InputsPass shop sheet trace room
  pub called : result ≡ replay shop sheet trace room

-- The call accepts.
abbrev pub Accepting : {shop sheet trace : List ℕ} → ReplayCall shop sheet trace → Type 0
Accepting k = k.result.answer.refusal.number ≡ 0

-- The plan of a call that accepts: the first words of the room at exit.
abbrev pub plan_in : {shop sheet trace : List ℕ} → ReplayCall shop sheet trace → List ℕ
plan_in k = take k.result.answer.count k.result.room

-- The replay on the join, with the whole trace.
pub record Whole (shop first second trace : List ℕ) : Type 0 where
  pub joined : List ℕ
  pub means : order joined ≡ join (order first) (order second)
  pub call : ReplayCall shop joined trace

-- The replays of the two parts at cut `c`: the front is the first `c` steps, the back the others. The back's order has the second's goals,
-- and starts from the state that an accepted front leaves.
pub record Parts (shop first second trace : List ℕ) (c : ℕ) : Type 0 where
  pub inside : c ≤ step_count trace
  pub front_trace : List ℕ
  pub front_steps : steps_of front_trace ≡ take c (steps_of trace)
  pub front : ReplayCall shop first front_trace
  pub back_order : List ℕ
  pub back_goals : (order back_order).goals ≡ (order second).goals
  pub back_start : Accepting front → start_of (order back_order) ≡ front.result.answer.state
  pub back_trace : List ℕ
  pub back_steps : steps_of back_trace ≡ drop c (steps_of trace)
  pub back : ReplayCall shop back_order back_trace

-- In the run of these steps from a problem, those waiting and `others` more are within the limit at its start and after every step of it.
abbrev pub Counted : ℕ → Rules → Problem → List Step → Type 0
Counted others r P xs = (i : ℕ) (Q : Problem) → Reached r P (take i xs) Q → length Q.waiting + others ≤ r.limit

-- Such a cut: its front is accepted, with the second order's goals counted among the 64 throughout, and its back is accepted. "at most
-- 64 - H wait in the front's run on the first, at its start and after every step of it".
pub record BothAccept {shop first second trace : List ℕ} {c : ℕ} (p : Parts shop first second trace c) : Type 0 where
  pub front : Accepting p.front
  pub counted : Counted (length (order second).goals) (rules_of shop) (problem_of (order first)) (steps_of p.front_trace)
  pub back : Accepting p.back

-- What the replay on the join then answers and leaves in its room.
pub record OneAfterOther {shop first second trace : List ℕ} {c : ℕ}
    (k : Whole shop first second trace) (p : Parts shop first second trace c) : Type 0 where
  pub number : k.call.result.answer.refusal.number ≡ 0
  pub place : k.call.result.answer.refusal.place ≡ step_count trace
  pub plan : plan_in k.call ≡ plan_in p.front ++ plan_in p.back
  pub count : k.call.result.answer.count ≡ p.front.result.answer.count + p.back.result.answer.count
  pub cost : k.call.result.answer.cost ≡ p.front.result.answer.cost + p.back.result.answer.cost
  pub state : k.call.result.answer.state ≡ p.back.result.answer.state
  pub lines : lines_in shop k.joined trace
      ≡ one_behind_other c (lines_in shop first p.front_trace) (lines_in shop p.back_order p.back_trace)
  pub carried : Carried (rules_of shop) (order k.joined) (order first) (order second) (steps_of trace) c p.front.result.answer.state

-- The cut of these sheets. It asks for no replay of the parts.
abbrev pub CutAt : List ℕ → List ℕ → List ℕ → List ℕ → ℕ → Type 0
CutAt shop first second trace c = Cut (rules_of shop) (order first) (order second) (steps_of trace) c

pub record JoinOfReplays (shop first second trace : List ℕ) : Type 0 where
  -- Where replays of the parts are made at every cut.
  pub accepted_iff : (k : Whole shop first second trace) (parts : (c : ℕ) → c ≤ step_count trace → Parts shop first second trace c)
      → Accepting k.call ↔ ((c : ℕ) × (h : c ≤ step_count trace) × BothAccept (parts c h))
  pub one_cut : (c e : ℕ) (p : Parts shop first second trace c) (q : Parts shop first second trace e)
      → BothAccept p → BothAccept q → c ≡ e
  pub results : (k : Whole shop first second trace) (c : ℕ) (p : Parts shop first second trace c) → BothAccept p → OneAfterOther k p
  -- Both parts are accepted exactly at a cut of orders and states; so acceptance on the join can be told by the cut, with no replay of the parts.
  pub cut_iff : (c : ℕ) (p : Parts shop first second trace c) → BothAccept p ↔ CutAt shop first second trace c
  pub accepted_cut : (k : Whole shop first second trace) → Accepting k.call ↔ ((c : ℕ) × CutAt shop first second trace c)
  -- "So where the two orders have more than 64 goals together, no trace is accepted on the join and no cut will do."
  pub too_many : most_waiting < length (order first).goals + length (order second).goals
      → ((joined room : List ℕ) (e : Replayed) → order joined ≡ join (order first) (order second)
      → e ≡ replay shop joined trace room → e.answer.refusal.number ≢ 0)
      × ((c : ℕ) (p : Parts shop first second trace c) → ¬ BothAccept p)

-- These replays can be made: the sheets and traces that they take are there, where the limits on rows and goals surely leave room. The
-- join has no more than the first's rows, the second's, and one for each goal of the first in each goal of the second; the order of
-- the back no more than the second's rows and one for each atom. Fewer may be enough.
pub record CallsAreThere (shop first second trace : List ℕ) : Type 0 where
  pub whole : length (order first).goals + length (order second).goals ≤ most_waiting
      → row_count first + row_count second + length (order second).goals * length (order first).goals ≤ most_rows
      → Whole shop first second trace
  pub parts : most_atoms + row_count second ≤ most_rows → (c : ℕ) → c ≤ step_count trace → Parts shop first second trace c

-- Demand 3 of the replays themselves, for any two orders and any trace that pass with the shop sheet.
pub record Demand3OfReplays : Type 0 where
  pub join_of_replays : (shop first second trace : List ℕ)
      → check_trace shop first trace ≡ passed → check_trace shop second trace ≡ passed → JoinOfReplays shop first second trace
  pub calls_are_there : (shop first second trace : List ℕ)
      → check_trace shop first trace ≡ passed → check_trace shop second trace ≡ passed → CallsAreThere shop first second trace

-- Document 02, Req 01. "The test of needs and of goals now tells the first atom that isn't as wanted, where it said only yes or no. For a
-- goal with alternatives it is the first unmet row of the first alternative. The replay's answer gains an atom field, 256 for "none"; only
-- 29 and 30 fill it."

-- An atom is named exactly where 29 or 30 is told, and it is one of the shop's.
pub record NamesUnmet (shop : List ℕ) (c : Replayed) : Type 0 where
  pub named_iff : (c.answer.atom ≢ no_atom) ↔ ((c.answer.refusal.number ≡ 29) ⊎ (c.answer.refusal.number ≡ 30))
  pub below : c.answer.atom ≢ no_atom → c.answer.atom < atom_count shop

abbrev pub UnmetIsNamed : Type 0
UnmetIsNamed = (shop sheet trace room : List ℕ) (c : Replayed) → c ≡ replay shop sheet trace room → NamesUnmet shop c

-- Some literals that all hold, then one of this atom that does not, then others.
pub record FirstUnmet (s : State) (ls : List Literal) (atom : ℕ) : Type 0 where
  pub before : List Literal
  pub literal : Literal
  pub behind : List Literal
  pub listed : ls ≡ before ++ (literal ∷ behind)
  pub held : EntailsAll s before
  pub not_held : ¬ Entails s literal
  pub atom_is : literal.atom ≡ atom

-- The move is an action or a method, and its needs fall apart in that way.
pub data NeedsUnmet (d : Domain) (s : State) (atom : ℕ) : Move → Type 0 where
  of_action : (k : ℕ) → FirstUnmet s (action_at d k).needs atom → NeedsUnmet d s atom (act k)
  of_method : (m : ℕ) → FirstUnmet s (method_at d m).needs atom → NeedsUnmet d s atom (use_method m)

-- No alternative of the goal holds, and the first falls apart in that way.
pub record GoalUnmet (s : State) (g : Formula) (atom : ℕ) : Type 0 where
  pub none_holds : ¬ Satisfies s g
  pub alternative : List Literal
  pub others : List (List Literal)
  pub alternatives : g ≡ alternative ∷ others
  pub unmet : FirstUnmet s alternative atom

-- What the two tests tell by themselves, of every state, also where no replay asks them: none where all literals hold, where the goal holds by
-- whichever alternative, and of a goal without alternatives; else the atom at which the literals, or the first alternative, fall apart.
pub record TestsTellFirst : Type 0 where
  pub none_is_256 : no_atom ≡ 256
  pub needs_hold : (s : State) (ls : List Literal) → EntailsAll s ls → unmet s ls ≡ no_atom
  pub needs_fail : (s : State) (ls : List Literal) (atom : ℕ) → FirstUnmet s ls atom → unmet s ls ≡ atom
  pub goal_holds : (s : State) (g : Formula) → Satisfies s g → unmet_goal s g ≡ no_atom
  pub goal_fails : (s : State) (g : Formula) (atom : ℕ) → GoalUnmet s g atom → unmet_goal s g ≡ atom
  pub no_alternatives : (s : State) → unmet_goal s [] ≡ no_atom

-- Exactly the first `i` steps of the trace lead to this problem, and this is step `i`.
pub record StepReached (shop sheet trace : List ℕ) (i : ℕ) (P : Problem) (x : Step) : Type 0 where
  pub reached : Reached (rules_of shop) (problem_of (order sheet)) (take i (steps_of trace)) P
  pub is_step : At (steps_of trace) i x

pub record TellsFirstUnmet (shop sheet trace : List ℕ) (c : Replayed) : Type 0 where
  pub by_30 : c.answer.refusal.number ≡ 30
      → (P : Problem) × (x : Step) × StepReached shop sheet trace c.answer.refusal.place P x
      × NeedsUnmet (domain shop) P.state c.answer.atom (move_of (domain shop) x.move)
  pub by_29 : c.answer.refusal.number ≡ 29
      → (P : Problem) × (x : Step) × StepReached shop sheet trace c.answer.refusal.place P x
      × (move_of (domain shop) x.move ≡ release) × GoalUnmet P.state (goal_at P.waiting x.place).formula c.answer.atom

abbrev pub UnmetIsFirst : Type 0
UnmetIsFirst = (shop sheet trace room : List ℕ) (c : Replayed) → c ≡ replay shop sheet trace room → TellsFirstUnmet shop sheet trace c

-- Document 02, Req 02. "Labs with the double-tray bench want the joined order as a sheet. Write it into lent room as document 01 lays it out.
-- The join rule of the mission is then stated of the written sheet as well, and joining three orders gives the same words in either grouping
-- wherever neither grouping is refused. 81 when the goals sum to more than 64, 82 when more than 4,000 rows come out, 83 when the room is
-- short; asked in that order after the shop sheet, the first order and the second pass, in turn." That the call tells the first no of
-- `join_questions`, and that a refusal writes nothing, is `of_join` of `Demand1`; `RefusedJoins` says each answer again without that list.

-- Both orders pass with the shop sheet.
abbrev pub BothPass : List ℕ → List ℕ → List ℕ → Type 0
BothPass shop first second = (check_order shop first ≡ passed) × (check_order shop second ≡ passed)

-- Where the call answers 0, the join's words stand first in the room, as `Written` writes out an order, and the room's later words are
-- unchanged. The sheet in these words passes the order check with the shop sheet and means the join.
pub record IsJoin (shop first second room : List ℕ) (c : Lent (List ℕ)) : Type 0 where
  pub words : c.room
      ≡ order_words (atom_count shop) (join (order first) (order second))
      ++ drop (length (order_words (atom_count shop) (join (order first) (order second)))) room
  pub sheet : sheet_in c.room ≡ order_words (atom_count shop) (join (order first) (order second))
  pub passes : check_order shop (sheet_in c.room) ≡ passed
  pub means : order (sheet_in c.room) ≡ join (order first) (order second)
  pub later_words : drop (length (sheet_in c.room)) c.room ≡ drop (length (sheet_in c.room)) room
  pub room_length : length c.room ≡ length room

abbrev pub JoinedIsJoin : Type 0
JoinedIsJoin = (shop first second room : List ℕ) (c : Lent (List ℕ)) → c ≡ write_join shop first second room → c.refusal.number ≡ 0
    → IsJoin shop first second room c

-- The join rule of the written sheet, through the replay: it accepts exactly where the trace passes, the room has at least L words and there is
-- a cut of the two orders as they were given; there is one at most; plan, cost and last state are the front's and the back's, as demand 3 says.
-- So are the lines of its listing, and what its waiting goals carry.
pub record RuleOfSheet (shop first second joined trace room : List ℕ) (e : Replayed) : Type 0 where
  pub accepted_iff : (e.answer.refusal.number ≡ 0)
      ↔ (InputsPass shop first trace room × ((c : ℕ) × CutAt shop first second trace c))
  pub one_cut : (c d : ℕ) → CutAt shop first second trace c → CutAt shop first second trace d → c ≡ d
  pub results : InputsPass shop first trace room → (c : ℕ) (cut : CutAt shop first second trace c)
      → Accepts shop trace room (cut.front_plan ++ cut.back_plan) cut.last e
  pub cost : InputsPass shop first trace room → (c : ℕ) (cut : CutAt shop first second trace c)
      → e.answer.cost ≡ cost_of (domain shop) cut.front_plan + cost_of (domain shop) cut.back_plan
  pub lines : (c : ℕ) (cut : CutAt shop first second trace c)
      → lines_in shop joined trace ≡ one_behind_other c (lines_of 0 cut.front.deeds) (lines_of 0 cut.back.deeds)
  pub carried : (c : ℕ) (cut : CutAt shop first second trace c)
      → Carried (rules_of shop) (order joined) (order first) (order second) (steps_of trace) c cut.between

abbrev pub JoinRuleOfSheet : Type 0
JoinRuleOfSheet = (shop first second room : List ℕ) (c : Lent (List ℕ)) → c ≡ write_join shop first second room → c.refusal.number ≡ 0
    → (trace plan : List ℕ) (e : Replayed) → e ≡ replay shop (sheet_in c.room) trace plan
    → RuleOfSheet shop first second (sheet_in c.room) trace plan e

-- Demand 3 of calls: the written sheet in the place of any sheet that means the join (`Whole`). Replays of the two parts are made as `Parts` says.
pub record OfWritten (shop first second trace joined : List ℕ) : Type 0 where
  pub means : order joined ≡ join (order first) (order second)
  pub accepted_iff : (k : ReplayCall shop joined trace) (parts : (c : ℕ) → c ≤ step_count trace → Parts shop first second trace c)
      → Accepting k ↔ ((c : ℕ) × (h : c ≤ step_count trace) × BothAccept (parts c h))
  pub one_cut : (c d : ℕ) (p : Parts shop first second trace c) (q : Parts shop first second trace d) → BothAccept p → BothAccept q → c ≡ d
  pub results : (k : ReplayCall shop joined trace) (c : ℕ) (p : Parts shop first second trace c) → BothAccept p
      → OneAfterOther (record { joined = joined; means = means; call = k }) p

abbrev pub Demand3OfCalls : Type 0
Demand3OfCalls = (shop first second room : List ℕ) (c : Lent (List ℕ)) → c ≡ write_join shop first second room → c.refusal.number ≡ 0
    → (trace : List ℕ) → check_trace shop first trace ≡ passed → OfWritten shop first second trace (sheet_in c.room)

-- Three orders a, b and c, and two sheets: `ab` joined with c, and a joined with `bc`. With equal rooms both calls give the same answer and the
-- same room at exit, refusals too; and whatever their rooms are, where both are written they write the same words.
pub record SameJoins (shop ab c a bc : List ℕ) : Type 0 where
  pub alike : (room : List ℕ) → write_join shop ab c room ≡ write_join shop a bc room
  pub same_words : (room : List ℕ) (one : Lent (List ℕ)) → one ≡ write_join shop ab c room → one.refusal.number ≡ 0
      → (room : List ℕ) (other : Lent (List ℕ)) → other ≡ write_join shop a bc room → other.refusal.number ≡ 0
      → sheet_in one.room ≡ sheet_in other.room

-- So it is where the two inner calls, of a with b and of b with c, are written, and `ab` and `bc` are what they wrote.
abbrev pub EitherGrouping : Type 0
EitherGrouping = (shop a b c : List ℕ)
    → (room : List ℕ) (ab : Lent (List ℕ)) → ab ≡ write_join shop a b room → ab.refusal.number ≡ 0
    → (room : List ℕ) (bc : Lent (List ℕ)) → bc ≡ write_join shop b c room → bc.refusal.number ≡ 0
    → SameJoins shop (sheet_in ab.room) c a (sheet_in bc.room)

-- A refusal by this number at place 0.
abbrev pub by : ℕ → Refusal
by number = record { number = number; place = 0 }

-- Each answer, by the checks of the two orders and by how many goals and rows come out: the first order's refusal, the shop sheet's included;
-- where it passes, the second's; where both pass, 81, 82, 83, or 0 and 0.
pub record JoinNumbers (shop first second room : List ℕ) (c : Lent (List ℕ)) (goals rows : ℕ) : Type 0 where
  pub of_first : (f : Failure) → check_order shop first ≡ refused f → c.refusal ≡ f.refusal
  pub of_second : check_order shop first ≡ passed → (f : Failure) → check_order shop second ≡ refused f → c.refusal ≡ f.refusal
  pub by_81 : (c.refusal ≡ by 81) ↔ (BothPass shop first second × (64 < goals))
  pub by_82 : (c.refusal ≡ by 82) ↔ (BothPass shop first second × (goals ≤ 64) × (4000 < rows))
  pub by_83 : (c.refusal ≡ by 83) ↔ (BothPass shop first second × (goals ≤ 64) × (rows ≤ 4000) × (length room < 3 + 2 * rows))
  pub written : (c.refusal ≡ by 0) ↔ (BothPass shop first second × (goals ≤ 64) × (rows ≤ 4000) × (3 + 2 * rows ≤ length room))
  -- After 81 "no trace is accepted on the join and no cut will do". 82 and 83 say nothing of acceptance: "As a network the join has no limit on rows."
  pub none_accepted : c.refusal.number ≡ 81 → (xs : List Step)
      → ((plan : List ℕ) (last : State) → ¬ OnJoin (rules_of shop) (order first) (order second) xs plan last)
      × ((d : ℕ) → ¬ Cut (rules_of shop) (order first) (order second) xs d)

-- G + H goals come out, and so many rows: the first's, the second's less its 12 rows, and G times H more.
abbrev pub RefusedJoins : Type 0
RefusedJoins = (shop first second room : List ℕ) (c : Lent (List ℕ)) → c ≡ write_join shop first second room
    → (rows : ℕ) → rows + length (order second).start ≡ row_count first + row_count second + length (order first).goals * length (order second).goals
    → JoinNumbers shop first second room c (length (order first).goals + length (order second).goals) rows

-- Document 02, Req 03. "Each waiting goal now carries the method and the step that brought it in; a goal of the order carries 65,535 for both. A
-- listing program on the same files prints an accepted derivation as an indented tree, one line a goal, in the order of release: two blanks for
-- each goal above it up to the order's goal, then the step that released it, the step that brought it in and the method's number from 0". What
-- the program prints is on the page of `listing_main`. The numbers 65,535 are `step_number` and `method_number` of what a goal carries.

-- A waiting goal is a node of this network, under its number there.
pub record IsNode (nodes : List Node) (q : Waiting) : Type 0 where
  pub node : Node
  pub listed : At nodes q.name.number node
  pub formula : q.formula ≡ node.formula
  pub after : q.after ≡ node.after

-- Step `k` of these steps used method `m` at the goal that is the parent of `q`, and `q` is one of the method's nodes.
pub record BroughtIn (r : Rules) (P₀ : Problem) (xs : List Step) (q : Waiting) (k m : ℕ) : Type 0 where
  pub before : Problem
  pub reached : Reached r P₀ (take k xs) before
  pub step : Step
  pub is_step : At xs k step
  pub parent : Waiting
  pub parent_waits : At before.waiting step.place parent
  pub behind : Problem
  pub uses_method : stepped r k before step ≡ taken (uses m parent) behind
  pub new : ¬ Memᴰ q before.waiting
  pub entered : Memᴰ q behind.waiting
  pub parent_named : q.parent ≡ some parent.name
  pub method : Method
  pub is_method : At r.domain.methods m method
  pub is_node : IsNode (network_of method) q

-- What a waiting goal carries is true: a method and a step brought it in, or it is one of the order's goals and has no parent.
pub record OriginTrue (r : Rules) (s : State) (o : Order) (xs : List Step) (q : Waiting) : Type 0 where
  pub by_step : (k m : ℕ) → q.source ≡ used k m → BroughtIn r (problem_from s o) xs q k m
  pub by_order : q.source ≡ Network.order → (q.parent ≡ none) × IsNode o.goals q

-- So it is on every network that steps lead to, under whatever rules, from whatever order and first state.
abbrev pub OriginsAreTrue : Type 1
OriginsAreTrue = (r : Rules) (s : State) (o : Order) (xs : List Step) (P : Problem) → Reached r (problem_from s o) xs P
    → (q : Waiting) → Memᴰ q P.waiting → OriginTrue r s o xs q

-- The parent of the goal at place `i` waits too, behind it, and one goal more stands above the goal than above its parent.
pub record ParentWaits (w : List Waiting) (i : ℕ) (q : Waiting) : Type 0 where
  pub place : ℕ
  pub parent : Waiting
  pub waits : At w place parent
  pub behind : i < place
  pub parent_named : q.parent ≡ some parent.name
  pub one_more : goals_above w q ≡ suc (goals_above w parent)

-- So it is of every goal that a method brought in; above a goal of the order stands none; at most 63 stand above any.
pub record ParentsIn (w : List Waiting) : Type 0 where
  pub of_step_law : (i : ℕ) (q : Waiting) → At w i q → (k m : ℕ) → q.source ≡ used k m → ParentWaits w i q
  pub of_order_law : (q : Waiting) → Memᴰ q w → q.source ≡ Network.order → goals_above w q ≡ 0
  pub few : (q : Waiting) → Memᴰ q w → goals_above w q ≤ 63

abbrev pub ParentsWait : Type 0
ParentsWait = (shop sheet : List ℕ) → check_order shop sheet ≡ passed → (s : State) (xs : List Step) (P : Problem)
    → Reached (rules_of shop) (problem_from s (order sheet)) xs P → ParentsIn P.waiting

-- The lines of goals that this step brought in, or with 65,535 the order, by document 02's number.
abbrev pub brought_at : ℕ → List Line → List Line
brought_at k lines = filter (λ l. eqb (step_number l.source) k) lines

-- Step `n` used method `m`.
abbrev pub UsesAt : List ℕ → List ℕ → ℕ → ℕ → Type 0
UsesAt shop trace n m = (x : Step) × At (steps_of trace) n x × (move_of (domain shop) x.move ≡ use_method m)

-- Step `n` released this goal, with so many goals above it.
pub record ReleasedAt (deeds : List Deed) (n : ℕ) (q : Waiting) (above : ℕ) : Type 0 where
  pub goals : List Leaving
  pub deed : At deeds n (releases goals)
  pub among : Memᴰ (record { goal = q; above = above }) goals

-- The parent of `q`, which step `n` released, is released later, and has one goal fewer above it.
pub record ReleasedBefore (deeds : List Deed) (n : ℕ) (q : Waiting) (above : ℕ) : Type 0 where
  pub parent : Waiting
  pub parent_named : q.parent ≡ some parent.name
  pub step : ℕ
  pub over : ℕ
  pub released_then : ReleasedAt deeds step parent over
  pub later : n < step
  pub one_more : above ≡ suc over

-- A line is true: its step released a goal, which waited at the step's place on the network that the steps before it lead to; the line tells
-- what that goal carries and how many goals stood above it there.
pub record LineTrue (shop sheet trace : List ℕ) (l : Line) : Type 0 where
  pub before : Problem
  pub reached : Reached (rules_of shop) (problem_of (order sheet)) (take l.released (steps_of trace)) before
  pub step : Step
  pub is_step : At (steps_of trace) l.released step
  pub is_release : move_of (domain shop) step.move ≡ release
  pub goal : Waiting
  pub waits : At before.waiting step.place goal
  pub source : l.source ≡ goal.source
  pub above : l.above ≡ goals_above before.waiting goal

-- A line a goal, of an accepted trace whose steps did these deeds.
pub record LineEach (shop sheet trace : List ℕ) (deeds : List Deed) : Type 0 where
  -- As many lines have the order for their origin as it has goals, with 65,535 for the method too.
  pub of_order_law : length (brought_at 65535 (lines_of 0 deeds)) ≡ length (order sheet).goals
  pub of_order_number : (l : Line) → Memᴰ l (brought_at 65535 (lines_of 0 deeds)) → method_number l.source ≡ 65535
  -- As many lines have a step for their origin as the method used there has nodes, with that method's number; none if it used none.
  pub of_step_law : (k m : ℕ) → UsesAt shop trace k m → length (brought_at k (lines_of 0 deeds)) ≡ length (method_at (domain shop) m).nodes
  pub of_step_number : (k m : ℕ) → UsesAt shop trace k m → (l : Line) → Memᴰ l (brought_at k (lines_of 0 deeds)) → method_number l.source ≡ m
  pub of_no_method : (k : ℕ) → k ≢ 65535 → ((m : ℕ) → ¬ UsesAt shop trace k m) → brought_at k (lines_of 0 deeds) ≡ []
  -- Each line is true, and each release has one.
  pub lines_true : (l : Line) → Memᴰ l (lines_of 0 deeds) → LineTrue shop sheet trace l
  pub each_release : (n : ℕ) (x : Step) → At (steps_of trace) n x → move_of (domain shop) x.move ≡ release
      → (l : Line) × Memᴰ l (lines_of 0 deeds) × (l.released ≡ n)
  -- Steps of release rise, and a goal's line stands before that of its parent, the goal above it, and has one goal more above it.
  pub rise : (i j : ℕ) (a b : Line) → At (lines_of 0 deeds) i a → At (lines_of 0 deeds) j b → i < j → a.released < b.released
  pub before_parent : (n : ℕ) (q : Waiting) (above : ℕ) → ReleasedAt deeds n q above → (k m : ℕ) → q.source ≡ used k m
      → ReleasedBefore deeds n q above

abbrev pub OneLineAGoal : Type 0
OneLineAGoal = (shop sheet trace : List ℕ) → check_trace shop sheet trace ≡ passed
    → (deeds : List Deed) (last : State) → run (rules_of shop) 0 (problem_of (order sheet)) (steps_of trace) ≡ accepted deeds last
    → LineEach shop sheet trace deeds

-- The listing of an accepted run is its lines; of one that is refused there is no line, whatever it released.
pub record LinesOfRuns (shop sheet trace : List ℕ) : Type 0 where
  pub of_accepted : (deeds : List Deed) (last : State) → run (rules_of shop) 0 (problem_of (order sheet)) (steps_of trace) ≡ accepted deeds last
      → lines_in shop sheet trace ≡ lines_of 0 deeds
  pub of_refused : (f : Failure) → run (rules_of shop) 0 (problem_of (order sheet)) (steps_of trace) ≡ stopped f → lines_in shop sheet trace ≡ []

-- "a goal of the order carries 65,535 for both"; every other the step and the method's number from 0.
pub record NumbersAre02s : Type 0 where
  pub order_step : step_number Network.order ≡ 65535
  pub order_method : method_number Network.order ≡ 65535
  pub step : (k m : ℕ) → step_number (used k m) ≡ k
  pub method : (k m : ℕ) → method_number (used k m) ≡ m

-- Document 02, Req 04. "walk the effects (for a method, its goal's rows) in listed order and look each up in the waiting goal. The test tells one of
-- three: blocked, with the first effect whose opposite stands there; else helping, with the first that stands there itself; else neither. Relevant is
-- helping alone, and every answer is what it was." No definition of an answer uses `relevance`; they use `relevant`, which the request leaves as it is.

-- `l` is the first of the literals that has the property `So`: before it stand some that do not have it, behind it any.
pub record FirstSo (So : Literal → Type 0) (ls : List Literal) (l : Literal) : Type 0 where
  pub before : List Literal
  pub behind : List Literal
  pub listed : ls ≡ before ++ (l ∷ behind)
  pub none_before : (k : Literal) → Memᴰ k before → ¬ So k
  pub so : So l

-- What the test tells, of every two lists. `relevance` has one value, so exactly one of the three holds, and of blocked and of helping for one effect only.
pub record RelevanceTells (effects wanted : List Literal) : Type 0 where
  pub blocked_iff : (e : Literal) → (relevance effects wanted ≡ blocked e) ↔ FirstSo (λ k. Memᴰ (opposite k) wanted) effects e
  pub helping_iff : (e : Literal) → (relevance effects wanted ≡ helping e)
      ↔ (((k : Literal) → Memᴰ k effects → ¬ Memᴰ (opposite k) wanted) × FirstSo (λ k. Memᴰ k wanted) effects e)
  pub neither_iff : (relevance effects wanted ≡ neither)
      ↔ ((k : Literal) → Memᴰ k effects → (¬ Memᴰ k wanted) × (¬ Memᴰ (opposite k) wanted))

-- Effects are relevant to a goal, by the test and by Definition 1, exactly when helping is told, all literals of all its alternatives being wanted.
pub record RelevantIsHelping (effects : List Literal) (g : Formula) : Type 0 where
  pub test_iff : (relevant effects g ≡ true) ↔ ((e : Literal) × (relevance effects (flatten g) ≡ helping e))
  pub definition_iff : Relevant effects g ↔ ((e : Literal) × (relevance effects (flatten g) ≡ helping e))

-- The three demands, and what Req 01 to Req 04 add.
pub record Promised : Type 1 where
  pub demand_1 : Demand1
  pub demand_2 : Demand2
  pub demand_2_of_search : Demand2OfSearch
  pub search_agrees_with_replay : SearchAgreesWithReplay
  pub demand_3 : Demand3
  pub demand_3_of_replays : Demand3OfReplays
  pub unmet_is_named : UnmetIsNamed
  pub unmet_is_first : UnmetIsFirst
  pub tests_tell_first : TestsTellFirst
  pub joined_is_join : JoinedIsJoin
  pub join_rule_of_sheet : JoinRuleOfSheet
  pub demand_3_of_calls : Demand3OfCalls
  pub either_grouping : EitherGrouping
  pub refused_joins : RefusedJoins
  pub origins_are_true : OriginsAreTrue
  pub parents_wait : ParentsWait
  pub one_line_a_goal : OneLineAGoal
  pub lines_of_runs : (shop sheet trace : List ℕ) → LinesOfRuns shop sheet trace
  pub numbers_are_02s : NumbersAre02s
  pub relevance_tells : (effects wanted : List Literal) → RelevanceTells effects wanted
  pub relevant_is_helping : (effects : List Literal) (g : Formula) → RelevantIsHelping effects g
