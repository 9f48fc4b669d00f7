-- Problems, the rules of a run, one step with the questions 25 to 32, and a run with question 33.
-- Document 01, "How a derivation runs" and "Questions"; document 02, Req 01 and Req 03; source document 000, "Solutions to HGN Planning Problems".
use Rattle.std.specs.Prelude.{ℕ, suc, ◌+◌, ◌-◌, ◌≡◌, Bool, true, false, cond, ◌&&◌, ◌↔◌, List, [], ◌∷◌, ◌++◌, eqb, leb, ltb, length, get_or}
use Rattle.hgn.specs.Questions.{Failure, Question, ◌asks◌, ◌naming◌, failed_at, all_at, passed, first_no}
use Rattle.hgn.specs.Questions as Questions
use Rattle.hgn.specs.Meaning.{Formula, Action, Method, Domain, Order, goal_of, network_of}
use Rattle.hgn.specs.State.{State, empty_state, assign, γ, all_hold, formula_holds, unmet, unmet_goal, relevant, Relevant}
use Rattle.hgn.specs.Network.{Waiting, used, free, any_free, goals_of, goal_at, goals_above, released, decomposed}

-- A planning problem of 000 less its domain: the state, and the goal network as the waiting list.
pub record Problem : Type 0 where
  pub state : State
  pub waiting : List Waiting

-- At first the state is the atoms of the order's 12 rows.
unfoldable pub start_of : Order → State
start_of o = assign true o.start empty_state

-- An order's goals from a state, and from the order's own first state.
abbrev pub problem_from : State → Order → Problem
problem_from s o = record { state = s; waiting = goals_of o }

abbrev pub problem_of : Order → Problem
problem_of o = problem_from (start_of o) o

pub record Step : Type 0 where
  pub move : ℕ
  pub place : ℕ

-- The move that stands for method 0.
abbrev pub first_method : ℕ
first_method = 256

-- What a move number reads as.
pub data Move : Type 0 where
  release : Move
  act : ℕ → Move  -- an action by its number, from 1
  use_method : ℕ → Move  -- a method by its number, from 0
  unknown : Move

-- With at most 255 actions no number reads two ways: 0, 1 to K, 256 to 255 + M.
unfoldable pub move_of : Domain → ℕ → Move
move_of d n =
    cond (eqb n 0) release
    (cond (leb n (length d.actions)) (act n)
    (cond (leb first_method n && ltb n (first_method + length d.methods)) (use_method (n - first_method))
    unknown))

abbrev pub no_action : Action
no_action = record { cost = 0; needs = []; effects = [] }

abbrev pub no_method : Method
no_method = record { needs = []; nodes = [] }

-- Actions are numbered from 1, methods from 0.
abbrev pub action_at : Domain → ℕ → Action
action_at d n = get_or d.actions (n - 1) no_action

abbrev pub method_at : Domain → ℕ → Method
method_at d m = get_or d.methods m no_method

unfoldable pub known : Move → Bool
known release = true
known (act k) = true
known (use_method m) = true
known unknown = false

-- The rules under which a run goes: the domain, the most goals that may wait, and when an action may be taken for a goal and a method
-- used at it, each as the test that a step asks and as the proposition that Definition 1 asks.
pub record Rules : Type 1 where
  pub domain : Domain
  pub limit : ℕ
  pub may_act : Action → Formula → Bool
  pub MayAct : Action → Formula → Type 0
  pub may_use : Method → Formula → Bool
  pub MayUse : Method → Formula → Type 0

-- The tests of such rules decide their propositions.
pub record Decided (r : Rules) : Type 0 where
  pub act_iff : (a : Action) (g : Formula) → (r.may_act a g ≡ true) ↔ r.MayAct a g
  pub use_iff : (m : Method) (g : Formula) → (r.may_use m g ≡ true) ↔ r.MayUse m g

-- These rules with another limit on the goals that may wait.
abbrev pub limited : ℕ → Rules → Rules
limited limit r = record {
  domain = r.domain;
  limit = limit;
  may_act = r.may_act;
  MayAct = r.MayAct;
  may_use = r.may_use;
  MayUse = r.MayUse;
}

-- The rules of 000: an action must be relevant by its effects, a method by its goal.
abbrev pub strict : ℕ → Domain → Rules
strict limit d = record {
  domain = d;
  limit = limit;
  may_act = λ a g. relevant a.effects g;
  MayAct = λ a g. Relevant a.effects g;
  may_use = λ m g. relevant (goal_of m) g;
  MayUse = λ m g. Relevant (goal_of m) g;
}

-- What a move at place `p`, in step `n`, makes of a problem. "State becomes (state less made false) with made true; the waiting list is
-- unchanged", of an action; of a method, "Its nodes enter directly before that goal".
unfoldable pub moved : Domain → ℕ → Problem → ℕ → Move → Problem
moved d n P p release = record { state = P.state; waiting = released P.waiting p }
moved d n P p (act k) = record { state = γ P.state (action_at d k).effects; waiting = P.waiting }
moved d n P p (use_method m) = record { state = P.state; waiting = decomposed P.waiting p (used n m) (network_of (method_at d m)) }
moved d n P p unknown = P

-- A move's own questions, at the goal of place `p`. "For a release, does it hold? 29. For the others: needs hold? 30. Relevant? 31. For a
-- method, at most 64 waiting afterwards? 32." Of the atom document 02, Req 01: "only 29 and 30 fill it."
unfoldable pub own_questions : Rules → ℕ → Problem → ℕ → Move → List Question
own_questions r n P p release =
    29 asks formula_holds P.state (goal_at P.waiting p).formula naming unmet_goal P.state (goal_at P.waiting p).formula
    ∷ []
own_questions r n P p (act k) =
    30 asks all_hold P.state (action_at r.domain k).needs naming unmet P.state (action_at r.domain k).needs
    ∷ 31 asks r.may_act (action_at r.domain k) (goal_at P.waiting p).formula
    ∷ []
own_questions r n P p (use_method m) =
    30 asks all_hold P.state (method_at r.domain m).needs naming unmet P.state (method_at r.domain m).needs
    ∷ 31 asks r.may_use (method_at r.domain m) (goal_at P.waiting p).formula
    ∷ 32 asks leb (length (moved r.domain n P p (use_method m)).waiting) r.limit
    ∷ []
own_questions r n P p unknown = []

-- "place below the number waiting? 25. Move known? 26. Is any waiting goal free? 27. Is this goal free? 28." Then the move's own.
unfoldable pub step_questions : Rules → ℕ → Problem → Step → List Question
step_questions r n P x =
    25 asks ltb x.place (length P.waiting)
    ∷ 26 asks known (move_of r.domain x.move)
    ∷ 27 asks any_free P.waiting
    ∷ 28 asks free P.waiting (goal_at P.waiting x.place)
    ∷ own_questions r n P x.place (move_of r.domain x.move)

-- A goal that leaves the list, and how many goals stand above it then: what a listing tells of it.
pub record Leaving : Type 0 where
  pub goal : Waiting
  pub above : ℕ

-- What a step that is taken does.
pub data Deed : Type 0 where
  releases : List Leaving → Deed  -- these goals leave the list
  takes : ℕ → Deed  -- this action is taken
  uses : ℕ → Waiting → Deed  -- this method is used at this goal

abbrev pub leaving : List Waiting → Waiting → Leaving
leaving w q = record { goal = q; above = goals_above w q }

unfoldable pub deed_of : Problem → ℕ → Move → Deed
deed_of P p release = releases (leaving P.waiting (goal_at P.waiting p) ∷ [])
deed_of P p (act k) = takes k
deed_of P p (use_method m) = uses m (goal_at P.waiting p)
deed_of P p unknown = releases []

-- What a step comes to: what the first of its questions that is answered no tells, or what it did and the problem that it leaves.
pub data Stepped : Type 0 where
  refused : Failure → Stepped
  taken : Deed → Problem → Stepped

unfoldable pub stepped : Rules → ℕ → Problem → Step → Stepped
stepped r n P x = elim (first_no (step_questions r n P x)) [
  | Questions.refused f ↦ refused f
  | passed ↦
      taken (deed_of P x.place (move_of r.domain x.move)) (moved r.domain n P x.place (move_of r.domain x.move))
]

-- What a run comes to: what the first question that is answered no tells, or what its steps did and the last state.
pub data Outcome : Type 0 where
  stopped : Failure → Outcome
  accepted : List Deed → State → Outcome

-- What a step did, in front of what the rest of the run did.
unfoldable pub prepend : Deed → Outcome → Outcome
prepend deed (stopped f) = stopped f
prepend deed (accepted deeds s) = accepted (deed ∷ deeds) s

-- "After the last step: nothing waiting? 33 (at L)."
unfoldable pub end_questions : Problem → List Question
end_questions P = 33 asks eqb (length P.waiting) 0 ∷ []

unfoldable pub ended : ℕ → Problem → Outcome
ended n P = elim (first_no (all_at n (end_questions P))) [
  | Questions.refused f ↦ stopped f
  | passed ↦ accepted [] P.state
]

-- The run of the steps from step number `n` on, by whatever takes one step. A refusal is told at its step.
unfoldable pub run_by : (ℕ → Problem → Step → Stepped) → ℕ → Problem → List Step → Outcome
run_by next n P [] = ended n P
run_by next n P (x ∷ xs) = elim (next n P x) [
  | refused f ↦ stopped (failed_at n f)
  | taken deed P' ↦ prepend deed (run_by next (suc n) P' xs)
]

-- The run under these rules. Only a method adds to the list, so the limit is asked only there: a run from a list within the limit stays within it, and `Accepted` of
-- `Join` asks it of the first list.
abbrev pub run : Rules → ℕ → Problem → List Step → Outcome
run r = run_by (stepped r)

-- The questions of such a run, one list: each step's, at that step, before those of the next, which are asked of the problem that its
-- move makes; then that after the last step.
unfoldable pub run_questions : Rules → ℕ → Problem → List Step → List Question
run_questions r n P [] = all_at n (end_questions P)
run_questions r n P (x ∷ xs) =
    all_at n (step_questions r n P x)
    ++ run_questions r (suc n) (moved r.domain n P x.place (move_of r.domain x.move)) xs

-- The plan: the actions taken, in order.
unfoldable pub plan_of : List Deed → List ℕ
plan_of [] = []
plan_of (releases gs ∷ ds) = plan_of ds
plan_of (takes k ∷ ds) = k ∷ plan_of ds
plan_of (uses m g ∷ ds) = plan_of ds

-- The cost of a plan: the sum of its actions' costs.
unfoldable pub cost_of : Domain → List ℕ → ℕ
cost_of d [] = 0
cost_of d (k ∷ plan) = (action_at d k).cost + cost_of d plan
