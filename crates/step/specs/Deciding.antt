-- What is decided of a step before anything changes. Document 01, "Questions"; document 02, Req 01.
use Rattle.std.specs.Prelude.{ℕ, ◌+◌, ◌<◌, ◌≤◌, ◌≡◌, false, cond, List, Option, Some, None, Result, Ok, Err, eqb, length}
use Rattle.hgn.specs.Questions as Questions
use Rattle.hgn.specs.Questions.{◌asks◌, first_no}
use Rattle.hgn.specs.Meaning.{Domain, node_of, network_of}
use Rattle.hgn.specs.State.{State}
use Rattle.hgn.specs.Network as Network
use Rattle.hgn.specs.Network.{most_waiting, goal_at, free, any_free}
use Rattle.hgn.specs.Run as Run
use Rattle.hgn.specs.Run.{Problem, strict, method_at, own_questions, deed_of, moved, refused, taken, stepped}
use Rattle.hgn.specs.Shop.{domain, action_count, method_count}
use Rattle.sheet_index.specs.declared.rows.Rows.{Rows}
use Rattle.sheet_index.specs.declared.index.Span.{Span}
use Rattle.sheet_index.specs.Index.{span_rows}
use Rattle.sheet_index.specs.Tables.{ActionIn}
use Rattle.network.specs.Entries.{waiting_of}
use Rattle.step.specs.Moves.{Known, known_of}
use Rattle.step.specs.Failures.{failure_of, verdict_of}
use Rattle.step.specs.declared.failure.Failure.{Failure}
use Rattle.network.specs.declared.waiting.Waiting.{Waiting}
use Rattle.step.specs.declared.moves.Move.{Move}
use Rattle.step.specs.declared.moves.Move.TheVariants.{Release, Act, Use}
use Rattle.step.specs.declared.questions.Load.{Load}

-- The problem has this state, so many goals wait in it, and the goal at place `p` has these rows.
pub record Faces (shop order : List ℕ) (s : State) (goal : Span) (count : ℕ) (P : Problem) (p : ℕ) : Type 0 where
  pub state : P.state ≡ s
  pub formula : (goal_at P.waiting p).formula ≡ (node_of (span_rows shop order goal)).formula
  pub size : length P.waiting ≡ count

-- The verdict is that on the move's own questions under 000's rules with the load's limit, in whatever step and of whatever problem that
-- this goal faces.
abbrev pub Answers : List ℕ → List ℕ → State → Span → Load → Run.Move → Result (Unit {0}) Failure → Type 0
Answers shop order s goal load m r = (n : ℕ) (P : Problem) (p : ℕ) → Faces shop order s goal load.count P p
    → verdict_of r ≡ first_no (own_questions (strict load.limit (domain shop)) n P p m)

-- The verdict on a release's own question, whatever the load.
abbrev pub ReleaseAnswers : List ℕ → List ℕ → State → Span → Result (Unit {0}) Failure → Type 0
ReleaseAnswers shop order s goal r = (load : Load) → Answers shop order s goal load Run.release r

-- The verdict on the own questions of an action with these rows, whatever the action's number and the load.
abbrev pub ActionAnswers : List ℕ → List ℕ → State → Rows → Span → Result (Unit {0}) Failure → Type 0
ActionAnswers shop order s rows goal r = (k : ℕ) (load : Load) → ActionIn shop k rows
    → Answers shop order s goal load (Run.act k) r

-- Where no waiting goal is free, the step tells 27 in place of 28.
abbrev pub with_question27 : List Network.Waiting → Questions.Failure → Questions.Failure
with_question27 w f = cond (eqb f.refusal.number 28) (cond (any_free w) f (27 asks false).failure) f

-- The goal at a place of a problem, and whether it is free.
pub record WaitsAt (shop order : List ℕ) (w : Waiting) (P : Problem) (p : ℕ) : Type 0 where
  pub inside : p < length P.waiting
  pub goal : goal_at P.waiting p ≡ waiting_of shop order w.goal
  pub free_is : eqb w.pending 0 ≡ free P.waiting (goal_at P.waiting p)

-- What waits at a place of a problem with this state and so many goals.
pub record StatusIn (shop order : List ℕ) (s : State) (count : ℕ) (waiting : Option Waiting) (P : Problem) (p : ℕ) : Type 0 where
  pub state : P.state ≡ s
  pub size : length P.waiting ≡ count
  pub none : waiting ≡ None → count ≤ p
  pub some : (w : Waiting) → waiting ≡ Some w → WaitsAt shop order w P p

-- There is room for a method's nodes: it leaves at most 64 waiting.
abbrev pub WithinLimit : Domain → ℕ → Move → Type 0
WithinLimit d count Release = Unit {0}
WithinLimit d count (Act k) = Unit {0}
WithinLimit d count (Use m) = count + length (network_of (method_at d m)) ≤ most_waiting

-- The step is taken under 000's rules with this limit, at whatever number, and there is room for what enters.
pub record StepAllowed (limit : ℕ) (shop : List ℕ) (P : Problem) (move p : ℕ) (m : Move) : Type 0 where
  pub inside : p < length P.waiting
  pub known : Known (action_count shop) (method_count shop) m
  pub fits : WithinLimit (domain shop) (length P.waiting) m
  pub comes : (n : ℕ) → stepped (strict limit (domain shop)) n P (record { move = move; place = p })
      ≡ taken (deed_of P p (known_of m)) (moved (domain shop) n P p (known_of m))

-- The step comes to what was decided, under 000's rules with this limit, at whatever number.
abbrev pub Decides : ℕ → List ℕ → Problem → ℕ → ℕ → Result Move Failure → Type 0
Decides limit shop P move p (Ok m) = StepAllowed limit shop P move p m
Decides limit shop P move p (Err q) =
    (n : ℕ) → stepped (strict limit (domain shop)) n P (record { move = move; place = p }) ≡ refused (with_question27 P.waiting (failure_of q))
