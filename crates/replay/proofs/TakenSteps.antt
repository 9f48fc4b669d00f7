-- A run goes on with a step that is taken, and its first record. Assumes nothing.
use Prim.Native.Nat.{ℕ, ◌+◌, ◌<◌, ◌≤◌}
use mathlib.Core.Path.{◌≡◌, refl, sym, subst}
use mathlib.Core.List.{List}
use lib.ListN.{length, get_or}
use Rattle.hgn.specs.State.{State}
use Rattle.hgn.specs.Network.{most_waiting}
use Rattle.hgn.specs.Run.{Problem, deed_of, action_at, plan_of}
use Rattle.hgn.specs.Tag.{most_cost}
use Rattle.hgn.specs.Trace.{step_count, steps_of}
use Rattle.hgn.specs.Shop.{domain}
use Rattle.hgn.specs.Replay.{rules_of}
use Rattle.step.specs.declared.moves.Move.{Move}
use Rattle.step.specs.declared.moves.Move.TheVariants.{Release, Act, Use}
use Rattle.step.specs.Taking.{problem_with, Going, TakenBy}
use Rattle.network.specs.declared.goals.Goals.{Goals}
use Rattle.network.proofs.Reaching.{reached_first}
use Rattle.replay.specs.Running.{FirstGoals, TotalWith}
use Rattle.replay.specs.declared.run.Totals.{Totals}
use Rattle.replay.proofs.Running.{Running}
use Rattle.replay.proofs.Totals.{cost_is, run_on, run_acts}

-- The totals after a move, by its cases.
module _ (shop : List ℕ) {m : Move} where
  pub total_release : m ≡ Release → (t : Totals) → TotalWith shop m t t
  total_release e t = rw e refl

  pub total_action : {k : ℕ} → m ≡ Act k → (t r : Totals) → r.count ≡ t.count + 1 → r.cost ≡ t.cost + (action_at (domain shop) k).cost → (action_at (domain shop) k).cost ≤ most_cost
      → TotalWith shop m t r
  total_action e t r a b c = rw e (a, b, c)

  pub total_method : {k : ℕ} → m ≡ Use k → (t : Totals) → TotalWith shop m t t
  total_method e t = rw e refl

-- A run in progress goes on with a step that is taken.
module _ (shop order trace : List ℕ) (fits : 1 + (step_count trace + step_count trace) ≤ length trace) (P₀ : Problem) (i : ℕ) (s : State) (ws : Goals) (t : Totals)
    (going : Running (rules_of shop) (steps_of trace) P₀ i (problem_with shop order s ws) t.count t.cost) (h : i < step_count trace)
    (mv p : ℕ) (mv-is : mv ≡ get_or trace (1 + i) 0) (p-is : p ≡ get_or trace (1 + step_count trace + i) 0) (s' : State) (ws' : Goals) where
  abbrev P : Problem
  P = problem_with shop order s ws

  abbrev P' : Problem
  P' = problem_with shop order s' ws'

  abbrev Goes : Totals → Type 0
  Goes r = Running (rules_of shop) (steps_of trace) P₀ (i + 1) P' r.count r.cost

  pub run_goes : (m : Move) {r : Totals} → TakenBy most_waiting shop order i (record { move = mv; place = p }) m s ws s' ws' → TotalWith shop m t r → Goes r
  unfolding deed_of plan_of
  run_goes Release a e = subst Goes (sym e) (run_on shop trace fits P₀ i P t.count t.cost going h mv p mv-is p-is _ P' a.comes refl)
  run_goes (Act k) {r} a e =
      subst (λ (c : ℕ). Running (rules_of shop) (steps_of trace) P₀ (i + 1) P' c r.cost) (sym e.0)
      (subst (λ (c : ℕ). Running (rules_of shop) (steps_of trace) P₀ (i + 1) P' (t.count + 1) c) (sym e.1)
      (run_acts shop trace fits P₀ i P t.count t.cost going h mv p mv-is p-is k P' (action_at (domain shop) k).cost a.comes (sym (cost_is (domain shop) k)) e.2))
  run_goes (Use k) a e = subst Goes (sym e) (run_on shop trace fits P₀ i P t.count t.cost going h mv p mv-is p-is _ P' a.comes refl)

-- The first step is 0, from any state.
pub going_first : {shop order : List ℕ} (s : State) {ws : Goals} → FirstGoals shop order ws → Going shop order 0 s ws
going_first s f = record { valid = f.valid; reached = reached_first s f.list }
