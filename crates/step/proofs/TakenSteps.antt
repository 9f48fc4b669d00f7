-- A step that is taken where state and waiting goals stand: what is seen, and what each move leaves. Assumes nothing.
use Prim.Native.Nat.{ℕ, ◌+◌, ◌<◌, ◌≤◌}
use native.Mathlib.Omega.{arith}
use native.Mathlib.Numerals.{add-one}
use mathlib.Core.Path.{◌≡◌, refl, sym, ap, subst, ◌∙◌}
use mathlib.Core.List.{List}
use lib.Dec.{eqb}
use Rattle.std.specs.Prelude.{Option, Some, None, MatchOption}
use Rattle.hgn.specs.State.{State, γ}
use Rattle.hgn.specs.Network as Network
use Rattle.hgn.specs.Run as Run
use Rattle.hgn.specs.Network.{most_waiting}
use Rattle.hgn.specs.Run.{strict, moved, deed_of, taken, stepped, action_at}
use Rattle.hgn.specs.Shop.{domain}
use Rattle.hgn.specs.Replay.{rules_of}
use Rattle.hgn.proofs.Run.Steps.{took}
use Rattle.hgn.proofs.Run.Limits.{wider_step}
use Rattle.network.specs.Entries.{waiting_of}
use Rattle.network.specs.declared.waiting.Waiting.{Waiting}
use Rattle.network.specs.declared.goals.Goals.{Goals}
use Rattle.step.specs.Moves.{known_of}
use Rattle.step.specs.Deciding.{WaitsAt, StatusIn, WithinLimit, StepAllowed}
use Rattle.step.specs.declared.moves.Move.{Move}
use Rattle.step.specs.declared.moves.Choice.{Choice}
use Rattle.step.specs.declared.moves.Move.TheVariants.{Release, Act, Use}
use Rattle.network.specs.Goals.{count_in, at_place, list_in, Left, Decomposed}
use Rattle.network.specs.Reaching.{ReachedAt}
use Rattle.network.proofs.WaitingGoals.{list_length, list_at, free_at}
use Rattle.network.proofs.Reaching.{reached_next}
use Rattle.step.specs.Taking.{problem_with, ValidGoals, Going, MayApply, Applied, TakenBy}

module _ (shop order : List ℕ) (s : State) (ws : Goals) (valid : ValidGoals shop order ws) where
  -- What is seen at a place.
  seen : (p : ℕ) (w : Waiting) → p < count_in ws → w ≡ at_place ws p → WaitsAt shop order w (problem_with shop order s ws) p
  seen p w h e = record {
    inside = omega (arith, list_length shop order ws);
    goal = list_at shop order ws p h ∙ ap (λ (x : Waiting). waiting_of shop order x.goal) (sym e);
    free_is = ap (λ (x : Waiting). eqb x.pending 0) e ∙ free_at shop order ws valid.counted p h;
  }

  pub status_at : (p : ℕ) (waiting : Option Waiting) {count : ℕ} → count ≡ count_in ws
      → MatchOption waiting (count_in ws ≤ p) (λ w. (p < count_in ws) × (w ≡ at_place ws p)) → StatusIn shop order s count waiting (problem_with shop order s ws) p
  status_at p None c look =
      record { state = refl; size = list_length shop order ws ∙ sym c; none = λ z. omega (arith, look); some = λ w z. absurd (cc) }
  status_at p (Some w) c look =
      record { state = refl; size = list_length shop order ws ∙ sym c; none = λ z. absurd (cc); some = λ v z. seen p v look.0 (cc look.1) }

  -- What each move leaves.
  module _ (n : ℕ) (x : Choice) where
    pub applied_release : x.mv ≡ Release → {ws' : Goals} → Left shop order x.place.0 ws ws' → Applied shop order n x s ws s ws'
    unfolding moved
    applied_release e l = record {
      leaves = rw e (ap (λ (w : List Network.Waiting). record { state = s; waiting = w }) l.list);
      valid = record { counted = l.counted };
    }

    pub applied_action : {k : ℕ} → x.mv ≡ Act k → {s' : State} → s' ≡ γ s (action_at (domain shop) k).effects → Applied shop order n x s ws s' ws
    unfolding moved
    applied_action e z = record { leaves = rw e (ap (λ (x : State). record { state = x; waiting = list_in shop order ws }) z); valid = valid }

    pub applied_method : {k : ℕ} → x.mv ≡ Use k → {ws' : Goals} → Decomposed shop order x.place.0 n k ws ws' → Applied shop order n x s ws s ws'
    unfolding moved
    applied_method e l = record {
      leaves = rw e (ap (λ (w : List Network.Waiting). record { state = s; waiting = w }) l.list);
      valid = record { counted = l.counted };
    }

-- A step that may be taken.
module _ {limit : ℕ} (shop order : List ℕ) (n : ℕ) (s : State) (ws : Goals) {mv : ℕ} (x : Choice) (may : StepAllowed limit shop (problem_with shop order s ws) mv x.place.0 x.mv) where
  pub taking_may : MayApply shop order x ws
  taking_may = record {
    inside = omega (arith, may.inside, list_length shop order ws);
    known = may.known;
    fits = subst (λ (k : ℕ). WithinLimit (domain shop) k x.mv) (list_length shop order ws) may.fits;
    is_free = (took _ _ _ (may.comes n)).is_free;
  }

  pub taken_by : {s' : State} {ws' : Goals} → Applied shop order n x s ws s' ws'
      → TakenBy limit shop order n (record { move = mv; place = x.place.0 }) x.mv s ws s' ws'
  taken_by a = record {
    known = may.known;
    comes = may.comes n ∙ ap (taken (deed_of (problem_with shop order s ws) x.place.0 (known_of x.mv))) (sym a.leaves);
    valid = a.valid;
  }

-- A step that is taken within a smaller limit is the same step within 64: what steps within different limits have led to, steps within 64 lead to.
pub within_most : (shop : List ℕ) {limit : ℕ} → limit ≤ most_waiting → (n : ℕ) (P : Run.Problem) (x : Run.Step) {deed : Run.Deed} {P' : Run.Problem}
    → stepped (strict limit (domain shop)) n P x ≡ taken deed P' → stepped (rules_of shop) n P x ≡ taken deed P'
within_most shop few n P x e = wider_step (rules_of shop) few n P x e

-- What holds of the next step.
pub going_next : {limit : ℕ} {shop order : List ℕ} {n : ℕ} {x : Run.Step} {m : Move} {s : State} {ws : Goals} {s' : State} {ws' : Goals} → limit ≤ most_waiting
    → Going shop order n s ws → TakenBy limit shop order n x m s ws s' ws' → Going shop order (n + 1) s' ws'
going_next {shop = shop} {order} {n} {x} {s' = s'} {ws' = ws'} few g a = record {
  valid = a.valid;
  reached =
      subst (λ (k : ℕ). ReachedAt shop order k (problem_with shop order s' ws')) (sym (add-one n))
      (reached_next x g.reached (within_most shop few n _ x a.comes));
}
