-- A run that is refused: exactly the steps before the one that is refused lead to the problem at which it is, or all of them do and 33 is told.
-- Assumes nothing.
use Prim.Native.Nat.{ℕ}
use native.Mathlib.Omega.{arith}
use mathlib.Core.Path.{◌≡◌, refl, sym, ap, ◌∙◌, subst}
use mathlib.Core.List.{List, [], ◌∷◌, ◌++◌, append_assoc}
use lib.ListN.{length, take}
use lib.Seq.{take-append_seam}
use Rattle.hgn.specs.Lists.{At, here, there}
use Rattle.hgn.specs.Questions.{Failure, failed_at}
use Rattle.hgn.specs.State.{State}
use Rattle.hgn.specs.Network.{Waiting}
use Rattle.hgn.specs.Run.{Step, Problem, Rules, Deed, Stepped, refused, taken, stepped, Outcome, stopped, accepted, prepend, ended, run_by, run}
use Rattle.hgn.specs.Readings.{Reached, next}
use Rattle.hgn.proofs.Run.Runs.{resumed, run_cons, ended_nothing, ended_waiting}
use Rattle.hgn.proofs.Network.Reached.{one_more}

-- Where a run stops: at a step that exactly the steps before it lead to, or after the last.
pub data Stops (r : Rules) (P₀ : Problem) (xs : List Step) (f : Failure) : Type 0 where
  at_step : (i : ℕ) (P : Problem) (x : Step) (g : Failure) → Reached r P₀ (take i xs) P → At xs i x → stepped r i P x ≡ refused g
      → f ≡ failed_at i g → Stops r P₀ xs f
  at_end : f.refusal.number ≡ 33 → Stops r P₀ xs f

pub at_middle : (ys : List Step) (x : Step) (xs : List Step) → At (ys ++ (x ∷ xs)) (length ys) x
at_middle [] x xs = here
at_middle (y ∷ ys) x xs = there (at_middle ys x xs)

prepend_stopped : (deed : Deed) (o : Outcome) (f : Failure) → prepend deed o ≡ stopped f → o ≡ stopped f
unfolding prepend
prepend_stopped deed (stopped g) f e = e
prepend_stopped deed (accepted deeds s) f e = let z : ◌≡◌ {A = ℕ} 0 1 = cc in absurd (omega arith)

ended_33 : (n : ℕ) (P : Problem) (f : Failure) → ended n P ≡ stopped f → f.refusal.number ≡ 33
ended_33 n P f e = go P.state P.waiting e
  where
    same : {a b : Failure} → stopped a ≡ stopped b → a ≡ b
    same e = cc

    go : (s : State) (w : List Waiting) → ended n (record { state = s; waiting = w }) ≡ stopped f → f.refusal.number ≡ 33
    go s [] h = let z : accepted [] s ≡ stopped f = sym (ended_nothing n s) ∙ h in let y : ◌≡◌ {A = ℕ} 0 1 = cc in absurd (omega arith)
    go s (g ∷ w) h = ap (λ (f : Failure). f.refusal.number) (same (sym h ∙ ended_waiting n s g w))

pub run_stops : (r : Rules) (P₀ : Problem) {ys : List Step} {P : Problem} → Reached r P₀ ys P → (xs : List Step) (f : Failure)
    → run r (length ys) P xs ≡ stopped f → Stops r P₀ (ys ++ xs) f
unfolding run_by resumed
run_stops r P₀ {ys} {P} h [] f e = at_end (ended_33 (length ys) P f e)
run_stops r P₀ {ys} {P} h (x ∷ xs) f e = go (stepped r (length ys) P x) refl (λ P' k. run_stops r P₀ k xs f)
  where
    goes_on : resumed (stepped r) (length ys) xs (stepped r (length ys) P x) ≡ stopped f
    goes_on = sym (run_cons (stepped r) (length ys) P x xs) ∙ e

    same : {a b : Failure} → stopped a ≡ stopped b → a ≡ b
    same e = cc

    go : (o : Stepped) → stepped r (length ys) P x ≡ o
        → ((P' : Problem) → Reached r P₀ (ys ++ (x ∷ [])) P' → run r (length (ys ++ (x ∷ []))) P' xs ≡ stopped f → Stops r P₀ ((ys ++ (x ∷ [])) ++ xs) f)
        → Stops r P₀ (ys ++ (x ∷ xs)) f
    go (refused g) q ih =
        at_step (length ys) P x g (subst (λ (l : List Step). Reached r P₀ l P) (sym (take-append_seam ys (x ∷ xs))) h) (at_middle ys x xs) q
        (same (sym goes_on ∙ ap (resumed (stepped r) (length ys) xs) q))
    go (taken deed P') q ih =
        let rest = prepend_stopped deed _ f (sym (ap (resumed (stepped r) (length ys) xs) q) ∙ goes_on) in
        subst (λ (l : List Step). Stops r P₀ l f) (append_assoc ys (x ∷ []) xs)
        (ih P' (next x h q) (subst (λ (n : ℕ). run r n P' xs ≡ stopped f) (one_more ys x) rest))
