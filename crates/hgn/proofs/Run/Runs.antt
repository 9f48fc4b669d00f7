-- A run, one step at a time, by whatever takes a step. Assumes nothing.
use Prim.Native.Nat.{ℕ, suc}
use native.Mathlib.Omega.{arith}
use native.Mathlib.Nat.{not-suc-le-zero}
use mathlib.Core.Path.{◌≡◌, refl, sym, ap, ◌∙◌}
use mathlib.Core.Bool.{false}
use mathlib.Core.List.{List, [], ◌∷◌}
use lib.Dec.{eqb-suc-zero}
use lib.ListN.{length}
use Rattle.hgn.specs.Questions.{Failure, ◌asks◌, failed_at, all_at, first_no}
use Rattle.hgn.specs.State.{State}
use Rattle.hgn.specs.Network.{Waiting}
use Rattle.hgn.specs.Run.{Step, Problem, Rules, Deed, Stepped, refused, taken, stepped, Outcome, stopped, accepted, prepend, end_questions, ended, run_by, run}
use Rattle.hgn.proofs.Run.Steps.{took}

pub stopped≢accepted : {q : Failure} {deeds : List Deed} {s : State} → stopped q ≡ accepted deeds s → ⊥
stopped≢accepted e = let z : ◌≡◌ {A = ℕ} 0 1 = cc in omega arith

module _ {deeds deeds' : List Deed} {s s' : State} (e : accepted deeds s ≡ accepted deeds' s') where
  pub accepted_deeds : deeds ≡ deeds'
  accepted_deeds = cc

  pub accepted_state : s ≡ s'
  accepted_state = cc

prepend_accepted : (deed : Deed) (o : Outcome) (deeds : List Deed) (last : State) → prepend deed o ≡ accepted deeds last
    → (rest : List Deed) × (o ≡ accepted rest last) × (deeds ≡ deed ∷ rest)
unfolding prepend
prepend_accepted deed (stopped q) deeds last e = absurd (stopped≢accepted e)
prepend_accepted deed (accepted rest s) deeds last e = (rest, ap (accepted rest) (accepted_state e), sym (accepted_deeds e))

-- After the last step: nothing waits, or 33.
pub ended_nothing : (n : ℕ) (s : State) → ended n (record { state = s; waiting = [] }) ≡ accepted [] s
unfolding ended end_questions first_no all_at
ended_nothing n s = refl

pub ended_waiting : (n : ℕ) (s : State) (g : Waiting) (w : List Waiting)
    → ended n (record { state = s; waiting = g ∷ w }) ≡ stopped (failed_at n (33 asks false).failure)
unfolding ended end_questions first_no all_at
ended_waiting n s g w = rw (eqb-suc-zero (length w), ended)

-- A run that is accepted without a step has nothing waiting.
pub ended_empty : (n : ℕ) (P : Problem) (deeds : List Deed) (last : State) → ended n P ≡ accepted deeds last
    → (P.waiting ≡ []) × (deeds ≡ []) × (P.state ≡ last)
ended_empty n P deeds last = go P.state P.waiting
  where
    go : (s : State) (w : List Waiting) → ended n (record { state = s; waiting = w }) ≡ accepted deeds last → (w ≡ []) × (deeds ≡ []) × (s ≡ last)
    go s [] e = let h = sym (ended_nothing n s) ∙ e in (refl, sym (accepted_deeds h), accepted_state h)
    go s (g ∷ w) e = absurd (stopped≢accepted (sym (ended_waiting n s g w) ∙ e))

module _ (next : ℕ → Problem → Step → Stepped) where
  -- The run goes on after a step.
  unfoldable pub resumed : ℕ → List Step → Stepped → Outcome
  resumed n xs (refused q) = stopped (failed_at n q)
  resumed n xs (taken deed P) = prepend deed (run_by next (suc n) P xs)

  pub run_cons : (n : ℕ) (P : Problem) (x : Step) (xs : List Step) → run_by next n P (x ∷ xs) ≡ resumed n xs (next n P x)
  unfolding run_by resumed
  run_cons n P x xs = go (next n P x) refl
    where
      go : (o : Stepped) → next n P x ≡ o → run_by next n P (x ∷ xs) ≡ resumed n xs o
      go (refused q) e = rw (e, run_by)
      go (taken deed P') e = rw (e, run_by)

  -- What an accepted run is after its first step.
  pub record Resumes (n : ℕ) (P : Problem) (x : Step) (xs : List Step) (deeds : List Deed) (last : State) : Type 0 where
    pub deed : Deed
    pub left : Problem
    pub rest : List Deed
    pub first : next n P x ≡ taken deed left
    pub goes_on : run_by next (suc n) left xs ≡ accepted rest last
    pub whole : deeds ≡ deed ∷ rest

  pub resumes : (n : ℕ) (P : Problem) (x : Step) (xs : List Step) (deeds : List Deed) (last : State)
      → run_by next n P (x ∷ xs) ≡ accepted deeds last → Resumes n P x xs deeds last
  unfolding resumed
  resumes n P x xs deeds last e = go (next n P x) refl
    where
      go : (o : Stepped) → next n P x ≡ o → Resumes n P x xs deeds last
      go (refused q) f = absurd (stopped≢accepted (sym (ap (resumed n xs) f) ∙ sym (run_cons n P x xs) ∙ e))
      go (taken deed left) f =
          let h = prepend_accepted deed (run_by next (suc n) left xs) deeds last (sym (ap (resumed n xs) f) ∙ sym (run_cons n P x xs) ∙ e) in
          record { deed = deed; left = left; rest = h.0; first = f; goes_on = h.1; whole = h.2 }

  -- And back.
  pub resumed_accepts : (n : ℕ) (P : Problem) (x : Step) (xs : List Step) (deed : Deed) (left : Problem) (rest : List Deed) (last : State)
      → next n P x ≡ taken deed left → run_by next (suc n) left xs ≡ accepted rest last
      → run_by next n P (x ∷ xs) ≡ accepted (deed ∷ rest) last
  unfolding resumed prepend
  resumed_accepts n P x xs deed left rest last e q = run_cons n P x xs ∙ ap (resumed n xs) e ∙ ap (prepend deed) q

-- An empty list refuses every step.
pub empty_refuses : (r : Rules) (n : ℕ) (s : State) (x : Step) (xs : List Step) (deeds : List Deed) (last : State)
    → run r n (record { state = s; waiting = [] }) (x ∷ xs) ≡ accepted deeds last → ⊥
empty_refuses r n s x xs deeds last e =
    let h = resumes (stepped r) n _ x xs deeds last e in
    not-suc-le-zero (took x h.deed h.left h.first).inside
