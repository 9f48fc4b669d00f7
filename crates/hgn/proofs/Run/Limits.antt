-- Runs within two limits, a smaller and a larger one. Assumes nothing.
use Prim.Native.Nat.{ℕ, suc, ◌≤◌}
use native.Mathlib.Omega.{arith}
use mathlib.Core.Path.{◌≡◌, sym, ap, ◌∙◌}
use mathlib.Core.List.{List, [], ◌∷◌}
use lib.ListN.{length}
use Rattle.hgn.specs.State.{State}
use Rattle.hgn.specs.Run.{Step, Move, Problem, Rules, limited, Deed, taken, stepped, accepted, run_by, run}
use Rattle.hgn.proofs.Run.Steps.{Moved, by_release, by_action, by_method, took, takes}
use Rattle.hgn.proofs.Run.Derivation.{moved_within}
use Rattle.hgn.proofs.Run.Runs.{resumes, resumed_accepts}

-- After a step no more wait than the limit.
pub step_within : (r : Rules) (n : ℕ) (P : Problem) (x : Step) (deed : Deed) (P' : Problem) → length P.waiting ≤ r.limit
    → stepped r n P x ≡ taken deed P' → length P'.waiting ≤ r.limit
step_within r n P x deed P' l e = moved_within l (took x deed P' e).by

module _ (r : Rules) {small : ℕ} (h : small ≤ r.limit) where
  moved_wider : {n : ℕ} {P : Problem} {p : ℕ} {m : Move} {deed : Deed} {P' : Problem}
      → Moved (limited small r) n P p m deed P' → Moved r n P p m deed P'
  moved_wider (by_release f) = by_release f
  moved_wider (by_action f g) = by_action f g
  moved_wider (by_method f g b) = by_method f g (omega arith)

  moved_narrower : {n : ℕ} {P : Problem} {p : ℕ} {m : Move} {deed : Deed} {P' : Problem}
      → length P'.waiting ≤ small → Moved r n P p m deed P' → Moved (limited small r) n P p m deed P'
  moved_narrower k (by_release f) = by_release f
  moved_narrower k (by_action f g) = by_action f g
  moved_narrower k (by_method f g b) = by_method f g k

  -- A step taken within the smaller limit is taken within the larger.
  pub wider_step : (n : ℕ) (P : Problem) (x : Step) {deed : Deed} {P' : Problem}
      → stepped (limited small r) n P x ≡ taken deed P' → stepped r n P x ≡ taken deed P'
  wider_step n P x {deed} {P'} e =
      let t = took {r = limited small r} x deed P' e in
      takes x deed P' (record { inside = t.inside; is_free = t.is_free; by = moved_wider t.by })

  -- One taken within the larger, after which no more wait than the smaller, is taken within the smaller.
  pub narrower_step : (n : ℕ) (P : Problem) (x : Step) {deed : Deed} {P' : Problem}
      → length P'.waiting ≤ small → stepped r n P x ≡ taken deed P' → stepped (limited small r) n P x ≡ taken deed P'
  narrower_step n P x {deed} {P'} k e =
      let t = took x deed P' e in
      takes {r = limited small r} x deed P' (record { inside = t.inside; is_free = t.is_free; by = moved_narrower k t.by })

  -- A run accepted within the smaller limit is accepted within the larger.
  pub wider_run : (n : ℕ) (P : Problem) (xs : List Step) (deeds : List Deed) (last : State)
      → run (limited small r) n P xs ≡ accepted deeds last → run r n P xs ≡ accepted deeds last
  unfolding run_by
  wider_run n P [] deeds last e = e
  wider_run n P (x ∷ xs) deeds last e =
      let f = resumes (stepped (limited small r)) n P x xs deeds last e in
      resumed_accepts (stepped r) n P x xs f.deed f.left f.rest last (wider_step n P x f.first)
      (wider_run (suc n) f.left xs f.rest last f.goes_on)
      ∙ ap (λ (l : List Deed). accepted l last) (sym f.whole)
