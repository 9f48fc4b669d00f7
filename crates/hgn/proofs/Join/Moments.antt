-- Every moment of a run in two parts is one of the join's run: in the front the first part's goals before the second's, in the back the second's
-- under the join's names. Assumes nothing.
use Prim.Native.Nat.{ℕ, zero, suc, ◌+◌, ◌-◌, ◌≤◌}
use native.Mathlib.Nat.{not-suc-le-zero, le_of_suc-le-suc, zero-add, suc-add}
use mathlib.Core.Path.{◌≡◌, refl, sym, ap, ap₂, ◌∙◌, subst}
use mathlib.Core.List.{List, [], ◌∷◌, ◌++◌, map, append-nil, append_assoc}
use lib.ListN.{length, take, drop, length-append}
use Rattle.hgn.specs.State.{State}
use Rattle.hgn.specs.Network.{Waiting}
use Rattle.hgn.specs.Run.{Step, Problem, Rules, Deed, taken, stepped, accepted, run_by, run}
use Rattle.hgn.specs.Readings.{Reached, first, next}
use Rattle.hgn.proofs.Run.Steps.{took}
use Rattle.hgn.proofs.Run.Runs.{resumes, ended_empty}
use Rattle.hgn.proofs.Network.Reached.{one_more}
use Rattle.hgn.proofs.Network.Rooted.{rooted_step}
use Rattle.hgn.proofs.Join.Embedding.{renamed_deed, carried}
use Rattle.hgn.proofs.Join.Front.{Front, OfFirst, Back}
use Rattle.hgn.proofs.Join.Renaming.{raised_injective, rename, step_renamed}
use Rattle.hgn.proofs.Join.Cut.{with, wide, join_step}

-- The first part, with the second's goals behind it.
module _ (g : ℕ) (r : Rules) (v : List Waiting) (bk : Back g v) where
  behind_step : (n : ℕ) (P : Problem) (x : Step) (deed : Deed) (P' : Problem) → Front g P.waiting → stepped r n P x ≡ taken deed P'
      → stepped (wide g r v bk) n (with P.state (P.waiting ++ v)) x ≡ taken deed (with P'.state (P'.waiting ++ v))
  behind_step n P x deed P' = go P.state P.waiting
    where
      go : (s : State) (w : List Waiting) → Front g w → stepped r n (with s w) x ≡ taken deed P'
          → stepped (wide g r v bk) n (with s (w ++ v)) x ≡ taken deed (with P'.state (P'.waiting ++ v))
      go s [] fr e = absurd (not-suc-le-zero (took {P = with s []} x deed P' e).inside)
      go s (q ∷ rest) fr e = join_step g r v bk n s q rest x deed P' fr e

  -- Where the first part's steps lead, the join's lead with the second's goals behind.
  pub front_moment : {P₀ : Problem} {ys : List Step} {Q : Problem} → Front g P₀.waiting → Reached r P₀ ys Q
      → Front g Q.waiting × Reached (wide g r v bk) (with P₀.state (P₀.waiting ++ v)) ys (with Q.state (Q.waiting ++ v))
  front_moment fr first = (fr, first)
  front_moment fr (next {xs = ys} {P = P} {P' = P'} {deed = deed} x i e) =
      let h = front_moment fr i in
      (rooted_step (OfFirst g) r (length ys) P x deed P' h.0 e, next x h.1 (behind_step (length ys) P x deed P' h.0 e))

-- An accepted run leads to its last state, with nothing waiting.
pub reached_end : (r : Rules) (P₀ : Problem) (xs : List Step) {ys : List Step} {P : Problem} → Reached r P₀ ys P → (deeds : List Deed) (last : State)
    → run r (length ys) P xs ≡ accepted deeds last → Reached r P₀ (ys ++ xs) (with last [])
unfolding run_by
reached_end r P₀ [] {ys} {P} i deeds last e =
    let z = ended_empty (length ys) P deeds last e in
    subst (λ (l : List Step). Reached r P₀ l (with last [])) (sym (append-nil ys))
    (subst (λ (Q : Problem). Reached r P₀ ys Q) (ap₂ {C = Problem} with z.2 z.0) i)
reached_end r P₀ (x ∷ xs) {ys} {P} i deeds last e =
    let f = resumes (stepped r) (length ys) P x xs deeds last e in
    subst (λ (l : List Step). Reached r P₀ l (with last [])) (append_assoc ys (x ∷ []) xs)
    (reached_end r P₀ xs (next x i f.first) f.rest last (ap (λ (k : ℕ). run r k f.left xs) (sym (one_more ys x)) ∙ f.goes_on))

-- The back: steps from a problem `P₀`, behind steps `zs` that lead to `P₀` under the join's names.
module _ (g : ℕ) (r : Rules) (whole P₀ : Problem) (zs : List Step) where
  abbrev in_names : Problem → Problem
  in_names P = with P.state (map (rename g (λ k. length zs + k)) P.waiting)

  pub back_moment : {ys : List Step} {Q : Problem} → Reached r whole zs (in_names P₀) → Reached r P₀ ys Q → Reached r whole (zs ++ ys) (in_names Q)
  unfolding carried
  back_moment h first = subst (λ (l : List Step). Reached r whole l (in_names P₀)) (sym (append-nil zs)) h
  back_moment h (next {xs = ys} {P = P} {P' = P'} {deed = deed} x i e) =
      subst (λ (l : List Step). Reached r whole l (in_names P')) (append_assoc zs ys (x ∷ []))
      (next x (back_moment h i)
      (ap (λ (k : ℕ). stepped r k (in_names P) x) (length-append zs ys)
      ∙ step_renamed g (λ k. length zs + k) (raised_injective (length zs)) r (length ys) P x
      ∙ ap (carried (rename g (λ k. length zs + k)) []) e
      ∙ ap (λ (l : List Waiting). taken (renamed_deed (rename g (λ k. length zs + k)) deed) (with P'.state l)) (append-nil (map (rename g (λ k. length zs + k)) P'.waiting))))

-- Parts of lists.
pub take_within : {A : Type 0} (i c : ℕ) (xs : List A) → i ≤ c → take i (take c xs) ≡ take i xs
take_within zero c xs h = refl
take_within (suc i) zero xs h = absurd (not-suc-le-zero h)
take_within (suc i) (suc c) [] h = refl
take_within {A} (suc i) (suc c) (x ∷ xs) h = ap {B = List A} (λ l. x ∷ l) (take_within i c xs (le_of_suc-le-suc h))

take_none : {A : Type 0} (n : ℕ) → take {A = A} n [] ≡ []
take_none zero = refl
take_none (suc n) = refl

pub take_on : {A : Type 0} (c i : ℕ) (xs : List A) → take (c + i) xs ≡ take c xs ++ take i (drop c xs)
take_on zero i xs = ap (λ (k : ℕ). take k xs) (zero-add i)
take_on (suc c) i [] = take_none (suc c + i) ∙ sym (take_none i)
take_on {A} (suc c) i (x ∷ xs) = ap (λ (k : ℕ). take k (x ∷ xs)) (suc-add c i) ∙ ap {B = List A} (λ l. x ∷ l) (take_on c i xs)
