-- Counted among the limit throughout: a run within what the others leave of it. Assumes nothing.
use Prim.Native.Nat.{ℕ, ◌+◌, ◌-◌, ◌≤◌}
use native.Mathlib.Omega.{arith}
use mathlib.Core.Path.{◌≡◌, refl, sym, ap, ap₂, ◌∙◌, subst}
use mathlib.Core.List.{List, [], ◌∷◌, ◌++◌, append_assoc}
use lib.ListN.{length, take, drop, take-append-drop}
use lib.Seq.{take-append_seam}
use Rattle.hgn.specs.State.{State}
use Rattle.hgn.specs.Run.{Step, Problem, Rules, limited, Deed, stepped, accepted, run_by, run}
use Rattle.hgn.specs.Readings.{Reached, first, next}
use Rattle.hgn.specs.Demands.{Counted}
use Rattle.hgn.proofs.Run.Steps.{taken_problem}
use Rattle.hgn.proofs.Run.Runs.{resumes, resumed_accepts}
use Rattle.hgn.proofs.Run.Limits.{step_within, wider_step, narrower_step}
use Rattle.hgn.proofs.Search.Best.{Runs}
use Rattle.hgn.proofs.Network.Reached.{one_more}

module _ (others : ℕ) (r : Rules) (few : others ≤ r.limit) (P : Problem) where
  -- The rules with the limit that the others leave.
  abbrev narrow : Rules
  narrow = limited (r.limit - others) r

  -- In front of all steps stand those taken so far, `ys`, which lead to `Q`; from there the rest runs within the smaller limit too.
  counted_from : (all : List Step) → Counted others r P all → (ys : List Step) (Q : Problem) → Reached r P ys Q → (xs : List Step) → ys ++ xs ≡ all
      → (deeds : List Deed) (last : State) → run r (length ys) Q xs ≡ accepted deeds last → run narrow (length ys) Q xs ≡ accepted deeds last
  unfolding run_by
  counted_from all h ys Q i [] q deeds last e = e
  counted_from all h ys Q i (x ∷ xs) q deeds last e =
      let f = resumes (stepped r) (length ys) Q x xs deeds last e in
      let j : Reached r P (ys ++ (x ∷ [])) f.left = next x i f.first in
      let whole : (ys ++ (x ∷ [])) ++ xs ≡ all = append_assoc ys (x ∷ []) xs ∙ q in
      let taken_so_far : take (length (ys ++ (x ∷ []))) all ≡ ys ++ (x ∷ []) =
      ap (take (length (ys ++ (x ∷ [])))) (sym whole) ∙ take-append_seam (ys ++ (x ∷ [])) xs in
      let within = h (length (ys ++ (x ∷ []))) f.left (subst (λ (l : List Step). Reached r P l f.left) (sym taken_so_far) j) in
      let rest = counted_from all h (ys ++ (x ∷ [])) f.left j xs whole f.rest last
      (ap (λ (k : ℕ). run r k f.left xs) (sym (one_more ys x)) ∙ f.goes_on) in
      resumed_accepts (stepped narrow) (length ys) Q x xs f.deed f.left f.rest last
      (narrower_step r {small = r.limit - others} (omega arith) (length ys) Q x (omega arith) f.first)
      (ap (λ (k : ℕ). run narrow k f.left xs) (one_more ys x) ∙ rest)
      ∙ ap (λ (l : List Deed). accepted l last) (sym f.whole)

  pub counted_runs : (xs : List Step) (deeds : List Deed) (last : State) → Counted others r P xs
      → run r 0 P xs ≡ accepted deeds last → run narrow 0 P xs ≡ accepted deeds last
  counted_runs xs deeds last h e = counted_from xs h [] P first xs refl deeds last e

  -- Back: the steps taken so far are taken within the smaller limit, and the rest runs on from there.
  narrow_reached : {ys : List Step} {Q : Problem} → Reached r P ys Q → (xs : List Step) → Runs narrow 0 P (ys ++ xs)
      → length P.waiting ≤ r.limit - others → (length Q.waiting ≤ r.limit - others) × Runs narrow (length ys) Q xs
  narrow_reached first xs h l = (l, h)
  narrow_reached (next {xs = ys} {P = Q} {P' = Q'} {deed = deed} x i e) xs h l =
      let t = narrow_reached i (x ∷ xs) (subst (Runs narrow 0 P) (append_assoc ys (x ∷ []) xs) h) l in
      let f = resumes (stepped narrow) (length ys) Q x xs t.1.0 t.1.1 t.1.2 in
      let same = taken_problem (sym (wider_step r {small = r.limit - others} (omega arith) (length ys) Q x f.first) ∙ e) in (
        subst (λ (U : Problem). length U.waiting ≤ r.limit - others) same (step_within narrow (length ys) Q x f.deed f.left t.0 f.first),
        (f.rest, t.1.1, ap₂ (λ (k : ℕ) (U : Problem). run narrow k U xs) (sym (one_more ys x)) (sym same) ∙ f.goes_on),
      )

  -- Steps that lead to a problem lead to it within the smaller limit, if they and some more run within it.
  pub reached_narrow : {ys : List Step} {Q : Problem} → Reached r P ys Q → (xs : List Step) → Runs narrow 0 P (ys ++ xs)
      → length P.waiting ≤ r.limit - others → Reached narrow P ys Q
  reached_narrow first xs h l = first
  reached_narrow (next {xs = ys} {P = Q} {P' = Q'} {deed = deed} x i e) xs h l =
      let k = subst (Runs narrow 0 P) (append_assoc ys (x ∷ []) xs) h in
      let t = narrow_reached i (x ∷ xs) k l in
      let f = resumes (stepped narrow) (length ys) Q x xs t.1.0 t.1.1 t.1.2 in
      let same = sym (wider_step r {small = r.limit - others} (omega arith) (length ys) Q x f.first) ∙ e in
      next x (reached_narrow i (x ∷ xs) k l) (f.first ∙ same)

  pub runs_counted : (xs : List Step) → Runs narrow 0 P xs → length P.waiting + others ≤ r.limit → Counted others r P xs
  runs_counted xs h l i Q j =
      let t = narrow_reached j (drop i xs) (subst (Runs narrow 0 P) (sym (take-append-drop i xs)) h) (omega arith) in
      omega (arith, t.0)

  -- At the start.
  pub counted_start : (xs : List Step) → Counted others r P xs → length P.waiting + others ≤ r.limit
  counted_start xs h = h 0 P first
