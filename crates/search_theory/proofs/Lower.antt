-- On the first of the shortest traces each action stands at the lowest place where a goal is free and the action may be taken for it.
-- Assumes nothing.
use Prim.Native.Nat.{ℕ, zero, suc, ◌<◌}
use native.Mathlib.Omega.{arith}
use mathlib.Core.Path.{◌≡◌, refl, sym, ap, ◌∙◌, subst}
use mathlib.Core.Bool.{false}
use mathlib.Core.List.{List, [], ◌∷◌}
use lib.ListN.{take}
use Rattle.hgn.specs.Lists.{At, here, there}
use Rattle.hgn.specs.State.{γ}
use Rattle.hgn.specs.Network.{Waiting, free, goal_at, no_goal}
use Rattle.hgn.specs.Run.{Step, Move, move_of, action_at, Problem, Rules, Deed}
use Rattle.hgn.specs.Run as Run
use Rattle.hgn.specs.Trace.{step}
use Rattle.hgn.specs.Search.{lower_place}
use Rattle.hgn.proofs.Logic.Tests.{and_true, not_true_false, any_true, mem_at, at_lt, at_get_or}
use Rattle.hgn.proofs.Run.Steps.{Moved, by_release, by_action, by_method, took, takes}
use Rattle.hgn.proofs.Search.Best.{Runs, Best, runs_head, runs_cons}
use Rattle.search_theory.specs.Rules.{lower_too}

-- A goal before place `p` stands at a lower place.
take_at : {A : Type 0} (p : ℕ) (xs : List A) {q : ℕ} {x : A} → At (take p xs) q x → (q < p) × At xs q x
take_at zero xs a = elim a [ ]
take_at (suc p) [] a = elim a [ ]
take_at (suc p) (x ∷ xs) here = (omega arith, here)
take_at (suc p) (x ∷ xs) (there a) = let r = take_at p xs a in (omega (arith, r.0), there r.1)

-- An action does not change the list, so at the lower place it leads to the same moment, and that trace comes earlier.
pub lower_best : (r : Rules) (n : ℕ) (P : Problem) (x : Step) (xs : List Step) → Best r n P (x ∷ xs)
    → lower_too r P.waiting x.place (move_of r.domain x.move) ≡ false
unfolding lower_too
lower_best r n P x xs b =
    let f = runs_head r n P x xs b.runs in
    go refl (took x f.0 f.1 f.2).by f.3
  where
    go : {m : Move} {deed : Deed} {P' : Problem} → move_of r.domain x.move ≡ m → Moved r n P x.place m deed P'
        → Runs r (suc n) P' xs → lower_too r P.waiting x.place m ≡ false
    go e (by_release h) rest = refl
    go e (by_method h k l) rest = refl
    go e (by_action {k} h i) rest = not_true_false _ λ c.
        let a = any_true _ _ c in
        let m = mem_at a.1 in
        let lower = take_at x.place P.waiting m.1 in
        let both = and_true _ _ a.2 in
        let same : goal_at P.waiting m.0 ≡ a.0 = at_get_or no_goal lower.1 in
        let after : Problem = record { state = γ P.state (action_at r.domain k).effects; waiting = P.waiting } in
        let first = takes (step x.move m.0) (Run.takes k) after (record {
          inside = at_lt lower.1;
          is_free = ap (free P.waiting) same ∙ both.1;
          by =
              subst (λ (j : Move). Moved r n P m.0 j (Run.takes k) after) (sym e)
              (by_action h (ap (λ (g : Waiting). r.may_act (action_at r.domain k) g.formula) same ∙ both.0));
        }) in
        b.earliest (step x.move m.0 ∷ xs) (runs_cons r n P _ xs first rest) refl (lower_place lower.0)
