-- Each waiting goal takes a release of its own, and where no other step is left all of them hold. Assumes nothing.
use Prim.Native.Nat.{ℕ, suc, ◌≤◌, ◌<◌}
use native.Mathlib.Omega.{arith}
use mathlib.Core.Path.{◌≡◌, ap, ◌∙◌}
use mathlib.Core.Bool.{Bool, true}
use mathlib.Core.Logic.{⊎_elim}
use mathlib.Core.List.{List, [], ◌∷◌}
use lib.ListN.{length, length-append, length-take, length-drop}
use Rattle.hgn.specs.Lists.{all}
use Rattle.hgn.specs.Meaning.{Node, network_of}
use Rattle.hgn.specs.State.{State, formula_holds}
use Rattle.hgn.specs.Network.{Source, used, Waiting, no_goal, released, decomposed}
use Rattle.hgn.specs.Run.{Step, Move, method_at, Problem, Rules, Deed, run_by}
use Rattle.hgn.proofs.Logic.Tests.{all_true, true_all, at_of_lt}
use Rattle.hgn.proofs.Run.Steps.{Moved, by_release, by_action, by_method, took}
use Rattle.hgn.proofs.Network.Waiting.{stays}
use Rattle.hgn.proofs.Run.Runs.{ended_empty}
use Rattle.hgn.proofs.Search.Best.{Runs, runs_head}

-- A release takes one goal off, and a method takes none.
pub one_released : (w : List Waiting) (p : ℕ) → p < length w → suc (length (released w p)) ≡ length w
unfolding released
one_released w p h = simp (length-append, length-take, length-drop) (omega arith)

pub none_lost : (w : List Waiting) (p : ℕ) (o : Source) (nodes : List Node) → p < length w → length w ≤ length (decomposed w p o nodes)
unfolding decomposed
none_lost w p o nodes h = simp (length-append, length-take, length-drop) (omega arith)

module _ {r : Rules} {n : ℕ} {P : Problem} {p : ℕ} (h : p < length P.waiting) where
  -- A step takes at most one goal off.
  one_less : {m : Move} {deed : Deed} {P' : Problem} → Moved r n P p m deed P' → length P.waiting ≤ suc (length P'.waiting)
  one_less (by_release f) = omega (arith, one_released P.waiting p h)
  one_less (by_action f g) = omega arith
  one_less (by_method {m} f g b) = omega (arith, none_lost P.waiting p (used n m) (network_of (method_at r.domain m)) h)

pub waits_at_most : (r : Rules) (n : ℕ) (P : Problem) (xs : List Step) → Runs r n P xs → length P.waiting ≤ length xs
unfolding run_by
waits_at_most r n P [] h = omega (arith, ap {B = ℕ} length (ended_empty n P h.0 h.1 h.2).0)
waits_at_most r n P (x ∷ xs) h =
    let f = runs_head r n P x xs h in
    let t = took x f.0 f.1 f.2 in
    omega (arith, one_less t.inside t.by, waits_at_most r (suc n) f.1 xs f.3)

-- Every goal holds.
abbrev pub all_met : State → List Waiting → Bool
all_met s w = all (λ g. formula_holds s g.formula) w

-- With as many steps as goals each step is a release, and the state stays.
pub waits_all_hold : (r : Rules) (n : ℕ) (P : Problem) (xs : List Step) → Runs r n P xs → length xs ≡ length P.waiting
    → all_met P.state P.waiting ≡ true
unfolding run_by all
waits_all_hold r n P [] h e = ap (all_met P.state) (ended_empty n P h.0 h.1 h.2).0
waits_all_hold r n P (x ∷ xs) h e =
    let f = runs_head r n P x xs h in
    let t = took x f.0 f.1 f.2 in
    go t.inside t.by (waits_at_most r (suc n) f.1 xs f.3) (waits_all_hold r (suc n) f.1 xs f.3)
  where
    go : {p : ℕ} {m : Move} {deed : Deed} {P' : Problem} → p < length P.waiting → Moved r n P p m deed P'
        → length P'.waiting ≤ length xs → (length xs ≡ length P'.waiting → all_met P'.state P'.waiting ≡ true)
        → all_met P.state P.waiting ≡ true
    go {p} h (by_release f) l ih =
        let rest = ih (omega (arith, one_released P.waiting p h)) in
        true_all (λ g. formula_holds P.state g.formula) P.waiting λ a m.
        ⊎_elim (λ q. ap (λ (g : Waiting). formula_holds P.state g.formula) q ∙ f)
        (all_true (λ g. formula_holds P.state g.formula) (released P.waiting p) rest) (stays (at_of_lt P.waiting p no_goal h) m)
    go {p} h (by_action f k) l ih = absurd (omega arith)
    go {p} h (by_method {m} f k b) l ih = absurd (omega (arith, none_lost P.waiting p (used n m) (network_of (method_at r.domain m)) h))
