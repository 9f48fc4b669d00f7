-- The parent of a goal that a method brought in waits behind it, one goal above it fewer. Assumes nothing.
use Prim.Native.Nat.{ℕ, zero, suc, ◌+◌, ◌≤◌}
use native.Mathlib.Omega.{arith}
use native.Mathlib.Nat.{zero-add}
use mathlib.Core.Path.{◌≡◌, sym, ap, ◌∙◌, subst}
use mathlib.Core.List.{List, [], ◌∷◌, Memᴰ}
use lib.ListN.{length, drop}
use Rattle.hgn.specs.Lists.{At, here, there}
use Rattle.hgn.specs.Meaning.{Order}
use Rattle.hgn.specs.State.{State}
use Rattle.hgn.specs.Network.{order, used, Waiting, above_from, goals_above}
use Rattle.hgn.specs.Run.{Step, Problem, problem_from, Rules}
use Rattle.hgn.specs.Order as Sheet
use Rattle.hgn.specs.Readings.{Reached, first, next}
use Rattle.hgn.specs.Demands.{ParentWaits, ParentsWait}
use Rattle.hgn.proofs.Logic.Tests.{mem_at}
use Rattle.hgn.proofs.Run.Limits.{step_within}
use Rattle.hgn.proofs.Network.Waiting.{goals_length}
use Rattle.hgn.proofs.Network.Reached.{one_more}
use Rattle.hgn.proofs.Network.Rooted.{RootedGoal, of_order_law, brought, Rooted}
use Rattle.hgn.proofs.Network.Above.{above_none, above_at, above_below}
use Rattle.hgn.proofs.Sheets.Checked.{order_goals}
use Rattle.hgn.proofs.Listing.Trees.{Any, Tree, reached_tree}
use Rattle.hgn.proofs.Listing.Origins.{order≢used}

reached_within : {r : Rules} {s : State} (o : Order) {xs : List Step} {P : Problem} → length o.goals ≤ r.limit → Reached r (problem_from s o) xs P
    → length P.waiting ≤ r.limit
reached_within o h first = omega (arith, goals_length o)
reached_within {r} o h (next {xs = xs} {P = P} {P' = P'} {deed = deed} x i e) = step_within r (length xs) P x deed P' (reached_within o h i) e

-- A goal with those behind it.
rooted_at : {w : List Waiting} {i : ℕ} {q : Waiting} → Rooted Any w → At w i q → RootedGoal Any q (drop (suc i) w)
rooted_at {w = []} h a = elim a [ ]
rooted_at {w = q ∷ w} (f, u) here = f
rooted_at {w = q ∷ w} (f, u) (there a) = rooted_at u a

at_drop : (w : List Waiting) (i : ℕ) {j : ℕ} {p : Waiting} → At (drop i w) j p → At w (i + j) p
at_drop w zero {j} {p} a = subst (λ (k : ℕ). At w k p) (sym (zero-add j)) a
at_drop [] (suc i) a = elim a [ ]
at_drop (q ∷ w) (suc i) {j} {p} a = subst (λ (k : ℕ). At (q ∷ w) k p) (omega arith) (there (at_drop w i a))

module _ {n : ℕ} {w : List Waiting} (t : Tree n w) where
  pub parent_waits : (i : ℕ) (q : Waiting) → At w i q → (k m : ℕ) → q.source ≡ used k m → ParentWaits w i q
  parent_waits i q a k m e = go (rooted_at t.rooted a)
    where
      go : RootedGoal Any q (drop (suc i) w) → ParentWaits w i q
      go (of_order_law s o p h) = absurd (order≢used (sym s ∙ e))
      go (brought {r = p} s o j h) =
          let b = mem_at j in
          let c = at_drop w (suc i) b.1 in
          record {
            place = suc i + b.0;
            parent = p;
            waits = c;
            behind = omega arith;
            parent_named = h;
            one_more = ap (above_from w) h ∙ above_at Any w (suc i + b.0) p t.named.distinct t.rooted c;
          }

  none_above : (q : Waiting) → Memᴰ q w → q.source ≡ order → goals_above w q ≡ 0
  none_above q m e = go (rooted_at t.rooted (mem_at m).1)
    where
      go : RootedGoal Any q (drop (suc (mem_at m).0) w) → goals_above w q ≡ 0
      go (of_order_law s o p h) = ap (above_from w) p ∙ above_none w
      go (brought s o j h) = absurd (order≢used (sym e ∙ s))

pub parents_wait : ParentsWait
parents_wait shop sheet passes s xs P i =
    let t = reached_tree (Sheet.order sheet) i in
    record {
      of_step_law = parent_waits t;
      of_order_law = none_above t;
      few = λ q m.
          let a = mem_at m in
          let few = reached_within (Sheet.order sheet) (order_goals shop sheet passes) i in
          omega (arith, above_below Any P.waiting a.0 q t.named.distinct t.rooted a.1);
    }
