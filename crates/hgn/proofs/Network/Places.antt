-- The places of the waiting list when nodes enter and goals leave. Assumes nothing.
use Prim.Native.Nat.{ℕ, zero, suc, ◌+◌, ◌≤◌, ◌<◌}
use native.Mathlib.Omega.{arith}
use native.Mathlib.Nat.{add-zero, zero-add, le_of_suc-le-suc}
use mathlib.Core.Path.{◌≡◌, sym, subst}
use mathlib.Core.List.{List, [], ◌∷◌, ◌++◌}
use mathlib.Core.Option.{Option, none, some}
use lib.ListN.{length, take, drop}
use Rattle.hgn.specs.Lists.{At, here, there}
use Rattle.hgn.specs.Meaning.{Node}
use Rattle.hgn.specs.Network.{Name, Source, order, origin_of, Waiting, enter, goals_of, no_goal, goal_at, released, decomposed}
use Rattle.hgn.specs.Readings.{PlacesAre01s}
use Rattle.hgn.proofs.Logic.Tests.{at_get_or}
use Rattle.hgn.proofs.Network.Waiting.{length_enter, goals_length}

-- What a node becomes in the list, under this number.
abbrev entered : Source → Option Name → Node → ℕ → Waiting
entered o parent n number = record { name = record { origin = origin_of o; number = number }; source = o; parent = parent; after = n.after; formula = n.formula }

listed : (o : Source) (parent : Option Name) (i : ℕ) (nodes : List Node) (k : ℕ) (n : Node) → At nodes k n
    → At (enter o parent i nodes) k (entered o parent n (i + k))
unfolding enter
listed o parent i (n ∷ ns) zero _ here = subst (λ (j : ℕ). At (enter o parent i (n ∷ ns)) zero (entered o parent n j)) (sym (add-zero i)) here
listed o parent i (m ∷ ns) (suc k) n (there h) =
    let e : suc i + k ≡ i + suc k = omega arith in
    there (subst (λ (j : ℕ). At (enter o parent (suc i) ns) k (entered o parent n j)) e (listed o parent (suc i) ns k n h))
listed o parent i [] k n x' = elim x' [ ]

pub at_behind : {A : Type 0} (xs : List A) {ys : List A} {i : ℕ} {a : A} → At ys i a → At (xs ++ ys) (length xs + i) a
at_behind [] {ys} {i} {a} h = subst (λ (k : ℕ). At ys k a) (sym (zero-add i)) h
at_behind (x ∷ xs) {ys} {i} {a} h = subst (λ (k : ℕ). At (x ∷ (xs ++ ys)) k a) (omega arith) (there (at_behind xs h))

released_before : (w : List Waiting) (p i : ℕ) (a : Waiting) → i < p → At w i a → At (released w p) i a
unfolding released
released_before (x ∷ w) (suc p) zero _ l here = here
released_before (x ∷ w) (suc p) (suc i) a l (there h) = there (released_before w p i a (le_of_suc-le-suc l) h)
released_before [] p i a l x'' = elim x'' [ ]
released_before (x ∷ w) zero i a l _ = elim l [ ]

released_behind : (w : List Waiting) (p i : ℕ) (a : Waiting) → p ≤ i → At w (suc i) a → At (released w p) i a
unfolding released
released_behind (x ∷ w) zero i a l (there h) = h
released_behind (x ∷ w) (suc p) (suc i) a l (there h) = there (released_behind w p i a (le_of_suc-le-suc l) h)
released_behind [] p i a l x'' = elim x'' [ ]
released_behind (x ∷ w) (suc p) zero a l _ = elim l [ ]

-- What stands before, between and behind where `new` enters.
before : (w new : List Waiting) (p i : ℕ) (a : Waiting) → i < p → At w i a → At (take p w ++ (new ++ drop p w)) i a
before (x ∷ w) new (suc p) zero _ l here = here
before (x ∷ w) new (suc p) (suc i) a l (there h) = there (before w new p i a (le_of_suc-le-suc l) h)
before [] new p i a l x'' = elim x'' [ ]
before (x ∷ w) new zero i a l _ = elim l [ ]

pub at_front : {A : Type 0} {xs : List A} (ys : List A) {i : ℕ} {a : A} → At xs i a → At (xs ++ ys) i a
at_front ys here = here
at_front ys (there h) = there (at_front ys h)

between : (w new : List Waiting) (p k : ℕ) (t a : Waiting) → At w p t → At new k a → At (take p w ++ (new ++ drop p w)) (p + k) a
between w new zero k t a h b = subst (λ (j : ℕ). At (new ++ w) j a) (sym (zero-add k)) (at_front w b)
between (x ∷ w) new (suc p) k t a (there h) b =
    subst (λ (j : ℕ). At (x ∷ (take p w ++ (new ++ drop p w))) j a) (omega arith) (there (between w new p k t a h b))
between [] new (suc p) k t a h b = elim h [ ]

behind : (w new : List Waiting) (p i : ℕ) (a : Waiting) → p ≤ i → At w i a → At (take p w ++ (new ++ drop p w)) (length new + i) a
behind w new zero i a l h = at_behind new h
behind (x ∷ w) new (suc p) (suc i) a l (there h) =
    subst (λ (k : ℕ). At (x ∷ (take p w ++ (new ++ drop p w))) k a) (omega arith) (there (behind w new p i a (le_of_suc-le-suc l) h))
behind [] new (suc p) i a l h = elim h [ ]
behind (x ∷ w) new (suc p) zero a l h = elim l [ ]

-- The node at place `k` of a network, in the list under its own number.
at_first : (o : Source) (parent : Option Name) (nodes : List Node) (k : ℕ) (n : Node) → At nodes k n
    → At (enter o parent 0 nodes) k (entered o parent n k)
at_first o parent nodes k n h =
    subst (λ (j : ℕ). At (enter o parent 0 nodes) k (entered o parent n j)) (zero-add k) (listed o parent 0 nodes k n h)

pub places_are_01s : PlacesAre01s
unfolding decomposed goals_of
places_are_01s = record {
  goals_as_listed = λ o k n h. at_first order none o.goals k n h;
  goals_alone = goals_length;
  nodes_as_listed = at_first;
  release_before = released_before;
  release_behind = released_behind;
  method_before = λ w p i o nodes a h k. before w (enter o (some (goal_at w p).name) 0 nodes) p i a h k;
  method_between = λ w p k o nodes t n h b.
      subst (λ (g : Waiting). At (decomposed w p o nodes) (p + k) (entered o (some g.name) n k)) (at_get_or no_goal h)
      (between w (enter o (some (goal_at w p).name) 0 nodes) p k t _ h (at_first o (some (goal_at w p).name) nodes k n b));
  method_behind = λ w p i o nodes a h k.
      subst (λ (j : ℕ). At (decomposed w p o nodes) (j + i) a) (length_enter o (some (goal_at w p).name) 0 nodes)
      (behind w (enter o (some (goal_at w p).name) 0 nodes) p i a h k);
}
