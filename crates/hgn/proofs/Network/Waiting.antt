-- Waiting lists when goals leave and enter: lengths and members. Assumes nothing.
use Prim.Native.Nat.{ℕ, suc, ◌<◌, ◌≤◌}
use native.Mathlib.Omega.{arith}
use mathlib.Core.Path.{◌≡◌, refl, ap}
use mathlib.Core.Logic.{◌⊎◌, inl, inr, ⊎_elim}
use mathlib.Core.List.Memᴰ
use mathlib.Core.List.{List, [], ◌∷◌, ◌++◌, Memᴰ}
use mathlib.Core.Option.{Option, none}
use lib.ListN.{length, take, drop, length-append, length-take, length-drop}
use Rattle.hgn.specs.Lists.{At, here, there}
use Rattle.hgn.specs.Meaning.{Node, Order}
use Rattle.hgn.specs.Network.{Name, Source, order, Waiting, enter, goals_of, no_goal, goal_at, released}
use Rattle.hgn.proofs.Logic.Tests.{at_mem, at_of_lt}

pub length_enter : (o : Source) (parent : Option Name) (i : ℕ) (nodes : List Node) → length (enter o parent i nodes) ≡ length nodes
unfolding enter
length_enter o parent i [] = refl
length_enter o parent i (n ∷ ns) = ap suc (length_enter o parent (suc i) ns)

pub goals_length : (o : Order) → length (goals_of o) ≡ length o.goals
unfolding goals_of
goals_length o = length_enter order none 0 o.goals

-- The goal at a place of the list waits.
pub goal_mem : (w : List Waiting) (p : ℕ) → p < length w → Memᴰ (goal_at w p) w
goal_mem w p h = at_mem (at_of_lt w p no_goal h)

pub length_released : (w : List Waiting) (p : ℕ) → length (released w p) ≤ length w
unfolding released
length_released w p = simp (length-append, length-take, length-drop) (omega arith)

-- Goal release: the goal at place `p` leaves.

-- A goal that stays was waiting.
pub released_mem : {w : List Waiting} {p : ℕ} {a t : Waiting} → At w p t → Memᴰ a (released w p) → Memᴰ a w
unfolding released
released_mem here m = Memᴰ.tail m
released_mem (there h) m = ⊎_elim (λ e. Memᴰ.head e) (λ k. Memᴰ.tail (released_mem h k)) (Memᴰ.cases_cons m)

-- Every other goal stays.
pub stays : {w : List Waiting} {p : ℕ} {a t : Waiting} → At w p t → Memᴰ a w → (a ≡ t) ⊎ Memᴰ a (released w p)
unfolding released
stays here m = Memᴰ.cases_cons m
stays (there h) (Memᴰ.head e) = inr (Memᴰ.head e)
stays (there h) (Memᴰ.tail m) = ⊎_elim (λ e. inl e) (λ k. inr (Memᴰ.tail k)) (stays h m)

-- Method application: goals enter before place `p`.

abbrev pub inserted : List Waiting → ℕ → List Waiting → List Waiting
inserted w p new = take p w ++ (new ++ drop p w)

-- Those waiting afterwards are those that waited and the new ones.
pub inserted_cases : {w : List Waiting} {p : ℕ} {a t : Waiting} (new : List Waiting) → At w p t → Memᴰ a (inserted w p new) → Memᴰ a w ⊎ Memᴰ a new
inserted_cases new here m = ⊎_elim (λ k. inr k) (λ k. inl k) (Memᴰ.append_cases new m)
inserted_cases new (there h) m =
    ⊎_elim (λ e. inl (Memᴰ.head e)) (λ k. ⊎_elim (λ j. inl (Memᴰ.tail j)) (λ j. inr j) (inserted_cases new h k)) (Memᴰ.cases_cons m)

pub inserted_old : {w : List Waiting} {p : ℕ} {a t : Waiting} (new : List Waiting) → At w p t → Memᴰ a w → Memᴰ a (inserted w p new)
inserted_old new here m = Memᴰ.append_right new m
inserted_old new (there h) (Memᴰ.head e) = Memᴰ.head e
inserted_old new (there h) (Memᴰ.tail m) = Memᴰ.tail (inserted_old new h m)

pub inserted_new : {a : Waiting} {new : List Waiting} (w : List Waiting) (p : ℕ) → Memᴰ a new → Memᴰ a (inserted w p new)
inserted_new w p m = Memᴰ.append_right (take p w) (Memᴰ.append_left (drop p w) m)
