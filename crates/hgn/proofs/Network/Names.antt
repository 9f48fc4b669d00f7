-- The names in a waiting list: no two goals have one, and names and parents are of steps already taken. So of every list that a run
-- reaches from an order, whatever the order and the domain. Assumes nothing.
use Prim.Native.Nat.{ℕ, suc, ◌≤◌, ◌<◌}
use native.Mathlib.Nat.{lt_irrefl}
use native.Mathlib.Omega.{arith}
use mathlib.Core.Path.{◌≡◌, refl, sym, ap, ◌∙◌}
use mathlib.Core.Logic.{⊎_elim, ◌≢◌}
use mathlib.Core.List.Memᴰ
use mathlib.Core.List.{List, [], ◌∷◌, ◌++◌, Memᴰ}
use mathlib.Core.Option.{Option, none, some, some-injective, none-ne-some}
use lib.ListN.{length}
use Rattle.hgn.specs.Lists.{At, here, there}
use Rattle.hgn.specs.Meaning.{Node, Order, network_of}
use Rattle.hgn.specs.Network.{Origin, from_order, from_step, Name, Source, order, used, origin_of, Waiting, enter, goals_of, no_goal, released, decomposed}
use Rattle.hgn.specs.Run.{Step, Move, method_at, Problem, Rules, Deed, taken, stepped}
use Rattle.hgn.specs.Definition1.{ComesAfter}
use Rattle.hgn.proofs.Logic.Tests.{at_mem, at_of_lt}
use Rattle.hgn.proofs.Run.Steps.{Moved, took}
use Rattle.hgn.proofs.Network.Waiting.{released_mem, inserted, inserted_cases}

-- The network is the order's, or a step's below `n`.
abbrev pub Before : ℕ → Origin → Type 0
Before n o = (k : ℕ) → o ≡ from_step k → k < n

pub order≢step : {k : ℕ} → from_order ≡ from_step k → ⊥
order≢step e = let z : ◌≡◌ {A = ℕ} 0 1 = cc in omega arith

step_is : {k n : ℕ} → from_step k ≡ from_step n → k ≡ n
step_is e = cc

-- The goal came in before step `n`, and so did its parent.
pub record Fresh (n : ℕ) (q : Waiting) : Type 0 where
  pub by_name : Before n q.name.origin
  pub by_source : Before n (origin_of q.source)
  pub by_parent : (a : Name) → q.parent ≡ some a → Before n a.origin

fresh_next : {n : ℕ} {q : Waiting} → Fresh n q → Fresh (suc n) q
fresh_next f = record {
  by_name = λ k e. let z = f.by_name k e in omega arith;
  by_source = λ k e. let z = f.by_source k e in omega arith;
  by_parent = λ a e k d. let z = f.by_parent a e k d in omega arith;
}

-- No goal has the name of a later one.
abbrev pub Distinct : List Waiting → Type 0
Distinct [] = Unit {0}
Distinct (q ∷ v) = ((p : Waiting) → Memᴰ p v → p.name ≢ q.name) × Distinct v

-- What holds of the names in the list at step `n`.
pub record Named (n : ℕ) (w : List Waiting) : Type 0 where
  pub fresh : (q : Waiting) → Memᴰ q w → Fresh n q
  pub distinct : Distinct w

-- Two goals of one name are one goal.
pub same_goal : {a t : Waiting} (w : List Waiting) → Distinct w → Memᴰ a w → Memᴰ t w → a.name ≡ t.name → a ≡ t
same_goal (q ∷ v) h (Memᴰ.head d) (Memᴰ.head e) s = d ∙ sym e
same_goal {a} {t} (q ∷ v) h (Memᴰ.head d) (Memᴰ.tail n) s = absurd (h.0 t n (sym s ∙ ap (λ (x : Waiting). x.name) d))
same_goal {a} {t} (q ∷ v) h (Memᴰ.tail m) (Memᴰ.head e) s = absurd (h.0 a m (s ∙ ap (λ (x : Waiting). x.name) e))
same_goal (q ∷ v) h (Memᴰ.tail m) (Memᴰ.tail n) s = same_goal v h.1 m n s
same_goal {a = a} {t = t} [] h x4 _ s = elim x4 [ ]

-- A network's nodes as they enter.

pub record Entered (o : Source) (parent : Option Name) (i : ℕ) (q : Waiting) : Type 0 where
  pub its_origin : q.name.origin ≡ origin_of o
  pub its_source : q.source ≡ o
  pub its_parent : q.parent ≡ parent
  pub its_number : i ≤ q.name.number

-- Of a node that enters: its network, its parent, and a number from `i` on.
pub entered : {o : Source} {parent : Option Name} {i : ℕ} {q : Waiting} (ns : List Node) → Memᴰ q (enter o parent i ns) → Entered o parent i q
unfolding enter
entered [] m = absurd (Memᴰ.not-nil m)
entered {o} {parent} {i} {q} (n ∷ ns) m = ⊎_elim now (λ k. later (entered {i = suc i} ns k)) (Memᴰ.cases_cons m)
  where
    now : q ≡ record { name = record { origin = origin_of o; number = i }; source = o; parent = parent; after = n.after; formula = n.formula } → Entered o parent i q
    now e = record {
      its_origin = ap (λ (x : Waiting). x.name.origin) e;
      its_source = ap (λ (x : Waiting). x.source) e;
      its_parent = ap (λ (x : Waiting). x.parent) e;
      its_number = let z : q.name.number ≡ i = ap (λ (x : Waiting). x.name.number) e in omega arith;
    }

    later : Entered o parent (suc i) q → Entered o parent i q
    later r = record { its_origin = r.its_origin; its_source = r.its_source; its_parent = r.its_parent; its_number = let z = r.its_number in omega arith }

entered_distinct : (o : Source) (parent : Option Name) (i : ℕ) (ns : List Node) → Distinct (enter o parent i ns)
unfolding enter
entered_distinct o parent i [] = tt
entered_distinct o parent i (n ∷ ns) = (other_name, entered_distinct o parent (suc i) ns)
  where
    other_name : (p : Waiting) → Memᴰ p (enter o parent (suc i) ns) → p.name ≢ record { origin = origin_of o; number = i }
    other_name p m e =
        let a = (entered {i = suc i} ns m).its_number in
        let b : p.name.number ≡ i = ap (λ (x : Name). x.number) e in
        omega arith

-- The order's goals at the start.
pub named_goals : (o : Order) → Named 0 (goals_of o)
unfolding goals_of
named_goals o = record {
  fresh = λ q m. let r = entered {i = 0} o.goals m in record {
    by_name = λ k e. absurd (order≢step (sym r.its_origin ∙ e));
    by_source = λ k e. absurd (order≢step (sym (ap origin_of r.its_source) ∙ e));
    by_parent = λ a e. absurd (none-ne-some a (sym r.its_parent ∙ e));
  };
  distinct = entered_distinct order none 0 o.goals;
}

-- No goal that stays has the name of the one that leaves.
pub released_other : {w : List Waiting} {p : ℕ} {a t : Waiting} → At w p t → Distinct w → Memᴰ a (released w p) → a.name ≢ t.name
unfolding released
released_other {a} here h m = h.0 a m
released_other {a} {t} (there k) h m =
    ⊎_elim (λ e s. h.0 t (at_mem k) (sym s ∙ ap (λ (x : Waiting). x.name) e)) (λ n. released_other k h.1 n) (Memᴰ.cases_cons m)

released_distinct : {w : List Waiting} {p : ℕ} {t : Waiting} → At w p t → Distinct w → Distinct (released w p)
unfolding released
released_distinct here h = h.1
released_distinct (there k) h = ((λ q m. h.0 q (released_mem k m)), released_distinct k h.1)

append_distinct : (u v : List Waiting) → Distinct u → Distinct v
    → ((q p : Waiting) → Memᴰ q u → Memᴰ p v → p.name ≢ q.name) → Distinct (u ++ v)
append_distinct [] v f g h = g
append_distinct (q ∷ u) v f g h = (
  (λ p m. ⊎_elim (f.0 p) (λ k. h q p (Memᴰ.head refl) k) (Memᴰ.append_cases u m)),
  append_distinct u v f.1 g (λ q p m n. h q p (Memᴰ.tail m) n),
)

inserted_distinct : (new : List Waiting) {w : List Waiting} {p : ℕ} {t : Waiting} → At w p t → Distinct w → Distinct new
    → ((q e : Waiting) → Memᴰ q w → Memᴰ e new → e.name ≢ q.name) → Distinct (inserted w p new)
inserted_distinct new {w} here f g h = append_distinct new w g f (λ e q m n s. h q e n m (sym s))
inserted_distinct new (there {y = y} k) f g h = (
  (λ e m. ⊎_elim (f.0 e) (λ j. h y e (Memᴰ.head refl) j) (inserted_cases new k m)),
  inserted_distinct new k f.1 g (λ q e m n. h q e (Memᴰ.tail m) n),
)

-- How a goal `e` that enters at a goal named `at` stands to a goal `q` that waits.
pub record Stranger (at : Name) (q e : Waiting) : Type 0 where
  pub other : e.name ≢ q.name
  pub not_after : ¬ ComesAfter e q
  pub before_parent : ComesAfter q e → q.name ≡ at

-- The names and parents that wait are of earlier steps, so new nodes are listed before no waiting goal but the one they enter at.
pub strangers : {n : ℕ} {w : List Waiting} {at : Name} (m : ℕ) (nodes : List Node) → Named n w → (q e : Waiting) → Memᴰ q w
    → Memᴰ e (enter (used n m) (some at) 0 nodes) → Stranger at q e
strangers {n} {at = at} i nodes h q e k j = record {
  other = λ s. old (sym (ap (λ (x : Name). x.origin) s) ∙ r.its_origin);
  not_after = not_after;
  before_parent = before_parent;
}
  where
    r : Entered (used n i) (some at) 0 e
    r = entered nodes j

    old : q.name.origin ≢ from_step n
    old s = lt_irrefl n ((h.fresh q k).by_name n s)

    not_after : ¬ ComesAfter e q
    not_after (ComesAfter.by_row s l) = old (s ∙ r.its_origin)
    not_after (ComesAfter.by_method s) = lt_irrefl n ((h.fresh q k).by_parent e.name s n r.its_origin)

    before_parent : ComesAfter q e → q.name ≡ at
    before_parent (ComesAfter.by_row s l) = absurd (old (sym s ∙ r.its_origin))
    before_parent (ComesAfter.by_method s) = some-injective _ _ (sym s ∙ r.its_parent)

-- Nor is the goal they enter at one of them.
pub parent_outside : {n : ℕ} {w : List Waiting} → Named n w → {t : Waiting} → Memᴰ t w → (a : Name) → ◌≡◌ {A = Option Name} (some t.name) (some a) → a.origin ≢ from_step n
parent_outside h {t} m a e s = lt_irrefl _ ((h.fresh t m).by_name _ (ap (λ (x : Name). x.origin) (some-injective _ _ e) ∙ s))

-- A release, a method and so every step that is taken keep the names so.
release_named : {n : ℕ} {w : List Waiting} {p : ℕ} {t : Waiting} → Named n w → At w p t → Named (suc n) (released w p)
release_named h k = record {
  fresh = λ q m. fresh_next (h.fresh q (released_mem k m));
  distinct = released_distinct k h.distinct;
}

method_named : {n : ℕ} {w : List Waiting} {p : ℕ} {t : Waiting} (i : ℕ) (nodes : List Node) → Named n w → At w p t
    → Named (suc n) (inserted w p (enter (used n i) (some t.name) 0 nodes))
method_named {n} {w} {p} {t} i nodes h k = record {
  fresh = λ q m. ⊎_elim (λ j. fresh_next (h.fresh q j)) (λ j. new q (entered nodes j)) (inserted_cases _ k m);
  distinct =
      inserted_distinct (enter (used n i) (some t.name) 0 nodes) k h.distinct (entered_distinct (used n i) (some t.name) 0 nodes)
      (λ q e m j. (strangers {at = t.name} i nodes h q e m j).other);
}
  where
    new : (q : Waiting) → Entered (used n i) (some t.name) 0 q → Fresh (suc n) q
    new q r = record {
      by_name = λ j e. let z = step_is (sym r.its_origin ∙ e) in omega arith;
      by_source = λ j e. let z = step_is (sym (ap origin_of r.its_source) ∙ e) in omega arith;
      by_parent = λ a e j s. let z = (h.fresh t (at_mem k)).by_name j (ap (λ (x : Name). x.origin) (some-injective _ _ (sym r.its_parent ∙ e)) ∙ s) in omega arith;
    }

pub moved_named : {r : Rules} {n p : ℕ} {P P' : Problem} {deed : Deed} {m : Move}
    → p < length P.waiting → Moved r n P p m deed P' → Named n P.waiting → Named (suc n) P'.waiting
unfolding decomposed
moved_named {p = p} {P = P} i (Moved.by_release a) h = release_named h (at_of_lt P.waiting p no_goal i)
moved_named i (Moved.by_action a b) h = record { fresh = λ q m. fresh_next (h.fresh q m); distinct = h.distinct }
moved_named {r = r} {p = p} {P = P} i (Moved.by_method {m = m} a b c) h =
    method_named m (network_of (method_at r.domain m)) h (at_of_lt P.waiting p no_goal i)

pub named_next : (r : Rules) (n : ℕ) (P : Problem) (x : Step) (deed : Deed) (P' : Problem)
    → Named n P.waiting → stepped r n P x ≡ taken deed P' → Named (suc n) P'.waiting
named_next r n P x deed P' h e = let t = took x deed P' e in moved_named t.inside t.by h
