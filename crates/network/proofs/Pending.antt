-- How often a goal is listed after waiting goals: never where it is free, less often when one of them leaves, more when nodes enter.
-- Assumes nothing.
use Prim.Native.Nat.{ℕ, zero, suc, ◌+◌, ◌<◌, ◌≤◌}
use native.Mathlib.Nat.{lt_irrefl}
use native.Mathlib.Omega.{arith}
use mathlib.Core.Path.{◌≡◌, refl, sym, ap, ap₂, subst, ◌∙◌}
use mathlib.Core.Bool.{Bool, true, false, cond, not, ◌&&◌, ◌||◌}
use mathlib.Core.Logic.{◌≢◌, ⊎_elim}
use mathlib.Core.List.Memᴰ
use mathlib.Core.List.{List, [], ◌∷◌, ◌++◌, Memᴰ}
use mathlib.Core.Option.{Option, some}
use lib.Dec.{eqb}
use lib.ListN.{length, take, drop, take-append-drop}
use lib.Seq.{split_at}
use borrow.Author.Tests.{eqb-true, eqb-false, ne_eqb}
use Rattle.hgn.specs.Lists.{any, elem}
use Rattle.hgn.specs.Meaning.{Node}
use Rattle.hgn.specs.Network.{from_step, Name, Source, used, origin_of, Waiting, same_origin, is_parent, comes_after, free, enter, goal_at, no_goal, released}
use Rattle.hgn.specs.Definition1.{ComesAfter}
use Rattle.hgn.proofs.Logic.Tests.{not_true_false, comes_after_iff, eq_same_origin, same_origin_true, is_parent_iff}
use Rattle.hgn.proofs.Sheets.Checked.{Numbered}
use Rattle.hgn.proofs.Network.Names.{Named, entered, strangers, parent_outside}
use Rattle.network.specs.Pending.{occurrences, times_listed, pending}

-- A number stands in a list exactly when it is found there some times.
none_elem : (n : ℕ) (ks : List ℕ) → eqb (occurrences n ks) 0 ≡ not (elem n ks)
unfolding occurrences elem any
none_elem n [] = refl
none_elem n (k ∷ ks) = go (eqb n k) (none_elem n ks)
  where
    go : (b : Bool) → eqb (occurrences n ks) 0 ≡ not (elem n ks) → eqb (cond b (suc (occurrences n ks)) (occurrences n ks)) 0 ≡ not (b || elem n ks)
    go true e = ne_eqb (suc (occurrences n ks)) 0 (λ z. omega arith)
    go false e = e

-- A goal is listed after another some times exactly when it comes after it.
pub none_listed : (q p : Waiting) → eqb (times_listed q p) 0 ≡ not (comes_after q p)
unfolding times_listed comes_after
none_listed q p = go (same_origin q.name.origin p.name.origin) (is_parent q.name p.parent) (elem p.name.number q.after)
    (occurrences p.name.number q.after) (none_elem p.name.number q.after)
  where
    go : (same parent stands : Bool) (n : ℕ) → eqb n 0 ≡ not stands
        → eqb (cond (eqb (cond same n 0) 0) (cond parent 1 0) (cond same n 0)) 0 ≡ not (same && stands || parent)
    go true true true n e = rw e e
    go true false true n e = rw e e
    go true true false n e = rw e
    go true false false n e = rw e
    go false true stands n e = refl
    go false false stands n e = refl

pub listed_none : (q p : Waiting) → ¬ ComesAfter q p → times_listed q p ≡ 0
listed_none q p h = eqb-true (times_listed q p) 0 (none_listed q p ∙ ap not (not_true_false (comes_after q p) (λ e. h ((comes_after_iff q p).0 e))))

sum_zero : (a b : ℕ) → eqb (a + b) 0 ≡ (eqb a 0 && eqb b 0)
sum_zero zero b = let e : 0 + b ≡ b = omega arith in rw e
sum_zero (suc a) b = ne_eqb (suc a + b) 0 (λ e. omega arith) ∙ rw (ne_eqb (suc a) 0 (λ e. omega arith))

not_or : (a b : Bool) → (not a && not b) ≡ not (a || b)
not_or true b = refl
not_or false b = refl

-- Document 01: a waiting goal is free if no goal it comes after still waits.
pub none_pending : (w : List Waiting) (q : Waiting) → eqb (pending w q) 0 ≡ free w q
unfolding pending free any
none_pending [] q = refl
none_pending (p ∷ w) q =
    sum_zero (times_listed q p) (pending w q)
    ∙ ap₂ {C = Bool} (λ a b. a && b) (none_listed q p) (none_pending w q)
    ∙ not_or (comes_after q p) (any (comes_after q) w)

module _ (q : Waiting) where
  pub pending_append : (u v : List Waiting) → pending (u ++ v) q ≡ pending u q + pending v q
  unfolding pending
  pending_append [] v = omega arith
  pending_append (p ∷ u) v = omega (arith, pending_append u v)

  pub pending_none : (w : List Waiting) → ((p : Waiting) → Memᴰ p w → ¬ ComesAfter q p) → pending w q ≡ 0
  unfolding pending
  pending_none [] h = refl
  pending_none (p ∷ w) h = omega (arith, listed_none q p (h p (Memᴰ.head refl)), pending_none w (λ x m. h x (Memᴰ.tail m)))

  -- What is counted of the goal at a place, and of the others.
  pub pending_released : (w : List Waiting) (p : ℕ) → p < length w → pending w q ≡ pending (released w p) q + times_listed q (goal_at w p)
  unfolding released pending
  pending_released w p h =
      ap (λ (l : List Waiting). pending l q) (split_at w p no_goal h)
      ∙ pending_append (take p w) (goal_at w p ∷ drop (suc p) w)
      ∙ omega (arith, pending_append (take p w) (drop (suc p) w))

  -- Nodes that enter add what is counted of them.
  pub pending_inserted : (w new : List Waiting) (p : ℕ) → pending (take p w ++ (new ++ drop p w)) q ≡ pending w q + pending new q
  pending_inserted w new p =
      pending_append (take p w) (new ++ drop p w)
      ∙ omega (arith, pending_append new (drop p w), sym (pending_append (take p w) (drop p w)), ap (λ (l : List Waiting). pending l q) (take-append-drop p w))

-- The numbers from `i` on, `n` of them: how often all of them stand in a list.
unfoldable found : ℕ → ℕ → List ℕ → ℕ
found i zero ks = 0
found i (suc n) ks = occurrences i ks + found (suc i) n ks

found_nil : (i n : ℕ) → found i n [] ≡ 0
unfolding occurrences found
found_nil i zero = refl
found_nil i (suc n) = omega (arith, found_nil (suc i) n)

-- One number more that is below them, or among them.
found_below : (i n k : ℕ) (ks : List ℕ) → k < i → found i n (k ∷ ks) ≡ found i n ks
unfolding occurrences found
found_below i zero k ks h = refl
found_below i (suc n) k ks h = let e = found_below (suc i) n k ks (omega arith) in rw (ne_eqb i k (λ e. omega arith), e)

found_one : (i n k : ℕ) (ks : List ℕ) → i ≤ k → k < i + n → found i n (k ∷ ks) ≡ suc (found i n ks)
unfolding occurrences found
found_one i zero k ks a b = absurd (omega arith)
found_one i (suc n) k ks a b = go (eqb i k) refl (found_one (suc i) n k ks)
  where
    go : (t : Bool) → eqb i k ≡ t → (suc i ≤ k → k < suc i + n → found (suc i) n (k ∷ ks) ≡ suc (found (suc i) n ks))
        → cond t (suc (occurrences i ks)) (occurrences i ks) + found (suc i) n (k ∷ ks) ≡ suc (occurrences i ks + found (suc i) n ks)
    go true e r = let d = eqb-true i k e in omega (arith, found_below (suc i) n k ks (omega arith))
    go false e r = let d = eqb-false i k e in omega (arith, r (omega (arith, d)) (omega arith))

found_all : (n : ℕ) (ks : List ℕ) → ((k : ℕ) → Memᴰ k ks → k < n) → found 0 n ks ≡ length ks
found_all n [] h = found_nil 0 n
found_all n (k ∷ ks) h =
    found_one 0 n k ks (omega arith) (let z = h k (Memᴰ.head refl) in omega arith)
    ∙ ap suc (found_all n ks (λ x m. h x (Memᴰ.tail m)))

-- Of nodes that enter, what a goal of their network counts, and what the goal counts at which they enter.
module _ (q : Waiting) (o : Source) (parent : Option Name) where
  -- Node `i` as it enters.
  abbrev node : ℕ → Node → Waiting
  node i n = record { name = record { origin = origin_of o; number = i }; source = o; parent = parent; after = n.after; formula = n.formula }

  of_network : (p : Waiting) → same_origin q.name.origin p.name.origin ≡ true → is_parent q.name p.parent ≡ false
      → times_listed q p ≡ occurrences p.name.number q.after
  unfolding times_listed
  of_network p e f = rw (e, f) (go (eqb (occurrences p.name.number q.after) 0) refl)
    where
      go : (b : Bool) → eqb (occurrences p.name.number q.after) 0 ≡ b → cond b 0 (occurrences p.name.number q.after) ≡ occurrences p.name.number q.after
      go true z = sym (eqb-true (occurrences p.name.number q.after) 0 z)
      go false z = refl

  of_subgoal : (p : Waiting) → same_origin q.name.origin p.name.origin ≡ false → is_parent q.name p.parent ≡ true → times_listed q p ≡ 1
  unfolding times_listed
  of_subgoal p e f = rw (e, f)

  pending_network : same_origin q.name.origin (origin_of o) ≡ true → is_parent q.name parent ≡ false → (i : ℕ) (ns : List Node)
      → pending (enter o parent i ns) q ≡ found i (length ns) q.after
  unfolding pending enter found
  pending_network e f i [] = refl
  pending_network e f i (n ∷ ns) = omega (arith, of_network (node i n) e f, pending_network e f (suc i) ns)

  pending_subgoals : same_origin q.name.origin (origin_of o) ≡ false → is_parent q.name parent ≡ true → (i : ℕ) (ns : List Node)
      → pending (enter o parent i ns) q ≡ length ns
  unfolding pending enter
  pending_subgoals e f i [] = refl
  pending_subgoals e f i (n ∷ ns) = omega (arith, of_subgoal (node i n) e f, pending_subgoals e f (suc i) ns)

-- A node that enters comes after nodes that enter with it.
node_afters : (o : Source) (parent : Option Name) (i : ℕ) (ns : List Node) → Numbered i ns → (q : Waiting) → Memᴰ q (enter o parent i ns)
    → (k : ℕ) → Memᴰ k q.after → k < i + length ns
unfolding enter
node_afters o parent i [] h q m k j = absurd (Memᴰ.not-nil m)
node_afters o parent i (n ∷ ns) h q m k j =
    ⊎_elim now (λ l. let z = node_afters o parent (suc i) ns h.1 q l k j in omega arith) (Memᴰ.cases_cons m)
  where
    now : q ≡ record { name = record { origin = origin_of o; number = i }; source = o; parent = parent; after = n.after; formula = n.formula } → k < i + length (n ∷ ns)
    now e = let z = h.0 k (subst (λ (x : Waiting). Memᴰ k x.after) e j) in omega arith

pub pending_entered : (o : Source) (parent : Option Name) (ns : List Node) → Numbered 0 ns → ((a : Name) → parent ≡ some a → a.origin ≢ origin_of o)
    → (q : Waiting) → Memᴰ q (enter o parent 0 ns) → pending (enter o parent 0 ns) q ≡ length q.after
pending_entered o parent ns h outside q m =
    let r = entered {i = 0} ns m in
    pending_network q o parent (eq_same_origin _ _ r.its_origin)
    (not_true_false (is_parent q.name parent) (λ e. outside q.name ((is_parent_iff q.name parent).0 e) r.its_origin)) 0 ns
    ∙ found_all (length ns) q.after (λ k j. let z = node_afters o parent 0 ns h q m k j in omega arith)

-- The nodes of method `i` enter at a goal `t`.
module _ {n : ℕ} {w : List Waiting} (h : Named n w) (i : ℕ) (ns : List Node) (t : Waiting) (m : Memᴰ t w) where
  abbrev new : List Waiting
  new = enter (used n i) (some t.name) 0 ns

  -- The goal comes after each of them, no other waiting goal does, and they come after no waiting goal.
  pub pending_parent : pending new t ≡ length ns
  pending_parent =
      pending_subgoals t (used n i) (some t.name)
      (not_true_false (same_origin t.name.origin (from_step n)) (λ e. lt_irrefl n ((h.fresh t m).by_name n (same_origin_true _ _ e))))
      ((is_parent_iff t.name (some t.name)).1 refl) 0 ns

  pub pending_other : (q : Waiting) → Memᴰ q w → q.name ≢ t.name → pending new q ≡ 0
  pending_other q k d = pending_none q new (λ e j l. d ((strangers i ns h q e k j).before_parent l))

  pub pending_waiting : (e : Waiting) → Memᴰ e new → pending w e ≡ 0
  pending_waiting e j = pending_none e w (λ q k. (strangers i ns h q e k j).not_after)

  pub pending_new : Numbered 0 ns → (e : Waiting) → Memᴰ e new → pending new e ≡ length e.after
  pending_new c e j = pending_entered (used n i) (some t.name) ns c (parent_outside h m) e j
