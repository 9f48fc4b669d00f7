-- On every network that a run reaches from checked sheets and their joins, 000's order is a strict partial order and 000's two
-- operations are document 01's. Assumes nothing.
use Prim.Native.Nat.{ℕ, zero, suc}
use mathlib.Core.Path.{◌≡◌, refl, sym, ap, ◌∙◌, subst}
use mathlib.Core.Logic.{◌↔◌, ◌⊎◌, inl, inr, ⊎_elim, ◌≢◌}
use mathlib.Core.List.{List, [], ◌∷◌, Memᴰ}
use mathlib.Core.Option.{some}
use Rattle.hgn.specs.Lists.{At, here, there}
use Rattle.hgn.specs.Meaning.{Node, Method, network_of}
use Rattle.hgn.specs.Network.{Waiting, used, enter, no_goal, released, decomposed}
use Rattle.hgn.specs.Definition1.{ComesAfter, Precedes, listed, through, Unconstrained}
use Rattle.hgn.specs.Readings.{NetworksAre000s, Pair, entering, Closure, one, more}
use Rattle.hgn.proofs.Logic.Tests.{at_mem, at_get_or, last_listed, free_iff_unconstrained}
use Rattle.hgn.proofs.Network.Names.{Named, Distinct, Entered, entered, same_goal, released_other, strangers, parent_outside}
use Rattle.hgn.proofs.Network.Reached.{Ordered, sound}
use Rattle.hgn.proofs.Network.Waiting.{released_mem, stays, inserted, inserted_cases, inserted_old, inserted_new}

-- A chain stays one where more goals wait.
widen : {v w : List Waiting} → ((x : Waiting) → Memᴰ x v → Memᴰ x w) → {a b : Waiting} → Precedes v a b → Precedes w a b
widen h (listed m n l) = listed (h _ m) (h _ n) l
widen h (through c e) = through (widen h c) (widen h e)

-- A chain from a goal that stays is a chain of the goals that stay, if only a goal with nothing listed before it leaves.
restrict : {v w : List Waiting} (t : Waiting) → ((x : Waiting) → Memᴰ x w → (x ≡ t) ⊎ Memᴰ x v)
    → ((x : Waiting) → Memᴰ x w → ¬ ComesAfter t x) → {a b : Waiting} → Precedes w a b → Memᴰ a v → Precedes v a b × Memᴰ b v
restrict {v} t stay none (listed {p = a} {q = b} m n l) k =
    let j : Memᴰ b v = ⊎_elim (λ e. absurd (none a m (subst (λ (x : Waiting). ComesAfter x a) e l))) (λ i. i) (stay b n) in
    (listed k j l, j)
restrict t stay none (through c e) k =
    let f = restrict t stay none c k in
    let g = restrict t stay none e f.1 in
    (through f.0 g.0, g.1)

-- The first goal of a list in order has nothing before it, so a chain from a goal to itself would lie behind it.
never_round : (w : List Waiting) → Ordered w → (t : Waiting) → ¬ Precedes w t t
never_round [] h t c = mathlib.Core.List.Memᴰ.not-nil (last_listed c).1
never_round (q ∷ v) h t c = never_round v h.1 t (restrict q (λ x m. mathlib.Core.List.Memᴰ.cases_cons m) h.0 c (behind (ends c))).0
  where
    ends : {a b : Waiting} → Precedes (q ∷ v) a b → Memᴰ b (q ∷ v)
    ends (listed m n l) = n
    ends (through c e) = ends e

    behind : Memᴰ t (q ∷ v) → Memᴰ t v
    behind m = let r = last_listed c in
        ⊎_elim (λ e. absurd (h.0 r.0 r.1 (subst (λ (x : Waiting). ComesAfter x r.0) e r.2))) (λ k. k) (mathlib.Core.List.Memᴰ.cases_cons m)

-- No goal stands at two places.
one_place : {w : List Waiting} (i j : ℕ) (t : Waiting) → Distinct w → At w i t → At w j t → i ≡ j
one_place i j t h a b = go i j t t h a b refl
  where
    go : {w : List Waiting} (i j : ℕ) (t s : Waiting) → Distinct w → At w i t → At w j s → t ≡ s → i ≡ j
    go zero zero t s h here here e = refl
    go zero (suc j) t s h here (there b) e = absurd (h.0 s (at_mem b) (ap (λ (q : Waiting). q.name) (sym e)))
    go (suc i) zero t s h (there a) here e = absurd (h.0 t (at_mem a) (ap (λ (q : Waiting). q.name) e))
    go (suc i) (suc j) t s h (there a) (there b) e = ap suc (go i j t s h.1 a b e)

-- The nodes that enter at the goal of place `p` carry its name.
decomposed_is : (n u : ℕ) {w : List Waiting} {p : ℕ} {t : Waiting} (nodes : List Node) → At w p t
    → decomposed w p (used n u) nodes ≡ inserted w p (enter (used n u) (some t.name) 0 nodes)
unfolding decomposed
decomposed_is n u {w} {p} nodes k = ap (λ (x : Waiting). inserted w p (enter (used n u) (some x.name) 0 nodes)) (at_get_or no_goal k)

module _ {n : ℕ} {w : List Waiting} (h : Named n w) where
  -- T' = T \ {t}.
  release_nodes : (p : ℕ) (t a : Waiting) → At w p t → Memᴰ a (released w p) ↔ (Memᴰ a w × (a ≢ t))
  release_nodes p t a k = (
    (λ m. (released_mem k m, λ e. released_other k h.distinct m (ap (λ (x : Waiting). x.name) e))),
    (λ r. ⊎_elim (λ e. absurd (r.1 e)) (λ m. m) (stays k r.0)),
  )

  -- ≺' is the restriction of ≺ to T'.
  release_order : (p : ℕ) (t a b : Waiting) → At w p t → Unconstrained w t → Memᴰ a (released w p) → Memᴰ b (released w p)
      → Precedes (released w p) a b ↔ Precedes w a b
  release_order p t a b k u m j = (
    (λ c. widen (λ x i. released_mem k i) c),
    (λ c. (restrict t (λ x i. stays k i) (λ x i l. u x (listed i (at_mem k) l)) c m).0),
  )

  -- T' = T ∪ T_m.
  method_nodes : (p : ℕ) (t a : Waiting) (u : ℕ) (m : Method) → At w p t
      → Memᴰ a (decomposed w p (used n u) (network_of m)) ↔ (Memᴰ a w ⊎ Memᴰ a (entering n u t m))
  method_nodes p t a u m k = rw (decomposed_is n u (network_of m) k) (inserted_cases (entering n u t m) k, ⊎_elim (inserted_old (entering n u t m) k) (inserted_new w p))

  -- ≺' = ≺ ∪ ≺_m ∪ {(t_m, t) | t_m ∈ T_m}, of the listed pairs: a new node is listed before new ones by row and before `t`, and no
  -- old one is listed before a new one.
  method_pairs : (p : ℕ) (t a b : Waiting) (u : ℕ) (m : Method) → At w p t
      → Pair (decomposed w p (used n u) (network_of m)) a b
      ↔ (Pair w a b
      ⊎ ((Memᴰ a (entering n u t m) × Memᴰ b (entering n u t m) × Memᴰ a.name.number b.after)
      ⊎ (Memᴰ a (entering n u t m) × (b ≡ t))))
  method_pairs p t a b u m k = ((λ r. to ((nodes a).0 r.0) ((nodes b).0 r.1) r.2), from)
    where
      New : Waiting → Type 0
      New x = Memᴰ x (entering n u t m)

      nodes : (x : Waiting) → Memᴰ x (decomposed w p (used n u) (network_of m)) ↔ (Memᴰ x w ⊎ New x)
      nodes x = method_nodes p t x u m k

      r : (x : Waiting) → New x → Entered (used n u) (some t.name) 0 x
      r x i = entered (network_of m) i

      both : New a → New b → ComesAfter b a → Memᴰ a.name.number b.after
      both i j (ComesAfter.by_row o l) = l
      both i j (ComesAfter.by_method o) = absurd (parent_outside h (at_mem k) b.name (sym (r a i).its_parent ∙ o) (r b j).its_origin)

      to : Memᴰ a w ⊎ New a → Memᴰ b w ⊎ New b → ComesAfter b a → Pair w a b ⊎ ((New a × New b × Memᴰ a.name.number b.after) ⊎ (New a × (b ≡ t)))
      to (inl i) (inl j) l = inl (i, j, l)
      to (inl i) (inr j) l = absurd ((strangers u (network_of m) h a b i j).not_after l)
      to (inr i) (inl j) l = inr (inr (i, same_goal w h.distinct j (at_mem k) ((strangers u (network_of m) h b a j i).before_parent l)))
      to (inr i) (inr j) l = inr (inl (i, j, both i j l))

      from : Pair w a b ⊎ ((New a × New b × Memᴰ a.name.number b.after) ⊎ (New a × (b ≡ t))) → Pair (decomposed w p (used n u) (network_of m)) a b
      from (inl q) = ((nodes a).1 (inl q.0), (nodes b).1 (inl q.1), q.2)
      from (inr (inl q)) = ((nodes a).1 (inr q.0), (nodes b).1 (inr q.1), ComesAfter.by_row ((r a q.0).its_origin ∙ sym (r b q.1).its_origin) q.2)
      from (inr (inr q)) = (
        (nodes a).1 (inr q.0),
        (nodes b).1 (inl (mathlib.Core.List.Memᴰ.cast q.1 (at_mem k))),
        ComesAfter.by_method ((r a q.0).its_parent ∙ ap (λ (x : Waiting). some x.name) (sym q.1)),
      )

  -- A node that enters is new.
  method_new : (p : ℕ) (t a : Waiting) (u : ℕ) (m : Method) → At w p t → Memᴰ a (entering n u t m) → ¬ Memᴰ a w
  method_new p t a u m k i j = (strangers {at = t.name} u (network_of m) h a a j i).other refl

  -- ≺' = ≺ ∪ ≺_m ∪ {(t_m, t) | t_m ∈ T_m}, of the orders, closed under transitivity.
  method_order : (p : ℕ) (t a b : Waiting) (u : ℕ) (m : Method) → At w p t
      → Precedes (decomposed w p (used n u) (network_of m)) a b
      ↔ Closure (λ a b. Precedes w a b ⊎ (Precedes (entering n u t m) a b ⊎ (Memᴰ a (entering n u t m) × (b ≡ t)))) a b
  method_order p t a b u m k = (to, from)
    where
      Union : Waiting → Waiting → Type 0
      Union a b = Precedes w a b ⊎ (Precedes (entering n u t m) a b ⊎ (Memᴰ a (entering n u t m) × (b ≡ t)))

      both : {a b : Waiting} → Memᴰ a (entering n u t m) → Memᴰ b (entering n u t m) → Memᴰ a.name.number b.after → ComesAfter b a
      both i j l = ComesAfter.by_row ((entered (network_of m) i).its_origin ∙ sym (entered (network_of m) j).its_origin) l

      pair : {a b : Waiting} → Pair (decomposed w p (used n u) (network_of m)) a b → Union a b
      pair {a} {b} q = ⊎_elim (λ o. inl (listed o.0 o.1 o.2)) (⊎_elim (λ o. inr (inl (listed o.0 o.1 (both o.0 o.1 o.2)))) (λ o. inr (inr o))) ((method_pairs p t a b u m k).0 q)

      to : {a b : Waiting} → Precedes (decomposed w p (used n u) (network_of m)) a b → Closure Union a b
      to (listed i j l) = one (pair (i, j, l))
      to (through c e) = more (to c) (to e)

      old : (x : Waiting) → Memᴰ x w → Memᴰ x (decomposed w p (used n u) (network_of m))
      old x i = (method_nodes p t x u m k).1 (inl i)

      new : (x : Waiting) → Memᴰ x (entering n u t m) → Memᴰ x (decomposed w p (used n u) (network_of m))
      new x i = (method_nodes p t x u m k).1 (inr i)

      part : {a b : Waiting} → Union a b → Precedes (decomposed w p (used n u) (network_of m)) a b
      part (inl c) = widen old c
      part (inr (inl c)) = widen new c
      part {a} {b} (inr (inr q)) = let o = (method_pairs p t a b u m k).1 (inr (inr q)) in listed o.0 o.1 o.2

      from : {a b : Waiting} → Closure Union a b → Precedes (decomposed w p (used n u) (network_of m)) a b
      from (one u) = part u
      from (more c e) = through (from c) (from e)

-- Reached networks are ordered as 000 says, and a release and a method change nodes and order as 000 says.
pub networks_are_000s : NetworksAre000s
networks_are_000s shop o f r d s xs P i =
    let h = sound f d i in (
      record {
        distinct = λ a b t. one_place a b t h.named.distinct;
        free_iff = free_iff_unconstrained P.waiting;
        irreflexive = never_round P.waiting h.ordered;
      },
      record {
        release_nodes = release_nodes h.named;
        release_order = release_order h.named;
        method_new = method_new h.named;
        method_nodes = method_nodes h.named;
        method_pairs = method_pairs h.named;
        method_order = method_order h.named;
      },
    )
