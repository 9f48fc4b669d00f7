-- While a goal of the first order, or one brought in below it, waits, none of the second order's goals is free; so a step on the
-- join is a step on the first order's part with the second's goals carried along. Assumes nothing.
use Prim.Native.Nat.{ℕ, ◌≤◌, ◌<◌}
use native.Mathlib.Omega.{arith}
use mathlib.Core.Path.{◌≡◌, refl, sym, ap, ◌∙◌, subst}
use mathlib.Core.Bool.{false}
use mathlib.Core.List.Memᴰ
use mathlib.Core.List.{List, [], ◌∷◌, ◌++◌, map-id, Memᴰ}
use mathlib.Core.Option.{none, some, none-ne-some}
use Rattle.hgn.specs.Network.{from_order, used, Waiting, comes_after, free, enter, goals_above}
use Rattle.hgn.specs.Definition1.{ComesAfter, by_row, by_method}
use Rattle.hgn.proofs.Logic.Tests.{comes_after_iff, free_iff_none_listed, not_true_false}
use Rattle.hgn.proofs.Join.Embedding.{Embeds}
use Rattle.hgn.proofs.Network.Names.{order≢step}
use Rattle.hgn.proofs.Network.Above.{above_in_front}
use Rattle.hgn.proofs.Network.Rooted.{RootedGoal, of_order_law, brought, Rooted}

-- A goal of the first order, one of `g`: it comes only after such goals.
pub record OfFirst (g : ℕ) (q : Waiting) : Type 0 where
  pub number : q.name.number < g
  pub afters : (k : ℕ) → Memᴰ k q.after → k < g

-- The first part of the join's list: goals of the first order, and goals brought in below them.
abbrev pub Front : ℕ → List Waiting → Type 0
Front g = Rooted (OfFirst g)

-- A goal of the second order under the join's names.
pub record BackGoal (g : ℕ) (q : Waiting) : Type 0 where
  pub origin : q.name.origin ≡ from_order
  pub number : g ≤ q.name.number
  pub parent : q.parent ≡ none
  pub afters : (k : ℕ) → k < g → Memᴰ k q.after

abbrev pub Back : ℕ → List Waiting → Type 0
Back g v = (q : Waiting) → Memᴰ q v → BackGoal g q

-- A first part that is not empty has one of the first order's own goals in it.
own_goal : (g : ℕ) (q : Waiting) (rest : List Waiting) → Front g (q ∷ rest)
    → (p : Waiting) × Memᴰ p (q ∷ rest) × (p.name.origin ≡ from_order) × (p.name.number < g)
own_goal g q [] (of_order_law s o e h, u) = (q, Memᴰ.head refl, o, h.number)
own_goal g q [] (brought s o m e, u) = elim m [ ]
own_goal g q (r ∷ rest) (h, u) = let x = own_goal g r rest u in (x.0, Memᴰ.tail x.1, x.2, x.3)

-- Where a goal stands does not matter for what it comes after.
pub record Below (g : ℕ) (q : Waiting) : Type 0 where
  pub bound : q.name.origin ≡ from_order → (k : ℕ) → Memᴰ k q.after → k < g

front_below : (g : ℕ) (w : List Waiting) (q : Waiting) → Front g w → Memᴰ q w → Below g q
front_below g (p ∷ w) q (h, u) (Memᴰ.head e) = subst (Below g) (sym e) (here_below h)
  where
    here_below : RootedGoal (OfFirst g) p w → Below g p
    here_below (of_order_law s o n h) = record { bound = λ o'. h.afters }
    here_below (brought s o m e') = record { bound = λ o'. absurd (order≢step (sym o' ∙ o)) }
front_below g (p ∷ w) q (h, u) (Memᴰ.tail m) = front_below g w q u m
front_below g [] q _ x3 = elim x3 [ ]

-- No goal of the first part comes after one of the second.
front_apart : (g : ℕ) (w v : List Waiting) → Front g w → Back g v → (q p : Waiting) → Memᴰ q w → Memᴰ p v → comes_after q p ≡ false
front_apart g w v fr bk q p m k = not_true_false (comes_after q p) (λ e. none_listed ((comes_after_iff q p).0 e))
  where
    none_listed : ComesAfter q p → ⊥
    none_listed (by_row o a) = omega (arith, (front_below g w q fr m).bound (sym o ∙ (bk p k).origin) p.name.number a, (bk p k).number)
    none_listed (by_method o) = none-ne-some q.name (sym (bk p k).parent ∙ o)

-- No goal of the second part is free while the first is not empty.
pub front_blocks : (g : ℕ) (q : Waiting) (rest v : List Waiting) → Front g (q ∷ rest) → Back g v → (p : Waiting) → Memᴰ p v
    → free ((q ∷ rest) ++ v) p ≡ false
front_blocks g q rest v fr bk p m =
    not_true_false (free ((q ∷ rest) ++ v) p)
    (λ e. (free_iff_none_listed ((q ∷ rest) ++ v) p).0 e x.0 (Memᴰ.append_left v x.1) (by_row (x.2 ∙ sym (bk p m).origin) ((bk p m).afters x.0.name.number x.3)))
  where
    x : (p : Waiting) × Memᴰ p (q ∷ rest) × (p.name.origin ≡ from_order) × (p.name.number < g)
    x = own_goal g q rest fr

-- So the first part embeds in the join as it stands.
pub front_embeds : (g n : ℕ) (q : Waiting) (rest v : List Waiting) → Front g (q ∷ rest) → Back g v → Embeds (λ x. x) (q ∷ rest) v n n
front_embeds g n q rest v fr bk = record {
  formula = λ p. refl;
  after = λ p r. refl;
  enters = λ p m nodes. map-id (enter (used n m) (some p.name) 0 nodes);
  above = λ p m. ap (λ (l : List Waiting). goals_above (l ++ v) p) (map-id (q ∷ rest)) ∙ above_in_front (OfFirst g) (q ∷ rest) v fr p m;
  apart = λ p r m k. front_apart g (q ∷ rest) v fr bk p r m k;
  blocked = λ p m. subst (λ (l : List Waiting). free (l ++ v) p ≡ false) (sym (map-id (q ∷ rest))) (front_blocks g q rest v fr bk p m);
}
