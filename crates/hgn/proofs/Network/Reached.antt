-- Every network that a run reaches from checked sheets and their joins: each goal stands after those it is listed after, and its names
-- are those of `Names`. Assumes nothing.
use Prim.Native.Nat.{ℕ, suc, ◌<◌}
use native.Mathlib.Omega.{arith}
use mathlib.Core.Path.{◌≡◌, refl, sym, ◌∙◌, subst}
use mathlib.Core.Logic.{⊎_elim, ◌≢◌}
use mathlib.Core.List.Memᴰ
use mathlib.Core.List.{List, [], ◌∷◌, ◌++◌, Memᴰ}
use mathlib.Core.Option.{Option, some, none-ne-some}
use lib.ListN.{length, length-append}
use Rattle.hgn.specs.Lists.{At, here, there}
use Rattle.hgn.specs.Meaning.{Node, Method, Domain, Order, network_of}
use Rattle.hgn.specs.State.{State}
use Rattle.hgn.specs.Network.{Name, Source, order, used, origin_of, Waiting, enter, goals_of, no_goal, released, decomposed}
use Rattle.hgn.specs.Run.{Step, Move, move_of, method_at, Problem, problem_from, Rules, Deed}
use Rattle.hgn.specs.Shop.{domain}
use Rattle.hgn.specs.Definition1.{ComesAfter}
use Rattle.hgn.specs.Readings.{FromSheets, Reached, first, next}
use Rattle.hgn.proofs.Logic.Tests.{at_mem, at_of_lt}
use Rattle.hgn.proofs.Run.Steps.{Moved, took}
use Rattle.hgn.proofs.Network.Names.{Named, Distinct, entered, Stranger, strangers, parent_outside, named_goals, moved_named}
use Rattle.hgn.proofs.Run.Moves.{method_known}
use Rattle.hgn.proofs.Network.Waiting.{released_mem, inserted, inserted_cases}
use Rattle.hgn.proofs.Sheets.Checked.{Numbered, method_numbered}
use Rattle.hgn.proofs.Join.Goals.{from_sheets}

-- Neither a goal itself nor a later one is listed before it.
abbrev pub Ordered : List Waiting → Type 0
Ordered [] = Unit {0}
Ordered (q ∷ v) = ((p : Waiting) → Memᴰ p (q ∷ v) → ¬ ComesAfter q p) × Ordered v

-- What holds of the network that a run reaches at step `n`.
pub record Sound (n : ℕ) (w : List Waiting) : Type 0 where
  pub named : Named n w
  pub ordered : Ordered w

-- Nodes that come after earlier nodes only enter in that order, if their parent is of another network.
entered_ordered : (o : Source) {parent : Option Name} (i : ℕ) (ns : List Node) → Numbered i ns
    → ((a : Name) → parent ≡ some a → a.origin ≢ origin_of o) → Ordered (enter o parent i ns)
unfolding enter
entered_ordered o i [] h outside = tt
entered_ordered o {parent} i (n ∷ ns) h outside = (after_none, entered_ordered o (suc i) ns h.1 outside)
  where
    q : Waiting
    q = record { name = record { origin = origin_of o; number = i }; source = o; parent = parent; after = n.after; formula = n.formula }

    after_none : (p : Waiting) → Memᴰ p (q ∷ enter o parent (suc i) ns) → ¬ ComesAfter q p
    after_none p m (ComesAfter.by_row e k) = let r = entered {o = o} {i = i} (n ∷ ns) m in let a = r.its_number in let b = h.0 _ k in omega arith
    after_none p m (ComesAfter.by_method e) = let r = entered {o = o} {i = i} (n ∷ ns) m in outside q.name (sym r.its_parent ∙ e) refl

-- The order's goals at the start.
start_sound : (o : Order) → Numbered 0 o.goals → Sound 0 (goals_of o)
unfolding goals_of
start_sound o h = record { named = named_goals o; ordered = entered_ordered order 0 o.goals h (λ a e. absurd (none-ne-some a e)) }

-- The goals that stay are in order.
released_ordered : {w : List Waiting} {p : ℕ} {t : Waiting} → At w p t → Ordered w → Ordered (released w p)
unfolding released
released_ordered here h = h.1
released_ordered (there k) h = ((λ q m. h.0 q (released_mem (there k) m)), released_ordered k h.1)

-- Two networks one after the other.
append_ordered : (u v : List Waiting) → Ordered u → Ordered v
    → ((q p : Waiting) → Memᴰ q u → Memᴰ p v → ¬ ComesAfter q p) → Ordered (u ++ v)
append_ordered [] v f g h = g
append_ordered (q ∷ u) v f g h = (
  (λ p m. ⊎_elim (f.0 p) (λ k. h q p (Memᴰ.head refl) k) (Memᴰ.append_cases (q ∷ u) m)),
  append_ordered u v f.1 g (λ q p m n. h q p (Memᴰ.tail m) n),
)

-- New nodes in order, before the goal they enter at, leave the whole list in order.
inserted_ordered : {w new : List Waiting} {p : ℕ} {t : Waiting} → At w p t → Distinct w → Ordered w → Ordered new
    → ((q e : Waiting) → Memᴰ q w → Memᴰ e new → Stranger t.name q e) → Ordered (inserted w p new)
inserted_ordered {w} {new} here u f g h = append_ordered new w g f (λ e q m n. (h q e n m).not_after)
inserted_ordered {new = new} {p = suc p} {t = t} (there {y = y} {xs = v} k) u f g h =
    (after_none, inserted_ordered k u.1 f.1 g (λ q e m n. h q e (Memᴰ.tail m) n))
  where
    after_none : (e : Waiting) → Memᴰ e (y ∷ inserted v p new) → ¬ ComesAfter y e
    after_none e m =
        ⊎_elim (f.0 e) (λ j l. u.0 t (at_mem k) (sym ((h y e (Memᴰ.head refl) j).before_parent l))) (inserted_cases new (there k) m)

-- The number of the step after these.
pub one_more : (xs : List Step) (x : Step) → suc (length xs) ≡ length (xs ++ (x ∷ []))
one_more xs x = omega (arith, length-append xs (x ∷ []))

module _ {r : Rules} (numbered : (m : Method) → Memᴰ m r.domain.methods → Numbered 0 (network_of m)) where
  moved_ordered : {n p : ℕ} {P P' : Problem} {deed : Deed} {mv : Move} (k : ℕ) → move_of r.domain k ≡ mv
      → p < length P.waiting → Moved r n P p mv deed P' → Sound n P.waiting → Ordered P'.waiting
  unfolding decomposed
  moved_ordered {p = p} {P = P} k e i (Moved.by_release a) h = released_ordered (at_of_lt P.waiting p no_goal i) h.ordered
  moved_ordered k e i (Moved.by_action a b) h = h.ordered
  moved_ordered {n = n} {p = p} {P = P} k e i (Moved.by_method {m = m} a b c) h =
      let t = at_of_lt P.waiting p no_goal i in
      inserted_ordered t h.named.distinct h.ordered
      (entered_ordered (used n m) 0 (network_of (method_at r.domain m))
      (numbered _ (at_mem (at_of_lt r.domain.methods m _ (method_known r.domain k m e)))) (parent_outside h.named (at_mem t)))
      (strangers m (network_of (method_at r.domain m)) h.named)

  reached_sound : (o : Order) {s₀ : State} {xs : List Step} {P : Problem} → Numbered 0 o.goals → Reached r (problem_from s₀ o) xs P
      → Sound (length xs) P.waiting
  reached_sound o g first = start_sound o g
  reached_sound o g (next {xs = xs} {P' = P'} x i e) =
      let t = took x _ _ e in
      let h = reached_sound o g i in
      subst (λ (n : ℕ). Sound n P'.waiting) (one_more xs x)
      (record { named = moved_named t.inside t.by h.named; ordered = moved_ordered x.move refl t.inside t.by h })

-- Every network reached from checked sheets and their joins is sound.
pub sound : {shop : List ℕ} {o : Order} → FromSheets shop o → {r : Rules} → r.domain ≡ domain shop → {s₀ : State} {xs : List Step} {P : Problem}
    → Reached r (problem_from s₀ o) xs P → Sound (length xs) P.waiting
sound {shop} {o} f {r} d =
    let c = from_sheets f in
    reached_sound (λ m k. method_numbered shop c.0 m (subst (λ (d : Domain). Memᴰ m d.methods) d k)) o c.1
