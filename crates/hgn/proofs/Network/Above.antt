-- How many goals stand above a waiting goal: the parent and those above it. Assumes nothing.
use Prim.Native.Nat.{ℕ, zero, suc, ◌≤◌, ◌<◌, zero-le}
use native.Mathlib.Omega.{arith}
use mathlib.Core.Path.{◌≡◌, refl, sym, ap, ◌∙◌, subst}
use mathlib.Core.Bool.{Bool, true, false}
use mathlib.Core.Logic.{◌⊎◌, inl, inr, ◌≢◌}
use mathlib.Core.List.Memᴰ
use mathlib.Core.List.{List, [], ◌∷◌, ◌++◌, Memᴰ}
use mathlib.Core.Option.{Option, none, some}
use lib.ListN.{length, take, drop}
use Rattle.hgn.specs.Lists.{At, here, there}
use Rattle.hgn.specs.Network.{Name, Waiting, same_name, above_from, goals_above, released}
use Rattle.hgn.proofs.Logic.Tests.{at_mem, same_name_true, same_name_refl, not_true_false, false_not_true}
use Rattle.hgn.proofs.Network.Names.{Distinct}
use Rattle.hgn.proofs.Network.Rooted.{RootedGoal, of_order_law, brought, Rooted}

-- A goal's parent, or none: it waits behind the goal.
pub data ParentIn (w : List Waiting) (o : Option Name) : Type 0 where
  no_parent : o ≡ none → ParentIn w o
  parent_is : {r : Waiting} → Memᴰ r w → o ≡ some r.name → ParentIn w o

pub parent_of : {Own : Waiting → Type 0} {q : Waiting} {rest : List Waiting} → RootedGoal Own q rest → ParentIn rest q.parent
parent_of (of_order_law s o e b) = no_parent e
parent_of (brought s o m e) = parent_is m e

pub above_none : (w : List Waiting) → above_from w none ≡ 0
unfolding above_from
above_none [] = refl
above_none (q ∷ w) = refl

-- Where a name is looked for that stands first, and that does not.
above_here : (a : Name) (q : Waiting) (w : List Waiting) → a ≡ q.name → above_from (q ∷ w) (some a) ≡ suc (above_from w q.parent)
unfolding above_from
above_here a q w e = rw (e, same_name_refl q.name)

above_later : (a : Name) (q : Waiting) (w : List Waiting) → a ≢ q.name → above_from (q ∷ w) (some a) ≡ above_from w (some a)
unfolding above_from
above_later a q w h = rw (not_true_false (same_name a q.name) (λ e. h (same_name_true a q.name e)))

-- Two lists behind a goal in which a parent has as many goals above: so it has behind that goal.
same_above : (q : Waiting) (v w : List Waiting) (o : Option Name) → ParentIn (q ∷ w) o → above_from v q.parent ≡ above_from w q.parent
    → ((r : Waiting) → Memᴰ r w → above_from v (some r.name) ≡ above_from w (some r.name)) → above_from (q ∷ v) o ≡ above_from (q ∷ w) o
unfolding above_from
same_above q v w o (no_parent e) i j = rw e refl
same_above q v w o (parent_is {r = r} m e) i j = rw e (at (Memᴰ.cases_cons m) (same_name r.name q.name) refl)
  where
    at : (r ≡ q) ⊎ Memᴰ r w → (b : Bool) → same_name r.name q.name ≡ b → above_from (q ∷ v) (some r.name) ≡ above_from (q ∷ w) (some r.name)
    at k true h = rw h (ap suc i)
    at (inl z) false h = absurd (false_not_true (same_name r.name q.name) h (subst (λ (x : Waiting). same_name r.name x.name ≡ true) z (same_name_refl r.name)))
    at (inr k) false h = rw h (j r k)

-- In front of a list a goal that has none of its names changes nothing.
above_behind : (p : Waiting) (w : List Waiting) → ((q : Waiting) → Memᴰ q w → q.name ≢ p.name) → (o : Option Name) → ParentIn w o
    → above_from (p ∷ w) o ≡ above_from w o
unfolding above_from
above_behind p w h o (no_parent e) = rw e (sym (above_none w))
above_behind p w h o (parent_is {r = r} m e) = rw e (above_later r.name p w (h r m))

above_new : (new w : List Waiting) → ((q e : Waiting) → Memᴰ q w → Memᴰ e new → e.name ≢ q.name) → (o : Option Name) → ParentIn w o
    → above_from (new ++ w) o ≡ above_from w o
above_new [] w d o h = refl
above_new (e ∷ new) w d o (no_parent z) = rw z (above_none (e ∷ (new ++ w)) ∙ sym (above_none w))
above_new (e ∷ new) w d o (parent_is {r = r} m z) = rw z
    (above_later r.name e (new ++ w) (λ x. d r e m (Memᴰ.head refl) (sym x)) ∙ above_new new w (λ q p k l. d q p k (Memᴰ.tail l)) (some r.name) (parent_is m refl))

module _ (Own : Waiting → Type 0) where
  -- Goals behind the list change nothing: the chain of parents stays in it.
  above_known : (w v : List Waiting) → Rooted Own w → (o : Option Name) → ParentIn w o → above_from (w ++ v) o ≡ above_from w o
  unfolding above_from
  above_known [] v u o (no_parent e) = rw e (above_none v)
  above_known [] v u o (parent_is m e) = elim m [ ]
  above_known (q ∷ w) v (f, u) o h =
      same_above q (w ++ v) w o h (above_known w v u q.parent (parent_of f)) (λ r k. above_known w v u (some r.name) (parent_is k refl))

  wider : {q : Waiting} {w : List Waiting} {o : Option Name} → ParentIn w o → ParentIn (q ∷ w) o
  wider (no_parent e) = no_parent e
  wider (parent_is m e) = parent_is (Memᴰ.tail m) e

  -- A waiting goal's parent waits, if it has one.
  pub member_parent : (w : List Waiting) → Rooted Own w → (q : Waiting) → Memᴰ q w → ParentIn w q.parent
  member_parent (p ∷ w) (f, u) q (Memᴰ.head e) = wider (subst (λ (x : Waiting). ParentIn w x.parent) (sym e) (parent_of f))
  member_parent (p ∷ w) (f, u) q (Memᴰ.tail m) = wider (member_parent w u q m)
  member_parent [] _ q x3 = elim x3 [ ]

  pub above_in_front : (w v : List Waiting) → Rooted Own w → (q : Waiting) → Memᴰ q w → goals_above (w ++ v) q ≡ goals_above w q
  above_in_front w v u q m = above_known w v u q.parent (member_parent w u q m)

  -- From a goal's name one goal more is found than stand above it.
  pub above_at : (w : List Waiting) (j : ℕ) (p : Waiting) → Distinct w → Rooted Own w → At w j p → above_from w (some p.name) ≡ suc (goals_above w p)
  above_at (p ∷ w) zero p' d (f, u) here =
      above_here p.name p w refl ∙ ap suc (sym (above_behind p w d.0 p.parent (parent_of f)))
  above_at (q ∷ w) (suc j) p d (f, u) (there a) =
      above_later p.name q w (d.0 p (at_mem a))
      ∙ above_at w j p d.1 u a
      ∙ ap suc (sym (above_behind q w d.0 p.parent (member_parent w u p (at_mem a))))
  above_at [] j p' d _ x4 = elim x4 [ ]

  -- The parent and those above it stand behind the goal.
  pub above_from_law : (w : List Waiting) (i : ℕ) (q : Waiting) → Distinct w → Rooted Own w → At w i q → above_from (drop (suc i) w) q.parent ≡ goals_above w q
  above_from_law (q ∷ w) zero q' d (f, u) here = sym (above_behind q w d.0 q.parent (parent_of f))
  above_from_law (p ∷ w) (suc i) q d (f, u) (there a) =
      above_from_law w i q d.1 u a ∙ sym (above_behind p w d.0 q.parent (member_parent w u q (at_mem a)))
  above_from_law [] i q' d _ x4 = elim x4 [ ]

  -- When a goal leaves, as many stand above the others as before.
  pub above_released : (w : List Waiting) (i : ℕ) (t : Waiting) → Distinct w → At w i t → Rooted Own (released w i) → (o : Option Name)
      → ParentIn (released w i) o → above_from (released w i) o ≡ above_from w o
  unfolding released
  above_released (t ∷ w) zero t' d here u o h = sym (above_behind t w d.0 o h)
  above_released (q ∷ w) (suc i) t d (there a) (f, u) o h =
      sym
      (same_above q w (released w i) o h (sym (above_released w i t d.1 a u q.parent (parent_of f)))
      (λ r m. sym (above_released w i t d.1 a u (some r.name) (parent_is m refl))))
  above_released [] i t' d x4 u o h = elim x4 [ ]

  -- And when goals enter that have none of the names.
  pub above_inserted : (w new : List Waiting) (p : ℕ) → ((q e : Waiting) → Memᴰ q w → Memᴰ e new → e.name ≢ q.name) → Rooted Own w → (o : Option Name)
      → ParentIn w o → above_from (take p w ++ (new ++ drop p w)) o ≡ above_from w o
  unfolding above_from
  above_inserted w new zero d u o h = above_new new w d o h
  above_inserted [] new (suc p) d u o (no_parent e) = rw e (above_none (new ++ []))
  above_inserted [] new (suc p) d u o (parent_is m e) = elim m [ ]
  above_inserted (q ∷ w) new (suc p) d (f, u) o h =
      same_above q (take p w ++ (new ++ drop p w)) w o h
      (above_inserted w new p (λ r e m k. d r e (Memᴰ.tail m) k) u q.parent (parent_of f))
      (λ r m. above_inserted w new p (λ r e m k. d r e (Memᴰ.tail m) k) u (some r.name) (parent_is m refl))

-- No more goals stand above than there are.
above_few : (w : List Waiting) (o : Option Name) → above_from w o ≤ length w
unfolding above_from
above_few [] o = zero-le
above_few (q ∷ w) none = zero-le
above_few (q ∷ w) (some a) = go (above_few w q.parent) (above_few w (some a)) (same_name a q.name) refl
  where
    go : above_from w q.parent ≤ length w → above_from w (some a) ≤ length w → (b : Bool) → same_name a q.name ≡ b → above_from (q ∷ w) (some a) ≤ length (q ∷ w)
    go i j true h = rw h (omega arith)
    go i j false h = rw h (omega arith)

-- A goal that waits is not above itself.
pub above_below : (Own : Waiting → Type 0) (w : List Waiting) (j : ℕ) (p : Waiting) → Distinct w → Rooted Own w → At w j p → goals_above w p < length w
above_below Own w j p d u a = omega (arith, above_at Own w j p d u a, above_few w (some p.name))
