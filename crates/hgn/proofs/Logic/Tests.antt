-- What the tests of `specs/` say as propositions: each is true exactly when its proposition holds.
-- Assumes nothing.
use Prim.Native.Nat.{ℕ, zero, suc, ◌<◌}
use native.Mathlib.Nat.{not-suc-le-zero, le_of_suc-le-suc}
use mathlib.Core.Path.{◌≡◌, refl, sym, ap, ◌∙◌, subst}
use mathlib.Core.Bool.{Bool, true, false, not, ◌&&◌, ◌||◌, beq, true≢false, false≢true}
use mathlib.Core.Logic.{◌↔◌, ◌⊎◌, inl, inr, ⊎_elim}
use mathlib.Core.List.Memᴰ
use mathlib.Core.List.{List, [], ◌∷◌, ◌++◌, Memᴰ}
use mathlib.Core.List.{flatten}
use mathlib.Core.Option.{Option, none, some}
use lib.Dec.{eqb}
use lib.ListN.{length, get_or, replicate}
use borrow.Author.Tests.{eqb-true, eq-eqb, not-true}
use Rattle.hgn.specs.Lists.{any, all, elem, At, here, there}
use Rattle.hgn.specs.Meaning.{Literal, Formula}
use Rattle.hgn.specs.State.{State, literal_holds, all_hold, formula_holds, contains, relevant, opposite, Entails, EntailsAll, Satisfies, LiteralOf, Relevant}
use Rattle.hgn.specs.Network.{Origin, from_order, from_step, Name, Waiting, same_origin, same_name, is_parent, comes_after, free}
use Rattle.hgn.specs.Meaning.{Domain}
use Rattle.hgn.specs.Run.{Decided, strict}
use Rattle.hgn.specs.Definition1.{ComesAfter, by_row, by_method, Precedes, listed, through, Unconstrained}

-- Connectives.

pub and_true : (a b : Bool) → (a && b) ≡ true → (a ≡ true) × (b ≡ true)
and_true true b e = (refl, e)
and_true false b e = absurd (false≢true e)

pub true_and : (a b : Bool) → a ≡ true → b ≡ true → (a && b) ≡ true
true_and true b p q = q
true_and false b p q = p

pub or_true : (a b : Bool) → (a || b) ≡ true → (a ≡ true) ⊎ (b ≡ true)
or_true true b e = inl refl
or_true false b e = inr e

pub true_or_left : (a b : Bool) → a ≡ true → (a || b) ≡ true
true_or_left true b p = refl
true_or_left false b p = absurd (false≢true p)

pub true_or_right : (a b : Bool) → b ≡ true → (a || b) ≡ true
true_or_right true b p = refl
true_or_right false b p = p

pub or_false : (a b : Bool) → (a || b) ≡ false → (a ≡ false) × (b ≡ false)
or_false true b e = absurd (true≢false e)
or_false false b e = (refl, e)

pub false_or : (a b : Bool) → a ≡ false → b ≡ false → (a || b) ≡ false
false_or true b p q = p
false_or false b p q = q

pub beq_true : (a b : Bool) → beq a b ≡ true → a ≡ b
beq_true true true e = refl
beq_true true false e = absurd (false≢true e)
beq_true false true e = absurd (false≢true e)
beq_true false false e = refl

pub beq_refl : (a : Bool) → beq a a ≡ true
beq_refl true = refl
beq_refl false = refl

pub eq_beq : (a b : Bool) → a ≡ b → beq a b ≡ true
eq_beq a b e = subst (λ (c : Bool). beq a c ≡ true) e (beq_refl a)

-- A test that is not true is false.
pub not_true_false : (b : Bool) → (b ≡ true → ⊥) → b ≡ false
not_true_false true h = absurd (h refl)
not_true_false false h = refl

pub false_not_true : (b : Bool) → b ≡ false → b ≡ true → ⊥
false_not_true b e q = true≢false (sym q ∙ e)

-- Lists.

module _ {A : Type 0} (test : A → Bool) where
  pub any_true : (xs : List A) → any test xs ≡ true → (x : A) × Memᴰ x xs × (test x ≡ true)
  unfolding any
  any_true [] e = absurd (false≢true e)
  any_true (x ∷ xs) e = ⊎_elim (λ q. (x, Memᴰ.head refl, q)) (λ q. later (any_true xs q)) (or_true (test x) (any test xs) e)
    where
      later : (y : A) × Memᴰ y xs × (test y ≡ true) → (y : A) × Memᴰ y (x ∷ xs) × (test y ≡ true)
      later r = (r.0, Memᴰ.tail r.1, r.2)

  pub true_any : {x : A} (xs : List A) → Memᴰ x xs → test x ≡ true → any test xs ≡ true
  unfolding any
  true_any {x} (y ∷ xs) (Memᴰ.head p) e = true_or_left (test y) (any test xs) (ap test (sym p) ∙ e)
  true_any {x} (y ∷ xs) (Memᴰ.tail m) e = true_or_right (test y) (any test xs) (true_any {x = x} xs m e)
  true_any {x = x} [] x3 e = elim x3 [ ]

  pub all_true : {x : A} (xs : List A) → all test xs ≡ true → Memᴰ x xs → test x ≡ true
  unfolding all
  all_true (y ∷ xs) e (Memᴰ.head p) = ap test p ∙ (and_true (test y) (all test xs) e).0
  all_true (y ∷ xs) e (Memᴰ.tail m) = all_true xs (and_true (test y) (all test xs) e).1 m
  all_true [] e x3 = elim x3 [ ]

  pub true_all : (xs : List A) → ((x : A) → Memᴰ x xs → test x ≡ true) → all test xs ≡ true
  unfolding all
  true_all [] h = refl
  true_all (x ∷ xs) h = true_and (test x) (all test xs) (h x (Memᴰ.head refl)) (true_all xs (λ y m. h y (Memᴰ.tail m)))

  pub all_append : (xs ys : List A) → all test (xs ++ ys) ≡ (all test xs && all test ys)
  unfolding all
  all_append [] ys = refl
  all_append (x ∷ xs) ys = ap (λ (b : Bool). test x && b) (all_append xs ys) ∙ regroup (test x) (all test xs) (all test ys)
    where
      regroup : (a b c : Bool) → (a && (b && c)) ≡ (a && b && c)
      regroup true b c = refl
      regroup false b c = refl

  pub any_append : (xs ys : List A) → any test (xs ++ ys) ≡ (any test xs || any test ys)
  unfolding any
  any_append [] ys = refl
  any_append (x ∷ xs) ys = ap (λ (b : Bool). test x || b) (any_append xs ys) ∙ regroup (test x) (any test xs) (any test ys)
    where
      regroup : (a b c : Bool) → (a || (b || c)) ≡ (a || b || c)
      regroup true b c = refl
      regroup false b c = refl

-- A list of one value, read anywhere with that value as default.
pub replicate_default : {A : Type 0} (n p : ℕ) (a : A) → get_or (replicate n a) p a ≡ a
replicate_default zero p a = refl
replicate_default (suc n) zero a = refl
replicate_default (suc n) (suc p) a = replicate_default n p a

pub elem_true : (n : ℕ) (ns : List ℕ) → elem n ns ≡ true → Memᴰ n ns
unfolding elem
elem_true n ns e = let r = any_true (eqb n) ns e in Memᴰ.cast (eqb-true n r.0 r.2) r.1

pub true_elem : (n : ℕ) (ns : List ℕ) → Memᴰ n ns → elem n ns ≡ true
unfolding elem
true_elem n ns m = true_any (eqb n) ns m (eq-eqb n n refl)

module _ {A : Type 0} where
  pub at_mem : {xs : List A} {n : ℕ} {x : A} → At xs n x → Memᴰ x xs
  at_mem here = Memᴰ.head refl
  at_mem (there a) = Memᴰ.tail (at_mem a)

  pub at_get_or : {xs : List A} {n : ℕ} {x : A} (d : A) → At xs n x → get_or xs n d ≡ x
  at_get_or d here = refl
  at_get_or d (there a) = at_get_or d a

  pub at_lt : {xs : List A} {n : ℕ} {x : A} → At xs n x → n < length xs
  at_lt here = Prim.Native.Nat.suc-le-suc Prim.Native.Nat.zero-le
  at_lt (there a) = Prim.Native.Nat.suc-le-suc (at_lt a)

  pub at_of_lt : (xs : List A) (n : ℕ) (d : A) → n < length xs → At xs n (get_or xs n d)
  at_of_lt [] n d h = absurd (not-suc-le-zero h)
  at_of_lt (x ∷ xs) zero d h = here
  at_of_lt (x ∷ xs) (suc n) d h = there (at_of_lt xs n d (le_of_suc-le-suc h))

  pub mem_at : {x : A} {xs : List A} → Memᴰ x xs → (n : ℕ) × At xs n x
  mem_at {x} {xs = y ∷ ys} (Memᴰ.head p) = (zero, subst (λ (z : A). At (y ∷ ys) zero z) (sym p) here)
  mem_at (Memᴰ.tail m) = let r = mem_at m in (suc r.0, there r.1)

-- States.

pub holds_entails : (s : State) (l : Literal) → literal_holds s l ≡ true → Entails s l
unfolding literal_holds
holds_entails s l e = beq_true _ _ e

pub entails_holds : (s : State) (l : Literal) → Entails s l → literal_holds s l ≡ true
unfolding literal_holds
entails_holds s l e = eq_beq _ _ e

pub all_hold_iff : (s : State) (ls : List Literal) → (all_hold s ls ≡ true) ↔ EntailsAll s ls
unfolding all_hold
all_hold_iff s ls =
    ((λ e l m. holds_entails s l (all_true (literal_holds s) ls e m)), (λ h. true_all (literal_holds s) ls (λ l m. entails_holds s l (h l m))))

pub formula_holds_iff : (s : State) (f : Formula) → (formula_holds s f ≡ true) ↔ Satisfies s f
unfolding formula_holds
formula_holds_iff s f =
    ((λ e. let r = any_true (all_hold s) f e in (r.0, r.1, (all_hold_iff s r.0).0 r.2)), (λ r. true_any (all_hold s) f r.1 ((all_hold_iff s r.0).1 r.2)))

-- Two literals with the same sign and the same atom are equal.
same_literal : (k l : Literal) → k.sign ≡ l.sign → k.atom ≡ l.atom → k ≡ l
same_literal k l p q = λ i. record { sign = p i; atom = q i }

pub contains_iff : (ls : List Literal) (l : Literal) → (contains ls l ≡ true) ↔ Memᴰ l ls
unfolding contains
contains_iff ls l = (to, from)
  where
    to : contains ls l ≡ true → Memᴰ l ls
    to e =
        let r = any_true (λ k. beq k.sign l.sign && eqb k.atom l.atom) ls e in
        let b = and_true (beq r.0.sign l.sign) (eqb r.0.atom l.atom) r.2 in
        Memᴰ.cast (same_literal l r.0 (sym (beq_true _ _ b.0)) (sym (eqb-true _ _ b.1))) r.1

    from : Memᴰ l ls → contains ls l ≡ true
    from m =
        true_any (λ k. beq k.sign l.sign && eqb k.atom l.atom) ls m
        (true_and (beq l.sign l.sign) (eqb l.atom l.atom) (beq_refl l.sign) (eq-eqb l.atom l.atom refl))

pub flatten_literal : (f : Formula) (l : Literal) → Memᴰ l (flatten f) ↔ LiteralOf f l
unfolding flatten
flatten_literal f l = (to f, λ r. from f r.0 r.1 r.2)
  where
    to : (g : Formula) → Memᴰ l (flatten g) → LiteralOf g l
    to [] m = elim m [ ]
    to (c ∷ g) m = ⊎_elim (λ h. (c, Memᴰ.head refl, h)) (λ h. let r = to g h in (r.0, Memᴰ.tail r.1, r.2)) (Memᴰ.append_cases c m)

    from : (g : Formula) (c : List Literal) → Memᴰ c g → Memᴰ l c → Memᴰ l (flatten g)
    from (d ∷ g) c (Memᴰ.head p) h = Memᴰ.append_left (flatten g) (subst (λ (e : List Literal). Memᴰ l e) p h)
    from (d ∷ g) c (Memᴰ.tail m) h = Memᴰ.append_right d (from g c m h)
    from [] c x'' h = elim x'' [ ]

pub relevant_iff : (effects : List Literal) (f : Formula) → (relevant effects f ≡ true) ↔ Relevant effects f
unfolding relevant
relevant_iff effects f = (to, from)
  where
    opposed : Literal → Bool
    opposed l = contains effects (opposite l)

    to : relevant effects f ≡ true → Relevant effects f
    to e =
        let b = and_true (any (contains effects) (flatten f)) (not (any opposed (flatten f))) e in
        let r = any_true (contains effects) (flatten f) b.0 in
        record {
          literal = r.0;
          wanted = (flatten_literal f r.0).0 r.1;
          contained = (contains_iff effects r.0).0 r.2;
          no_opposite = λ l w m. false_not_true (any opposed (flatten f)) (not-true _ b.1) (true_any opposed (flatten f) ((flatten_literal f l).1 w) ((contains_iff effects (opposite l)).1 m));
        }

    from : Relevant effects f → relevant effects f ≡ true
    from r =
        true_and (any (contains effects) (flatten f)) (not (any opposed (flatten f)))
        (true_any (contains effects) (flatten f) ((flatten_literal f r.literal).1 r.wanted) ((contains_iff effects r.literal).1 r.contained))
        (ap not (not_true_false (any opposed (flatten f)) (λ e. none_opposed (any_true opposed (flatten f) e))))
      where
        none_opposed : (l : Literal) × Memᴰ l (flatten f) × (opposed l ≡ true) → ⊥
        none_opposed q = r.no_opposite q.0 ((flatten_literal f q.0).0 q.1) ((contains_iff effects (opposite q.0)).0 q.2)

-- The tests of 000's rules decide their propositions.
pub strict_decided : (limit : ℕ) (d : Domain) → Decided (strict limit d)
strict_decided limit d = record {
  act_iff = λ a g. relevant_iff a.effects g;
  use_iff = λ m g. relevant_iff _ g;
}

-- Networks.

pub same_origin_true : (a b : Origin) → same_origin a b ≡ true → a ≡ b
unfolding same_origin
same_origin_true from_order from_order e = refl
same_origin_true from_order (from_step n) e = absurd (false≢true e)
same_origin_true (from_step m) from_order e = absurd (false≢true e)
same_origin_true (from_step m) (from_step n) e = ap from_step (eqb-true m n e)

pub same_origin_refl : (a : Origin) → same_origin a a ≡ true
unfolding same_origin
same_origin_refl from_order = refl
same_origin_refl (from_step n) = eq-eqb n n refl

pub eq_same_origin : (a b : Origin) → a ≡ b → same_origin a b ≡ true
eq_same_origin a b e = subst (λ (c : Origin). same_origin a c ≡ true) e (same_origin_refl a)

pub same_name_true : (a b : Name) → same_name a b ≡ true → a ≡ b
unfolding same_name
same_name_true a b e =
    let r = and_true (same_origin a.origin b.origin) (eqb a.number b.number) e in
    λ i. record { origin = same_origin_true a.origin b.origin r.0 i; number = eqb-true a.number b.number r.1 i }

pub same_name_refl : (a : Name) → same_name a a ≡ true
unfolding same_name
same_name_refl a = true_and (same_origin a.origin a.origin) (eqb a.number a.number) (same_origin_refl a.origin) (eq-eqb a.number a.number refl)

pub is_parent_iff : (a : Name) (o : Option Name) → (is_parent a o ≡ true) ↔ (o ≡ some a)
unfolding is_parent
is_parent_iff a o = (to o, from o)
  where
    to : (o : Option Name) → is_parent a o ≡ true → o ≡ some a
    to none e = absurd (false≢true e)
    to (some b) e = ap {B = Option Name} some (sym (same_name_true a b e))

    from : (o : Option Name) → o ≡ some a → is_parent a o ≡ true
    from o e = subst (λ (o : Option Name). is_parent a o ≡ true) (sym e) (same_name_refl a)

pub comes_after_iff : (q p : Waiting) → (comes_after q p ≡ true) ↔ ComesAfter q p
unfolding comes_after
comes_after_iff q p = (to, from)
  where
    sibling : Bool
    sibling = same_origin q.name.origin p.name.origin && elem p.name.number q.after

    to : comes_after q p ≡ true → ComesAfter q p
    to e =
        ⊎_elim
        (λ h.
        let r = and_true (same_origin q.name.origin p.name.origin) (elem p.name.number q.after) h in
        by_row (sym (same_origin_true _ _ r.0)) (elem_true _ _ r.1))
        (λ h. by_method ((is_parent_iff q.name p.parent).0 h))
        (or_true sibling (is_parent q.name p.parent) e)

    from : ComesAfter q p → comes_after q p ≡ true
    from (by_row o m) =
        true_or_left sibling (is_parent q.name p.parent)
        (true_and (same_origin q.name.origin p.name.origin) (elem p.name.number q.after) (eq_same_origin _ _ (sym o)) (true_elem _ _ m))
    from (by_method o) = true_or_right sibling (is_parent q.name p.parent) ((is_parent_iff q.name p.parent).1 o)

-- Free: no waiting goal is listed before it.
pub free_iff_none_listed : (w : List Waiting) (q : Waiting) → (free w q ≡ true) ↔ ((p : Waiting) → Memᴰ p w → ¬ ComesAfter q p)
unfolding free
free_iff_none_listed w q = (to, from)
  where
    to : free w q ≡ true → (p : Waiting) → Memᴰ p w → ¬ ComesAfter q p
    to e p m l = false_not_true (any (comes_after q) w) (not-true _ e) (true_any (comes_after q) w m ((comes_after_iff q p).1 l))

    found : ((p : Waiting) → Memᴰ p w → ¬ ComesAfter q p) → (p : Waiting) × Memᴰ p w × (comes_after q p ≡ true) → ⊥
    found h r = h r.0 r.1 ((comes_after_iff q r.0).0 r.2)

    from : ((p : Waiting) → Memᴰ p w → ¬ ComesAfter q p) → free w q ≡ true
    from h = ap not (not_true_false (any (comes_after q) w) (λ e. found h (any_true (comes_after q) w e)))

-- The last listed pair of a chain.
pub last_listed : {w : List Waiting} {p q : Waiting} → Precedes w p q → (r : Waiting) × Memᴰ r w × ComesAfter q r
last_listed (listed {p = p} m n l) = (p, m, l)
last_listed (through a b) = last_listed b

-- A waiting goal is free by the listed pairs exactly when it is unconstrained by their closure.
pub free_iff_unconstrained : (w : List Waiting) (q : Waiting) → Memᴰ q w → (free w q ≡ true) ↔ Unconstrained w q
free_iff_unconstrained w q m =
    ((λ e p c. let r = last_listed c in (free_iff_none_listed w q).0 e r.0 r.1 r.2), (λ h. (free_iff_none_listed w q).1 (λ p n l. h p (listed n m l))))
