-- The test of relevance tells blocked, helping or neither, with the effect that decides, exactly where the two lists are so; and effects are
-- relevant to a goal exactly where it tells helping. All rests on one law of the first element that passes a test. Assumes nothing.
use Prim.Native.Nat.{ℕ}
use native.Mathlib.Omega.{arith}
use mathlib.Core.Path.{◌≡◌, refl, sym, ap, ◌∙◌, subst}
use mathlib.Core.Bool.{Bool, true, false, not, cond, false≢true}
use mathlib.Core.Logic.Iff
use mathlib.Core.Logic.{◌↔◌, ⊎_elim}
use mathlib.Core.List.Memᴰ
use mathlib.Core.List.{List, [], ◌∷◌, ◌++◌, flatten, Memᴰ}
use mathlib.Core.Option.{Option, none, some}
use Rattle.hgn.specs.Lists.{find}
use Rattle.hgn.specs.Meaning.{Literal, Formula}
use Rattle.hgn.specs.State.{opposite, contains, relevant, Relevant}
use Rattle.hgn.specs.Relevance.{Relevance, blocked, helping, neither, relevance, is_helping}
use Rattle.hgn.specs.Demands.{FirstSo, RelevanceTells, RelevantIsHelping}
use Rattle.hgn.proofs.Logic.Tests.{not_true_false, false_not_true, contains_iff, flatten_literal, relevant_iff}

-- The first element that passes a test.

module _ {A : Type 0} (test : A → Bool) where
  -- Some elements that fail the test, then this one, which passes it, then others.
  pub record FirstPassing (xs : List A) (x : A) : Type 0 where
    pub before : List A
    pub behind : List A
    pub listed : xs ≡ before ++ (x ∷ behind)
    pub before_fail : (y : A) → Memᴰ y before → test y ≡ false
    pub passes : test x ≡ true

  found_splits : (xs : List A) (x : A) → find test xs ≡ some x → FirstPassing xs x
  unfolding find
  found_splits [] x e = let z : ◌≡◌ {A = ℕ} 0 1 = cc in absurd (omega arith)
  found_splits (y ∷ xs) x e = go (test y) refl (found_splits xs x) e
    where
      go : (b : Bool) → test y ≡ b → (find test xs ≡ some x → FirstPassing xs x) → cond b (some y) (find test xs) ≡ some x → FirstPassing (y ∷ xs) x
      go true h rest f =
          let z : y ≡ x = cc in
          record {
            before = [];
            behind = xs;
            listed = ap {B = List A} (λ k. k ∷ xs) z;
            before_fail = λ k m. absurd (Memᴰ.not-nil m);
            passes = ap test (sym z) ∙ h;
          }
      go false h rest f =
          let r = rest f in
          record {
            before = y ∷ r.before;
            behind = r.behind;
            listed = ap {B = List A} (λ k. y ∷ k) r.listed;
            before_fail = λ k m. ⊎_elim (λ z. ap test z ∙ h) (λ n. r.before_fail k n) (Memᴰ.cases_cons m);
            passes = r.passes;
          }

  split_found : (before : List A) (x : A) (behind : List A) → ((y : A) → Memᴰ y before → test y ≡ false) → test x ≡ true
      → find test (before ++ (x ∷ behind)) ≡ some x
  unfolding find
  split_found [] x behind h e = rw e
  split_found (y ∷ before) x behind h e = rw (h y (Memᴰ.head refl)) (split_found before x behind (λ k m. h k (Memᴰ.tail m)) e)

  -- An element is found exactly when it is the first that passes.
  pub find_some : (xs : List A) (x : A) → (find test xs ≡ some x) ↔ FirstPassing xs x
  find_some xs x = (found_splits xs x, λ r. ap (find test) r.listed ∙ split_found r.before x r.behind r.before_fail r.passes)

  all_fail : (xs : List A) → find test xs ≡ none → (x : A) → Memᴰ x xs → test x ≡ false
  unfolding find
  all_fail [] e x m = absurd (Memᴰ.not-nil m)
  all_fail (y ∷ xs) e x m = go (test y) refl (all_fail xs) e
    where
      go : (b : Bool) → test y ≡ b → (find test xs ≡ none → (x : A) → Memᴰ x xs → test x ≡ false) → cond b (some y) (find test xs) ≡ none
          → test x ≡ false
      go true h rest f = let z : ◌≡◌ {A = ℕ} 0 1 = cc in absurd (omega arith)
      go false h rest f = ⊎_elim (λ z. ap test z ∙ h) (λ n. rest f x n) (Memᴰ.cases_cons m)

  none_found : (xs : List A) → ((x : A) → Memᴰ x xs → test x ≡ false) → find test xs ≡ none
  unfolding find
  none_found [] h = refl
  none_found (y ∷ xs) h = rw (h y (Memᴰ.head refl)) (none_found xs (λ k m. h k (Memᴰ.tail m)))

  -- None is found exactly when all fail.
  pub find_none : (xs : List A) → (find test xs ≡ none) ↔ ((x : A) → Memᴰ x xs → test x ≡ false)
  find_none xs = (all_fail xs, none_found xs)

-- The first literal that is so, where a test decides what is so.

module _ (test : Literal → Bool) {So : Literal → Type 0} (decides : (l : Literal) → (test l ≡ true) ↔ So l) where
  not_so : (l : Literal) → (test l ≡ false) ↔ (¬ So l)
  not_so l = ((λ e s. false_not_true (test l) e ((decides l).1 s)), (λ n. not_true_false (test l) (λ e. n ((decides l).0 e))))

  first_so : (ls : List Literal) (l : Literal) → (find test ls ≡ some l) ↔ FirstSo So ls l
  first_so ls l = Iff.trans (find_some test ls l) (to, from)
    where
      to : FirstPassing test ls l → FirstSo So ls l
      to r = record {
        before = r.before;
        behind = r.behind;
        listed = r.listed;
        none_before = λ k m. (not_so k).0 (r.before_fail k m);
        so = (decides l).0 r.passes;
      }

      from : FirstSo So ls l → FirstPassing test ls l
      from r = record {
        before = r.before;
        behind = r.behind;
        listed = r.listed;
        before_fail = λ k m. (not_so k).1 (r.none_before k m);
        passes = (decides l).1 r.so;
      }

  none_so : (ls : List Literal) → (find test ls ≡ none) ↔ ((l : Literal) → Memᴰ l ls → ¬ So l)
  none_so ls = Iff.trans (find_none test ls) ((λ h l m. (not_so l).0 (h l m)), (λ h l m. (not_so l).1 (h l m)))

-- What is told, where `o` is the first effect whose opposite is wanted and `p` the first that is wanted itself.

abbrev pub told : Option Literal → Option Literal → Relevance
told o p = elim o [
  | some e ↦ blocked e
  | none ↦ elim p [
    | some e ↦ helping e
    | none ↦ neither
  ]
]

blocked_told : (o p : Option Literal) (e : Literal) → (told o p ≡ blocked e) ↔ (o ≡ some e)
blocked_told (some k) p e = ((λ h. cc), (λ h. cc))
blocked_told none (some k) e = ((λ h. cc), (λ h. cc))
blocked_told none none e = ((λ h. cc), (λ h. cc))

helping_told : (o p : Option Literal) (e : Literal) → (told o p ≡ helping e) ↔ ((o ≡ none) × (p ≡ some e))
helping_told (some k) p e = ((λ h. (cc, cc)), (λ h. cc))
helping_told none (some k) e = ((λ h. (refl, cc)), (λ h. cc))
helping_told none none e = ((λ h. (cc, cc)), (λ h. cc))

neither_told : (o p : Option Literal) → (told o p ≡ neither) ↔ ((o ≡ none) × (p ≡ none))
neither_told (some k) p = ((λ h. (cc, cc)), (λ h. cc))
neither_told none (some k) = ((λ h. (cc, cc)), (λ h. cc))
neither_told none none = ((λ h. (refl, refl)), (λ h. refl))

pub relevance_tells : (effects wanted : List Literal) → RelevanceTells effects wanted
unfolding relevance
relevance_tells effects wanted = record {
  blocked_iff = λ e. Iff.trans (blocked_told first_opposed first_wanted e) (first_so opposite_wanted opposite_iff effects e);
  helping_iff = λ e. Iff.trans (helping_told first_opposed first_wanted e)
      (Iff.and (none_so opposite_wanted opposite_iff effects) (first_so (contains wanted) (contains_iff wanted) effects e));
  neither_iff = Iff.trans (neither_told first_opposed first_wanted)
      (Iff.trans (Iff.and (none_so opposite_wanted opposite_iff effects) (none_so (contains wanted) (contains_iff wanted) effects))
      ((λ h k m. (h.1 k m, h.0 k m)), (λ h. ((λ k m. (h k m).1), (λ k m. (h k m).0)))));
}
  where
    opposite_wanted : Literal → Bool
    opposite_wanted e = contains wanted (opposite e)

    opposite_iff : (l : Literal) → (opposite_wanted l ≡ true) ↔ Memᴰ (opposite l) wanted
    opposite_iff l = contains_iff wanted (opposite l)

    first_opposed : Option Literal
    first_opposed = find opposite_wanted effects

    first_wanted : Option Literal
    first_wanted = find (contains wanted) effects

-- Relevant is helping.

opposite_twice : (l : Literal) → opposite (opposite l) ≡ l
opposite_twice l = λ i. record { sign = not_not l.sign i; atom = l.atom }
  where
    not_not : (b : Bool) → not (not b) ≡ b
    not_not true = refl
    not_not false = refl

-- The first literal of a list that is so stands in the list.
first_mem : {So : Literal → Type 0} {ls : List Literal} {l : Literal} → FirstSo So ls l → Memᴰ l ls
first_mem {l = l} r = subst (Memᴰ l) (sym r.listed) (Memᴰ.append_right r.before (Memᴰ.head refl))

definition_helps : (effects : List Literal) (g : Formula) → Relevant effects g ↔ ((e : Literal) × (relevance effects (flatten g) ≡ helping e))
definition_helps effects g = (λ r. to r (relevance effects (flatten g)) refl, from)
  where
    tells : RelevanceTells effects (flatten g)
    tells = relevance_tells effects (flatten g)

    to : Relevant effects g → (t : Relevance) → relevance effects (flatten g) ≡ t → (e : Literal) × (relevance effects (flatten g) ≡ helping e)
    to r (blocked e) q =
        let f = (tells.blocked_iff e).0 q in
        absurd (r.no_opposite (opposite e) ((flatten_literal g (opposite e)).0 f.so) (Memᴰ.cast (opposite_twice e) (first_mem f)))
    to r (helping e) q = (e, q)
    to r neither q = absurd ((tells.neither_iff.0 q r.literal r.contained).0 ((flatten_literal g r.literal).1 r.wanted))

    from : (e : Literal) × (relevance effects (flatten g) ≡ helping e) → Relevant effects g
    from h =
        let f = (tells.helping_iff h.0).0 h.1 in
        record {
          literal = h.0;
          wanted = (flatten_literal g h.0).0 f.1.so;
          contained = first_mem f.1;
          no_opposite = λ l w m. f.0 (opposite l) m (Memᴰ.cast (opposite_twice l) ((flatten_literal g l).1 w));
        }

pub relevant_is_helping : (effects : List Literal) (g : Formula) → RelevantIsHelping effects g
relevant_is_helping effects g = record {
  test_iff = Iff.trans (relevant_iff effects g) (definition_helps effects g);
  definition_iff = definition_helps effects g;
}

is_helping_iff : (t : Relevance) → (is_helping t ≡ true) ↔ ((e : Literal) × (t ≡ helping e))
is_helping_iff (blocked e) = ((λ h. absurd (false≢true h)), (λ h. cc h.1))
is_helping_iff (helping e) = ((λ h. (e, refl)), (λ h. refl))
is_helping_iff neither = ((λ h. absurd (false≢true h)), (λ h. cc h.1))

-- Two answers of which each is true where the other is are equal.
same_test : (a b : Bool) → (a ≡ true) ↔ (b ≡ true) → a ≡ b
same_test true b h = sym (h.0 refl)
same_test false b h = sym (not_true_false b (λ e. false≢true (h.1 e)))

-- The test `relevant` asks no more than whether the effects help.
pub relevant_helping : (effects : List Literal) (g : Formula) → relevant effects g ≡ is_helping (relevance effects (flatten g))
relevant_helping effects g =
    same_test _ _ (Iff.trans (relevant_is_helping effects g).test_iff (Iff.symm (is_helping_iff (relevance effects (flatten g)))))
