-- What `first_some` finds along a rising list, and that the steps to try rise and hold every step that can be taken. Assumes nothing.
use Prim.Native.Nat.{ℕ, zero, suc, ◌+◌, ◌≤◌, ◌<◌}
use native.Mathlib.Omega.{arith}
use mathlib.Core.Path.{◌≡◌, refl, sym, ap, ◌∙◌, subst}
use mathlib.Core.Logic.{◌⊎◌, inl, inr, ⊎_elim}
use mathlib.Core.List.Memᴰ
use mathlib.Core.List.{List, [], ◌∷◌, ◌++◌, map, flatten, Memᴰ}
use mathlib.Core.Option.{Option, none, some, none-ne-some, some-ne-none}
use lib.ListN.{length}
use Rattle.hgn.specs.Lists.{range, first_some}
use Rattle.hgn.specs.Meaning.{Domain}
use Rattle.hgn.specs.Network.{Waiting}
use Rattle.hgn.specs.Run.{Step, first_method, Move, Problem, Rules, Deed, taken, stepped}
use Rattle.hgn.specs.Trace.{step}
use Rattle.hgn.specs.Search.{moves_of, steps_at, candidates}
use Rattle.hgn.proofs.Logic.Ranges.{range_within, within_range}
use Rattle.hgn.proofs.Run.Steps.{Moved, by_release, by_action, by_method, took}
use Rattle.hgn.proofs.Run.Moves.{Reads, as_release, as_action, as_method, as_unknown, reads}

-- No value is none.
pub no_value : {B : Type 0} (o : Option B) → ((y : B) → o ≡ some y → ⊥) → o ≡ none
no_value none h = refl
no_value (some y) h = absurd (h y refl)

-- `first_some`, one element at a time.

module _ {A B : Type 0} (f : A → Option B) where
  pub first_here : (x : A) (xs : List A) (y : B) → f x ≡ some y → first_some f (x ∷ xs) ≡ some y
  unfolding first_some
  first_here x xs y e = rw (e, first_some)

  pub first_later : (x : A) (xs : List A) → f x ≡ none → first_some f (x ∷ xs) ≡ first_some f xs
  unfolding first_some
  first_later x xs e = rw (e, first_some)

  -- What is found is a member's value.
  pub first_member : (xs : List A) (y : B) → first_some f xs ≡ some y → (x : A) × Memᴰ x xs × (f x ≡ some y)
  unfolding first_some
  first_member [] y e = absurd (none-ne-some y e)
  first_member (x ∷ xs) y e = go (first_member xs y) (f x) refl
    where
      go : (first_some f xs ≡ some y → (t : A) × Memᴰ t xs × (f t ≡ some y)) → (o : Option B) → f x ≡ o
          → (t : A) × Memᴰ t (x ∷ xs) × (f t ≡ some y)
      go ih none q = let t = ih (sym (first_later x xs q) ∙ e) in (t.0, Memᴰ.tail t.1, t.2)
      go ih (some v) q = (x, Memᴰ.head refl, q ∙ sym (first_here x xs v q) ∙ e)

  -- Nothing is found exactly where no member has a value.
  pub none_all : (xs : List A) → first_some f xs ≡ none → (x : A) → Memᴰ x xs → f x ≡ none
  none_all [] e x m = absurd (Memᴰ.not-nil m)
  none_all (z ∷ xs) e x m = go (none_all xs) (f z) refl
    where
      go : (first_some f xs ≡ none → (x : A) → Memᴰ x xs → f x ≡ none) → (o : Option B) → f z ≡ o → f x ≡ none
      go ih none q = ⊎_elim (λ p. ap f p ∙ q) (ih (sym (first_later z xs q) ∙ e) x) (Memᴰ.cases_cons m)
      go ih (some y) q = absurd (some-ne-none y (sym (first_here z xs y q) ∙ e))

  pub all_none : (xs : List A) → ((x : A) → Memᴰ x xs → f x ≡ none) → first_some f xs ≡ none
  unfolding first_some
  all_none [] h = refl
  all_none (x ∷ xs) h = first_later x xs (h x (Memᴰ.head refl)) ∙ all_none xs (λ z m. h z (Memᴰ.tail m))

-- Equal values are found first at the same member.
pub first_cong : {A B : Type 0} (f g : A → Option B) (xs : List A) → ((x : A) → f x ≡ g x) → first_some f xs ≡ first_some g xs
unfolding first_some
first_cong f g [] h = refl
first_cong f g (x ∷ xs) h = go (f x) refl (first_cong f g xs h)
  where
    go : (o : Option _) → f x ≡ o → first_some f xs ≡ first_some g xs → first_some f (x ∷ xs) ≡ first_some g (x ∷ xs)
    go none q ih = first_later f x xs q ∙ ih ∙ sym (first_later g x xs (sym (h x) ∙ q))
    go (some y) q ih = first_here f x xs y q ∙ sym (first_here g x xs y (sym (h x) ∙ q))

-- Rising lists: each member is before all later ones.

module _ {A : Type 0} (R : A → A → Type 0) where
  abbrev pub Rising : List A → Type 0
  Rising [] = Unit {0}
  Rising (x ∷ xs) = ((z : A) → Memᴰ z xs → R x z) × Rising xs

  pub rising_append : (xs ys : List A) → Rising xs → Rising ys → ((x y : A) → Memᴰ x xs → Memᴰ y ys → R x y) → Rising (xs ++ ys)
  rising_append [] ys p q h = q
  rising_append (x ∷ xs) ys p q h = (
    (λ z m. ⊎_elim (p.0 z) (h x z (Memᴰ.head refl)) (Memᴰ.append_cases xs m)),
    rising_append xs ys p.1 q (λ x y m n. h x y (Memᴰ.tail m) n),
  )

  module _ {B : Type 0} (f : A → Option B) where
    -- What is found is the value of a member with none before it that has one.
    pub first_rising : ((x z : A) → R x z → R z x → ⊥) → (xs : List A) → Rising xs → (y : B) → first_some f xs ≡ some y
        → (x : A) × Memᴰ x xs × (f x ≡ some y) × ((z : A) → Memᴰ z xs → R z x → f z ≡ none)
    unfolding first_some
    first_rising apart [] r y e = absurd (none-ne-some y e)
    first_rising apart (x ∷ xs) r y e = go (first_rising apart xs r.1 y) (f x) refl
      where
        go : (first_some f xs ≡ some y → (x : A) × Memᴰ x xs × (f x ≡ some y) × ((z : A) → Memᴰ z xs → R z x → f z ≡ none))
            → (o : Option B) → f x ≡ o
            → (t : A) × Memᴰ t (x ∷ xs) × (f t ≡ some y) × ((z : A) → Memᴰ z (x ∷ xs) → R z t → f z ≡ none)
        go ih none q =
            let t = ih (sym (first_later f x xs q) ∙ e) in
            (t.0, Memᴰ.tail t.1, t.2, λ z m b. ⊎_elim (λ p. ap f p ∙ q) (λ n. t.3 z n b) (Memᴰ.cases_cons m))
        go ih (some v) q = (
          x,
          Memᴰ.head refl,
          q ∙ sym (first_here f x xs v q) ∙ e,
          λ z m b. absurd (⊎_elim (λ (p : z ≡ x). let c = subst (λ t. R t x) p b in apart x x c c) (λ n. apart z x b (r.0 z n)) (Memᴰ.cases_cons m)),
        )

    -- And back.
    pub found_rising : (xs : List A) → Rising xs → (y : B) (x : A) → Memᴰ x xs → f x ≡ some y
        → ((z : A) → Memᴰ z xs → R z x → f z ≡ none) → first_some f xs ≡ some y
    found_rising (t ∷ xs) r y x (Memᴰ.head p) e h = first_here f t xs y (ap f (sym p) ∙ e)
    found_rising (t ∷ xs) r y x (Memᴰ.tail m) e h =
        first_later f t xs (h t (Memᴰ.head refl) (r.0 x m)) ∙ found_rising xs r.1 y x m e (λ z n b. h z (Memᴰ.tail n) b)
    found_rising [] r y x x6 e h = elim x6 [ ]

-- The numbers from `i` on.

pub range_rising : (i n : ℕ) → Rising ◌<◌ (range i n)
unfolding range
range_rising i zero = tt
range_rising i (suc n) = ((λ z m. (range_within (suc i) n z m).0), range_rising (suc i) n)

-- At each place the moves, and the places rise.

abbrev pub Before : Step → Step → Type 0
Before z x = (z.place < x.place) ⊎ ((z.place ≡ x.place) × (z.move < x.move))

pub before_apart : (x z : Step) → Before x z → Before z x → ⊥
before_apart x z (inl p) (inl q) = omega arith
before_apart x z (inl p) (inr q) = let e = q.0 in omega arith
before_apart x z (inr p) (inl q) = let e = p.0 in omega arith
before_apart x z (inr p) (inr q) = let a = p.1 in let b = q.1 in omega arith

moves_rising : (d : Domain) → length d.actions ≤ 255 → Rising ◌<◌ (moves_of d)
unfolding moves_of
moves_rising d b = (
  (λ z m. ⊎_elim (λ h. (range_within 1 _ z h).0) (λ h. let r = (range_within first_method _ z h).0 in omega arith) (Memᴰ.append_cases (range 1 _) m)),
  rising_append ◌<◌ (range 1 _) (range first_method _) (range_rising 1 _) (range_rising first_method _)
      (λ x y m n. let p = (range_within 1 _ x m).1 in let q = (range_within first_method _ y n).0 in omega arith),
)

module _ (d : Domain) where
  -- The members at a place.
  at_place : (p : ℕ) (z : Step) → Memᴰ z (steps_at d p) → z.place ≡ p
  unfolding steps_at
  at_place p z m = let r = Memᴰ.of_map (λ m. step m p) (moves_of d) m in sym (ap (λ (x : Step). x.place) r.2)

  place_rising : (p : ℕ) → length d.actions ≤ 255 → Rising Before (steps_at d p)
  unfolding steps_at
  place_rising p b = go (moves_of d) (moves_rising d b)
    where
      go : (ms : List ℕ) → Rising ◌<◌ ms → Rising Before (map (λ m. step m p) ms)
      go [] r = tt
      go (m ∷ ms) r = (
        (λ z h.
            let t = Memᴰ.of_map (λ m. step m p) ms h in
            subst (Before (step m p)) t.2 (inr (refl, r.0 t.0 t.1))),
        go ms r.1,
      )

  -- The members of all places.
  places_within : (ps : List ℕ) (z : Step) → Memᴰ z (flatten (map (steps_at d) ps)) → Memᴰ z.place ps
  unfolding flatten
  places_within [] z m = absurd (Memᴰ.not-nil m)
  places_within (p ∷ ps) z m =
      ⊎_elim (λ h. Memᴰ.head (at_place p z h)) (λ h. Memᴰ.tail (places_within ps z h)) (Memᴰ.append_cases (steps_at d p) m)

  within_places : (ps : List ℕ) (p : ℕ) (z : Step) → Memᴰ p ps → Memᴰ z (steps_at d p) → Memᴰ z (flatten (map (steps_at d) ps))
  unfolding flatten
  within_places (q ∷ ps) p z (Memᴰ.head e) m = Memᴰ.append_left _ (subst (λ (t : ℕ). Memᴰ z (steps_at d t)) e m)
  within_places (q ∷ ps) p z (Memᴰ.tail h) m = Memᴰ.append_right (steps_at d q) (within_places ps p z h m)
  within_places [] p z x'' m = elim x'' [ ]

  pub candidates_rising : length d.actions ≤ 255 → (w : List Waiting) → Rising Before (candidates d w)
  unfolding candidates flatten
  candidates_rising b w = go (range 0 (length w)) (range_rising 0 (length w))
    where
      go : (ps : List ℕ) → Rising ◌<◌ ps → Rising Before (flatten (map (steps_at d) ps))
      go [] r = tt
      go (p ∷ ps) r =
          rising_append Before (steps_at d p) (flatten (map (steps_at d) ps)) (place_rising p b) (go ps r.1)
          (λ x y m n. let e = at_place p x m in let l = r.0 y.place (places_within ps y n) in inl (omega arith))

  module _ {B : Type 0} (f : Step → Option B) (b : length d.actions ≤ 255) (w : List Waiting) where
    pub first_candidate : (y : B) → first_some f (candidates d w) ≡ some y
        → (x : Step) × Memᴰ x (candidates d w) × (f x ≡ some y) × ((z : Step) → Memᴰ z (candidates d w) → Before z x → f z ≡ none)
    first_candidate y e = first_rising Before f before_apart (candidates d w) (candidates_rising b w) y e

module _ (r : Rules) where
  move_known : {n p k : ℕ} {P P' : Problem} {m : Move} {deed : Deed} → Reads r.domain k m → Moved r n P p m deed P'
      → Memᴰ k (moves_of r.domain)
  unfolding moves_of
  move_known as_release (by_release f) = Memᴰ.head refl
  move_known (as_action {k} h) (by_action f g) =
      Memᴰ.tail (Memᴰ.append_left _ (within_range 1 (length r.domain.actions) (suc k) (omega arith) (omega arith)))
  move_known (as_method {k} h) (by_method f g l) =
      Memᴰ.tail
      (Memᴰ.append_right (range 1 (length r.domain.actions))
      (within_range first_method (length r.domain.methods) (first_method + k) (omega arith) (omega arith)))
  move_known as_unknown x4 = elim x4 [ ]

  -- A step that can be taken is tried.
  pub is_candidate : (n : ℕ) (P : Problem) (x : Step) (deed : Deed) (P' : Problem)
      → stepped r n P x ≡ taken deed P' → Memᴰ x (candidates r.domain P.waiting)
  unfolding candidates steps_at
  is_candidate n P x deed P' e =
      let t = took x deed P' e in
      within_places r.domain (range 0 (length P.waiting)) x.place x
      (within_range 0 (length P.waiting) x.place (omega arith) (omega (arith, t.inside)))
      (Memᴰ.map (λ m. step m x.place) (move_known (reads r.domain x.move) t.by))
