-- What the other files use of lists. Nothing here is about planning.
use Rattle.std.specs.Prelude.{ℕ, zero, suc, Bool, true, false, cond, ◌&&◌, ◌||◌, List, [], ◌∷◌, eqb}
use Rattle.std.proofs.Math.Option.{Option, none, some}

module _ {A : Type 0} where
  -- Some element passes the test.
  unfoldable pub any : (A → Bool) → List A → Bool
  any test [] = false
  any test (x ∷ xs) = test x || any test xs

  -- Every element passes the test.
  unfoldable pub all : (A → Bool) → List A → Bool
  all test [] = true
  all test (x ∷ xs) = test x && all test xs

  -- The elements that pass the test, in order.
  unfoldable pub filter : (A → Bool) → List A → List A
  filter test [] = []
  filter test (x ∷ xs) = cond (test x) (x ∷ filter test xs) (filter test xs)

  -- The elements before the first that passes the test.
  unfoldable pub take_until : (A → Bool) → List A → List A
  take_until test [] = []
  take_until test (x ∷ xs) = cond (test x) [] (x ∷ take_until test xs)

  -- The first element that passes the test, and all after it.
  unfoldable pub drop_until : (A → Bool) → List A → List A
  drop_until test [] = []
  drop_until test (x ∷ xs) = cond (test x) (x ∷ xs) (drop_until test xs)

  -- The first element that passes the test, if one does.
  unfoldable pub find : (A → Bool) → List A → Option A
  find test [] = none
  find test (x ∷ xs) = cond (test x) (some x) (find test xs)

  -- For each element that passes the test, that element and those after it up to the next that passes.
  unfoldable pub split_at_each : (A → Bool) → List A → List (List A)
  split_at_each test [] = []
  split_at_each test (x ∷ xs) = cond (test x) ((x ∷ take_until test xs) ∷ split_at_each test xs) (split_at_each test xs)

  -- Element `n` of the list is `x`.
  pub data At : List A → ℕ → A → Type 0 where
    here : {x : A} {xs : List A} → At (x ∷ xs) zero x
    there : {x y : A} {xs : List A} {n : ℕ} → At xs n x → At (y ∷ xs) (suc n) x

-- The number stands in the list.
unfoldable pub elem : ℕ → List ℕ → Bool
unfolding any
elem n ns = any (eqb n) ns

-- `n` numbers from `i` on: `i`, `i` + 1, …
unfoldable pub range : ℕ → ℕ → List ℕ
range i zero = []
range i (suc n) = i ∷ range (suc i) n

-- The first value that is found along the list.
unfoldable pub first_some : {A B : Type 0} → (A → Option B) → List A → Option B
first_some f [] = none
first_some f (x ∷ xs) = elim (f x) [
  | none ↦ first_some f xs
  | some y ↦ some y
]
