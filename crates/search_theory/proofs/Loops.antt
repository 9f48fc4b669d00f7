-- The steps tried, as a loop over places and a loop over moves inside it. Assumes nothing.
use Prim.Native.Nat.{ℕ, zero, suc, ◌+◌, ◌-◌, ◌≤◌, ◌<◌}
use native.Mathlib.Omega.{arith}
use native.Mathlib.Nat.{sub-zero}
use mathlib.Core.Path.{◌≡◌, refl, ap, ◌∙◌}
use mathlib.Core.Bool.{Bool, true, false, cond}
use mathlib.Core.List.{List, [], ◌∷◌, ◌++◌, map, flatten}
use mathlib.Core.Option.{Option, none, some, or_else}
use lib.Dec.{leb, leb-zero}
use lib.ListN.{length, drop, get_or, length-append, drop_of_length-le, get_or-append}
use lib.Seq.{drop-cons, get_or-append-add}
use borrow.Author.Tests.{leb-true, leb-false}
use Rattle.hgn.specs.Lists.{range, first_some}
use Rattle.hgn.specs.Meaning.{Domain}
use Rattle.hgn.specs.Network.{Waiting, free, goal_at}
use Rattle.hgn.specs.Run.{Step, first_method, Problem, Rules, Stepped, refused, taken, stepped}
use Rattle.hgn.specs.Trace.{step}
use Rattle.hgn.specs.Search.{moves_of, steps_at, candidates}
use Rattle.hgn.proofs.Logic.Tests.{false_not_true}
use Rattle.hgn.proofs.Run.Steps.{took}
use Rattle.search_theory.specs.Pruned.{behind, pruned_of, move_at, moves_from, places_from}

-- Numbers in a row.

length_from : (i n : ℕ) → length (range i n) ≡ n
unfolding range
length_from i zero = refl
length_from i (suc n) = ap suc (length_from (suc i) n)

from_at : (i n j : ℕ) → j < n → get_or (range i n) j 0 ≡ i + j
unfolding range
from_at i zero j h = absurd (omega arith)
from_at i (suc n) zero h = omega arith
from_at i (suc n) (suc j) h = from_at (suc i) n j (omega arith) ∙ omega arith

-- The moves: 0, the K actions and the M methods.

module _ (d : Domain) where
  pub moves_count : length (moves_of d) ≡ 1 + length d.actions + length d.methods
  unfolding moves_of
  moves_count =
      let a = length-append (range 1 (length d.actions)) (range first_method (length d.methods)) in
      omega (arith, a, length_from 1 (length d.actions), length_from first_method (length d.methods))

  -- `move_at` reads the list of moves.
  move_at_law : (i : ℕ) → i < length (moves_of d) → get_or (moves_of d) i 0 ≡ move_at d i
  unfolding moves_of move_at
  move_at_law zero h = rw (leb-zero (length d.actions)) refl
  move_at_law (suc j) h = go (leb (suc j) K) refl
    where
      K : ℕ
      K = length d.actions

      actions : List ℕ
      actions = range 1 K

      methods : List ℕ
      methods = range first_method (length d.methods)

      go : (b : Bool) → leb (suc j) K ≡ b → get_or (actions ++ methods) j 0 ≡ cond b (suc j) (first_method + (suc j - suc K))
      go true e =
          let l : j < K = leb-true _ _ e in
          get_or-append actions methods 0 j (omega (arith, length_from 1 K)) ∙ from_at 1 K j l ∙ omega arith
      go false e =
          let l : K < suc j = leb-false _ _ e in
          let q : j ≡ length actions + (j - K) = omega (arith, length_from 1 K) in
          ap (λ (k : ℕ). get_or (actions ++ methods) k 0) q ∙ get_or-append-add actions methods (j - K) 0
          ∙ from_at first_method (length d.methods) (j - K) (omega (arith, moves_count)) ∙ omega arith

-- Along a list.

module _ {A B : Type 0} (f : A → Option B) where
  first_cons : (x : A) (xs : List A) → first_some f (x ∷ xs) ≡ or_else (f x) (first_some f xs)
  unfolding first_some or_else
  first_cons x xs = go (f x) refl
    where
      go : (o : Option B) → f x ≡ o → first_some f (x ∷ xs) ≡ or_else o (first_some f xs)
      go none e = rw (e, first_some)
      go (some y) e = rw (e, first_some)

  first_append : (xs ys : List A) → first_some f (xs ++ ys) ≡ or_else (first_some f xs) (first_some f ys)
  unfolding first_some or_else
  first_append [] ys = refl
  first_append (x ∷ xs) ys = go (f x) refl (first_append xs ys)
    where
      go : (o : Option B) → f x ≡ o → first_some f (xs ++ ys) ≡ or_else (first_some f xs) (first_some f ys)
          → first_some f (x ∷ xs ++ ys) ≡ or_else (first_some f (x ∷ xs)) (first_some f ys)
      go none e ih = rw (e, first_some) ih
      go (some y) e ih = rw (e, first_some)

-- The two loops, over what is found at each step.

module _ (f : Step → Option (List Step)) (d : Domain) where
  pub places_all : (w : List Waiting) → first_some f (candidates d w) ≡ places_from f d w 0
  unfolding candidates places_from flatten
  places_all w = rw (sub-zero (length w)) refl

  pub places_next : (w : List Waiting) (p : ℕ) → p < length w → places_from f d w p ≡ or_else (moves_from f d p 0) (places_from f d w (suc p))
  unfolding places_from moves_from flatten range steps_at
  places_next w p h =
      let q : length w - p ≡ suc (length w - suc p) = omega arith in
      ap {B = Option (List Step)} (λ (k : ℕ). first_some f (flatten (map (steps_at d) (range p k)))) q
      ∙ first_append f (steps_at d p) (flatten (map (steps_at d) (range (suc p) (length w - suc p))))

  pub places_end : (w : List Waiting) (p : ℕ) → length w ≤ p → places_from f d w p ≡ none
  unfolding places_from flatten range first_some
  places_end w p h =
      let q : length w - p ≡ 0 = omega arith in
      ap {B = Option (List Step)} (λ (k : ℕ). first_some f (flatten (map (steps_at d) (range p k)))) q

  pub moves_next : (p i : ℕ) → i < length (moves_of d) → moves_from f d p i ≡ or_else (f (step (move_at d i) p)) (moves_from f d p (suc i))
  unfolding moves_from
  moves_next p i h =
      ap {B = Option (List Step)} (λ (l : List ℕ). first_some f (map (λ m. step m p) l)) (drop-cons (moves_of d) i 0 h)
      ∙ first_cons f (step (get_or (moves_of d) i 0) p) (map (λ m. step m p) (drop (suc i) (moves_of d)))
      ∙ ap (λ (m : ℕ). or_else (f (step m p)) (moves_from f d p (suc i))) (move_at_law d i h)

  pub moves_end : (p i : ℕ) → length (moves_of d) ≤ i → moves_from f d p i ≡ none
  unfolding moves_from first_some
  moves_end p i h = ap {B = Option (List Step)} (λ (l : List ℕ). first_some f (map (λ m. step m p) l)) (drop_of_length-le (moves_of d) h)

  -- Where no move at the place finds anything.
  pub moves_none : (p i : ℕ) → ((m : ℕ) → f (step m p) ≡ none) → moves_from f d p i ≡ none
  unfolding moves_from first_some or_else
  moves_none p i h = go (drop i (moves_of d))
    where
      go : (ms : List ℕ) → first_some f (map (λ m. step m p) ms) ≡ none
      go [] = refl
      go (m ∷ ms) = first_cons f (step m p) (map (λ m. step m p) ms) ∙ rw (h m) (go ms)

-- What the search does at a step, `next` being the search behind it.
module _ (r : Rules) (left : ℕ) (P₀ : Problem) (y : Step) (n : ℕ) (P : Problem) (next : Step → Problem → Option (List Step)) where
  abbrev pub tried : Step → Option (List Step)
  tried x = behind r left P₀ y P (next x) x (stepped r n P x)

  -- Where the goal of the place is not free every move is refused.
  pub not_free_none : (p i : ℕ) → free P.waiting (goal_at P.waiting p) ≡ false → moves_from tried r.domain p i ≡ none
  unfolding behind
  not_free_none p i e = moves_none tried r.domain p i λ m. go m (stepped r n P (step m p)) refl
    where
      go : (m : ℕ) (o : Stepped) → stepped r n P (step m p) ≡ o → behind r left P₀ y P (next (step m p)) (step m p) o ≡ none
      go m (refused q) f = refl
      go m (taken deed P') f = absurd (false_not_true _ e (took (step m p) deed P' f).is_free)

-- The search of one more step is the loop over all places.
pub pruned_places : (k : ℕ) (r : Rules) (P₀ : Problem) (y : Step) (n : ℕ) (P : Problem)
    → pruned_of (suc k) r P₀ y n P ≡ places_from (tried r k P₀ y n P (λ x. pruned_of k r P x (suc n))) r.domain P.waiting 0
unfolding pruned_of
pruned_places k r P₀ y n P = places_all (tried r k P₀ y n P (λ x. pruned_of k r P x (suc n))) r.domain P.waiting
