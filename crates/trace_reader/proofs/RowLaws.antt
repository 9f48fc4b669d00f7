-- The steps of any words, looked up by row: what stands at a row whose move and place are there, that the others are past the end, and the
-- steps from a row on. Assumes nothing.
use Prim.Native.Nat.{ℕ, zero, suc, ◌+◌, ◌-◌, ◌<◌, ◌≤◌, min}
use native.Mathlib.Omega.{arith}
use native.Mathlib.Numerals.{add-one}
use native.Mathlib.Nat.{not-suc-le-zero, le_of_suc-le-suc}
use mathlib.Core.Path.{◌≡◌, refl, sym, ap, ap₂, ◌∙◌}
use mathlib.Core.List.{List, [], ◌∷◌, zip_with}
use mathlib.Core.Option.{none, some, some-injective, none-ne-some}
use lib.ListN.{length, get_or, get_elem?, take, drop, length-take, length-drop}
use lib.Seq.{get_or-take, get_or-drop}
use Rattle.hgn.specs.Run.{Step}
use Rattle.hgn.specs.Trace.{step_count, steps_of, step}
use Rattle.sheet_check.proofs.Lookup.{get_or_zip_with}
use Rattle.trace_reader.specs.TraceRows.{row_at, steps_left}
use Rattle.trace_reader.specs.declared.reader.Reader.{Reader}

module _ {A : Type 0} where
  there : (l : List A) (i : ℕ) (d : A) → i < length l → get_elem? l i ≡ some (get_or l i d)
  there [] i d h = absurd (not-suc-le-zero h)
  there (x ∷ xs) zero d h = refl
  there (x ∷ xs) (suc i) d h = there xs i d (le_of_suc-le-suc h)

  past : (l : List A) (i : ℕ) → length l ≤ i → get_elem? l i ≡ none
  past [] i h = refl
  past (x ∷ xs) zero h = absurd (not-suc-le-zero h)
  past (x ∷ xs) (suc i) h = past xs i (le_of_suc-le-suc h)

  found_first : (l : List A) (i : ℕ) (x : A) → get_elem? l i ≡ some x → drop i l ≡ x ∷ drop (suc i) l
  found_first [] i x e = absurd (none-ne-some x e)
  found_first (y ∷ l) zero x e = ap {B = List A} (λ z. z ∷ l) (some-injective y x e)
  found_first (y ∷ l) (suc i) x e = found_first l i x e

  none_past : (l : List A) (i : ℕ) → get_elem? l i ≡ none → drop i l ≡ []
  none_past [] zero e = refl
  none_past [] (suc i) e = refl
  none_past (y ∷ l) zero e = absurd (none-ne-some y (sym e))
  none_past (y ∷ l) (suc i) e = none_past l i e

-- A list of pairs is as long as the shorter of the two.
module _ {A B C : Type 0} (f : A → B → C) where
  length_zipped : (xs : List A) (ys : List B) → length (zip_with f xs ys) ≡ min (length xs) (length ys)
  unfolding zip_with
  length_zipped [] ys = omega arith
  length_zipped (x ∷ xs) [] = omega arith
  length_zipped (x ∷ xs) (y ∷ ys) = omega (arith, length_zipped xs ys)

module _ (trace : List ℕ) (i : ℕ) where
  abbrev moves : List ℕ
  moves = take (step_count trace) (drop 1 trace)

  abbrev places : List ℕ
  places = take (step_count trace) (drop (1 + step_count trace) trace)

  moves_length : length moves ≡ min (step_count trace) (length trace - 1)
  moves_length = simp (length-take, length-drop) refl

  places_length : length places ≡ min (step_count trace) (length trace - (1 + step_count trace))
  places_length = simp (length-take, length-drop) refl

  steps_length : length (steps_of trace) ≡ min (length moves) (length places)
  unfolding steps_of
  steps_length = length_zipped step moves places

  pub row_found : i < step_count trace → 1 + step_count trace + i < length trace
      → row_at trace i ≡ some (step (get_or trace (1 + i) 0) (get_or trace (1 + step_count trace + i) 0))
  unfolding row_at steps_of
  row_found h g =
      there (steps_of trace) i (step 0 0) (omega (arith, steps_length, moves_length, places_length, h, g))
      ∙ ap some (get_or_zip_with step moves places i 0 0 (omega (arith, moves_length, h, g)) (omega (arith, places_length, h, g))
      ∙ ap₂ {C = Step} (λ m p. step m p) (get_or-take (step_count trace) (drop 1 trace) i 0 h ∙ get_or-drop 1 trace i 0)
      (get_or-take (step_count trace) (drop (1 + step_count trace) trace) i 0 h ∙ get_or-drop (1 + step_count trace) trace i 0))

  pub row_past_steps : step_count trace ≤ i → row_at trace i ≡ none
  unfolding row_at
  row_past_steps h = past (steps_of trace) i (omega (arith, steps_length, moves_length, h))

  pub row_past_words : length trace ≤ 1 + step_count trace + i → row_at trace i ≡ none
  unfolding row_at
  row_past_words h = past (steps_of trace) i (omega (arith, steps_length, places_length, h))

  -- The step at a row is the first of those from that row on.
  pub row_first : (x : Step) → row_at trace i ≡ some x → drop i (steps_of trace) ≡ x ∷ drop (i + 1) (steps_of trace)
  unfolding row_at
  row_first x e = rw (add-one i) (found_first (steps_of trace) i x e)

  -- From a row past the last on there are none.
  pub row_none : row_at trace i ≡ none → drop i (steps_of trace) ≡ []
  unfolding row_at
  row_none e = none_past (steps_of trace) i e

  -- From the row behind a step on there is one step fewer.
  module _ (x : Step) (found : row_at trace i ≡ some x) where
    one_fewer : suc (length (drop (i + 1) (steps_of trace))) ≡ length (drop i (steps_of trace))
    one_fewer = sym (ap length (row_first x found))

    pub row_inside : i < length (steps_of trace)
    row_inside = omega (arith, one_fewer, length-drop i (steps_of trace))

    pub fewer_left : {from to : Reader} → from.trace.now ≡ trace → from.row.0 ≡ i → to.trace ≡ from.trace → to.row.0 ≡ from.row.0 + 1
        → length (steps_left to) < length (steps_left from)
    unfolding steps_left
    fewer_left {from} {to} held at same on = rw (same, held, on, at) (omega (arith, one_fewer))
