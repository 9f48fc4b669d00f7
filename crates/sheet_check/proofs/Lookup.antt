-- A sheet's rows, looked up by number. Assumes nothing.
use Prim.Native.Nat.{ℕ, zero, suc, ◌+◌, ◌<◌, ◌≤◌}
use native.Mathlib.Omega.{arith}
use native.Mathlib.Nat.{not-suc-le-zero, le_of_suc-le-suc}
use native.Mathlib.Numerals.{add-one}
use mathlib.Core.Path.{◌≡◌, refl, sym, ap, ap₂, ◌∙◌}
use mathlib.Core.List.{List, [], ◌∷◌, zip_with}
use lib.ListN.{length, get_or, take, drop, length-take, length-drop, drop_of_length-le}
use lib.Seq.{get_or-take, get_or-drop, drop-cons}
use Rattle.hgn.specs.Rows.{Row, row, rows_of}

module _ {A B C : Type 0} (f : A → B → C) where
  pub length_zip_with : (n : ℕ) (xs : List A) (ys : List B) → length xs ≡ n → length ys ≡ n → length (zip_with f xs ys) ≡ n
  unfolding zip_with
  length_zip_with n [] ys p q = p
  length_zip_with n (x ∷ xs) [] p q = q
  length_zip_with zero (x ∷ xs) (y ∷ ys) p q = absurd (omega arith)
  length_zip_with (suc n) (x ∷ xs) (y ∷ ys) p q = ap suc (length_zip_with n xs ys (omega arith) (omega arith))

  pub get_or_zip_with : (xs : List A) (ys : List B) (i : ℕ) (a : A) (b : B) → i < length xs → i < length ys
      → get_or (zip_with f xs ys) i (f a b) ≡ f (get_or xs i a) (get_or ys i b)
  unfolding zip_with
  get_or_zip_with [] ys i a b p q = absurd (not-suc-le-zero p)
  get_or_zip_with (x ∷ xs) [] i a b p q = absurd (not-suc-le-zero q)
  get_or_zip_with (x ∷ xs) (y ∷ ys) zero a b p q = refl
  get_or_zip_with (x ∷ xs) (y ∷ ys) (suc i) a b p q = get_or_zip_with xs ys i a b (le_of_suc-le-suc p) (le_of_suc-le-suc q)

-- A part of a sheet that lies inside it.
module _ (words : List ℕ) (from n : ℕ) (fits : from + n ≤ length words) where
  pub length_part : length (take n (drop from words)) ≡ n
  length_part = simp (length-take, length-drop) (omega arith)

  pub get_d_part : (i : ℕ) → i < n → get_or (take n (drop from words)) i 0 ≡ get_or words (from + i) 0
  get_d_part i h = get_or-take n (drop from words) i 0 h ∙ get_or-drop from words i 0

-- The rows of a sheet that is long enough for them.
module _ (sizes n : ℕ) (words : List ℕ) (fits : sizes + (n + n) ≤ length words) where
  pub rows_length : length (rows_of sizes n words) ≡ n
  unfolding rows_of
  rows_length =
      length_zip_with row n (take n (drop sizes words)) (take n (drop (sizes + n) words)) (length_part words sizes n (omega arith))
      (length_part words (sizes + n) n (omega arith))

  pub rows_at : (i : ℕ) → i < n → get_or (rows_of sizes n words) i (row 0 0) ≡ row (get_or words (sizes + i) 0) (get_or words (sizes + n + i) 0)
  unfolding rows_of
  rows_at i h =
      get_or_zip_with row (take n (drop sizes words)) (take n (drop (sizes + n) words)) i 0 0
      (rw (length_part words sizes n (omega arith)) h) (rw (length_part words (sizes + n) n (omega arith)) h)
      ∙ ap₂ row (get_d_part words sizes n (omega arith) i h) (get_d_part words (sizes + n) n (omega arith) i h)

  -- The rows from row `i` on, whose tag and value were read.
  pub rows_from : (i : ℕ) → i < n → {t v : ℕ} → t ≡ get_or words (sizes + i) 0 → v ≡ get_or words (sizes + n + i) 0
      → drop i (rows_of sizes n words) ≡ row t v ∷ drop (i + 1) (rows_of sizes n words)
  rows_from i h p q =
      let rows = rows_of sizes n words in
      drop-cons rows i (row 0 0) (rw rows_length h)
      ∙ ap₂ {C = List Row} (λ r k. r ∷ drop k rows) (rows_at i h ∙ ap₂ row (sym p) (sym q)) (sym (add-one i))

  pub rows_end : (i : ℕ) → n ≤ i → drop i (rows_of sizes n words) ≡ []
  rows_end i h = drop_of_length-le (rows_of sizes n words) {i = i} (rw rows_length h)
