-- Rows by their two columns: cut alike, and walked one by one. Assumes nothing.
use Prim.Native.Nat.{ℕ, zero, suc, ◌+◌, ◌-◌, ◌<◌, ◌≤◌, min}
use native.Mathlib.Omega.{arith}
use native.Mathlib.Nat.{not-suc-le-zero}
use native.Mathlib.Numerals.{add-one}
use mathlib.Core.Path.{◌≡◌, refl, ap, ◌∙◌}
use mathlib.Core.Logic.{inl, inr}
use mathlib.Core.List.{List, [], ◌∷◌, zip_with}
use lib.ListN.{length, get_or, take, drop, length-drop}
use lib.Seq.{drop-nil, take_all}
use Rattle.std.proofs.Common.{Option, Some, None, Bor}
use Rattle.std.specs.declared.iter.Zip.{Zip}
use Rattle.std.specs.declared.slice.Iter.{Iter}
use Rattle.std.proofs.iter.Yields.{fronts}
use Rattle.std.proofs.lemmas.Iterator.{zips}
use Rattle.std.proofs.lemmas.Slice.Zip.{Zip-more, either_empty_from_Zip}
use Rattle.hgn.specs.Rows.{Row, row}
use Rattle.sheet_index.specs.declared.rows.Rows.{Rows}
use Rattle.sheet_index.specs.Index.{rows_in, rows_left}

zip_none : (tags : List ℕ) → zip_with row tags [] ≡ []
unfolding zip_with
zip_none [] = refl
zip_none (t ∷ tags) = refl

-- The rows of two columns that are cut alike.
zip_drop : (k : ℕ) (tags values : List ℕ) → zip_with row (drop k tags) (drop k values) ≡ drop k (zip_with row tags values)
unfolding zip_with
zip_drop zero tags values = refl
zip_drop (suc k) [] values = rw (drop-nil (suc k))
zip_drop (suc k) (t ∷ tags) [] = zip_none (drop k tags)
zip_drop (suc k) (t ∷ tags) (v ∷ values) = zip_drop k tags values

part_end : (k : ℕ) (l : List ℕ) → take (length l - k) (drop k l) ≡ drop k l
part_end k l = take_all (length l - k) (drop k l) (omega (arith, length-drop k l))

-- The same of the parts that a slice from there on is.
pub zip_cut : (k : ℕ) (tags values : List ℕ)
    → zip_with row (take (length tags - k) (drop k tags)) (take (length values - k) (drop k values)) ≡ drop k (zip_with row tags values)
zip_cut k tags values = rw (part_end k tags, part_end k values) (zip_drop k tags values)

-- From row `i` on they are that row and those from the next on; past the last there are none.
row_there : (tags values : List ℕ) (i : ℕ) → i < length tags → i < length values
    → drop i (zip_with row tags values) ≡ row (get_or tags i 0) (get_or values i 0) ∷ drop (suc i) (zip_with row tags values)
unfolding zip_with
row_there [] values i h k = absurd (not-suc-le-zero h)
row_there (t ∷ tags) [] i h k = absurd (not-suc-le-zero k)
row_there (t ∷ tags) (v ∷ values) zero h k = refl
row_there (t ∷ tags) (v ∷ values) (suc i) h k = row_there tags values i (omega arith) (omega arith)

pub row_at : (tags values : List ℕ) (i : ℕ) → i < length tags → i < length values
    → drop i (zip_with row tags values) ≡ row (get_or tags i 0) (get_or values i 0) ∷ drop (i + 1) (zip_with row tags values)
row_at tags values i h k = row_there tags values i h k ∙ rw (← add-one i)

pub none_from : (tags values : List ℕ) (i : ℕ) → min (length tags) (length values) ≤ i → drop i (zip_with row tags values) ≡ []
unfolding zip_with
none_from [] values i h = drop-nil i
none_from (t ∷ tags) [] i h = drop-nil i
none_from (t ∷ tags) (v ∷ values) zero h = absurd (omega arith)
none_from (t ∷ tags) (v ∷ values) (suc i) h = none_from tags values i (omega arith)

-- What an iterator over rows gives is the first of those that are left; at its end none are.
module _ (t u : Zip (Iter ℕ) (Iter ℕ)) {r : Option (Bor ℕ × Bor ℕ)} (steps : zips fronts fronts t r u) where
  pub next_row : {p : Bor ℕ × Bor ℕ} → r ≡ Some p → rows_left t ≡ row p.0.now p.1.now ∷ rows_left u
  unfolding rows_left zip_with
  next_row {p} e = let k = Zip-more t u r p e steps in rw (k.0, k.1)

  pub no_row_left : r ≡ None → rows_left t ≡ []
  unfolding rows_left zip_with
  no_row_left e = elim (either_empty_from_Zip t u r e steps) [ inl a ↦ rw a | inr b ↦ rw b (zip_none _) ]

-- An answer that is `F` of some rows, and so of the same rows in another form.
pub by_rows : {A : Type 0} (F : List Row → A) {a b : A} {rs rs' : List Row} → a ≡ F rs → rs ≡ rs' → F rs' ≡ b → a ≡ b
by_rows F known e h = known ∙ ap F e ∙ h

-- There are no more rows than tags.
pub rows_few : (rs : Rows) → length (rows_in rs) ≤ length rs.tags.now
unfolding rows_in zip_with
rows_few rs = go rs.tags.now rs.values.now
  where
    go : (tags values : List ℕ) → length (zip_with row tags values) ≤ length tags
    go [] values = omega arith
    go (t ∷ tags) [] = omega arith
    go (t ∷ tags) (v ∷ values) = omega (arith, go tags values)
