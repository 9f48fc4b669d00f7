-- A sheet's rows: two parallel arrays, of tags and of values, behind the sizes. Document 01, "The three sheets".
use Rattle.std.specs.Prelude.{ℕ, ◌+◌, Bool, cond, eqb, length, take, drop, get_or}
use mathlib.Core.List.{List, [], ◌∷◌, ◌++◌, map, zip_with}

pub record Row : Type 0 where
  pub tag : ℕ
  pub value : ℕ

abbrev pub row : ℕ → ℕ → Row
row t v = record { tag = t; value = v }

-- The most rows of a shop sheet and of an order sheet.
abbrev pub most_rows : ℕ
most_rows = 4000

-- Word `i` of a sheet; 0 past its end.
abbrev pub word : List ℕ → ℕ → ℕ
word sheet i = get_or sheet i 0

-- The `n` rows of a sheet that has `size_words` words before them.
unfoldable pub rows_of : ℕ → ℕ → List ℕ → List Row
unfolding zip_with
rows_of size_words n sheet = zip_with row (take n (drop size_words sheet)) (take n (drop (size_words + n) sheet))

-- Rows as words: N, then N tags, then N values.
unfoldable pub row_words : List Row → List ℕ
row_words rows = length rows ∷ map (λ r. r.tag) rows ++ map (λ r. r.value) rows

-- The row has this tag.
abbrev pub has : ℕ → Row → Bool
has t r = eqb r.tag t

-- The values of the rows with this tag.
unfoldable pub values_tagged : ℕ → List Row → List ℕ
values_tagged t [] = []
values_tagged t (r ∷ rs) = cond (has t r) (r.value ∷ values_tagged t rs) (values_tagged t rs)
