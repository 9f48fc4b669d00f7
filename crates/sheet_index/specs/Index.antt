-- Where the parts of a sheet stand: the numbers of the rows at which they start and end, and the rows, tags and values from one
-- row to another. Document 01, "The three sheets".
use Rattle.std.specs.Prelude.{ℕ, suc, ◌+◌, ◌-◌, ◌<◌, ◌≤◌, ◌≡◌, Bool, cond, ◌&&◌, ◌||◌, leb, length, take, drop}
use Rattle.std.specs.declared.iter.Zip.{Zip}
use Rattle.std.specs.declared.slice.Iter.{Iter}
use Rattle.std.specs.Iterator.Adapters.{zip_first, zip_second}
use Rattle.std.specs.Slice.Iter.{iter_rest}
use mathlib.Core.List.{List, [], ◌∷◌, ◌++◌, zip_with}
use Rattle.hgn.specs.Lists.{take_until}
use Rattle.hgn.specs.Rows.{Row, row, has, rows_of, most_rows}
use Rattle.hgn.specs.Tag as Tag
use Rattle.hgn.specs.Meaning.{begins_operator}
use Rattle.hgn.specs.Shop as Shop
use Rattle.hgn.specs.Order as Order
use Rattle.sheet_rows.specs.declared.position.Sheet.{Sheet}
use Rattle.sheet_rows.specs.declared.position.Sheet.TheVariants as Of
use Rattle.sheet_check.specs.declared.rows.Layout.{Layout}
use Rattle.sheet_index.specs.declared.index.Span.{Span}
use Rattle.sheet_index.specs.declared.rows.Rows.{Rows}

-- The row begins an action, a method or a node.
abbrev pub begins_span : Row → Bool
begins_span r = begins_operator r || has Tag.node r

-- The numbers, counted from `i`, of the rows that begin an action or a method.
unfoldable pub starts : ℕ → List Row → List ℕ
starts i [] = []
starts i (r ∷ rs) = cond (begins_operator r) (i ∷ starts (suc i) rs) (starts (suc i) rs)

-- For each row, counted from `i`, the number of the next row that `begins_span`, or of the end.
unfoldable pub ends : ℕ → List Row → List ℕ
ends i [] = []
ends i (r ∷ rs) = (suc i + length (take_until begins_span rs)) ∷ ends (suc i) rs

-- The starts stand behind room for the ends of the most rows.
abbrev pub starts_in : List ℕ → List ℕ
starts_in table = drop most_rows table

-- What the index of a sheet's rows needs: the rows in the words, and room for their ends and for the starts of their actions and methods,
-- `operators` of them, with one more.
pub record Indexable (words : List ℕ) (l : Layout) (table : List ℕ) (operators : ℕ) : Type 0 where
  pub fits : l.sizes + (l.rows + l.rows) ≤ length words
  pub few : l.rows ≤ most_rows
  pub room : most_rows + operators < length table
  pub counted : operators ≡ length (starts 0 (rows_of l.sizes l.rows words))

-- What the table says once it is filled; words of it that are not named are left free.
pub record Filled (words : List ℕ) (l : Layout) (operators : ℕ) (before after : List ℕ) : Type 0 where
  pub size : length after ≡ length before
  pub ends_are : take l.rows after ≡ ends 0 (rows_of l.sizes l.rows words)
  pub starts_are : take (suc operators) (starts_in after) ≡ starts 0 (rows_of l.sizes l.rows words) ++ (l.rows ∷ [])

-- The elements from `a` up to `e`: rows of a sheet, or words.
unfoldable pub span : {A : Type 0} → List A → ℕ → ℕ → List A
span xs a e = take (e - a) (drop a xs)

-- Rows `from` up to `to` of a sheet.
abbrev pub span_of : Sheet → ℕ → ℕ → Span
span_of sheet from to = record { sheet = sheet; from = record { 0 = from }; to = record { 0 = to } }

-- The words of the sheet, and where its rows stand.
abbrev pub sheet_words : Sheet → List ℕ → List ℕ → List ℕ
sheet_words Of.Shop shop order = shop
sheet_words Of.Order shop order = order

abbrev pub layout_of : Sheet → List ℕ → Layout
layout_of Of.Shop words = record { sizes = Shop.size_words; rows = Shop.row_count words }
layout_of Of.Order words = record { sizes = Order.size_words; rows = Order.row_count words }

-- Rows `from` up to `to` of the tags or of the values, which stand from word `column` on; none where the sheet has no such rows.
unfoldable pub column_part : List ℕ → Layout → ℕ → ℕ → ℕ → List ℕ
column_part words layout column from to =
    cond (leb from to && leb to layout.rows && leb (layout.sizes + (layout.rows + layout.rows)) (length words))
    (span words (column + from) (column + to)) []

-- The tags of a span.
unfoldable pub tags_of : Span → List ℕ → List ℕ → List ℕ
tags_of s shop order =
    let words = sheet_words s.sheet shop order in
    let layout = layout_of s.sheet words in
    column_part words layout layout.sizes s.from.0 s.to.0

-- The values of a span.
unfoldable pub values_of : Span → List ℕ → List ℕ → List ℕ
values_of s shop order =
    let words = sheet_words s.sheet shop order in
    let layout = layout_of s.sheet words in
    column_part words layout (layout.sizes + layout.rows) s.from.0 s.to.0

-- The rows of a span.
unfoldable pub span_rows : List ℕ → List ℕ → Span → List Row
unfolding zip_with
span_rows shop order s = zip_with row (tags_of s shop order) (values_of s shop order)

-- The rows whose tags and values are lent.
unfoldable pub rows_in : Rows → List Row
unfolding zip_with
rows_in rs = zip_with row rs.tags.now rs.values.now

-- The rows that an iterator over tags and values has still to give.
unfoldable pub rows_left : Zip (Iter ℕ) (Iter ℕ) → List Row
unfolding zip_with
rows_left it = zip_with row (iter_rest (zip_first it)) (iter_rest (zip_second it))
