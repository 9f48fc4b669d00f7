-- The sizes, the rows of the first order and those of the second, put into a room that is long enough, are the joined sheet. Assumes nothing.
use Prim.Native.Nat.{ℕ, ◌+◌, ◌≤◌}
use native.Mathlib.Omega.{arith}
use native.Mathlib.Nat.{zero-add}
use mathlib.Core.Path.{◌≡◌, sym, ap, ap₂, ◌∙◌}
use mathlib.Core.List.{List, [], ◌∷◌, ◌++◌, map, flat_map, append_assoc}
use lib.ListN.{length, set, drop, length-append, length-map, length-set}
use Rattle.hgn.specs.Rows.{Row, row_words}
use Rattle.hgn.specs.Order.{row_count, size_words, order_rows}
use Rattle.hgn.specs.Lent.{overwritten}
use Rattle.hgn.specs.JoinSheet.{raised_row, joined_rows, joined_words}
use Rattle.sheet_check.specs.Puts.{put_rows}
use Rattle.sheet_check.specs.declared.rows.Layout.{Layout}
use Rattle.sheet_check.proofs.Puts.{puts_append, puts_written}
use Rattle.sheet_join.specs.declared.joining.Joining.{Joining}
use Rattle.sheet_join.specs.Joinings.{Holds, Writable, SecondFits}
use Rattle.sheet_check.proofs.Orders.{few_goals, order_length}
use Rattle.sheet_join.proofs.Counted.{inside}

-- A room with the three sizes of an order sheet in it.
abbrev pub sized : ℕ → ℕ → ℕ → List ℕ → List ℕ
sized F G N room = set (set (set room 0 F) 1 G) 2 N

pub length_sized : (F G N : ℕ) (room : List ℕ) → length (sized F G N room) ≡ length room
length_sized F G N room = simp length-set

-- Sizes and rows put into a room are a sheet first in it.
sheet_written : (F G : ℕ) (rows : List Row) (room : List ℕ) → size_words + (length rows + length rows) ≤ length room
    → put_rows size_words (length rows) 0 rows (sized F G (length rows) room) ≡ overwritten (F ∷ G ∷ row_words rows) room
unfolding overwritten row_words
sheet_written F G rows [] h = absurd (omega arith)
sheet_written F G rows (a ∷ []) h = absurd (omega arith)
sheet_written F G rows (a ∷ b ∷ []) h = absurd (omega arith)
sheet_written F G rows (a ∷ b ∷ c ∷ rest) h =
    let n = length rows in
    let tags = map (λ (r : Row). r.tag) rows in
    let values = map (λ (r : Row). r.value) rows in
    let long : length (tags ++ values) ≡ n + n =
    length-append tags values ∙ ap₂ ◌+◌ (length-map rows (λ (r : Row). r.tag)) (length-map rows (λ (r : Row). r.value)) in
    puts_written (F ∷ G ∷ n ∷ []) rest rows (omega arith)
    ∙ ap {B = List ℕ} (λ l. F ∷ G ∷ n ∷ l)
    (sym (append_assoc tags values (drop (n + n) rest)) ∙ ap (λ (k : ℕ). tags ++ values ++ drop k rest) (sym long))

module _ (first second room : List ℕ) (j : Joining) (w : Writable first second room j) where
  -- What the second order's goals become.
  abbrev pub raised : List Row
  raised = flat_map (raised_row j.before) (drop j.from (order_rows second))

  rows_are : order_rows first ++ raised ≡ joined_rows first second
  unfolding joined_rows
  rows_are = ap {B = List Row} (λ l. order_rows first ++ l) (ap₂ (λ (g : ℕ) (l : List Row). flat_map (raised_row g) l) w.comes.before w.comes.from.from)

  rows_fit : row_count first + length raised ≡ j.rows
  rows_fit =
      ap (λ (n : ℕ). n + length raised) (sym (order_length w.pass.shop first w.pass.first_passes))
      ∙ sym (length-append (order_rows first) raised) ∙ ap length rows_are ∙ sym w.comes.rows

  -- Where the rows of the joined sheet stand.
  abbrev pub into : Layout
  into = record { sizes = size_words; rows = j.rows }

  module _ (after : List ℕ) (e : length after ≡ length room) where
    pub room_holds : Holds into after
    room_holds = record { few_rows = w.few_rows; enough = omega (arith, w.room_enough) }

    pub second_fits : (at : ℕ) → at ≡ row_count first → SecondFits into second at j after
    second_fits at k = record {
      room_for = room_holds;
      passes = (w.pass.shop, w.pass.second_passes);
      inside = inside w.pass.shop first second w.pass.first_passes w.pass.second_passes j.from w.comes.from;
      few_before = omega (arith, w.comes.before, few_goals w.pass.shop first w.pass.first_passes);
      fits = omega (arith, rows_fit);
    }

  pub first_fits : row_count first ≤ j.rows
  first_fits = omega (arith, rows_fit)

  -- All rows are put.
  pub join_written : put_rows size_words j.rows (row_count first) raised (put_rows size_words j.rows 0 (order_rows first) (sized j.atoms j.goals j.rows room))
      ≡ overwritten (joined_words first second) room
  unfolding joined_words
  join_written =
      let rows = joined_rows first second in
      let at : 0 + length (order_rows first) ≡ row_count first = zero-add _ ∙ order_length w.pass.shop first w.pass.first_passes in
      let n = w.comes.rows in
      let put = sized j.atoms j.goals j.rows room in
      ap (λ (k : ℕ). put_rows size_words j.rows k raised (put_rows size_words j.rows 0 (order_rows first) put)) (sym at)
      ∙ sym (puts_append size_words j.rows 0 (order_rows first) raised put)
      ∙ ap (λ (l : List Row). put_rows size_words j.rows 0 l put) rows_are
      ∙ rw (n, w.comes.atoms, w.comes.goals) (sheet_written _ _ rows room (omega (arith, w.room_enough)))
