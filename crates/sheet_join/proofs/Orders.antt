-- The rows of an order that passes, one after the other, and what they become behind a first order. Assumes nothing.
use Prim.Native.Nat.{ℕ, zero, suc, ◌+◌, ◌<◌, ◌≤◌}
use native.Mathlib.Omega.{arith}
use mathlib.Core.Path.{◌≡◌, subst}
use mathlib.Core.List.{List, [], ◌∷◌, ◌++◌, flat_map}
use lib.ListN.{get_or, drop}
use Rattle.hgn.specs.Tag as Tag
use Rattle.hgn.specs.Rows.{Row, row, rows_of}
use Rattle.hgn.specs.Questions.{passed}
use Rattle.hgn.specs.Order.{goal_count, row_count, most_goals, size_words, order_rows, check_order}
use Rattle.hgn.specs.JoinSheet.{raised_row}
use Rattle.hgn.proofs.Join.Rows.{AftersBelow, afters_below}
use Rattle.sheet_check.specs.declared.rows.Layout.{Layout}
use Rattle.sheet_check.proofs.Lookup.{rows_from, rows_end}
use Rattle.sheet_check.proofs.Orders.{order_fits, order_few, few_goals}
use Rattle.sheet_join.specs.Joinings.{Holds}

below_drop : (top i : ℕ) (rs : List Row) → AftersBelow top rs → AftersBelow top (drop i rs)
below_drop top zero rs h = h
below_drop top (suc i) [] h = tt
below_drop top (suc i) (r ∷ rs) h = below_drop top i rs h.1

-- An order that passes.
module _ (shop sheet : List ℕ) (ok : check_order shop sheet ≡ passed) where
  -- Laid out as its sizes say.
  module _ (l : Layout) (s : l.sizes ≡ size_words) (n : l.rows ≡ row_count sheet) where
    pub sheet_holds : Holds l sheet
    sheet_holds = record { few_rows = omega (arith, order_few shop sheet ok); enough = omega (arith, order_fits shop sheet ok) }

    pub rows_laid : rows_of l.sizes l.rows sheet ≡ order_rows sheet
    unfolding order_rows
    rows_laid = rw (s, n)

    -- Row `i`, read from the sheet.
    module _ (i : ℕ) (k : i < l.rows) {t v : ℕ} (p : t ≡ get_or sheet (l.sizes + i) 0) (q : v ≡ get_or sheet (l.sizes + l.rows + i) 0) where
      rest : drop i (order_rows sheet) ≡ row t v ∷ drop (i + 1) (order_rows sheet)
      rest = rw rows_laid at (rows_from l.sizes l.rows sheet sheet_holds.enough i k p q)

      pub names_goal : t ≡ Tag.after → v < most_goals
      names_goal e =
          let below = subst (AftersBelow (goal_count sheet)) rest (below_drop (goal_count sheet) i (order_rows sheet) (afters_below shop sheet ok)) in
          omega (arith, below.0 e, few_goals shop sheet ok)

      pub raised_rest : (g : ℕ) → flat_map (raised_row g) (drop i (order_rows sheet)) ≡ raised_row g (row t v) ++ flat_map (raised_row g) (drop (i + 1) (order_rows sheet))
      unfolding flat_map
      raised_rest g = rw rest

  -- Behind the last row there is none.
  pub raised_none : (g i : ℕ) → row_count sheet ≤ i → flat_map (raised_row g) (drop i (order_rows sheet)) ≡ []
  unfolding flat_map order_rows
  raised_none g i h = rw (rows_end size_words (row_count sheet) sheet (order_fits shop sheet ok) i h)
