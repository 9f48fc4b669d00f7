-- Where the goals of an order begin, looked for from its first row on. Assumes nothing.
use Prim.Native.Nat.{ℕ, zero, suc, ◌+◌, ◌<◌, ◌≤◌}
use native.Mathlib.Omega.{arith}
use native.Mathlib.Numerals.{add-one}
use mathlib.Core.Path.{◌≡◌, refl, ◌∙◌}
use mathlib.Core.Logic.{◌≢◌, inl, inr}
use mathlib.Core.List.{List, [], ◌∷◌}
use lib.ListN.{length, get_or, take, drop}
use borrow.Author.Tests.{eq-eqb, ne_eqb}
use Rattle.std.proofs.lemmas.Bool.{cases_lt}
use Rattle.hgn.specs.Lists.{drop_until}
use Rattle.hgn.specs.Tag as Tag
use Rattle.hgn.specs.Rows.{Row, row, rows_of, has}
use Rattle.sheet_check.proofs.Lookup.{rows_length, rows_from, rows_end, length_part, get_d_part}
use Rattle.sheet_join.specs.Joinings.{FirstGoal}

-- The goals of an order do not begin before row `i`.
abbrev pub From : ℕ → ℕ → List ℕ → ℕ → Type 0
From sizes m words i = let rows = rows_of sizes m words in drop_until (has Tag.node) (drop i rows) ≡ drop_until (has Tag.node) rows

module _ (sizes m : ℕ) (words : List ℕ) (enough : sizes + (m + m) ≤ length words) where
  abbrev rows : List Row
  rows = rows_of sizes m words

  -- The tag of row `i` was read.
  module _ (i : ℕ) (l : i < m) {t : ℕ} (e : t ≡ get_or words (sizes + i) 0) where
    here : drop i rows ≡ row t (get_or words (sizes + m + i) 0) ∷ drop (i + 1) rows
    here = rows_from sizes m words enough i l e refl

    begins_here : From sizes m words i → t ≡ Tag.node → FirstGoal rows i
    unfolding drop_until
    begins_here h q = record { inside = rw (rows_length sizes m words enough) (omega arith); from = here ∙ (rw (here, eq-eqb t Tag.node q) at h) }

    begins_later : From sizes m words i → t ≢ Tag.node → From sizes m words (suc i)
    unfolding drop_until
    begins_later h q = rw (← add-one i) (rw (here, ne_eqb t Tag.node q) at h)

  begins_nowhere : (i : ℕ) → i ≡ m → From sizes m words i → FirstGoal rows i
  unfolding drop_until
  begins_nowhere i e h =
      let end : drop i rows ≡ [] = rows_end sizes m words enough i (omega arith) in
      record { inside = rw (rows_length sizes m words enough) (omega arith); from = end ∙ (rw end at h) }

  abbrev tags : List ℕ
  tags = take m (drop sizes words)

  tag_of : (i : ℕ) → i < m → get_or tags i 0 ≡ get_or words (sizes + i) 0
  tag_of i h = get_d_part words sizes m (omega arith) i h

  -- No row before row `i` is a node's.
  not_before : (i : ℕ) → i ≤ m → ((k : ℕ) → k < i → get_or tags k 0 ≡ Tag.node → ⊥) → From sizes m words i
  not_before zero h none = refl
  not_before (suc i) h none =
      begins_later i (omega arith) (tag_of i (omega arith)) (not_before i (omega arith) (λ k l. none k (omega arith))) (none i (omega arith))

  -- The goals begin at the first tag that is a node's, if there is one.
  pub begins_at : (i : ℕ) → i ≤ length tags → ((k : ℕ) → k < i → get_or tags k 0 ≡ Tag.node → ⊥) → (i < length tags → get_or tags i 0 ≡ Tag.node)
      → FirstGoal rows i
  begins_at i h none found =
      let long : length tags ≡ m = length_part words sizes m (omega arith) in
      let before : From sizes m words i = not_before i (omega arith) none in
      elim (cases_lt i m) [
        | inl l ↦ begins_here i l (tag_of i l) before (found (omega arith))
        | inr g ↦ begins_nowhere i (omega arith) before
      ]
