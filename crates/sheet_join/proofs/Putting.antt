-- Rows put into lent room one after the other: what is left to put, and one turn of each loop that puts rows. Assumes nothing.
use Prim.Native.Nat.{ℕ, suc, ◌+◌, ◌-◌, ◌<◌, ◌≤◌}
use native.Mathlib.Omega.{arith}
use native.Mathlib.Numerals.{add-one}
use native.Mathlib.Nat.{add-zero, sub-zero, sub-eq-zero_of_le}
use mathlib.Core.Path.{◌≡◌, refl, sym, ap, subst, ◌∙◌}
use mathlib.Core.List.{List, [], ◌∷◌, ◌++◌, map}
use lib.ListN.{length, get_or, drop}
use Rattle.hgn.specs.Lists.{range}
use Rattle.hgn.specs.Tag as Tag
use Rattle.hgn.specs.Rows.{Row, row, rows_of}
use Rattle.hgn.specs.JoinSheet.{raised_row}
use Rattle.sheet_check.specs.Puts.{put_row, put_rows}
use Rattle.sheet_check.proofs.Lookup.{rows_from, rows_end}
use Rattle.sheet_check.proofs.Puts.{length_puts, puts_append}

-- Rows are put from row `at` on into a room, of a sheet of `n` rows behind `s` words.
module _ (s n at : ℕ) (all : List Row) (before : List ℕ) where
  -- What the rest leaves in the room at hand is what all rows leave in the room as it was before.
  pub record Left (next : ℕ) (rest : List Row) (room : List ℕ) : Type 0 where
    pub leads : put_rows s n next rest room ≡ put_rows s n at all before
    pub long : length room ≡ length before

  pub left_all : Left at all before
  left_all = record { leads = refl; long = refl }

  pub left_rest : (next : ℕ) (xs rest : List Row) {room : List ℕ} → Left next (xs ++ rest) room → {after : List ℕ} → after ≡ put_rows s n next xs room
      → Left (next + length xs) rest after
  left_rest next xs rest {room} h {after} e = record {
    leads = ap (put_rows s n (next + length xs) rest) e ∙ sym (puts_append s n next xs rest room) ∙ h.leads;
    long = ap length e ∙ length_puts s n next xs room ∙ h.long;
  }

  -- One row, and what it becomes, is put.
  pub left_raised : (g next : ℕ) (r : Row) {rows rest : List Row} → rows ≡ raised_row g r ++ rest → {room : List ℕ} → Left next rows room
      → {after : List ℕ} {behind : ℕ} → after ≡ put_rows s n next (raised_row g r) room → behind ≡ next + length (raised_row g r) → Left behind rest after
  left_raised g next r {rows} {rest} first {room} h {after} {behind} e q =
      rw q (left_rest next (raised_row g r) rest (subst (λ (l : List Row). Left next l room) first h) e)

  pub left_none : (next : ℕ) (rest : List Row) {room : List ℕ} → Left next rest room → rest ≡ [] → room ≡ put_rows s n at all before
  unfolding put_rows
  left_none next rest {room} h e = ap (λ (l : List Row). put_rows s n next l room) (sym e) ∙ h.leads

  -- The rows of a sheet as they stand.
  module _ (sizes m : ℕ) (words : List ℕ) (enough : sizes + (m + m) ≤ length words) where
    pub stands_next : (i : ℕ) {room : List ℕ} → i < m → Left i (drop i (rows_of sizes m words)) room
        → {t v : ℕ} → t ≡ get_or words (sizes + i) 0 → v ≡ get_or words (sizes + m + i) 0
        → {after : List ℕ} → after ≡ put_row s n i (row t v) room → Left (i + 1) (drop (i + 1) (rows_of sizes m words)) after
    unfolding put_rows
    stands_next i {room} l h {t} {v} p q e =
        left_rest i (row t v ∷ []) _ (subst (λ (r : List Row). Left i r room) (rows_from sizes m words enough i l p q) h) e

    pub stands_done : (i : ℕ) {room : List ℕ} → m ≤ i → Left i (drop i (rows_of sizes m words)) room → room ≡ put_rows s n at all before
    stands_done i l h = left_none i _ h (rows_end sizes m words enough i l)

  -- The 11 rows that name the goals of the first order, from goal `k` to `g` less 1.
  abbrev pub afters : ℕ → ℕ → List Row
  afters g k = map (row Tag.after) (range k (g - k))

  pub after_next : (g k : ℕ) {room : List ℕ} → k < g → Left (at + k) (afters g k) room → {after : List ℕ} → after ≡ put_row s n (at + k) (row Tag.after k) room
      → Left (at + (k + 1)) (afters g (k + 1)) after
  unfolding put_rows range
  after_next g k {room} l h {after} e =
      let less : g - k ≡ suc (g - suc k) = omega arith in
      let first : afters g k ≡ row Tag.after k ∷ afters g (k + 1) = ap (λ (m : ℕ). map (row Tag.after) (range k m)) less ∙ rw add-one in
      subst (λ (m : ℕ). Left m (afters g (k + 1)) after) (omega arith)
      (left_rest (at + k) (row Tag.after k ∷ []) (afters g (k + 1)) (subst (λ (r : List Row). Left (at + k) r room) first h) e)

  pub afters_done : (g k : ℕ) {room : List ℕ} → g ≤ k → Left (at + k) (afters g k) room → room ≡ put_rows s n at all before
  unfolding range
  afters_done g k l h = left_none (at + k) _ h (ap (λ (m : ℕ). map (row Tag.after) (range k m)) (sub-eq-zero_of_le l))

-- All 11 rows are left at first.
pub afters_all : (s n at g : ℕ) (room : List ℕ) → Left s n at (map (row Tag.after) (range 0 g)) room (at + 0) (map (row Tag.after) (range 0 (g - 0))) room
afters_all s n at g room = rw (add-zero at, sub-zero g) (left_all s n at _ room)
