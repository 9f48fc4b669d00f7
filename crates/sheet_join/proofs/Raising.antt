-- What a row of the second order becomes, by its tag, and that putting it so is putting those rows. Assumes nothing.
use Prim.Native.Nat.{ℕ, suc, ◌+◌, ◌≤◌}
use native.Mathlib.Omega.{arith}
use native.Mathlib.Numerals.{add-one}
use mathlib.Core.Path.{◌≡◌, refl, ap, ◌∙◌}
use mathlib.Core.Logic.{◌≢◌}
use mathlib.Core.Bool.{Bool, true, false, cond}
use mathlib.Core.List.{List, [], ◌∷◌, map}
use lib.Dec.{eqb}
use lib.ListN.{length, length-map}
use borrow.Author.Tests.{ne_eqb}
use Rattle.hgn.specs.Lists.{range}
use Rattle.hgn.specs.Tag as Tag
use Rattle.hgn.specs.Rows.{Row, row}
use Rattle.hgn.specs.JoinSheet.{raised_row}
use Rattle.hgn.proofs.Logic.Ranges.{length_range}
use Rattle.sheet_check.specs.Puts.{put_row, put_rows}

-- Behind a first order of `g` goals.
module _ (g : ℕ) where
  -- No row is dropped.
  pub raised_some : (r : Row) → 1 ≤ length (raised_row g r)
  unfolding raised_row
  raised_some r = go (eqb r.tag Tag.node) (eqb r.tag Tag.after)
    where
      go : (x y : Bool) → 1 ≤ length (cond x (r ∷ map (row Tag.after) (range 0 g)) (cond y (row Tag.after (g + r.value) ∷ []) (r ∷ [])))
      go true y = omega arith
      go false true = omega arith
      go false false = omega arith

  module _ (t v : ℕ) where
    raised_after : t ≡ Tag.after → raised_row g (row t v) ≡ row t (g + v) ∷ []
    unfolding raised_row
    raised_after e = rw e

    raised_node : t ≡ Tag.node → raised_row g (row t v) ≡ row t v ∷ map (row Tag.after) (range 0 g)
    unfolding raised_row
    raised_node e = rw e

    raised_other : t ≢ Tag.after → t ≢ Tag.node → raised_row g (row t v) ≡ row t v ∷ []
    unfolding raised_row
    raised_other h k = rw (ne_eqb t Tag.node k, ne_eqb t Tag.after h)

    pub node_length : t ≡ Tag.node → length (raised_row g (row t v)) ≡ suc g
    node_length e = ap length (raised_node e) ∙ ap suc (length-map (range 0 g) (row Tag.after) ∙ length_range 0 g)

    -- Put from row `at` on into a room, of a sheet of `n` rows behind `s` words.
    module _ (s n at : ℕ) (room : List ℕ) where
      -- The room holds what the row becomes, and `next` is the row behind.
      abbrev Put : List ℕ → ℕ → Type 0
      Put after next = (after ≡ put_rows s n at (raised_row g (row t v)) room) × (next ≡ at + length (raised_row g (row t v)))

      pub put_after : t ≡ Tag.after → {after : List ℕ} → after ≡ put_row s n at (row t (g + v)) room → Put after (at + 1)
      unfolding put_rows
      put_after e p = rw (raised_after e) (p, refl)

      pub put_other : t ≢ Tag.after → t ≢ Tag.node → {after : List ℕ} → after ≡ put_row s n at (row t v) room → Put after (at + 1)
      unfolding put_rows
      put_other h k p = rw (raised_other h k) (p, refl)

      pub put_node : t ≡ Tag.node → {mid after : List ℕ} → mid ≡ put_row s n at (row t v) room
          → after ≡ put_rows s n (at + 1) (map (row Tag.after) (range 0 g)) mid → Put after (at + 1 + g)
      unfolding put_rows
      put_node e p q = (
        rw (raised_node e) (q ∙ rw (add-one, p)),
        omega (arith, node_length e),
      )
