-- A row that goes on in its group (`row_goes_on`) counts as every row does: only an 11 row counts. Assumes nothing.
use Prim.Native.Nat.{ℕ}
use mathlib.Core.Path.{◌≡◌, refl, sym, subst}
use mathlib.Core.Bool.{true}
use mathlib.Core.List.{[], ◌∷◌}
use lib.Dec.{eqb, leb}
use borrow.Author.Tests.{eqb-true}
use Rattle.hgn.specs.Lists.{elem}
use Rattle.hgn.specs.Tag as Tag
use Rattle.sheet_rows.specs.Reading.{row_goes_on}
use Rattle.sheet_rows.proofs.Groups.{both, neither, one_of_two}
use Rattle.sheet_check.specs.PartCounts.{counted_in_group, counted}
use Rattle.sheet_check.specs.declared.part_counts.PartCounts.{PartCounts}

module _ (F l n v : ℕ) where
  abbrev at : Tag.Context → Tag.Position
  at k = record { context = k; least = l; nodes = n }

  pub going_on_counts : (y : PartCounts) (k : Tag.Context) (t : ℕ) → row_goes_on F (at k) t v ≡ true → counted_in_group y t ≡ counted y t
  unfolding row_goes_on counted_in_group counted
  going_on_counts y Tag.at_start t h = absurd (neither (leb l v) h)
  going_on_counts y Tag.in_action t h = absurd (neither (leb l v) h)
  going_on_counts y Tag.in_effects t h = absurd (neither (leb l v) h)
  going_on_counts y Tag.in_method t h = absurd (neither (leb l v) h)
  going_on_counts y Tag.in_node t h =
      let q = both (eqb t Tag.after) _ (both (leb l v) _ h).1 in
      subst (λ (x : ℕ). counted_in_group y x ≡ counted y x) (sym (eqb-true t Tag.after q.0)) refl
  going_on_counts y Tag.in_alternative t h =
      let q = both (elem t (Tag.wanted_true ∷ Tag.wanted_false ∷ [])) _ (both (leb l v) _ h).1 in
      one_of_two t Tag.wanted_true Tag.wanted_false (λ (x : ℕ). counted_in_group y x ≡ counted y x) q.0 refl refl
