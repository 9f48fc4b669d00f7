-- A row that goes on in its group (`row_goes_on`) passes, on either sheet. Assumes nothing.
use Prim.Native.Nat.{ℕ, suc}
use native.Mathlib.Omega.{arith}
use mathlib.Core.Path.{◌≡◌, refl, sym, subst}
use mathlib.Core.Bool.{Bool, true, false, cond, ◌||◌}
use mathlib.Core.List.{[], ◌∷◌}
use lib.Dec.{eqb, leb, ltb}
use borrow.Author.Tests.{eqb-true}
use Rattle.hgn.specs.Lists.{elem, any}
use Rattle.hgn.specs.Tag as Tag
use Rattle.sheet_rows.specs.Reading.{follow_of, first_question_of, next, row_reading, row_goes_on, above}
use Rattle.sheet_rows.specs.declared.position.Sheet.{Sheet}
use Rattle.sheet_rows.specs.declared.position.Sheet.TheVariants.{Shop, Order}

pub both : (a b : Bool) → cond a b false ≡ true → (a ≡ true) × (b ≡ true)
both true b e = (refl, e)
both false b e = let z : ◌≡◌ {A = ℕ} 0 1 = cc in absurd (omega arith)

pub neither : (a : Bool) → cond a false false ≡ true → ⊥
neither true e = let z : ◌≡◌ {A = ℕ} 0 1 = cc in omega arith
neither false e = let z : ◌≡◌ {A = ℕ} 0 1 = cc in omega arith

pub one_of_two : (t a b : ℕ) (P : ℕ → Type 0) → elem t (a ∷ b ∷ []) ≡ true → P a → P b → P t
unfolding elem any
one_of_two t a b P h x y = go (eqb t a) (eqb t b) refl refl h
  where
    go : (c d : Bool) → eqb t a ≡ c → eqb t b ≡ d → (c || (d || false)) ≡ true → P t
    go true d e f h' = subst P (sym (eqb-true t a e)) x
    go false true e f h' = subst P (sym (eqb-true t b f)) y
    go false false e f h' = let z : ◌≡◌ {A = ℕ} 0 1 = cc in absurd (omega arith)

module _ (F l n v : ℕ) where
  abbrev at : Tag.Context → Tag.Position
  at k = record { context = k; least = l; nodes = n }

  abbrev Passes : Sheet → Tag.Context → ℕ → Type 0
  Passes s k t = next (above (at k) v) ≡ row_reading (follow_of s) (first_question_of s) F (at k) t v

  after_passes : (s : Sheet) → leb l v ≡ true → ltb (suc v) n ≡ true → Passes s Tag.in_node Tag.after
  unfolding row_reading elem any Tag.shop_follow Tag.order_follow Tag.in_range Tag.rises Tag.begins Tag.least_here Tag.advance Tag.context_after
  after_passes Shop e d = rw (d, e)
  after_passes Order e d = rw (d, e)

  true_passes : (s : Sheet) → leb l v ≡ true → ltb v F ≡ true → Passes s Tag.in_alternative Tag.wanted_true
  unfolding row_reading elem any Tag.shop_follow Tag.order_follow Tag.in_range Tag.rises Tag.begins Tag.least_here Tag.advance Tag.context_after
  true_passes Shop e d = rw (d, e)
  true_passes Order e d = rw (d, e)

  false_passes : (s : Sheet) → leb l v ≡ true → ltb v F ≡ true → Passes s Tag.in_alternative Tag.wanted_false
  unfolding row_reading elem any Tag.shop_follow Tag.order_follow Tag.in_range Tag.rises Tag.begins Tag.least_here Tag.advance Tag.context_after
  false_passes Shop e d = rw (d, e)
  false_passes Order e d = rw (d, e)

  pub going_on_passes : (s : Sheet) (k : Tag.Context) (t : ℕ) → row_goes_on F (at k) t v ≡ true → Passes s k t
  unfolding row_goes_on
  going_on_passes s Tag.at_start t h = absurd (neither (leb l v) h)
  going_on_passes s Tag.in_action t h = absurd (neither (leb l v) h)
  going_on_passes s Tag.in_effects t h = absurd (neither (leb l v) h)
  going_on_passes s Tag.in_method t h = absurd (neither (leb l v) h)
  going_on_passes s Tag.in_node t h =
      let r = both (leb l v) _ h in
      let q = both (eqb t Tag.after) _ r.1 in
      subst (Passes s Tag.in_node) (sym (eqb-true t Tag.after q.0)) (after_passes s r.0 q.1)
  going_on_passes s Tag.in_alternative t h =
      let r = both (leb l v) _ h in
      let q = both (elem t (Tag.wanted_true ∷ Tag.wanted_false ∷ [])) _ r.1 in
      one_of_two t Tag.wanted_true Tag.wanted_false (Passes s Tag.in_alternative) q.0 (true_passes s r.0 q.1) (false_passes s r.0 q.1)
