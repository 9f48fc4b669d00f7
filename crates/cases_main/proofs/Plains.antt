-- The tests of a plain byte and of a plain text. Assumes nothing.
use Prim.Native.Nat.{ℕ, ◌<◌, ◌≤◌}
use native.Mathlib.Omega.{arith}
use mathlib.Core.Path.{◌≡◌, refl, ap}
use mathlib.Core.Bool.{Bool, true, false, ◌&&◌}
use mathlib.Core.List.{List, [], ◌∷◌}
use mathlib.Core.Logic.{inl, inr}
use Rattle.std.specs.List.{list_all}
use types.Run.{OneOf}
use borrow.Author.Tests.{le-leb, lt-leb, ne_eqb}
use Rattle.hgn.specs.Lists.{any, all, elem}
use Rattle.cases_main.specs.Plain.{marks, within, plain_byte}

module _ (b : ℕ) where
  inside : (least most : ℕ) → least ≤ b → b ≤ most → within least most b ≡ true
  unfolding within
  inside least most l m = rw (le-leb least b l, le-leb b most m)

  under : (least most : ℕ) → b < least → within least most b ≡ false
  unfolding within
  under least most h = rw (lt-leb least b h)

  over : (least most : ℕ) → least ≤ b → most < b → within least most b ≡ false
  unfolding within
  over least most l h = rw (le-leb least b l, lt-leb b most h)

  unmarked : (OneOf marks b → ⊥) → elem b marks ≡ false
  unfolding elem any
  unmarked h =
      rw (
        ne_eqb b 32 (λ e. h (inl e)),
        ne_eqb b 44 (λ e. h (inr (inl e))),
        ne_eqb b 110 (λ e. h (inr (inr (inl e)))),
        ne_eqb b 124 (λ e. h (inr (inr (inr e)))),
      )

  -- The bytes of `is_plain_byte`, arm by arm.
  pub marked_plain : OneOf marks b → true ≡ plain_byte b
  unfolding plain_byte elem any
  marked_plain (inl e) = rw e
  marked_plain (inr (inl e)) = rw e
  marked_plain (inr (inr (inl e))) = rw e
  marked_plain (inr (inr (inr e))) = rw e

  module _ (h : OneOf marks b → ⊥) where
    pub bracket_plain : 40 ≤ b → b ≤ 41 → true ≡ plain_byte b
    unfolding plain_byte
    bracket_plain l m = rw (unmarked h, inside 40 41 l m)

    pub digit_plain : 48 ≤ b → b ≤ 57 → true ≡ plain_byte b
    unfolding plain_byte
    digit_plain l m = rw (unmarked h, over 40 41 (omega arith) (omega arith), inside 48 57 l m)

    pub below_brackets : b < 40 → false ≡ plain_byte b
    unfolding plain_byte
    below_brackets l = rw (unmarked h, under 40 41 l, under 48 57 (omega arith))

    pub below_digits : 41 < b → b < 48 → false ≡ plain_byte b
    unfolding plain_byte
    below_digits l m = rw (unmarked h, over 40 41 (omega arith) l, under 48 57 m)

    pub above_digits : 57 < b → false ≡ plain_byte b
    unfolding plain_byte
    above_digits l = rw (unmarked h, over 40 41 (omega arith) (omega arith), over 48 57 (omega arith) l)

-- The test of every byte, as the library's `all` has it.
pub all_listed : (text : List ℕ) → list_all plain_byte text ≡ all plain_byte text
unfolding all
all_listed [] = refl
all_listed (b ∷ text) = ap (λ (r : Bool). plain_byte b && r) (all_listed text)
