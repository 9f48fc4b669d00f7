-- Digits read one by one, each number cut at the first depth that is too deep. Assumes nothing.
use Prim.Native.Nat.{ℕ, suc, ◌+◌, ◌*◌, ◌-◌, ◌<◌, ◌≤◌}
use native.Mathlib.Omega.{arith}
use native.Mathlib.Numerals.{add-one}
use mathlib.Core.Path.{◌≡◌, refl, sym, ap, ◌∙◌}
use mathlib.Core.Bool.{Bool, true, false, cond, true≢false}
use mathlib.Core.List.{List, [], ◌∷◌}
use mathlib.Core.Option.{Option, none, some, map}
use lib.Dec.{leb, ltb}
use lib.ListN.{length, get_or, drop, drop_of_length-le}
use lib.Seq.{drop-cons}
use borrow.Author.Tests.{ltb-false}
use Rattle.std.specs.Char.{is_ascii_digit}
use Rattle.std.proofs.lemmas.Bool.Decides.{nat_tests}
use Rattle.search_main.specs.Depths.{zero_digit, nine_digit, is_digit, digits_behind, number_of, first_too_deep, capped, depth_of}

-- The library's test of a digit is the definition's.
pub digit_is : (b : ℕ) → is_digit b ≡ is_ascii_digit b
digit_is b = grind (arith, nat_tests)

-- A digit is no lower than that of 0.
pub digit_above : (b : ℕ) → is_digit b ≡ true → zero_digit ≤ b
digit_above b h = go (ltb b zero_digit) refl h
  where
    go : (t : Bool) → ltb b zero_digit ≡ t → cond t false (leb b nine_digit) ≡ true → zero_digit ≤ b
    go true e f = absurd (true≢false (sym f))
    go false e f = ltb-false b zero_digit e

cap_again : (n : ℕ) → n ≤ first_too_deep → n ≡ capped n
cap_again n h = omega arith

cap_behind : (n m d : ℕ) → capped n ≡ capped m → capped (10 * n + d) ≡ capped (10 * m + d)
cap_behind n m d e = omega (arith, e)

-- What stands behind a number that is cut alike makes a number that is cut alike.
capped_behind : (text : List ℕ) (n m : ℕ) → capped n ≡ capped m → map capped (digits_behind n text) ≡ map capped (digits_behind m text)
unfolding digits_behind
capped_behind [] n m e = ap some e
capped_behind (b ∷ rest) n m e =
    go _ _ (is_digit b) (capped_behind rest (10 * n + (b - zero_digit)) (10 * m + (b - zero_digit)) (cap_behind n m (b - zero_digit) e))
  where
    go : (x y : Option ℕ) (t : Bool) → map capped x ≡ map capped y → map capped (cond t x none) ≡ map capped (cond t y none)
    go x y true e = e
    go x y false e = refl

-- Of a text with a byte, the number is that of the digits.
number_is : (text : List ℕ) → 0 < length text → digits_behind 0 text ≡ number_of text
unfolding number_of
number_is [] h = absurd (omega arith)
number_is (b ∷ rest) h = refl

-- The depth of the first i digits: with the rest behind it, it makes the whole number, cut.
pub record Read (text : List ℕ) (depth i : ℕ) : Type 0 where
  pub inside : i ≤ length text
  pub low : depth ≤ first_too_deep
  pub whole : map capped (digits_behind depth (drop i text)) ≡ map capped (digits_behind 0 text)

module _ (text : List ℕ) where
  pub read_none : Read text 0 0
  read_none = record { inside = omega arith; low = omega arith; whole = refl }

  next_byte : (depth i : ℕ) → i < length text
      → digits_behind depth (drop i text) ≡ cond (is_digit (get_or text i 0)) (digits_behind (10 * depth + (get_or text i 0 - zero_digit)) (drop (suc i) text)) none
  unfolding digits_behind
  next_byte depth i h = ap (digits_behind depth) (drop-cons text i 0 h)

  pub read_more : {depth i new : ℕ} → Read text depth i → i < length text → is_digit (get_or text i 0) ≡ true
      → new ≡ capped (10 * depth + (get_or text i 0 - zero_digit)) → Read text new (i + 1)
  read_more {depth} {i} {new} r h digit e =
      let more = 10 * depth + (get_or text i 0 - zero_digit) in
      record {
        inside = omega arith;
        low = omega (arith, e);
        whole =
            ap {B = Option ℕ} (λ (k : ℕ). map capped (digits_behind new (drop k text))) (add-one i)
            ∙ capped_behind (drop (suc i) text) new more (omega (arith, e))
            ∙ sym (ap {B = Option ℕ} (λ (t : Bool). map capped (cond t (digits_behind more (drop (suc i) text)) none)) digit)
            ∙ sym (ap (map capped) (next_byte depth i h))
            ∙ r.whole;
      }

  of_bytes : 0 < length text → map capped (digits_behind 0 text) ≡ depth_of text
  unfolding depth_of
  of_bytes h = ap (map capped) (number_is text h)

  pub read_stop : {depth i : ℕ} → Read text depth i → i < length text → is_digit (get_or text i 0) ≡ false → none ≡ depth_of text
  read_stop {depth} {i} r h other =
      sym (ap {B = Option ℕ} (λ (t : Bool). map capped (cond t (digits_behind (10 * depth + (get_or text i 0 - zero_digit)) (drop (suc i) text)) none)) other)
      ∙ sym (ap (map capped) (next_byte depth i h))
      ∙ r.whole
      ∙ of_bytes (omega arith)

  pub read_all : {depth i : ℕ} → Read text depth i → length text ≤ i → 0 < length text → some depth ≡ depth_of text
  unfolding digits_behind
  read_all {depth} {i} r h one =
      ap some (cap_again depth r.low)
      ∙ ap {B = Option ℕ} (λ l. map capped (digits_behind depth l)) (sym (drop_of_length-le text h))
      ∙ r.whole
      ∙ of_bytes one

pub empty_is_none : (text : List ℕ) → length text ≡ 0 → none ≡ depth_of text
unfolding depth_of number_of
empty_is_none [] h = refl
empty_is_none (b ∷ rest) h = absurd (omega (arith, h))
