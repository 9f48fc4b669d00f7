-- The depth that is typed. Document 01, "Questions" 41.
use Rattle.std.specs.Prelude.{Option as Answered, Some, None, ℕ, suc, ◌+◌, ◌*◌, ◌-◌, min, ◌≡◌, Bool, cond, false, List, [], ◌∷◌, leb, ltb}
use Rattle.std.proofs.Math.Option.{Option, none, some, map}
use Rattle.hgn.specs.Search.{most_depth, search}

-- The ten decimal digits in ASCII.
abbrev pub zero_digit : ℕ
zero_digit = 48

abbrev pub nine_digit : ℕ
nine_digit = 57

abbrev pub is_digit : ℕ → Bool
is_digit b = cond (ltb b zero_digit) false (leb b nine_digit)

-- The number whose first digits make `n`, with these bytes behind; none where one of them is no digit.
unfoldable pub digits_behind : ℕ → List ℕ → Option ℕ
digits_behind n [] = some n
digits_behind n (b ∷ rest) = cond (is_digit b) (digits_behind (10 * n + (b - zero_digit)) rest) none

-- The number that a text writes in decimal digits; none for one without digits or with anything else in it.
unfoldable pub number_of : List ℕ → Option ℕ
number_of [] = none
number_of (b ∷ rest) = digits_behind 0 (b ∷ rest)

-- "D at most 32? 41": every larger depth is refused alike, so it is read as the first of them, however long the number is.
abbrev pub first_too_deep : ℕ
first_too_deep = suc most_depth

abbrev pub capped : ℕ → ℕ
capped n = min n first_too_deep

unfoldable pub depth_of : List ℕ → Option ℕ
depth_of text = map capped (number_of text)

-- The search answers for the depth that is read as it would for the number that was typed.
abbrev pub CapChangesNothing : Type 0
CapChangesNothing = (shop sheet : List ℕ) (n : ℕ) (room : List ℕ) → search shop sheet (capped n) room ≡ search shop sheet n room

-- What the code's answer says.
abbrev pub depth_is : Answered ℕ → Option ℕ
depth_is (Some n) = some n
depth_is None = none
