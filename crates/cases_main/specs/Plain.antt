-- The bytes that sheets, and the bars between them, are written with, in ASCII.
use Rattle.std.specs.Prelude.{ℕ, Bool, ◌&&◌, ◌||◌, List, [], ◌∷◌, leb}
use Rattle.hgn.specs.Lists.{elem}

-- Blank, comma, `n` and the bar.
abbrev pub marks : List ℕ
marks = 32 ∷ 44 ∷ 110 ∷ 124 ∷ []

unfoldable pub within : ℕ → ℕ → ℕ → Bool
within least most b = leb least b && leb b most

-- One of the marks, a bracket, or a digit.
unfoldable pub plain_byte : ℕ → Bool
plain_byte b = elem b marks || (within 40 41 b || within 48 57 b)
