-- Blanks and numbers written one by one behind the first bytes of a text make a line. Assumes nothing.
use Prim.Native.Nat.{ℕ, ◌*◌}
use mathlib.Core.Path.{◌≡◌, ap, ◌∙◌}
use mathlib.Core.List.{List, ◌++◌, append_assoc}
use lib.ListN.{replicate}
use Rattle.sheet_files.specs.Texts.{ended, blank, newline}
use Rattle.listing_main.specs.Listed.{line_text}

-- The blanks, then the three numbers.
pub line_is : (above released brought method : ℕ) (t0 : List ℕ) {t1 t2 t3 t4 : List ℕ}
    → t1 ≡ t0 ++ replicate (2 * above) blank → t2 ≡ t1 ++ ended blank released → t3 ≡ t2 ++ ended blank brought → t4 ≡ t3 ++ ended newline method
    → t4 ≡ t0 ++ line_text above released brought method
unfolding line_text
line_is above released brought method t0 a b c d =
    d
    ∙ ap {B = List ℕ} (λ l. l ++ ended newline method) (c
    ∙ ap {B = List ℕ} (λ l. l ++ ended blank brought) (b ∙ ap {B = List ℕ} (λ l. l ++ ended blank released) a))
    ∙ simp append_assoc
