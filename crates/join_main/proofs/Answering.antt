-- The call's promise, carried to the words of the files. Assumes nothing.
use Prim.Native.Nat.{ℕ, ◌+◌, ◌*◌}
use mathlib.Core.Path.{◌≡◌, ap, ◌∙◌}
use mathlib.Core.List.{List}
use lib.ListN.{take}
use Rattle.hgn.specs.Order.{size_words, row_count}
use Rattle.hgn.specs.JoinSheet.{sheet_in}

-- The first words of a room, as many as its N says, are the sheet in it.
pub sheet_is : (words : List ℕ) {front : List ℕ} {rows : ℕ} → front ≡ take (size_words + 2 * rows) words → rows ≡ row_count words → front ≡ sheet_in words
unfolding sheet_in
sheet_is words e is = e ∙ ap {B = List ℕ} (λ (n : ℕ). take (size_words + 2 * n) words) is
