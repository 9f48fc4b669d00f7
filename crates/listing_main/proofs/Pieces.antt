-- The text of what a step told, and the most goals above that it tells. Assumes nothing.
use Prim.Native.Nat.{ℕ}
use Rattle.std.specs.Prelude.{Option, None, Some}
use mathlib.Core.Path.{◌≡◌, refl, sym, ap, ◌∙◌}
use mathlib.Core.List.{List, [], ◌∷◌, ◌++◌, map, append_assoc, append-nil}
use Rattle.hgn.specs.Network.{step_number, method_number}
use Rattle.hgn.specs.Listing as Listing
use Rattle.listing.specs.Lines.{numbers_of, lines_told}
use Rattle.listing.specs.declared.line.Line.{Line}
use Rattle.listing_main.specs.Listed.{line_text, lines_text}
use Rattle.listing_main.specs.Pieces.{numbers_text, piece_text}

-- A line that was told is the whole piece.
pub piece_line : {told : Option Line} (l : Line) (front : List ℕ) {text : List ℕ} → told ≡ Some l
    → text ≡ front ++ line_text l.above l.released l.brought l.method → text ≡ front ++ piece_text told
unfolding numbers_text
piece_line l front e t = rw e (t ∙ ap {B = List ℕ} (λ (x : List ℕ). front ++ x) (sym (append-nil _)))

-- Where nothing was told, nothing is put.
pub piece_none : (front : List ℕ) {told : Option Line} → told ≡ None → front ≡ front ++ piece_text told
unfolding numbers_text
piece_none front e = rw e (sym (append-nil front))

abbrev text_of : Listing.Line → List ℕ
text_of l = line_text l.above l.released (step_number l.source) (method_number l.source)

-- The text of lines is that of their numbers.
numbers_are : (ls : List Listing.Line) → numbers_text (map numbers_of ls) ≡ lines_text ls
unfolding numbers_text lines_text
numbers_are [] = refl
numbers_are (l ∷ ls) = ap {B = List ℕ} (λ x. text_of l ++ x) (numbers_are ls)

-- A step's piece is the text of its lines.
pub piece_is : (told : Option Line) (ls : List Listing.Line) → lines_told told ≡ map numbers_of ls → piece_text told ≡ lines_text ls
piece_is told ls e = ap numbers_text e ∙ numbers_are ls

-- Lines one behind the other.
pub lines_append : (ls ms : List Listing.Line) → lines_text (ls ++ ms) ≡ lines_text ls ++ lines_text ms
unfolding lines_text
lines_append [] ms = refl
lines_append (l ∷ ls) ms = ap {B = List ℕ} (λ x. text_of l ++ x) (lines_append ls ms) ∙ sym (append_assoc (text_of l) (lines_text ls) (lines_text ms))
