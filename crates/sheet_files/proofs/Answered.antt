-- The promise of a call that writes words into a lent room, carried into the line of its answer and the bytes of its file. Assumes nothing.
use Prim.Native.Nat.{ℕ}
use mathlib.Core.Path.{◌≡◌, sym, ap, ◌∙◌}
use mathlib.Core.Logic.{◌≢◌}
use mathlib.Core.List.{List}
use Rattle.hgn.specs.Lent.{Lent}
use Rattle.sheet_files.specs.Words.{bytes_of}
use Rattle.sheet_files.specs.Texts.{answer_line}

module _ {called answer : Lent (List ℕ)} (is : called ≡ answer) where
  line_is : {text : List ℕ} → text ≡ answer_line called.refusal → text ≡ answer_line answer.refusal
  line_is e = e ∙ ap {B = List ℕ} (λ (l : Lent (List ℕ)). answer_line l.refusal) is

  number_is : called.refusal.number ≡ answer.refusal.number
  number_is = ap {B = ℕ} (λ (l : Lent (List ℕ)). l.refusal.number) is

  pub answered_refused : {text : List ℕ} → called.refusal.number ≢ 0 → text ≡ answer_line called.refusal
      → (text ≡ answer_line answer.refusal) × (answer.refusal.number ≢ 0)
  answered_refused n e = (line_is e, λ z. n (number_is ∙ z))

  -- `part` is what of the answer and the room goes into the file.
  pub answered_written : (part : Lent (List ℕ) → List ℕ) {text file : List ℕ} → called.refusal.number ≡ 0
      → text ≡ answer_line called.refusal → file ≡ bytes_of (part called)
      → (text ≡ answer_line answer.refusal) × ((answer.refusal.number ≡ 0) × (file ≡ bytes_of (part answer)))
  answered_written part n e f = (line_is e, (sym number_is ∙ n, f ∙ ap {B = List ℕ} (λ l. bytes_of (part l)) is))
