-- Parts of a text, and the first place of a byte. Assumes nothing.
use Prim.Native.Nat.{ℕ, zero, suc, ◌-◌, ◌<◌, ◌≤◌}
use native.Mathlib.Omega.{arith}
use mathlib.Core.Path.{◌≡◌, refl, sym, ap}
use mathlib.Core.List.{List, [], ◌∷◌}
use lib.Dec.{eqb}
use lib.ListN.{length, get_or, take, drop, length-drop}
use lib.Seq.{take_all}
use borrow.Author.Tests.{eq-eqb, ne_eqb}
use Rattle.hgn.specs.Lists.{take_until}

-- A part that is as long as what is left behind a place is all of that.
pub whole_rest : (text : List ℕ) (n : ℕ) → take (length text - n) (drop n text) ≡ drop n text
whole_rest text n = take_all (length text - n) (drop n text) (simp length-drop (omega arith))

-- The first place at which the byte stands, or the text's length, counts the bytes before it.
pub first_at : (byte : ℕ) (text : List ℕ) (i : ℕ) → i ≤ length text → ((k : ℕ) → k < i → get_or text k 0 ≡ byte → ⊥)
    → (i < length text → get_or text i 0 ≡ byte) → i ≡ length (take_until (eqb byte) text)
unfolding take_until
first_at byte [] i h before here = omega (arith, h)
first_at byte (b ∷ text) zero h before here = rw (eq-eqb byte b (sym (here (omega arith)))) refl
first_at byte (b ∷ text) (suc i) h before here =
    rw (ne_eqb byte b (λ e. before 0 (omega arith) (sym e)))
    (ap suc (first_at byte text i (omega (arith, h)) (λ k l. before (suc k) (omega (arith, l))) (λ l. here (omega (arith, l)))))
