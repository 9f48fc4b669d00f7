-- Bytes written of words are read again as the same words. Assumes nothing.
use Prim.Native.Nat.{ℕ, zero, suc, ◌/◌, ◌%◌, ◌<◌}
use native.Mathlib.Omega.{arith}
use mathlib.Core.Path.{◌≡◌, refl, ap₂}
use mathlib.Core.List.{List, [], ◌∷◌}
use lib.ListN.{get_or}
use Rattle.sheet_files.specs.Words.{word_of, words_of, bytes_of, BytesAreReadBack}
use Rattle.sheet_files.proofs.ByIndex.{length_bytes}

word_again : (w : ℕ) → word_of (w % 256) (w / 256) ≡ w
word_again w = omega arith

words_again : (words : List ℕ) → words_of (bytes_of words) ≡ words
unfolding words_of bytes_of
words_again [] = refl
words_again (w ∷ rest) = ap₂ {C = List ℕ} (λ (x : ℕ) (l : List ℕ). x ∷ l) (word_again w) (words_again rest)

bytes_below : (words : List ℕ) → ((i : ℕ) → get_or words i 0 < 65536) → (i : ℕ) → get_or (bytes_of words) i 0 < 256
unfolding bytes_of
bytes_below [] h i = omega arith
bytes_below (w ∷ rest) h zero = omega arith
bytes_below (w ∷ rest) h (suc zero) = omega (arith, h 0)
bytes_below (w ∷ rest) h (suc (suc i)) = bytes_below rest (λ j. h (suc j)) i

pub bytes_are_read_back : BytesAreReadBack
bytes_are_read_back words h = record { twice = length_bytes words; below = bytes_below words h; same = words_again words }
