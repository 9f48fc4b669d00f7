-- Numbers written one by one behind the front of a text make a line. Assumes nothing.
use Prim.Native.Nat.{ℕ, ◌+◌, ◌*◌, ◌<◌, ◌≤◌}
use native.Mathlib.Omega.{arith}
use native.Mathlib.Numerals.{add-one}
use mathlib.Core.Path.{◌≡◌, refl, sym, ap, ◌∙◌}
use mathlib.Core.List.{List, [], ◌∷◌, ◌++◌, append_assoc, append-nil}
use lib.ListN.{length, get_or, take, drop, drop_of_length-le}
use lib.Seq.{drop-cons}
use Rattle.sheet_files.specs.Texts.{ended, blank, newline, number_bytes}
use Rattle.display_main.specs.Moments.{numbers_text}

-- Behind a number that is not the last stands a blank.
numbers_cons : (n : ℕ) (ns : List ℕ) (last : ℕ) → numbers_text (n ∷ (ns ++ last ∷ [])) ≡ ended blank n ++ numbers_text (ns ++ last ∷ [])
unfolding numbers_text
numbers_cons n [] last = refl
numbers_cons n (m ∷ ns) last = refl

-- The text so far: what stood in front, and the first i of the numbers before the last.
pub record Numbers (others : List ℕ) (last : ℕ) (before text : List ℕ) (at end i : ℕ) : Type 0 where
  pub few : end ≤ at + number_bytes * i
  pub same : length text ≡ length before
  pub whole : take end text ++ numbers_text (drop i others ++ last ∷ []) ≡ take at before ++ numbers_text (others ++ last ∷ [])

module _ (others : List ℕ) (last : ℕ) (before : List ℕ) (at : ℕ) where
  pub numbers_none : Numbers others last before before at at 0
  numbers_none = record { few = omega arith; same = refl; whole = refl }

  pub numbers_more : {text next : List ℕ} {end new i : ℕ} → Numbers others last before text at end i → i < length others → new ≤ end + number_bytes
      → length next ≡ length text → take new next ≡ take end text ++ ended blank (get_or others i 0) → Numbers others last before next at new (i + 1)
  numbers_more {text} {next} {end} {new} {i} l h few same put = record {
    few = omega (arith, l.few);
    same = same ∙ l.same;
    whole =
        ap {B = List ℕ} (λ x. x ++ numbers_text (drop (i + 1) others ++ last ∷ [])) put
        ∙ append_assoc (take end text) (ended blank (get_or others i 0)) (numbers_text (drop (i + 1) others ++ last ∷ []))
        ∙ ap {B = List ℕ} (λ x. take end text ++ x) (sym (numbers_cons (get_or others i 0) (drop (i + 1) others) last))
        ∙ ap {B = List ℕ} (λ x. take end text ++ numbers_text (x ++ last ∷ [])) (sym (first i h))
        ∙ l.whole;
  }
    where
      first : (i : ℕ) → i < length others → drop i others ≡ get_or others i 0 ∷ drop (i + 1) others
      first i h = rw (add-one i, drop-cons others i 0 h) refl

  -- Behind the last number the line ends.
  pub numbers_all : {text : List ℕ} {end i : ℕ} (next : List ℕ) (new : ℕ) → Numbers others last before text at end i → length others ≤ i
      → take new next ≡ take end text ++ ended newline last → take new next ≡ take at before ++ numbers_text (others ++ last ∷ [])
  unfolding numbers_text
  numbers_all {text} {end} {i} next new l h put =
      put
      ∙ ap {B = List ℕ} (λ x. take end text ++ numbers_text (x ++ last ∷ [])) (sym (drop_of_length-le others h))
      ∙ l.whole

-- Without numbers there is no line.
pub numbers_without : (front ns : List ℕ) → length ns ≡ 0 → front ≡ front ++ numbers_text ns
unfolding numbers_text
numbers_without front [] e = sym (append-nil front)
numbers_without front (n ∷ ns) e = absurd (omega (arith, e))
