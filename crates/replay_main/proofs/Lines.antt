-- The lines of a plan, written one by one behind the first bytes of a text. Assumes nothing.
use Prim.Native.Nat.{ℕ, ◌+◌, ◌*◌, ◌<◌, ◌≤◌}
use native.Mathlib.Omega.{arith}
use native.Mathlib.Numerals.{add-one}
use mathlib.Core.Path.{◌≡◌, refl, sym, ap, ◌∙◌}
use mathlib.Core.List.{List, ◌++◌, append_assoc, append-nil}
use lib.ListN.{length, get_or, take, drop, drop_of_length-le}
use lib.Seq.{drop-cons}
use Rattle.sheet_files.specs.Texts.{ended, newline, number_bytes}
use Rattle.replay_main.specs.Printed.{lines}

-- The text so far: what stood in front, and the lines of the first i actions.
pub record Lines (plan before text : List ℕ) (at end i : ℕ) : Type 0 where
  pub inside : i ≤ length plan
  pub few : end ≤ at + number_bytes * i
  pub same : length text ≡ length before
  pub whole : take end text ++ lines (drop i plan) ≡ take at before ++ lines plan

module _ (plan before : List ℕ) (at : ℕ) where
  pub lines_none : Lines plan before before at at 0
  lines_none = record { inside = omega arith; few = omega arith; same = refl; whole = refl }

  pub lines_more : (text next : List ℕ) (end new i : ℕ) → Lines plan before text at end i → i < length plan → new ≤ end + number_bytes → length next ≡ length text
      → take new next ≡ take end text ++ ended newline (get_or plan i 0)
      → Lines plan before next at new (i + 1)
  unfolding lines
  lines_more text next end new i l h few same e = record {
    inside = omega arith;
    few = omega (arith, l.few);
    same = same ∙ l.same;
    whole =
        ap {B = List ℕ} (λ x. x ++ lines (drop (i + 1) plan)) e
        ∙ append_assoc (take end text) (ended newline (get_or plan i 0)) (lines (drop (i + 1) plan))
        ∙ ap {B = List ℕ} (λ (j : ℕ). take end text ++ (ended newline (get_or plan i 0) ++ lines (drop j plan))) (add-one i)
        ∙ ap {B = List ℕ} (λ l. take end text ++ lines l) (sym (drop-cons plan i 0 h))
        ∙ l.whole;
  }

  pub lines_all : (text : List ℕ) (end i : ℕ) → Lines plan before text at end i → length plan ≤ i → take end text ≡ take at before ++ lines plan
  unfolding lines
  lines_all text end i l h =
      sym (append-nil (take end text))
      ∙ ap {B = List ℕ} (λ l. take end text ++ lines l) (sym (drop_of_length-le plan h))
      ∙ l.whole
