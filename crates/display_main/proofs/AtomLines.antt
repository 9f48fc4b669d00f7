-- The true atoms of a state, counted and written one by one. Assumes nothing.
use Prim.Native.Nat.{ℕ, suc, ◌+◌, ◌*◌, ◌<◌, ◌≤◌}
use native.Mathlib.Omega.{arith}
use native.Mathlib.Numerals.{add-one}
use mathlib.Core.Path.{◌≡◌, refl, sym, ap, ◌∙◌}
use mathlib.Core.Bool.{Bool, true, false}
use mathlib.Core.List.{List, [], ◌∷◌, ◌++◌, append_assoc, append-nil}
use lib.ListN.{length, get_or, take, drop, drop_of_length-le}
use lib.Seq.{drop-cons}
use Rattle.std.specs.List.{filter}
use Rattle.hgn.specs.State.{State}
use Rattle.sheet_files.specs.Texts.{ended, newline, number_bytes}
use Rattle.display_main.specs.Moments.{true_from, true_atoms, number_lines}

-- As many atoms are told as are true.
pub true_counted : (i : ℕ) (s : State) → length (filter (λ (b : Bool). b) s) ≡ length (true_from i s)
unfolding true_from
true_counted i [] = refl
true_counted i (true ∷ s) = ap suc (true_counted (suc i) s)
true_counted i (false ∷ s) = true_counted (suc i) s

-- The atoms of the state so far have been counted.
pub record Counted (s : State) (count i : ℕ) : Type 0 where
  pub inside : i ≤ length s
  pub few : count ≤ i
  pub whole : count + length (true_from i (drop i s)) ≡ length (true_atoms s)

-- The text so far: what stood in front, and the lines of the atoms passed.
pub record AtomLines (s : State) (before text : List ℕ) (at end i : ℕ) : Type 0 where
  pub inside : i ≤ length s
  pub few : end ≤ at + number_bytes * i
  pub same : length text ≡ length before
  pub whole : take end text ++ number_lines (true_from i (drop i s)) ≡ take at before ++ number_lines (true_atoms s)

module _ (s : State) where
  -- An atom that is true is the first of those from it on; one that isn't is left out.
  true_in : (i : ℕ) → i < length s → get_or s i false ≡ true → true_from i (drop i s) ≡ i ∷ true_from (i + 1) (drop (i + 1) s)
  unfolding true_from
  true_in i h e = rw (add-one i, drop-cons s i false h, e) refl

  true_out : (i : ℕ) → i < length s → get_or s i false ≡ false → true_from i (drop i s) ≡ true_from (i + 1) (drop (i + 1) s)
  unfolding true_from
  true_out i h e = rw (add-one i, drop-cons s i false h, e) refl

  true_none : (i : ℕ) → length s ≤ i → true_from i (drop i s) ≡ []
  unfolding true_from
  true_none i h = rw (drop_of_length-le s h) refl

  pub counted_none : Counted s 0 0
  counted_none = record { inside = omega arith; few = omega arith; whole = omega arith }

  pub counted_in : (count i : ℕ) → Counted s count i → i < length s → get_or s i false ≡ true → Counted s (count + 1) (i + 1)
  counted_in count i k h e = record {
    inside = omega arith;
    few = omega (arith, k.few);
    whole = omega (arith, k.whole, ap length (true_in i h e));
  }

  pub counted_out : (count i : ℕ) → Counted s count i → i < length s → get_or s i false ≡ false → Counted s count (i + 1)
  counted_out count i k h e = record {
    inside = omega arith;
    few = omega (arith, k.few);
    whole = omega (arith, k.whole, ap length (true_out i h e));
  }

  pub counted_all : (count i : ℕ) → Counted s count i → length s ≤ i → count ≡ length (true_atoms s)
  counted_all count i k h = omega (arith, k.whole, ap length (true_none i h))

  module _ (before : List ℕ) (at : ℕ) where
    pub atoms_none : AtomLines s before before at at 0
    atoms_none = record { inside = omega arith; few = omega arith; same = refl; whole = refl }

    pub atoms_in : (text next : List ℕ) (end new i : ℕ) → AtomLines s before text at end i → i < length s → get_or s i false ≡ true → new ≤ end + number_bytes
        → length next ≡ length text → take new next ≡ take end text ++ ended newline i → AtomLines s before next at new (i + 1)
    unfolding number_lines
    atoms_in text next end new i l h is few same e = record {
      inside = omega arith;
      few = omega (arith, l.few);
      same = same ∙ l.same;
      whole =
          ap {B = List ℕ} (λ x. x ++ number_lines (true_from (i + 1) (drop (i + 1) s))) e
          ∙ append_assoc (take end text) (ended newline i) (number_lines (true_from (i + 1) (drop (i + 1) s)))
          ∙ ap {B = List ℕ} (λ x. take end text ++ number_lines x) (sym (true_in i h is))
          ∙ l.whole;
    }

    pub atoms_out : (text : List ℕ) (end i : ℕ) → AtomLines s before text at end i → i < length s → get_or s i false ≡ false → AtomLines s before text at end (i + 1)
    atoms_out text end i l h out = record {
      inside = omega arith;
      few = omega (arith, l.few);
      same = l.same;
      whole = ap {B = List ℕ} (λ x. take end text ++ number_lines x) (sym (true_out i h out)) ∙ l.whole;
    }

    pub atoms_all : (text : List ℕ) (end i : ℕ) → AtomLines s before text at end i → length s ≤ i → take end text ≡ take at before ++ number_lines (true_atoms s)
    unfolding number_lines
    atoms_all text end i l h =
        sym (append-nil (take end text)) ∙ ap {B = List ℕ} (λ x. take end text ++ number_lines x) (sym (true_none i h)) ∙ l.whole
