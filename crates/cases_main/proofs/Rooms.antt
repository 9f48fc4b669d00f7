-- A room that is made blank word by word. Assumes nothing.
use Prim.Native.Nat.{ℕ, ◌+◌, ◌<◌, ◌≤◌}
use native.Mathlib.Omega.{arith}
use native.Mathlib.Nat.{eq-or-lt_of_le}
use mathlib.Core.Path.{◌≡◌, refl, sym, subst, ◌∙◌}
use mathlib.Core.List.{List}
use mathlib.Core.Logic.{⊎_elim}
use lib.ListN.{length, get_or, set, length-set}
use lib.Seq.{get_or-set_same, get_or-set_other}
use Rattle.cases_main.specs.Rooms.{blank_at, Blank}

-- The words before a place are blank.
pub record Blanked (before room : List ℕ) (at : ℕ) : Type 0 where
  pub long : length room ≡ length before
  pub holds : (i : ℕ) → i < at → i < length before → get_or room i 0 ≡ blank_at i

pub none_blanked : (before : List ℕ) → Blanked before before 0
none_blanked before = record { long = refl; holds = λ i h k. absurd (omega arith) }

pub one_blanked : (before room : List ℕ) (at : ℕ) {word : ℕ} → Blanked before room at → at < length before → word ≡ blank_at at
    → Blanked before (set room at word) (at + 1)
one_blanked before room at {word} b h e = record {
  long = length-set room at word ∙ b.long;
  holds = λ i k l.
      ⊎_elim
      (λ (p : i ≡ at). subst (λ (j : ℕ). get_or (set room at word) j 0 ≡ blank_at j) (sym p) (get_or-set_same room at word 0 (omega (arith, b.long)) ∙ e))
      (λ (p : i < at). get_or-set_other room at i word 0 (λ q. omega arith) ∙ b.holds i p l)
      (eq-or-lt_of_le {n = i} {m = at} (omega arith));
}

pub all_blanked : (before room : List ℕ) (at : ℕ) → Blanked before room at → length before ≤ at → Blank (length before) room
all_blanked before room at b h = record { long = b.long; holds = λ i k. b.holds i (omega arith) k }
