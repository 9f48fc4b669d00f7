-- The laws of `range`: which numbers stand in it, and how many. Assumes nothing.
use Prim.Native.Nat.{ℕ, zero, suc, ◌+◌, ◌≤◌, ◌<◌}
use native.Mathlib.Omega.{arith}
use native.Mathlib.Nat.{eq-or-lt_of_le}
use mathlib.Core.Path.{◌≡◌, refl, sym}
use mathlib.Core.Logic.{⊎_elim}
use mathlib.Core.List.Memᴰ
use mathlib.Core.List.{Memᴰ}
use lib.ListN.{length}
use Rattle.hgn.specs.Lists.{range}

pub range_within : (i n k : ℕ) → Memᴰ k (range i n) → (i ≤ k) × (k < i + n)
unfolding range
range_within i zero k m = absurd (Memᴰ.not-nil m)
range_within i (suc n) k m =
    ⊎_elim (λ (p : k ≡ i). (omega arith, omega arith)) (λ h. let r = range_within (suc i) n k h in (omega (arith, r.0), omega (arith, r.1)))
    (Memᴰ.cases_cons m)

pub within_range : (i n k : ℕ) → i ≤ k → k < i + n → Memᴰ k (range i n)
unfolding range
within_range i zero k h l = absurd (omega arith)
within_range i (suc n) k h l =
    ⊎_elim (λ (p : i ≡ k). Memᴰ.head (sym p)) (λ (p : i < k). Memᴰ.tail (within_range (suc i) n k p (omega arith))) (eq-or-lt_of_le h)

-- The numbers below `n`.
pub range_lt : (n k : ℕ) → Memᴰ k (range 0 n) → k < n
range_lt n k m = omega (arith, (range_within 0 n k m).1)

pub lt_range : (n k : ℕ) → k < n → Memᴰ k (range 0 n)
lt_range n k h = within_range 0 n k (omega arith) (omega arith)

pub length_range : (i n : ℕ) → length (range i n) ≡ n
unfolding range
length_range i zero = refl
length_range i (suc n) = omega (arith, length_range (suc i) n)
