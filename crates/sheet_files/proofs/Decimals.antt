-- What std prints of a number is the definition's text of it. Assumes nothing.
use Prim.Native.Nat.{ℕ, suc, ◌+◌, ◌/◌, ◌%◌, ◌^◌, ◌<◌, ◌≤◌}
use native.Mathlib.Omega.{arith}
use mathlib.Core.Path.{◌≡◌, refl, sym}
use mathlib.Core.List.{List, [], ◌∷◌, ◌++◌}
use lib.ListN.{length}
use Rattle.std.specs.Fmt as Fmt
use Rattle.std.proofs.lemmas.Bool.{lt-ltb, le-ltb}
use Rattle.std.proofs.lemmas.Fmt.{decimal_from_appends, length-decimal-le}
use Rattle.sheet_files.specs.Texts.{most_digits, digit_count, last_digits, decimal}

digits_up_to : ℕ → ℕ → List ℕ
digits_up_to k n = last_digits 10 (digit_count k n) n

one : (k n : ℕ) → n < 10 → digits_up_to (suc k) n ≡ (48 + n) ∷ []
unfolding digits_up_to digit_count
one k n h =
    let e : n % 10 ≡ n = omega arith in
    rw (lt-ltb n 10 h, e)

more : (k n : ℕ) → 10 ≤ n → digits_up_to (suc k) n ≡ digits_up_to k (n / 10) ++ ((48 + n % 10) ∷ [])
unfolding digits_up_to digit_count
more k n h = rw (le-ltb n 10 h)

-- Every 64-bit number has no more digits than a text has room for.
pub digits_few : {n : ℕ} {s : List ℕ} → n < 2 ^ 64 → s ≡ Fmt.decimal n → length s ≤ most_digits
digits_few {n} h e = rw e (length-decimal-le most_digits n (omega arith) (omega arith) h)

pub decimal_is : {n : ℕ} {s : List ℕ} → n < 2 ^ 64 → s ≡ Fmt.decimal n → s ≡ decimal n
unfolding decimal digits_up_to
decimal_is {n} h e =
    rw (e, sym (decimal_from_appends digits_up_to (record { one = one; more = more }) most_digits n h (digits_few h refl)))
