-- A number behind the first bytes of a text, and the five of a heading. Assumes nothing.
use Prim.Native.Nat.{ℕ, ◌+◌, ◌^◌, ◌<◌}
use native.Mathlib.Omega.{arith}
use native.Mathlib.Numerals.{add-one}
use mathlib.Core.Path.{◌≡◌, ap, ◌∙◌}
use mathlib.Core.List.{List, [], ◌∷◌, ◌++◌, append_assoc}
use lib.ListN.{length, set, take}
use lib.Seq.{paste, take-paste, length-paste, take-suc-set, take_all}
use Rattle.std.specs.Fmt as Fmt
use Rattle.sheet_files.specs.Texts.{ended, blank, newline, heading, decimal}
use Rattle.sheet_files.proofs.Decimals.{decimal_is}

-- The digits, then the byte that ends the number.
pub put_is : (text s : List ℕ) (at n end : ℕ) → at + length s < length text → n < 2 ^ 64 → s ≡ Fmt.decimal n
    → take (at + length s + 1) (set (paste text at s (length s)) (at + length s) end) ≡ take at text ++ ended end n
unfolding ended
put_is text s at n end h small is =
    let whole : length (paste text at s (length s)) ≡ length text = length-paste text at s (length s) (omega arith) (omega arith) in
    ap {B = List ℕ} (λ (j : ℕ). take j (set (paste text at s (length s)) (at + length s) end)) (add-one (at + length s))
    ∙ take-suc-set (paste text at s (length s)) (at + length s) end (omega arith)
    ∙ ap {B = List ℕ} (λ l. l ++ (end ∷ [])) (take-paste text at s (length s) (omega arith) (omega arith)
    ∙ ap {B = List ℕ} (λ l. take at text ++ l) (take_all (length s) s (omega arith) ∙ decimal_is small is))
    ∙ append_assoc (take at text) (decimal n) (end ∷ [])

pub heading_is : (number place count cost atom : ℕ) {t1 t2 t3 t4 t5 : List ℕ}
    → t1 ≡ ended blank number → t2 ≡ t1 ++ ended blank place → t3 ≡ t2 ++ ended blank count → t4 ≡ t3 ++ ended blank cost
    → t5 ≡ t4 ++ ended newline atom → t5 ≡ heading number place count cost atom
unfolding heading
heading_is number place count cost atom a b c d e =
    e
    ∙ ap {B = List ℕ} (λ l. l ++ ended newline atom) (d
    ∙ ap {B = List ℕ} (λ l. l ++ ended blank cost) (c ∙ ap {B = List ℕ} (λ l. l ++ ended blank count) (b ∙ ap {B = List ℕ} (λ l. l ++ ended blank place) a)))
