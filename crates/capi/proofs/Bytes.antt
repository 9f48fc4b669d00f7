-- A state's bytes, written one after another. Assumes nothing.
use Prim.Native.Nat.{ℕ, zero, suc, ◌+◌, ◌<◌}
use native.Mathlib.Nat.{le_of_eq}
use native.Mathlib.Numerals.{add-one}
use native.Mathlib.Omega.{arith}
use mathlib.Core.Path.{◌≡◌, refl, sym, ap, ap₂, ◌∙◌}
use mathlib.Core.Bool.{Bool, true, false}
use mathlib.Core.List.{List, [], ◌∷◌, ◌++◌, append-nil}
use lib.ListN.{length, get_or, set, take, drop, length-map, drop_of_length-le}
use lib.Seq.{take_all}
use mir.Val.{bool_byte}
use Rattle.hgn.specs.State.{State}
use Rattle.capi.specs.Words.{atom_byte, state_bytes}

-- What a cast makes of an atom.
byte_of_cast : (b : Bool) → bool_byte b ≡ atom_byte b
byte_of_cast true = refl
byte_of_cast false = refl

pub byte_at : (s : State) (i : ℕ) → get_or (state_bytes s) i 0 ≡ bool_byte (get_or s i false)
byte_at [] i = refl
byte_at (b ∷ s) zero = sym (byte_of_cast b)
byte_at (b ∷ s) (suc i) = byte_at s i

-- The first `i` bytes, then what stood in the room.
abbrev pub FirstBytes : State → List ℕ → ℕ → List ℕ → Type 0
FirstBytes s room i bytes = bytes ≡ take i (state_bytes s) ++ drop i room

pub byte_more : (s : State) (room : List ℕ) (i : ℕ) {bytes : List ℕ} → FirstBytes s room i bytes → i < length s → i < length room
    → FirstBytes s room (i + 1) (set bytes i (bool_byte (get_or s i false)))
byte_more s room i {bytes} e p q =
    rw (e, add-one, sym (byte_at s i)) (more (state_bytes s) room i (rw (length-map s atom_byte) p) q)
  where
    more : (bytes room : List ℕ) (i : ℕ) → i < length bytes → i < length room
        → set (take i bytes ++ drop i room) i (get_or bytes i 0) ≡ take (suc i) bytes ++ drop (suc i) room
    more [] room i p q = absurd (omega arith)
    more (b ∷ bytes) [] i p q = absurd (omega arith)
    more (b ∷ bytes) (w ∷ room) zero p q = refl
    more (b ∷ bytes) (w ∷ room) (suc i) p q = ap (λ (l : List ℕ). b ∷ l) (more bytes room i (omega (arith, p)) (omega (arith, q)))

pub bytes_whole : (s : State) (room : List ℕ) (i : ℕ) {bytes : List ℕ} → FirstBytes s room i bytes → length s ≡ i → length room ≡ i
    → bytes ≡ state_bytes s
bytes_whole s room i e p q =
    e
    ∙ ap₂ {C = List ℕ} (λ (a b : List ℕ). a ++ b) (take_all i (state_bytes s) (le_of_eq (length-map s atom_byte ∙ p)))
    (drop_of_length-le room (le_of_eq q))
    ∙ append-nil (state_bytes s)
