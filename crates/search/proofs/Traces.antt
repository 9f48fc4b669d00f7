-- The steps that the code has found, their moves and places, and the words that it writes. Assumes nothing.
use Prim.Native.Nat.{ℕ, suc, ◌+◌, ◌<◌, ◌≤◌}
use native.Mathlib.Omega.{arith}
use mathlib.Core.Path.{◌≡◌, refl, sym, ap, ap₂, ◌∙◌}
use mathlib.Core.List.{List, [], ◌∷◌, ◌++◌, map}
use lib.ListN.{length, take, drop, get_or, set, length-append}
use lib.Seq.{paste, take-paste, drop-paste, drop-drop, length-paste, length_paste_head, take-set-lt, length-take-le}
use Rattle.std.proofs.lemmas.List.{drop-set, drop-set-lt, set-append_left, length-map, get_or-map, take_all}
use Rattle.std.proofs.lemmas.List.Edits.{paste_more}
use Rattle.hgn.specs.Run.{Step}
use Rattle.hgn.specs.Trace.{trace_words}
use Rattle.hgn.specs.Lent.{overwritten}
use Rattle.search.specs.Founds.{step_found, steps_from, steps_of}
use Rattle.search.specs.declared.found.Step as Code
use Rattle.search.specs.declared.found.Steps.{Steps}
use Rattle.search.specs.declared.shortest.Shortest.{Shortest}

-- A step written at its number stands before the others.
pub step_first : (n : ℕ) (x : Code.Step) (f r : Steps) → n < length f.listed → r.listed ≡ set f.listed n x
    → (k : ℕ) → steps_from n (suc k) r ≡ step_found x ∷ steps_from (n + 1) k f
unfolding steps_from
step_first n x f r m e k = rw (e, drop-set f.listed n x m) refl

-- L, then the first `i` moves, then the first `i` places.
abbrev pub written : List ℕ → List ℕ → List ℕ → ℕ → ℕ → List ℕ
written room moves places n i = paste (paste room 1 moves i) (1 + n) places i

-- A word written before the copied ones.
set_before : (room words : List ℕ) (at n k v : ℕ) → k < at → at ≤ length room → n ≤ length words
    → set (paste room at words n) k v ≡ paste (set room k v) at words n
set_before room words at n k v h p q =
    let long : length (take at room ++ take n words) ≡ at + n = length_paste_head room at words n p q in
    let front : k < length (take at room ++ take n words) = omega (arith, long) in
    let short : length (take at room) ≡ at = length-take-le at room p in
    let inner : k < length (take at room) = omega (arith, short) in
    set-append_left (take at room ++ take n words) (drop (at + n) room) k v front
    ∙ ap₂ {C = List ℕ} (λ (a b : List ℕ). a ++ b)
    (set-append_left (take at room) (take n words) k v inner ∙ ap {B = List ℕ} (λ (a : List ℕ). a ++ take n words) (sym (take-set-lt at room k v h)))
    (sym (drop-set-lt (at + n) room k v (omega arith)))

-- One more move and one more place.
pub written_more : (room moves places : List ℕ) (n i : ℕ) {next : List ℕ} → next ≡ written room moves places n i → i < n → 1 + (n + n) ≤ length room
    → n ≤ length moves → n ≤ length places
    → set (set next (1 + i) (get_or moves i 0)) (1 + n + i) (get_or places i 0) ≡ written room moves places n (i + 1)
written_more room moves places n i {next} e h fits m p =
    let front = paste room 1 moves i in
    let long : length front ≡ length room = length-paste room 1 moves i (omega arith) (omega arith) in
    let more = paste room 1 moves (i + 1) in
    let long_more : length more ≡ length room = length-paste room 1 moves (i + 1) (omega arith) (omega arith) in
    let one : set next (1 + i) (get_or moves i 0) ≡ paste more (1 + n) places i =
    ap (λ (l : List ℕ). set l (1 + i) (get_or moves i 0)) e
    ∙ set_before front places (1 + n) i (1 + i) (get_or moves i 0) (omega arith) (omega arith) (omega arith)
    ∙ ap {B = List ℕ} (λ (l : List ℕ). paste l (1 + n) places i) (paste_more room 1 moves i 0 (omega arith) (omega arith)) in
    ap (λ (l : List ℕ). set l (1 + n + i) (get_or places i 0)) one
    ∙ paste_more (paste room 1 moves (i + 1)) (1 + n) places i 0 (omega arith) (omega arith)

-- L, its moves and its places, one behind the other.
trace_pasted : (room moves places : List ℕ) (n : ℕ) → 1 + (n + n) ≤ length room → n ≤ length moves → n ≤ length places
    → paste (paste (set room 0 n) 1 moves n) (1 + n) places n ≡ n ∷ take n moves ++ take n places ++ drop (1 + (n + n)) room
trace_pasted [] moves places n h m p = absurd (omega arith)
trace_pasted (x ∷ room) moves places n h m p =
    let one : 1 ≤ length (n ∷ room) = omega arith in
    let front = n ∷ room in
    let p : 1 + n + n ≡ suc (n + n) = omega arith in
    let q : suc (n + n) ≡ 1 + (n + n) = omega arith in
    ap₂ {C = List ℕ} (λ (a b : List ℕ). a ++ take n places ++ b) (take-paste front 1 moves n one m)
    (sym (drop-drop n (1 + n) (paste front 1 moves n)) ∙ ap (drop n) (drop-paste front 1 moves n one m) ∙ drop-drop n (1 + n) front
    ∙ ap {B = List ℕ} (λ (k : ℕ). drop k front) p ∙ ap {B = List ℕ} (λ (k : ℕ). drop k (x ∷ room)) q)

trace_written : (room moves places : List ℕ) (n : ℕ) → 1 + (n + n) ≤ length room → n ≡ length moves → n ≡ length places
    → written (set room 0 n) moves places n n ≡ n ∷ moves ++ places ++ drop (1 + (n + n)) room
trace_written room moves places n h m p =
    trace_pasted room moves places n h (omega arith) (omega arith)
    ∙ ap₂ {C = List ℕ} (λ (a b : List ℕ). n ∷ a ++ b ++ drop (1 + (n + n)) room) (take_all n moves (omega arith)) (take_all n places (omega arith))

-- The first `n` moves and places of the steps found.
abbrev pub moves_of : ℕ → Steps → List ℕ
moves_of n s = map (λ (x : Code.Step). x.mv) (take n s.listed)

abbrev pub places_of : ℕ → Steps → List ℕ
places_of n s = map (λ (x : Code.Step). x.place.0) (take n s.listed)

module _ (n : ℕ) (s : Steps) (h : n ≤ length s.listed) where
  pub moves_length : length (moves_of n s) ≡ n
  moves_length = length-map (take n s.listed) _ ∙ length-take-le n s.listed h

  pub places_length : length (places_of n s) ≡ n
  places_length = length-map (take n s.listed) _ ∙ length-take-le n s.listed h

  pub move_at : (i : ℕ) (d : Code.Step) → i < n → get_or (moves_of n s) i 0 ≡ (get_or (take n s.listed) i d).mv
  move_at i d l = get_or-map (λ (x : Code.Step). x.mv) (take n s.listed) i d 0 (omega (arith, length-take-le n s.listed h))

  pub place_at : (i : ℕ) (d : Code.Step) → i < n → get_or (places_of n s) i 0 ≡ (get_or (take n s.listed) i d).place.0
  place_at i d l = get_or-map (λ (x : Code.Step). x.place.0) (take n s.listed) i d 0 (omega (arith, length-take-le n s.listed h))

  pub steps_length : length (steps_from 0 n s) ≡ n
  unfolding steps_from
  steps_length = length-map (take n s.listed) step_found ∙ length-take-le n s.listed h

-- The moves and the places of the steps of a list.
moves_found : (xs : List Code.Step) → map (λ (x : Step). x.move) (map step_found xs) ≡ map (λ (x : Code.Step). x.mv) xs
moves_found [] = refl
moves_found (x ∷ xs) = ap {B = List ℕ} (◌∷◌ x.mv) (moves_found xs)

places_found : (xs : List Code.Step) → map (λ (x : Step). x.place) (map step_found xs) ≡ map (λ (x : Code.Step). x.place.0) xs
places_found [] = refl
places_found (x ∷ xs) = ap {B = List ℕ} (◌∷◌ x.place.0) (places_found xs)

module _ (f : Shortest) (h : f.length ≤ length f.steps.listed) where
  words_are : trace_words (steps_of f) ≡ f.length ∷ moves_of f.length f.steps ++ places_of f.length f.steps
  unfolding steps_from trace_words
  words_are =
      ap₂ {C = List ℕ} (λ (n : ℕ) (l : List ℕ). n ∷ l) (steps_length f.length f.steps h)
      (ap₂ {C = List ℕ} (λ (a b : List ℕ). a ++ b) (moves_found (take f.length f.steps.listed)) (places_found (take f.length f.steps.listed)))

  words_length : length (trace_words (steps_of f)) ≡ 1 + (f.length + f.length)
  words_length =
      ap length words_are
      ∙ omega (arith, length-append (moves_of f.length f.steps) (places_of f.length f.steps), moves_length f.length f.steps h, places_length f.length f.steps h)

  -- The room with the trace in it is the definition's.
  pub trace_is : (room : List ℕ) → 1 + (f.length + f.length) ≤ length room
      → written (set room 0 f.length) (moves_of f.length f.steps) (places_of f.length f.steps) f.length f.length ≡ overwritten (trace_words (steps_of f)) room
  unfolding overwritten
  trace_is room fits =
      trace_written room (moves_of f.length f.steps) (places_of f.length f.steps) f.length fits (sym (moves_length f.length f.steps h))
      (sym (places_length f.length f.steps h))
      ∙ ap₂ {C = List ℕ} (λ (l : List ℕ) (n : ℕ). l ++ drop n room) (sym words_are) (sym words_length)
