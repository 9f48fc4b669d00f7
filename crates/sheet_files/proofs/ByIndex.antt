-- The words of bytes and the bytes of words, counted and read by index, and a room into which they go one by one. Assumes nothing.
use Prim.Native.Nat.{ℕ, zero, suc, ◌+◌, ◌*◌, ◌/◌, ◌%◌, ◌<◌, ◌≤◌, min}
use native.Mathlib.Omega.{arith}
use mathlib.Core.Path.{◌≡◌, refl, sym, ap, ap₂, subst, ◌∙◌}
use mathlib.Core.List.{List, [], ◌∷◌, ◌++◌}
use lib.ListN.{length, get_or, set, take, drop}
use lib.Seq.{take_at, take_all}
use borrow.Rule.Slice.PartMut.{put_mid}
use Rattle.std.proofs.lemmas.List.{take-append-drop, take_more, take_more_set, take_min}
use Rattle.std.proofs.lemmas.List.Edits.{take-paste}
use Rattle.std.proofs.lemmas.Slice.{put_mid-paste}
use Rattle.sheet_files.specs.Words.{word_of, words_of, words_read, bytes_of, Filled}

pub length_words : (bytes : List ℕ) → length (words_of bytes) ≡ length bytes / 2
unfolding words_of
length_words [] = refl
length_words (low ∷ []) = refl
length_words (low ∷ high ∷ rest) = omega (arith, length_words rest)

-- An index below half the number of bytes is one of a word.
pub word_inside : (bytes : List ℕ) {i : ℕ} → i < length bytes / 2 → i < length (words_of bytes)
word_inside bytes h = omega (arith, length_words bytes)

pub word_at : (bytes : List ℕ) (i : ℕ) → i < length bytes / 2 → get_or (words_of bytes) i 0 ≡ word_of (get_or bytes (2 * i) 0) (get_or bytes (2 * i + 1) 0)
unfolding words_of
word_at [] i h = refl
word_at (low ∷ []) i h = absurd (omega arith)
word_at (low ∷ high ∷ rest) zero h = refl
word_at (low ∷ high ∷ rest) (suc i) h =
    let even : suc (suc (2 * i)) ≡ 2 * suc i = omega arith in
    let odd : suc (suc (2 * i + 1)) ≡ 2 * suc i + 1 = omega arith in
    word_at rest i (omega arith)
    ∙ ap₂ {C = ℕ} (λ (a b : ℕ). word_of (get_or (low ∷ high ∷ rest) a 0) (get_or (low ∷ high ∷ rest) b 0)) even odd

-- The bytes of words: two for each, and each by its index.
pub length_bytes : (words : List ℕ) → length (bytes_of words) ≡ 2 * length words
unfolding bytes_of
length_bytes [] = refl
length_bytes (w ∷ rest) = omega (arith, length_bytes rest)

-- The first words of bytes are those of twice as many bytes.
pub words_of_front : (n : ℕ) (bytes : List ℕ) → take n (words_of bytes) ≡ words_read (2 * n) bytes
unfolding words_of words_read
words_of_front zero bytes = refl
words_of_front (suc n) [] = let two : 2 * suc n ≡ suc (suc (2 * n)) = omega arith in rw two refl
words_of_front (suc n) (low ∷ []) = let two : 2 * suc n ≡ suc (suc (2 * n)) = omega arith in rw two refl
words_of_front (suc n) (low ∷ high ∷ rest) =
    let two : 2 * suc n ≡ suc (suc (2 * n)) = omega arith in
    rw two (ap (λ (l : List ℕ). word_of low high ∷ l) (words_of_front n rest))

pub bytes-append : (words more : List ℕ) → bytes_of (words ++ more) ≡ bytes_of words ++ bytes_of more
unfolding bytes_of
bytes-append [] more = refl
bytes-append (w ∷ rest) more = ap (λ (l : List ℕ). w % 256 ∷ w / 256 ∷ l) (bytes-append rest more)

-- The next word goes in.
pub words_more : (room bytes : List ℕ) (i w : ℕ) → i < length room → i < length bytes / 2 → take i room ≡ take i (words_of bytes)
    → w ≡ word_of (get_or bytes (2 * i) 0) (get_or bytes (2 * i + 1) 0) → take (i + 1) (set room i w) ≡ take (i + 1) (words_of bytes)
words_more room bytes i w inside there so_far is =
    take_more_set room i w inside
    ∙ ap₂ {C = List ℕ} (λ (l : List ℕ) (x : ℕ). l ++ x ∷ []) so_far (is ∙ sym (word_at bytes i there))
    ∙ sym (take_more (words_of bytes) i 0 (word_inside bytes there))

-- As many words as the room takes or as there are, with the rest of the room behind them.
pub words_whole : (room rest bytes : List ℕ) (most count i : ℕ) → length room ≡ count → count ≡ min most (length bytes / 2) → i ≡ count
    → take i room ≡ take i (words_of bytes) → take count (room ++ rest) ≡ words_read (2 * most) bytes
words_whole room rest bytes most count i counted least end is =
    let few : i ≡ min most (length (words_of bytes)) = omega (arith, length_words bytes) in
    take_at room rest count counted
    ∙ sym (take_all i room (omega arith))
    ∙ is
    ∙ ap {B = List ℕ} (λ (n : ℕ). take n (words_of bytes)) few
    ∙ take_min most (words_of bytes)
    ∙ words_of_front most bytes

-- The two bytes of the next word go in, as `to_le_bytes` gives them.
pub bytes_more : (words room two : List ℕ) (i k : ℕ) → 2 * i + 2 ≤ length room → i < length words → get_or words i 0 < 65536
    → take (2 * i) room ≡ bytes_of (take i words) → k ≡ 2 → two ≡ (get_or words i 0 % 256) ∷ (get_or words i 0 / 256 % 256) ∷ []
    → take (2 * (i + 1)) (put_mid (2 * i) k room two) ≡ bytes_of (take (i + 1) words)
unfolding bytes_of
bytes_more words room two i k fits inside small so_far counted is =
    let w = get_or words i 0 in
    let bytes = (w % 256) ∷ (w / 256) ∷ [] in
    let next : 2 * (i + 1) ≡ 2 * i + 2 = omega arith in
    let high : w / 256 % 256 ≡ w / 256 = omega (arith, small) in
    ap₂ {C = List ℕ} (λ (n : ℕ) (l : List ℕ). take n l) next (put_mid-paste (2 * i) k room two bytes 2 (rw high at is) (sym counted) refl)
    ∙ take-paste room (2 * i) bytes 2 (omega arith) (omega arith)
    ∙ ap {B = List ℕ} (λ l. l ++ bytes) so_far
    ∙ sym (bytes-append (take i words) (w ∷ []))
    ∙ ap bytes_of (sym (take_more words i 0 inside))

-- All words are in, and behind them the room is as it was.
pub bytes_whole : (words before room : List ℕ) (i : ℕ) → i ≡ length words → take (2 * i) room ≡ bytes_of (take i words)
    → drop (2 * length words) room ≡ drop (2 * length words) before → Filled (bytes_of words) before room (2 * length words)
bytes_whole words before room i end bytes rest = record {
  counts = sym (length_bytes words);
  holds =
      sym (take-append-drop (2 * length words) room)
      ∙ ap₂ {C = List ℕ} (λ (a b : List ℕ). a ++ b)
      (ap {B = List ℕ} (λ (n : ℕ). take (2 * n) room) (sym end) ∙ bytes ∙ ap bytes_of (take_all i words (omega arith))) rest
      ∙ ap {B = List ℕ} (λ (n : ℕ). bytes_of words ++ drop n before) (sym (length_bytes words));
}

-- Equal words have equal bytes.
pub filled_bytes : {front words before room : List ℕ} {count : ℕ} → front ≡ words → Filled (bytes_of front) before room count
    → Filled (bytes_of words) before room count
filled_bytes {before = before} {room = room} {count = count} e f = subst (λ l. Filled (bytes_of l) before room count) e f

-- The first of a filled room, as many as were counted, are those that went in.
pub front_of_filled : {words before room front : List ℕ} {count : ℕ} → Filled words before room count → front ≡ take count room → front ≡ words
front_of_filled {words} {before} {count = count} f e = e ∙ ap (take count) f.holds ∙ take_at words (drop (length words) before) count (sym f.counts)
