-- Rows put into lent room: the room keeps its length, and what the rows leave in it. Assumes nothing.
use Prim.Native.Nat.{ℕ, suc, ◌+◌, ◌≤◌}
use native.Mathlib.Omega.{arith}
use native.Mathlib.Nat.{add-zero}
use mathlib.Core.Path.{◌≡◌, refl, sym, ap, ◌∙◌}
use mathlib.Core.List.{List, [], ◌∷◌, ◌++◌, map, append_assoc}
use lib.ListN.{length, set, take, drop, length-append, length-set, length-take, length-drop, take-append-drop}
use lib.Seq.{set_at, drop-drop}
use Rattle.hgn.specs.Rows.{Row}
use Rattle.sheet_check.specs.Puts.{put_row, put_rows}

module _ (s n : ℕ) where
  pub length_put : (i : ℕ) (r : Row) (room : List ℕ) → length (put_row s n i r room) ≡ length room
  length_put i r room = simp length-set

  pub length_puts : (i : ℕ) (rs : List Row) (room : List ℕ) → length (put_rows s n i rs room) ≡ length room
  unfolding put_rows
  length_puts i [] room = refl
  length_puts i (r ∷ rs) room = length_puts (suc i) rs (put_row s n i r room) ∙ length_put i r room

  -- Two lists of rows, one after the other.
  pub puts_append : (i : ℕ) (xs ys : List Row) (room : List ℕ) → put_rows s n i (xs ++ ys) room ≡ put_rows s n (i + length xs) ys (put_rows s n i xs room)
  unfolding put_rows
  puts_append i [] ys room = ap (λ (k : ℕ). put_rows s n k ys room) (sym (add-zero i))
  puts_append i (x ∷ xs) ys room =
      puts_append (suc i) xs ys (put_row s n i x room)
      ∙ ap (λ (k : ℕ). put_rows s n k ys (put_rows s n (suc i) xs (put_row s n i x room))) (omega arith)

  -- Where `x` and `y` are the words that the tags and the values go to, they alone are written.
  puts_between : (i : ℕ) (rs : List Row) (p x q y w : List ℕ) → length p ≡ s + i → length p + length x + length q ≡ s + n + i
      → length x ≡ length rs → length y ≡ length rs
      → put_rows s n i rs (p ++ (x ++ (q ++ (y ++ w)))) ≡ p ++ (map (λ r. r.tag) rs ++ (q ++ (map (λ r. r.value) rs ++ w)))
  unfolding put_rows
  puts_between i [] p [] q [] w at behind f g = refl
  puts_between i [] p (a ∷ x) q y w at behind f g = absurd (omega arith)
  puts_between i [] p [] q (b ∷ y) w at behind f g = absurd (omega arith)
  puts_between i (r ∷ rs) p [] q y w at behind f g = absurd (omega arith)
  puts_between i (r ∷ rs) p (a ∷ x) q [] w at behind f g = absurd (omega arith)
  puts_between i (r ∷ rs) p (a ∷ x) q (b ∷ y) w at behind f g =
      let tag : List ℕ = r.tag ∷ [] in
      let value : List ℕ = r.value ∷ [] in
      let front : List ℕ = p ++ (tag ++ (x ++ q)) in
      let first : set (p ++ (a ∷ (x ++ (q ++ (b ∷ (y ++ w)))))) (s + i) r.tag ≡ front ++ (b ∷ (y ++ w)) =
      set_at p a (x ++ (q ++ (b ∷ (y ++ w)))) r.tag (s + i) at ∙ simp append_assoc in
      let long : length front ≡ s + n + i = simp length-append (omega arith) in
      ap (put_rows s n (suc i) rs)
      (ap (λ (l : List ℕ). set l (s + n + i) r.value) first
      ∙ set_at front b (y ++ w) r.value (s + n + i) long ∙ simp append_assoc)
      ∙ puts_between (suc i) rs (p ++ tag) x (q ++ value) y w (simp length-append (omega arith)) (simp length-append (omega arith))
      (omega arith) (omega arith)
      ∙ simp append_assoc

-- All rows of a sheet put behind its sizes: the words behind them stay.
pub puts_written : (sizes rest : List ℕ) (rows : List Row) → length rows + length rows ≤ length rest
    → put_rows (length sizes) (length rows) 0 rows (sizes ++ rest)
    ≡ sizes ++ (map (λ r. r.tag) rows ++ (map (λ r. r.value) rows ++ drop (length rows + length rows) rest))
puts_written sizes rest rows enough =
    let n = length rows in
    let tags = take n rest in
    let behind = drop n rest in
    let parts : rest ≡ tags ++ (take n behind ++ drop (n + n) rest) =
    sym (take-append-drop n rest)
    ∙ ap {B = List ℕ} (λ l. tags ++ l) (sym (take-append-drop n behind) ∙ ap {B = List ℕ} (λ l. take n behind ++ l) (drop-drop n n rest)) in
    ap (λ (l : List ℕ). put_rows (length sizes) n 0 rows (sizes ++ l)) parts
    ∙ puts_between (length sizes) n 0 rows sizes tags [] (take n behind) (drop (n + n) rest) (omega arith)
    (simp length-take (omega arith)) (simp length-take (omega arith)) (simp (length-take, length-drop) (omega arith))
