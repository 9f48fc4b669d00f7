-- Words that are a tag and a value by turns: their rows one by one, and laid out as a sheet has them. Assumes nothing.
use Prim.Native.Nat.{ℕ, zero, suc, ◌+◌, ◌-◌, ◌*◌, ◌/◌, ◌<◌, ◌≤◌}
use native.Mathlib.Omega.{arith}
use native.Mathlib.Nat.{eq-or-lt_of_le, zero-add}
use native.Mathlib.Numerals.{add-one}
use mathlib.Core.Path.{◌≡◌, refl, sym, ap, ap₂, subst, ◌∙◌}
use mathlib.Core.Bool.{Bool, true, false, ◌||◌}
use mathlib.Core.List.{List, [], ◌∷◌, zip_with}
use mathlib.Core.Logic.{⊎_elim}
use lib.ListN.{length, get_or, set, take, drop, length-set, drop_of_length-le}
use lib.Seq.{drop-cons, get_or-set_same, get_or-set_other, ext_get_or}
use Rattle.hgn.specs.Lists.{any}
use Rattle.hgn.specs.Rows.{Row, row, rows_of}
use Rattle.sheet_check.proofs.Lookup.{rows_length, rows_at}
use Rattle.cases_main.specs.Relevances.{pairs, is_wanted, goal_tags, action_tags, tags_of}

pub length_pairs : (words : List ℕ) → length (pairs words) ≡ length words / 2
unfolding pairs
length_pairs [] = refl
length_pairs (t ∷ []) = refl
length_pairs (t ∷ v ∷ rest) = omega (arith, length_pairs rest)

pub pair_at : (words : List ℕ) (i : ℕ) → i < length words / 2 → get_or (pairs words) i (row 0 0) ≡ row (get_or words (2 * i) 0) (get_or words (2 * i + 1) 0)
unfolding pairs
pair_at [] i h = absurd (omega arith)
pair_at (t ∷ []) i h = absurd (omega arith)
pair_at (t ∷ v ∷ rest) zero h = refl
pair_at (t ∷ v ∷ rest) (suc i) h =
    let even : suc (suc (2 * i)) ≡ 2 * suc i = omega arith in
    let odd : suc (suc (2 * i + 1)) ≡ 2 * suc i + 1 = omega arith in
    pair_at rest i (omega arith)
    ∙ ap₂ {C = Row} (λ (a b : ℕ). row (get_or (t ∷ v ∷ rest) a 0) (get_or (t ∷ v ∷ rest) b 0)) even odd

-- Where no row before row `i` is wanted, one of all is wanted where one of those from there on is.
module _ (words : List ℕ) (i : ℕ) (so_far : any is_wanted (drop i (pairs words)) ≡ any is_wanted (pairs words)) where
  abbrev here : Row
  here = row (get_or words (2 * i) 0) (get_or words (2 * i + 1) 0)

  from_here : i < length words / 2 → is_wanted here || any is_wanted (drop (i + 1) (pairs words)) ≡ any is_wanted (pairs words)
  unfolding any
  from_here h =
      sym (ap (any is_wanted) (drop-cons (pairs words) i (row 0 0) (rw (length_pairs words) h)
      ∙ ap₂ {C = List Row} (λ r k. r ∷ drop k (pairs words)) (pair_at words i h) (sym (add-one i)))) ∙ so_far

  pub wanted_here : {answer : Bool} → i < length words / 2 → answer ≡ is_wanted here → answer ≡ true → true ≡ any is_wanted (pairs words)
  wanted_here h e taken = rw (sym e ∙ taken) at (from_here h)

  pub wanted_on : {answer : Bool} → i < length words / 2 → answer ≡ is_wanted here → answer ≡ false
      → any is_wanted (drop (i + 1) (pairs words)) ≡ any is_wanted (pairs words)
  wanted_on h e left = rw (sym e ∙ left) at (from_here h)

  pub none_wanted : length words / 2 ≤ i → false ≡ any is_wanted (pairs words)
  unfolding any
  none_wanted h = rw (drop_of_length-le (pairs words) {i = i} (rw (length_pairs words) h)) at so_far

-- The tags of the effects, by the answer of that test.
module _ (rows : List Row) {answer : Bool} (e : answer ≡ any is_wanted rows) where
  pub tags_of_goal : answer ≡ true → goal_tags ≡ tags_of rows
  unfolding tags_of
  tags_of_goal taken = rw (sym e ∙ taken)

  pub tags_of_action : answer ≡ false → action_tags ≡ tags_of rows
  unfolding tags_of
  tags_of_action left = rw (sym e ∙ left)

-- The tags and the values of the rows before row `i` stand in the room.
pub record Laid (words before room : List ℕ) (i : ℕ) : Type 0 where
  pub long : length room ≡ length before
  pub tags : (j : ℕ) → j < i → j < length words / 2 → get_or room j 0 ≡ get_or words (2 * j) 0
  pub values : (j : ℕ) → j < i → j < length words / 2 → get_or room (length words / 2 + j) 0 ≡ get_or words (2 * j + 1) 0

pub none_laid : (words before : List ℕ) → Laid words before before 0
none_laid words before = record { long = refl; tags = λ j h k. absurd (omega arith); values = λ j h k. absurd (omega arith) }

module _ (words before room : List ℕ) (i : ℕ) (fits : length words ≤ length before) (l : Laid words before room i) where
  pub one_laid : i < length words / 2 → Laid words before (set (set room i (get_or words (2 * i) 0)) (length words / 2 + i) (get_or words (2 * i + 1) 0)) (i + 1)
  one_laid h =
      let n = length words / 2 in
      let t = get_or words (2 * i) 0 in
      let v = get_or words (2 * i + 1) 0 in
      let first = set room i t in
      let long : length first ≡ length before = length-set room i t ∙ l.long in
      record {
        long = length-set first (n + i) v ∙ long;
        tags = λ j k m.
            get_or-set_other first (n + i) j v 0 (λ q. omega arith)
            ∙ ⊎_elim
            (λ (p : j ≡ i). subst (λ (x : ℕ). get_or first x 0 ≡ get_or words (2 * x) 0) (sym p) (get_or-set_same room i t 0 (omega (arith, l.long))))
            (λ (p : j < i). get_or-set_other room i j t 0 (λ q. omega arith) ∙ l.tags j p m)
            (eq-or-lt_of_le {n = j} {m = i} (omega arith));
        values = λ j k m.
            ⊎_elim
            (λ (p : j ≡ i). subst (λ (x : ℕ). get_or (set first (n + i) v) (n + x) 0 ≡ get_or words (2 * x + 1) 0) (sym p)
            (get_or-set_same first (n + i) v 0 (omega (arith, long))))
            (λ (p : j < i).
            get_or-set_other first (n + i) (n + j) v 0 (λ q. omega arith)
            ∙ get_or-set_other room i (n + j) t 0 (λ q. omega arith)
            ∙ l.values j p m)
            (eq-or-lt_of_le {n = j} {m = i} (omega arith));
      }

  pub all_laid : length words / 2 ≤ i → rows_of 0 (length words / 2) room ≡ pairs words
  all_laid h =
      let n = length words / 2 in
      let inside : 0 + (n + n) ≤ length room = omega (arith, l.long) in
      let long = rows_length 0 n room inside in
      ext_get_or (row 0 0) (rows_of 0 n room) (pairs words) (long ∙ sym (length_pairs words)) (λ j k.
      let m : j < n = omega (arith, long) in
      rows_at 0 n room inside j m
      ∙ rw (zero-add j, zero-add n) (ap₂ row (l.tags j (omega arith) m) (l.values j (omega arith) m))
      ∙ sym (pair_at words j m))

-- The rows in a room's first words, by their tags and their values.
module _ (n : ℕ) (words : List ℕ) where
  pub as_columns : zip_with row (take (n - 0) (drop 0 words)) (take (n + n - n) (drop n words)) ≡ rows_of 0 n words
  unfolding rows_of
  as_columns =
      let tags : n - 0 ≡ n = omega arith in
      let values : n + n - n ≡ n = omega arith in
      rw (zero-add n, tags, values)
