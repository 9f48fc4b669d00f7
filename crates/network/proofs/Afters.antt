-- The 11 rows of a node, counted row by row, and how often a goal is listed after another. Assumes nothing.
use Prim.Native.Nat.{ℕ, zero, suc, ◌+◌, ◌<◌, ◌≤◌}
use native.Mathlib.Omega.{arith}
use mathlib.Core.Path.{◌≡◌, refl, sym, ap, ◌∙◌}
use mathlib.Core.Bool.{Bool, true, false, cond, ◌&&◌}
use mathlib.Core.List.{List, [], ◌∷◌}
use lib.Dec.{eqb}
use Rattle.std.specs.Prelude.{Option, Some, None}
use Rattle.std.specs.Option.{option_eq}
use lib.ListN.{length}
use borrow.Author.Tests.{eqb-true, eqb-false, eq-eqb, ne_eqb}
use Rattle.hgn.specs.Lists.{range}
use Rattle.hgn.proofs.Logic.Ranges.{length_range}
use Rattle.hgn.specs.Rows.{Row, row, values_tagged}
use Rattle.hgn.specs.Network.{same_origin, same_name, is_parent}
use Rattle.network.specs.Entries.{origin_of, step_in, name_in, name_of, waiting_of}
use Rattle.sheet_index.specs.Index.{span_rows}
use Rattle.network.specs.declared.waiting.Name.{Name}
use Rattle.network.specs.declared.waiting.Entry.{Entry}
use Rattle.network.specs.Pending.{occurrences, by_network, times_listed}

module _ (tag value : ℕ) (rs : List Row) where
  after_row : tag ≡ 11 → values_tagged 11 (row tag value ∷ rs) ≡ value ∷ values_tagged 11 rs
  unfolding values_tagged
  after_row e = rw (eq-eqb tag 11 e)

  other_row : (tag ≡ 11 → ⊥) → values_tagged 11 (row tag value ∷ rs) ≡ values_tagged 11 rs
  unfolding values_tagged
  other_row e = rw (ne_eqb tag 11 e)

  -- One row more, of so many 11 rows found.
  pub counted_after : (found : ℕ) → tag ≡ 11 → found + length (values_tagged 11 (row tag value ∷ rs)) ≡ (found + 1) + length (values_tagged 11 rs)
  counted_after found e = rw (after_row e) (omega arith)

  pub counted_other : (found : ℕ) → (tag ≡ 11 → ⊥) → found + length (values_tagged 11 (row tag value ∷ rs)) ≡ found + length (values_tagged 11 rs)
  counted_other found e = rw (other_row e)

  module _ (n found : ℕ) where
    pub found_after : tag ≡ 11 → value ≡ n → found + occurrences n (values_tagged 11 (row tag value ∷ rs)) ≡ (found + 1) + occurrences n (values_tagged 11 rs)
    unfolding occurrences
    found_after e v = rw (after_row e, eq-eqb n value (sym v)) (omega arith)

    pub found_other_value : tag ≡ 11 → (value ≡ n → ⊥) → found + occurrences n (values_tagged 11 (row tag value ∷ rs)) ≡ found + occurrences n (values_tagged 11 rs)
    unfolding occurrences
    found_other_value e v = rw (after_row e, ne_eqb n value (λ d. v (sym d)))

    pub found_other : (tag ≡ 11 → ⊥) → found + occurrences n (values_tagged 11 (row tag value ∷ rs)) ≡ found + occurrences n (values_tagged 11 rs)
    found_other e = rw (other_row e)

-- There are no more 11 rows than rows, and a number stands in no more than that.
pub counted_few : (rs : List Row) → length (values_tagged 11 rs) ≤ length rs
unfolding values_tagged
counted_few [] = omega arith
counted_few (r ∷ rs) = go (eqb r.tag 11) (counted_few rs)
  where
    go : (b : Bool) → length (values_tagged 11 rs) ≤ length rs → length (cond b (r.value ∷ values_tagged 11 rs) (values_tagged 11 rs)) ≤ suc (length rs)
    go true h = omega arith
    go false h = omega arith

occurrences_few : (n : ℕ) (ks : List ℕ) → occurrences n ks ≤ length ks
unfolding occurrences
occurrences_few n [] = omega arith
occurrences_few n (k ∷ ks) = go (eqb n k) (occurrences_few n ks)
  where
    go : (b : Bool) → occurrences n ks ≤ length ks → cond b (suc (occurrences n ks)) (occurrences n ks) ≤ suc (length ks)
    go true h = omega arith
    go false h = omega arith

pub found_few : (n : ℕ) (rs : List Row) → occurrences n (values_tagged 11 rs) ≤ length rs
found_few n rs = omega (arith, occurrences_few n (values_tagged 11 rs), counted_few rs)

-- No row is left.
pub found_none : (n found : ℕ) → found + occurrences n (values_tagged 11 []) ≡ found
unfolding occurrences values_tagged
found_none n found = omega arith

pub counted_none : (found : ℕ) → found + length (values_tagged 11 []) ≡ found
unfolding values_tagged
counted_none found = omega arith

-- How often a number stands in a range: not where the range begins above it or ends below it, and else once.
module _ (k : ℕ) where
  range_next : (i n m : ℕ) (b : Bool) → occurrences k (range (suc i) n) ≡ m → eqb k i ≡ b → occurrences k (range i (suc n)) ≡ m + cond b 1 0
  unfolding range occurrences
  range_next i n m true e t = rw t (omega (arith, e))
  range_next i n m false e t = rw t (omega (arith, e))

  range_above : (i n : ℕ) → k < i → occurrences k (range i n) ≡ 0
  unfolding range occurrences
  range_above i zero h = refl
  range_above i (suc n) h = range_next i n 0 false (range_above (suc i) n (omega arith)) (ne_eqb k i (λ e. omega arith))

  pub range_never : (i n : ℕ) → i + n ≤ k → occurrences k (range i n) ≡ 0
  unfolding range occurrences
  range_never i zero h = refl
  range_never i (suc n) h = range_next i n 0 false (range_never (suc i) n (omega arith)) (ne_eqb k i (λ e. omega arith))

  pub range_once : (i n : ℕ) → i ≤ k → k < i + n → occurrences k (range i n) ≡ 1
  range_once i zero h l = absurd (omega arith)
  range_once i (suc n) h l = go (eqb k i) refl (range_once (suc i) n)
    where
      go : (b : Bool) → eqb k i ≡ b → (suc i ≤ k → k < suc i + n → occurrences k (range (suc i) n) ≡ 1) → occurrences k (range i (suc n)) ≡ 1
      go true e r = range_next i n 0 true (range_above (suc i) n (let d = eqb-true k i e in omega arith)) e
      go false e r = range_next i n 1 false (let d = eqb-false k i e in r (omega (arith, d)) (omega arith)) e

-- How often a goal is listed after the nodes of its network.
module _ (shop order : List ℕ) (goal : Entry) where
  pub last_afters : goal.last ≡ true → goal.number ≡ length (waiting_of shop order goal).after
  unfolding waiting_of
  last_afters e = rw e (sym (length_range 0 goal.number))

  pub row_afters : (rows : List Row) → goal.last ≡ false → rows ≡ span_rows shop order goal.rows
      → length (values_tagged 11 rows) ≡ length (waiting_of shop order goal).after
  unfolding waiting_of
  row_afters rows e q = rw (e, q)

  module _ (k : ℕ) where
    pub last_listed : goal.last ≡ true → k < goal.number → 1 ≡ occurrences k (waiting_of shop order goal).after
    unfolding waiting_of
    last_listed e h = rw e (sym (range_once k 0 goal.number (omega arith) (omega arith)))

    pub last_unlisted : goal.last ≡ true → goal.number ≤ k → 0 ≡ occurrences k (waiting_of shop order goal).after
    unfolding waiting_of
    last_unlisted e h = rw e (sym (range_never k 0 goal.number (omega arith)))

    pub row_listed : (rows : List Row) → goal.last ≡ false → rows ≡ span_rows shop order goal.rows
        → occurrences k (values_tagged 11 rows) ≡ occurrences k (waiting_of shop order goal).after
    unfolding waiting_of
    row_listed rows e q = rw (e, q)

-- Two networks are the same where their steps are.
pub same_network : (a b : Option ℕ) → option_eq eqb a b ≡ same_origin (origin_of a) (origin_of b)
unfolding same_origin
same_network (Some m) (Some n) = refl
same_network (Some m) None = refl
same_network None (Some n) = refl
same_network None None = refl

pub same_names : (a b : Name) → (option_eq eqb a.step b.step && eqb a.number b.number) ≡ same_name (name_of a) (name_of b)
unfolding same_name
same_names a b = ap (λ (t : Bool). t && eqb a.number b.number) (same_network a.step b.step)

-- Both together.
module _ (shop order : List ℕ) (goal other : Entry) where
  abbrev subgoal : ℕ
  subgoal = cond (is_parent (name_of (name_in goal)) (waiting_of shop order other).parent) 1 0

  abbrev after_node : ℕ
  after_node = occurrences other.number (waiting_of shop order goal).after

  network_is : {b : Bool} → same_origin (origin_of (step_in goal.source)) (origin_of (step_in other.source)) ≡ b
      → by_network (waiting_of shop order goal) (waiting_of shop order other) ≡ cond b after_node 0
  unfolding waiting_of
  network_is e = rw e

  pub listed_there : (n : ℕ) → option_eq eqb (step_in goal.source) (step_in other.source) ≡ true → n ≡ after_node → (n ≡ 0 → ⊥)
      → n ≡ times_listed (waiting_of shop order goal) (waiting_of shop order other)
  unfolding times_listed
  listed_there n o e z = let h = network_is (sym (same_network _ _) ∙ o) ∙ sym e in sym (rw (h, ne_eqb n 0 z))

  pub listed_not_there : (n : ℕ) → n ≡ subgoal → by_network (waiting_of shop order goal) (waiting_of shop order other) ≡ 0
      → n ≡ times_listed (waiting_of shop order goal) (waiting_of shop order other)
  unfolding times_listed waiting_of
  listed_not_there n e h = e ∙ sym (rw h)

  pub same_but_none : option_eq eqb (step_in goal.source) (step_in other.source) ≡ true → (n : ℕ) → n ≡ after_node → n ≡ 0
      → by_network (waiting_of shop order goal) (waiting_of shop order other) ≡ 0
  same_but_none o n e z = network_is (sym (same_network _ _) ∙ o) ∙ sym e ∙ z

  pub in_other_network : option_eq eqb (step_in goal.source) (step_in other.source) ≡ false → by_network (waiting_of shop order goal) (waiting_of shop order other) ≡ 0
  in_other_network o = network_is (sym (same_network _ _) ∙ o)
