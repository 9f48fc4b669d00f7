-- Where the parts of a sheet stand (`specs/Index.antt`), and that the rows between these numbers are those parts. Assumes nothing.
use Prim.Native.Nat.{ℕ, zero, suc, ◌+◌, ◌-◌, ◌<◌, ◌≤◌}
use native.Mathlib.Omega.{arith}
use native.Mathlib.Nat.{not-suc-le-zero, le_of_suc-le-suc, add-zero, zero-add, add_assoc}
use mathlib.Core.Path.{◌≡◌, refl, sym, ap, ap₂, ◌∙◌}
use mathlib.Core.Bool.{Bool, true, false, cond, ◌||◌}
use mathlib.Core.List.{List, [], ◌∷◌, ◌++◌, zip_with}
use lib.ListN.{length, get_or, take, drop, length-take, length-drop}
use lib.Seq.{drop-cons, drop-drop, get_or-take, get_or-drop, ext_get_or}
use borrow.Author.Tests.{le-leb, lt-leb, eqb-true, ne_eqb}
use Rattle.hgn.specs.Lists.{take_until, split_at_each}
use Rattle.hgn.specs.Rows.{Row, row, rows_of, has}
use Rattle.hgn.specs.Tag as Tag
use Rattle.hgn.specs.Meaning.{begins_operator}
use Rattle.sheet_check.specs.declared.rows.Layout.{Layout}
use Rattle.sheet_check.proofs.Lookup.{length_zip_with, get_or_zip_with, length_part, get_d_part, rows_length, rows_at}
use Rattle.sheet_index.specs.Index.{begins_span, starts, ends, span, column_part}

pub by_test : {P : Type 0} (b : Bool) → (b ≡ true → P) → (b ≡ false → P) → P
by_test true f g = f refl
by_test false f g = g refl

-- The elements up to the first that passes a test.
module _ {A : Type 0} (q : A → Bool) where
  take_until_take : (xs : List A) → take (length (take_until q xs)) xs ≡ take_until q xs
  unfolding take_until
  take_until_take [] = refl
  take_until_take (x ∷ xs) = by_test (q x) (λ e. rw e) (λ e. rw e (ap (◌∷◌ x) (take_until_take xs)))

  take_until_length : (xs : List A) → length (take_until q xs) ≤ length xs
  unfolding take_until
  take_until_length [] = omega arith
  take_until_length (x ∷ xs) = let ih = take_until_length xs in by_test (q x) (λ e. rw e (omega arith)) (λ e. rw e (omega arith))

  -- Up to the first that passes `q`, and of those up to the first that passes `p`: up to the first that passes either.
  pub take_until_take_until : (p : A → Bool) (xs : List A) → take_until p (take_until q xs) ≡ take_until (λ x. q x || p x) xs
  unfolding take_until
  take_until_take_until p [] = refl
  take_until_take_until p (x ∷ xs) =
      by_test (q x) (λ e. rw e) (λ e. by_test (p x) (λ f. rw (e, take_until, f)) (λ f. rw (e, take_until, f) (ap (◌∷◌ x) (take_until_take_until p xs))))

  -- Before the first that passes either no part begins, and there one does, if it is not the first that passes `q`.
  skipped : (p : A → Bool) (xs : List A) (d : A) →
      let k = length (take_until (λ x. q x || p x) xs) in
      (split_at_each p (take_until q xs) ≡ split_at_each p (take_until q (drop k xs))) × (length (take_until q xs) ≡ k + length (take_until q (drop k xs)))
      × (0 < length (take_until q (drop k xs)) → p (get_or xs k d) ≡ true)
  unfolding take_until split_at_each
  skipped p [] d = (refl, refl, λ h. absurd (not-suc-le-zero h))
  skipped p (x ∷ xs) d =
      let ih = skipped p xs d in
      by_test (q x) (λ e. simp e (refl, refl, λ h. absurd (not-suc-le-zero h)))
      (λ e. by_test (p x) (λ f. simp (e, f) (refl, sym (zero-add _), λ h. refl)) (λ f. simp (e, f) (ih.0, omega arith, ih.2)))

module _ {A : Type 0} (xs : List A) (n : ℕ) where
  -- A span by its length.
  span_is : (k e : ℕ) → e ≡ n + k → span xs n e ≡ take k (drop n xs)
  unfolding span
  span_is k e h = let d : e - n ≡ k = omega arith in ap (λ m. take m (drop n xs)) d

  pub span_empty : (e : ℕ) → e ≤ n → span xs n e ≡ []
  unfolding span
  span_empty e h = let d : e - n ≡ 0 = omega arith in ap (λ m. take m (drop n xs)) d

  -- The elements of a span up to one that passes a test.
  pub span_take_until : (q : A → Bool) (e : ℕ) → e ≡ n + length (take_until q (drop n xs)) → span xs n e ≡ take_until q (drop n xs)
  span_take_until q e h = span_is (length (take_until q (drop n xs))) e h ∙ take_until_take q (drop n xs)

  -- One element, and those up to the next that passes a test.
  span_next : (q : A → Bool) (d : A) (e : ℕ) → n < length xs → e ≡ suc n + length (take_until q (drop (suc n) xs))
      → get_or xs n d ∷ take_until q (drop (suc n) xs) ≡ span xs n e
  span_next q d e h i =
      sym (span_is (suc (length (take_until q (drop (suc n) xs)))) e (omega arith)
      ∙ ap (take (suc (length (take_until q (drop (suc n) xs))))) (drop-cons xs n d h)
      ∙ ap (◌∷◌ (get_or xs n d)) (take_until_take q (drop (suc n) xs)))

-- As many starts as actions and methods.
pub starts_count : (rows : List Row) (i : ℕ) → length (starts i rows) ≡ length (split_at_each begins_operator rows)
unfolding starts split_at_each
starts_count [] i = refl
starts_count (r ∷ rows) i =
    by_test (begins_operator r) (λ o. rw o (ap suc (starts_count rows (suc i)))) (λ o. rw o (starts_count rows (suc i)))

-- Where the first action or method starts.
first_start : (rows : List Row) (i n : ℕ) → n ≡ i + length rows → get_or (starts i rows ++ (n ∷ [])) 0 0 ≡ i + length (take_until begins_operator rows)
unfolding starts take_until
first_start [] i n e = e
first_start (r ∷ rows) i n e =
    by_test (begins_operator r) (λ o. rw o (sym (add-zero i)))
    (λ o. rw o (let h = first_start rows (suc i) n (omega arith) in omega arith))

-- Action or method `b` of rows that are counted from `i`, `n` the number of their end: it starts at `at` and ends before the next.
record OperatorAt (rows : List Row) (i n b : ℕ) : Type 0 where
  at : ℕ
  inside : at < length rows
  first : begins_operator (get_or rows at (row 0 0)) ≡ true
  start : get_or (starts i rows ++ (n ∷ [])) b 0 ≡ i + at
  end : get_or (starts i rows ++ (n ∷ [])) (suc b) 0 ≡ i + (suc at + length (take_until begins_operator (drop (suc at) rows)))
  part : get_or (split_at_each begins_operator rows) b [] ≡ get_or rows at (row 0 0) ∷ take_until begins_operator (drop (suc at) rows)

operator_at : (rows : List Row) (i n b : ℕ) → n ≡ i + length rows → b < length (starts i rows) → OperatorAt rows i n b
unfolding starts split_at_each
operator_at [] i n b e h = absurd (not-suc-le-zero h)
operator_at (r ∷ rows) i n b e h = go (begins_operator r) refl (λ b. operator_at rows (suc i) n b (omega arith)) b h
  where
    later : (b c : ℕ) → OperatorAt rows (suc i) n b → get_or (starts i (r ∷ rows) ++ (n ∷ [])) c 0 ≡ get_or (starts (suc i) rows ++ (n ∷ [])) b 0
        → get_or (starts i (r ∷ rows) ++ (n ∷ [])) (suc c) 0 ≡ get_or (starts (suc i) rows ++ (n ∷ [])) (suc b) 0
        → get_or (split_at_each begins_operator (r ∷ rows)) c [] ≡ get_or (split_at_each begins_operator rows) b [] → OperatorAt (r ∷ rows) i n c
    later b c k s e p = record {
      at = suc k.at;
      inside = omega (arith, k.inside);
      first = k.first;
      start = omega (arith, s, k.start);
      end = omega (arith, e, k.end);
      part = p ∙ k.part;
    }

    go : (o : Bool) → begins_operator r ≡ o → ((b : ℕ) → b < length (starts (suc i) rows) → OperatorAt rows (suc i) n b)
        → (b : ℕ) → b < length (cond o (i ∷ starts (suc i) rows) (starts (suc i) rows)) → OperatorAt (r ∷ rows) i n b
    go true o ih zero h = record {
      at = 0;
      inside = omega arith;
      first = o;
      start = rw o (sym (add-zero i));
      end = rw o (let s = first_start rows (suc i) n (omega arith) in omega arith);
      part = rw o;
    }
    go true o ih (suc b) h = later b (suc b) (ih b (le_of_suc-le-suc h)) (rw o) (rw o) (rw o)
    go false o ih b h = later b b (ih b h) (rw o) (rw o) (rw o)

-- The end of a row's part.
ends_at : (rows : List Row) (i n : ℕ) → n < length rows → get_or (ends i rows) n 0 ≡ i + (suc n + length (take_until begins_span (drop (suc n) rows)))
unfolding ends
ends_at [] i n h = absurd (not-suc-le-zero h)
ends_at (r ∷ rows) i zero h = omega arith
ends_at (r ∷ rows) i (suc n) h = let ih = ends_at rows (suc i) n (le_of_suc-le-suc h) in omega arith

-- No row from `n` up to `e` begins an action or a method, and `e` does, or is the end.
abbrev pub Until : List Row → ℕ → ℕ → Type 0
Until rows n e = e ≡ n + length (take_until begins_operator (drop n rows))

-- Action or method `b` of a sheet: part `b` of its rows, from its start up to the next.
module _ (rows : List Row) where
  -- The starts, and the end behind them.
  abbrev pub bounds : List ℕ
  bounds = starts 0 rows ++ (length rows ∷ [])

  module _ (b : ℕ) (h : b < length (starts 0 rows)) where
    abbrev from : ℕ
    from = get_or bounds b 0

    abbrev to : ℕ
    to = get_or bounds (suc b) 0

    it : OperatorAt rows 0 (length rows) b
    it = operator_at rows 0 (length rows) b (sym (zero-add (length rows))) h

    same : from ≡ it.at
    same = omega (arith, it.start)

    pub operator_first : (from < length rows) × (begins_operator (get_or rows from (row 0 0)) ≡ true)
    operator_first = (omega (arith, it.inside, it.start), rw same it.first)

    pub operator_ends : (from < to) × (to ≤ length rows)
    operator_ends =
        (omega (arith, it.start, it.end), omega (arith, it.end, it.inside, take_until_length begins_operator (drop (suc it.at) rows), length-drop (suc it.at) rows))

    pub operator_until : Until rows (suc from) to
    operator_until = rw same (omega (arith, it.end))

    pub operator_span : get_or (split_at_each begins_operator rows) b [] ≡ span rows from to
    operator_span = rw same (it.part ∙ span_next rows it.at begins_operator (row 0 0) to it.inside (omega (arith, it.end)))

-- The part that begins at row `n`: that row and those up to the next that begins an action, a method or a node.
module _ (rows : List Row) (n : ℕ) (h : n < length rows) where
  abbrev end : ℕ
  end = get_or (ends 0 rows) n 0

  end_is : end ≡ suc n + length (take_until begins_span (drop (suc n) rows))
  end_is = omega (arith, ends_at rows 0 n h)

  pub part_span : get_or rows n (row 0 0) ∷ take_until begins_span (drop (suc n) rows) ≡ span rows n end
  part_span = span_next rows n begins_span (row 0 0) end h end_is

  pub part_end : (n < end) × (end ≤ length rows)
  part_end = (omega (arith, end_is), omega (arith, end_is, take_until_length begins_span (drop (suc n) rows), length-drop (suc n) rows))

-- From row `n` up to row `e` stand whole nodes, the last rows of a method or of an order sheet.
pub record NodesFrom (rows : List Row) (n e : ℕ) : Type 0 where
  pub until : Until rows n e
  pub node : n < e → has Tag.node (get_or rows n (row 0 0)) ≡ true

module _ (rows : List Row) (n e : ℕ) where
  until_inside : Until rows n e → n < e → n < length rows
  until_inside u h = omega (arith, take_until_length begins_operator (drop n rows), length-drop n rows)

  -- The row does not begin an action or a method, so neither does any from the next on.
  pub until_suc : Until rows n e → n < e → Until rows (suc n) e
  unfolding take_until
  until_suc u h =
      let v : e ≡ n + length (take_until begins_operator (get_or rows n (row 0 0) ∷ drop (suc n) rows)) =
      u ∙ ap (λ l. n + length (take_until begins_operator l)) (drop-cons rows n (row 0 0) (until_inside u h)) in
      by_test (begins_operator (get_or rows n (row 0 0))) (λ o. let w = rw o at v in absurd (omega arith)) (λ o. let w = rw o at v in omega arith)

  module _ (h : n < length rows) (u : Until rows (suc n) e) where
    abbrev next : ℕ
    next = get_or (ends 0 rows) n 0

    abbrev rest : List Row
    rest = drop (suc n) rows

    apart : drop (length (take_until begins_span rest)) rest ≡ drop next rows
    apart = drop-drop (length (take_until begins_span rest)) (suc n) rows ∙ ap (λ m. drop m rows) (sym (end_is rows n h))

    -- Behind this row and those up to the next node the other nodes stand.
    nodes_next : NodesFrom rows next e
    nodes_next =
        let s = skipped begins_operator (has Tag.node) rest (row 0 0) in
        record {
          until = rw (sym apart) (omega (arith, s.1, end_is rows n h));
          node = λ g.
              ap (λ m. has Tag.node (get_or rows m (row 0 0))) (end_is rows n h)
              ∙ ap (has Tag.node) (sym (get_or-drop (suc n) rows (length (take_until begins_span rest)) (row 0 0)))
              ∙ s.2 (omega (arith, s.1, end_is rows n h));
        }

    -- They are those of the rows up to `e`.
    split_next : split_at_each (has Tag.node) (take_until begins_operator rest) ≡ split_at_each (has Tag.node) (span rows next e)
    split_next =
        (skipped begins_operator (has Tag.node) rest (row 0 0)).0
        ∙ ap (λ l. split_at_each (has Tag.node) (take_until begins_operator l)) apart
        ∙ ap (split_at_each (has Tag.node)) (sym (span_take_until rows next begins_operator e nodes_next.until))

    nodes_skip : has Tag.node (get_or rows n (row 0 0)) ≡ false → split_at_each (has Tag.node) (span rows n e) ≡ split_at_each (has Tag.node) (span rows next e)
    unfolding split_at_each
    nodes_skip o = rw (← span_next rows n begins_operator (row 0 0) e h u) (rw o split_next)

    nodes_cons : has Tag.node (get_or rows n (row 0 0)) ≡ true
        → split_at_each (has Tag.node) (span rows n e) ≡ span rows n next ∷ split_at_each (has Tag.node) (span rows next e)
    unfolding split_at_each
    nodes_cons o =
        rw (← span_next rows n begins_operator (row 0 0) e h u)
        (rw o (ap₂ ◌∷◌ (ap (◌∷◌ (get_or rows n (row 0 0))) (take_until_take_until begins_operator (has Tag.node) rest) ∙ part_span rows n h) split_next))

-- A walk over nodes: the next, and those behind it.
pub next_node : (rows : List Row) (n e : ℕ) → NodesFrom rows n e → n < e →
    let next = get_or (ends 0 rows) n 0 in
    (split_at_each (has Tag.node) (span rows n e) ≡ span rows n next ∷ split_at_each (has Tag.node) (span rows next e)) × NodesFrom rows next e
next_node rows n e w h =
    let i = until_inside rows n e w.until h in
    let u = until_suc rows n e w.until h in
    (nodes_cons rows n e i u (w.node h), nodes_next rows n e i u)

-- It starts behind a row that begins no node.
pub first_node_law : (rows : List Row) (n e : ℕ) → n < length rows → Until rows (suc n) e → has Tag.node (get_or rows n (row 0 0)) ≡ false →
    let next = get_or (ends 0 rows) n 0 in
    (split_at_each (has Tag.node) (span rows n e) ≡ split_at_each (has Tag.node) (span rows next e)) × NodesFrom rows next e
first_node_law rows n e h u o = (nodes_skip rows n e h u o, nodes_next rows n e h u)

-- A row that begins an action or a method has no other tag.
pub opens_no : (t : ℕ) → Tag.method < t → (r : Row) → begins_operator r ≡ true → has t r ≡ false
opens_no t h r o =
    by_test (has Tag.action r) (λ e. ne_eqb r.tag t (λ q. omega (arith, eqb-true r.tag Tag.action e)))
    (λ e. ne_eqb r.tag t (λ q. omega (arith, eqb-true r.tag Tag.method (rw e at o))))

-- In an action or a method that is its first row; an action has no nodes.
pub operator_nodes : (rows : List Row) (b : ℕ) → b < length (starts 0 rows) →
    let from = get_or (bounds rows) b 0 in
    let to = get_or (bounds rows) (suc b) 0 in
    let next = get_or (ends 0 rows) from 0 in
    (split_at_each (has Tag.node) (span rows from to) ≡ split_at_each (has Tag.node) (span rows next to)) × NodesFrom rows next to
operator_nodes rows b h =
    let f = operator_first rows b h in
    first_node_law rows _ _ f.0 (operator_until rows b h) (opens_no Tag.node (omega arith) (get_or rows (get_or (bounds rows) b 0) (row 0 0)) f.1)

-- The numbers as `fill` leaves them, with other words behind.
pub read_start : (rows : List Row) (n : ℕ) (tail : List ℕ) (b : ℕ) → n ≡ length rows → b ≤ length (starts 0 rows)
    → get_or (starts 0 rows ++ (n ∷ tail)) b 0 ≡ get_or (bounds rows) b 0
read_start rows n tail b e h = go (starts 0 rows) b h
  where
    go : (l : List ℕ) (b : ℕ) → b ≤ length l → get_or (l ++ (n ∷ tail)) b 0 ≡ get_or (l ++ (length rows ∷ [])) b 0
    go [] zero h = e
    go [] (suc b) h = absurd (not-suc-le-zero h)
    go (x ∷ l) zero h = refl
    go (x ∷ l) (suc b) h = go l b (le_of_suc-le-suc h)

pub ends_length : (rows : List Row) (i : ℕ) → length (ends i rows) ≡ length rows
unfolding ends
ends_length [] i = refl
ends_length (r ∷ rows) i = ap suc (ends_length rows (suc i))

-- Rows `from` up to `to` of a column, where the sheet has them and where not.
module _ (words : List ℕ) (l : Layout) (column from to : ℕ) where
  pub column_inside : from ≤ to → to ≤ l.rows → l.sizes + (l.rows + l.rows) ≤ length words
      → column_part words l column from to ≡ span words (column + from) (column + to)
  unfolding column_part
  column_inside f t n = rw (le-leb from to f, le-leb to l.rows t, le-leb (l.sizes + (l.rows + l.rows)) (length words) n)

  pub column_turned : to < from → column_part words l column from to ≡ []
  unfolding column_part
  column_turned f = rw (lt-leb from to f)

  pub column_past : from ≤ to → l.rows < to → column_part words l column from to ≡ []
  unfolding column_part
  column_past f t = rw (le-leb from to f, lt-leb to l.rows t)

  pub column_short : from ≤ to → to ≤ l.rows → length words < l.sizes + (l.rows + l.rows) → column_part words l column from to ≡ []
  unfolding column_part
  column_short f t n = rw (le-leb from to f, le-leb to l.rows t, lt-leb (l.sizes + (l.rows + l.rows)) (length words) n)

-- The tags and the values from row `from` up to row `to` are those rows.
module _ (words : List ℕ) (l : Layout) (from to : ℕ) (f : from ≤ to) (t : to ≤ l.rows) (h : l.sizes + (l.rows + l.rows) ≤ length words) where
  abbrev rs : List Row
  rs = rows_of l.sizes l.rows words

  abbrev k : ℕ
  k = to - from

  abbrev part : ℕ → List ℕ
  part column = take k (drop (column + from) words)

  part_is : (column : ℕ) → column_part words l column from to ≡ part column
  part_is column = column_inside words l column from to f t h ∙ span_is words (column + from) k (column + to) (omega arith)

  -- The column of the tags, or of the values.
  module _ (column : ℕ) (c : column + l.rows ≤ length words) where
    part_length : length (part column) ≡ k
    part_length = length_part words (column + from) k (omega arith)

    part_at : (j : ℕ) → j < k → get_or (part column) j 0 ≡ get_or words (column + (from + j)) 0
    part_at j g = get_d_part words (column + from) k (omega arith) j g ∙ ap (λ i. get_or words i 0) (add_assoc column from j)

  pub words_span : zip_with row (part l.sizes) (part (l.sizes + l.rows)) ≡ span rs from to
  words_span =
      let a : l.sizes + l.rows ≤ length words = omega arith in
      let b : l.sizes + l.rows + l.rows ≤ length words = omega arith in
      let la = part_length l.sizes a in
      let lb = part_length (l.sizes + l.rows) b in
      let lz = length_zip_with row k (part l.sizes) (part (l.sizes + l.rows)) la lb in
      let lr = rows_length l.sizes l.rows words h in
      let ls : length (take k (drop from rs)) ≡ k = simp (length-take, length-drop) (omega arith) in
      ext_get_or (row 0 0) (zip_with row (part l.sizes) (part (l.sizes + l.rows))) (take k (drop from rs)) (lz ∙ sym ls)
      (λ j g.
      let i : j < k = omega arith in
      get_or_zip_with row (part l.sizes) (part (l.sizes + l.rows)) j 0 0 (omega arith) (omega arith)
      ∙ ap₂ row (part_at l.sizes a j i) (part_at (l.sizes + l.rows) b j i)
      ∙ sym (get_or-take k (drop from rs) j (row 0 0) i
      ∙ get_or-drop from rs j (row 0 0)
      ∙ rows_at l.sizes l.rows words h (from + j) (omega arith)))
      ∙ sym (span_is rs from k to (omega arith))

  pub columns_span : zip_with row (column_part words l l.sizes from to) (column_part words l (l.sizes + l.rows) from to) ≡ span rs from to
  columns_span = ap₂ (zip_with row) (part_is l.sizes) (part_is (l.sizes + l.rows)) ∙ words_span
