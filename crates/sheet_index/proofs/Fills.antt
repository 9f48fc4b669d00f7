-- The pass that fills in where parts start and end, from the last row to the first: what is filled in from row `i` on, and how the
-- row before it is. Assumes nothing.
use Prim.Native.Nat.{ℕ, zero, suc, ◌+◌, ◌-◌, ◌<◌, ◌≤◌}
use native.Mathlib.Omega.{arith}
use native.Mathlib.Nat.{add-zero}
use mathlib.Core.Path.{◌≡◌, refl, sym, ap, subst, ◌∙◌}
use mathlib.Core.Bool.{Bool, true, false, ◌||◌}
use mathlib.Core.Logic.{◌≢◌}
use mathlib.Core.List.{List, [], ◌∷◌, ◌++◌, append_assoc}
use lib.Dec.{eqb}
use lib.ListN.{length, get_or, take, drop, set, length-set, length-drop, drop_of_length-le, take-append-drop}
use lib.Seq.{take-suc, drop-cons, take_at, drop_at, set_at, set_split, length-take-le, take-take, take-append-add, take-set-le, take-set-lt, drop-set-lt, drop-set-add}
use borrow.Author.Tests.{eq-eqb, ne_eqb}
use Rattle.hgn.specs.Lists.{elem, any, take_until}
use Rattle.hgn.specs.Rows.{Row, row, rows_of, most_rows}
use Rattle.hgn.specs.Meaning.{begins_operator}
use Rattle.hgn.specs.Tag as Tag
use Rattle.sheet_index.specs.Index.{begins_span, starts, ends, starts_in, Indexable, Filled}
use Rattle.sheet_check.specs.declared.rows.Layout.{Layout}
use Rattle.sheet_rows.proofs.Laws.{elem_one}
use Rattle.sheet_check.proofs.Lookup.{rows_length, rows_at}
use Rattle.sheet_index.proofs.Spans.{by_test, starts_count, ends_length}

-- The tags that begin an action or a method.
pub opens : (t : ℕ) → Tag.action ≤ t → t ≤ Tag.method → elem t (Tag.action ∷ Tag.method ∷ []) ≡ true
unfolding elem any
opens zero h k = absurd (omega arith)
opens (suc zero) h k = refl
opens (suc (suc zero)) h k = refl
opens (suc (suc (suc t))) h k = absurd (omega arith)

pub opens_none : (t : ℕ) → t ≢ Tag.action → t ≢ Tag.method → elem t (Tag.action ∷ Tag.method ∷ []) ≡ false
unfolding elem any
opens_none t d e = rw (ne_eqb t Tag.action d, ne_eqb t Tag.method e)

-- One more number goes in front of those that are filled in.
fill_in : (l l' rest : List ℕ) (k v : ℕ) → k < length l → l' ≡ take (suc k) l ++ rest → set l' k v ≡ take k l ++ (v ∷ rest)
fill_in l l' rest k v h e =
    ap (λ x. set x k v) (e ∙ ap (λ x. x ++ rest) (take-suc l k 0 h) ∙ append_assoc (take k l) (get_or l k 0 ∷ []) rest)
    ∙ set_at (take k l) (get_or l k 0) rest v k (length-take-le k l (omega arith))

-- The end mark stands behind the starts.
end_mark : (l : List ℕ) (k v : ℕ) → k < length l → drop k (set l k v) ≡ v ∷ drop (suc k) l
end_mark l k v h = ap (drop k) (set_split l k v h) ∙ drop_at (take k l) (v ∷ drop (suc k) l) k (length-take-le k l (omega arith))

-- No more rows open from row `k` on than in all.
fewer_starts : (k i j : ℕ) (rs : List Row) → length (starts j (drop k rs)) ≤ length (starts i rs)
unfolding starts
fewer_starts zero i j rs = omega (arith, starts_count rs i, starts_count rs j)
fewer_starts (suc k) i j [] = omega arith
fewer_starts (suc k) i j (r ∷ rs) =
    let ih = fewer_starts k (suc i) j rs in
    by_test (begins_operator r) (λ o. rw o (omega arith)) (λ o. rw o ih)

-- From row `i` on the rows `rs`, `n` of them, are filled in over `ends₀` and `starts₀`: `end` is the next row that begins an action,
-- a method or a node, and `operator` actions and methods are left.
pub record Filling (n : ℕ) (rs : List Row) (ends₀ starts₀ : List ℕ) (operators : ℕ) (ends' starts' : List ℕ) (end operator i : ℕ) : Type 0 where
  pub inside : i ≤ n
  pub end_inside : end ≤ n
  pub end_is : end ≡ i + length (take_until begins_span (drop i rs))
  pub left : operator + length (starts i (drop i rs)) ≡ operators
  pub ends_are : ends' ≡ take i ends₀ ++ (ends i (drop i rs) ++ drop n ends₀)
  pub starts_are : starts' ≡ take operator starts₀ ++ (starts i (drop i rs) ++ drop operators starts₀)
  pub ends_length : length ends' ≡ length ends₀
  pub starts_length : length starts' ≡ length starts₀

-- Room for the ends and room for the starts, each by itself.
record Rooms (words : List ℕ) (l : Layout) (ends₀ starts₁ : List ℕ) (operators : ℕ) : Type 0 where
  fits : l.sizes + (l.rows + l.rows) ≤ length words
  ends_fit : l.rows ≤ length ends₀
  starts_fit : operators < length starts₁
  counted : operators ≡ length (starts 0 (rows_of l.sizes l.rows words))

module _ {words : List ℕ} {l : Layout} {ends₀ starts₁ : List ℕ} {operators : ℕ} (q : Rooms words l ends₀ starts₁ operators) where
  abbrev rs : List Row
  rs = rows_of l.sizes l.rows words

  -- The end mark is set first.
  abbrev starts₀ : List ℕ
  starts₀ = set starts₁ operators l.rows

  -- At first nothing is filled in, at last everything.
  filled_none : Filling l.rows rs ends₀ starts₀ operators ends₀ starts₀ l.rows operators l.rows
  unfolding starts ends take_until
  filled_none =
      let e : drop l.rows rs ≡ [] = drop_of_length-le rs {i = l.rows} (omega (arith, rows_length l.sizes l.rows words q.fits)) in
      record {
        inside = omega arith;
        end_inside = omega arith;
        end_is = rw (e, add-zero);
        left = rw (e, add-zero);
        ends_are = rw e (sym (take-append-drop l.rows ends₀));
        starts_are = rw e (sym (take-append-drop operators starts₀));
        ends_length = refl;
        starts_length = refl;
      }

  module _ {ends' starts' : List ℕ} {end operator i : ℕ} (f : Filling l.rows rs ends₀ starts₀ operators ends' starts' end operator i) where
    starts_same : length starts' ≡ length starts₁
    starts_same = f.starts_length ∙ length-set starts₁ operators l.rows

    filled_all : i ≤ 0 → (ends' ≡ ends 0 rs ++ drop l.rows ends₀) × (starts' ≡ starts 0 rs ++ (l.rows ∷ drop (suc operators) starts₁))
    filled_all h =
        let z : i ≡ 0 = omega arith in
        let g = rw z at f in
        let b : operator ≡ 0 = omega (arith, g.left) in
        (g.ends_are, (rw b at g.starts_are) ∙ ap (λ r. starts 0 rs ++ r) (end_mark starts₁ operators l.rows q.starts_fit))

    -- The row before, with the tag `t`.
    module _ {k t : ℕ} (one : i ≡ suc k) (is : t ≡ get_or words (l.sizes + k) 0) where
      g : Filling l.rows rs ends₀ starts₀ operators ends' starts' end operator (suc k)
      g = rw one at f

      v : ℕ
      v = get_or words (l.sizes + l.rows + k) 0

      rest : drop k rs ≡ row t v ∷ drop (suc k) rs
      unfolding v
      rest =
          drop-cons rs k (row 0 0) (omega (arith, g.inside, rows_length l.sizes l.rows words q.fits))
          ∙ ap (λ r. r ∷ drop (suc k) rs) (rows_at l.sizes l.rows words q.fits k g.inside ∙ ap (λ t. row t v) (sym is))

      begins_is : {b : Bool} → elem t (Tag.action ∷ Tag.method ∷ []) ≡ b → begins_operator (row t v) ≡ b
      unfolding elem any
      begins_is e = ap (λ b. eqb t Tag.action || b) (elem_one t Tag.method) ∙ e

      ends_next : set ends' k end ≡ take k ends₀ ++ (ends k (drop k rs) ++ drop l.rows ends₀)
      unfolding ends
      ends_next =
          fill_in ends₀ ends' _ k end (omega (arith, g.inside, q.ends_fit)) g.ends_are
          ∙ ap (λ x. take k ends₀ ++ (x ∷ (ends (suc k) (drop (suc k) rs) ++ drop l.rows ends₀))) g.end_is
          ∙ ap (λ l'. take k ends₀ ++ (ends k l' ++ drop l.rows ends₀)) (sym rest)

      -- It begins an action or a method: one of those that are left.
      module _ (o : elem t (Tag.action ∷ Tag.method ∷ []) ≡ true) where
        operator_left : 1 ≤ operator
        unfolding starts
        operator_left = let few = rw (rest, begins_is o) at (fewer_starts k 0 k rs) in omega (arith, g.left, q.counted)

        filled_open : Filling l.rows rs ends₀ starts₀ operators (set ends' k end) (set starts' (operator - 1) k) k (operator - 1) k
        unfolding starts take_until
        filled_open =
            let b : operator ≡ suc (operator - 1) = omega (arith, operator_left) in
            record {
              inside = omega (arith, g.inside);
              end_inside = omega (arith, g.inside);
              end_is = rw (rest, begins_is o, add-zero);
              left = rw (rest, begins_is o) (omega (arith, g.left));
              ends_are = ends_next;
              starts_are =
                  rw (rest, begins_is o)
                  (fill_in starts₀ starts' _ (operator - 1) k (omega (arith, g.left, length-set starts₁ operators l.rows, q.starts_fit))
                  (g.starts_are ∙ ap (λ m. take m starts₀ ++ (starts (suc k) (drop (suc k) rs) ++ drop operators starts₀)) b));
              ends_length = length-set ends' k end ∙ g.ends_length;
              starts_length = length-set starts' (operator - 1) k ∙ g.starts_length;
            }

      -- It begins a node, or nothing.
      module _ (o : elem t (Tag.action ∷ Tag.method ∷ []) ≡ false) where
        filled_same : (end' : ℕ) → end' ≤ l.rows → end' ≡ k + length (take_until begins_span (drop k rs))
            → Filling l.rows rs ends₀ starts₀ operators (set ends' k end) starts' end' operator k
        unfolding starts
        filled_same end' h e = record {
          inside = omega (arith, g.inside);
          end_inside = h;
          end_is = e;
          left = rw (rest, begins_is o) g.left;
          ends_are = ends_next;
          starts_are = rw (rest, begins_is o) g.starts_are;
          ends_length = length-set ends' k end ∙ g.ends_length;
          starts_length = g.starts_length;
        }

        filled_node : t ≡ Tag.node → Filling l.rows rs ends₀ starts₀ operators (set ends' k end) starts' k operator k
        unfolding take_until
        filled_node e = filled_same k (omega (arith, g.inside)) (rw (rest, begins_is o, eq-eqb t Tag.node e, add-zero))

        filled_other : t ≢ Tag.node → Filling l.rows rs ends₀ starts₀ operators (set ends' k end) starts' end operator k
        unfolding take_until
        filled_other e = filled_same end g.end_inside (rw (rest, begins_is o, ne_eqb t Tag.node e) (omega (arith, g.end_is)))

-- The filling of one table, whose first part is the ends and whose second the starts, is that of two tables.
module _ {words : List ℕ} {l : Layout} {table₁ : List ℕ} {operators : ℕ} (q : Indexable words l table₁ operators) where
  abbrev rows : List Row
  rows = rows_of l.sizes l.rows words

  rooms : Rooms words l (take most_rows table₁) (starts_in table₁) operators
  rooms = record {
    fits = q.fits;
    ends_fit = omega (arith, q.few, q.room, length-take-le most_rows table₁ (omega (arith, q.room)));
    starts_fit = omega (arith, q.room, length-drop most_rows table₁);
    counted = q.counted;
  }

  -- From row `i` on the table is filled in: `end` is the next row that begins a part, and `operator` actions and methods are left.
  pub record FilledFrom (table : List ℕ) (end operator i : ℕ) : Type 0 where
    pub parts : Filling l.rows rows (take most_rows table₁) (set (starts_in table₁) operators l.rows) operators (take most_rows table) (starts_in table) end operator i
    pub size : length table ≡ length table₁

  -- The end mark is set first.
  pub from_none : FilledFrom (set table₁ (most_rows + operators) l.rows) l.rows operators l.rows
  from_none = record {
    parts =
        subst (λ (e : List ℕ). Filling l.rows rows (take most_rows table₁) (set (starts_in table₁) operators l.rows) operators e
        (starts_in (set table₁ (most_rows + operators) l.rows)) l.rows operators l.rows)
        (sym (take-set-le most_rows table₁ (most_rows + operators) l.rows (omega arith)))
        (subst (λ (e : List ℕ). Filling l.rows rows (take most_rows table₁) (set (starts_in table₁) operators l.rows) operators (take most_rows table₁) e l.rows operators l.rows)
        (sym (drop-set-add most_rows table₁ operators l.rows)) (filled_none rooms));
    size = length-set table₁ (most_rows + operators) l.rows;
  }

  module _ {table : List ℕ} {end operator i : ℕ} (f : FilledFrom table end operator i) where
    pub within : (i ≤ l.rows) × (end ≤ l.rows)
    within = (f.parts.inside, f.parts.end_inside)

    -- The words that the next row writes stand in the table.
    pub room_is : most_rows + operators < length table
    room_is = omega (arith, f.size, q.room)

    pub operators_left : operator ≤ operators
    operators_left = omega (arith, f.parts.left)

    pub from_all : i ≤ 0 → Filled words l operators table₁ table
    from_all h =
        let a = filled_all rooms f.parts h in
        let long = rows_length l.sizes l.rows words q.fits in
        record {
          size = f.size;
          ends_are =
              sym (take-take l.rows most_rows table q.few)
              ∙ ap (take l.rows) a.0
              ∙ take_at (ends 0 rows) (drop l.rows (take most_rows table₁)) l.rows (ends_length rows 0 ∙ long);
          starts_are =
              ap (take (suc operators)) a.1
              ∙ ap (λ (k : ℕ). take k (starts 0 rows ++ (l.rows ∷ drop (suc operators) (starts_in table₁)))) {x = suc operators} {y = length (starts 0 rows) + 1} (omega (arith, q.counted))
              ∙ take-append-add (starts 0 rows) (l.rows ∷ drop (suc operators) (starts_in table₁)) 1;
        }

    -- The row before, with the tag `t`.
    module _ {k t : ℕ} (one : i ≡ suc k) (is : t ≡ get_or words (l.sizes + k) 0) where
      few : k < most_rows
      few = omega (arith, f.parts.inside, q.few)

      ends_set : take most_rows (set table k end) ≡ set (take most_rows table) k end
      ends_set = take-set-lt most_rows table k end few

      starts_kept : starts_in (set table k end) ≡ starts_in table
      starts_kept = drop-set-lt most_rows table k end few

      module _ (o : elem t (Tag.action ∷ Tag.method ∷ []) ≡ true) where
        pub open_left : 1 ≤ operator
        open_left = operator_left rooms f.parts one is o

        pub from_open : FilledFrom (set (set table k end) (most_rows + (operator - 1)) k) k (operator - 1) k
        from_open = record {
          parts =
              rw (take-set-le most_rows (set table k end) (most_rows + (operator - 1)) k (omega arith), drop-set-add most_rows (set table k end) (operator - 1) k, ends_set, starts_kept)
              (filled_open rooms f.parts one is o);
          size = length-set (set table k end) (most_rows + (operator - 1)) k ∙ length-set table k end ∙ f.size;
        }

      module _ (o : elem t (Tag.action ∷ Tag.method ∷ []) ≡ false) where
        pub from_node : t ≡ Tag.node → FilledFrom (set table k end) k operator k
        from_node e = record { parts = rw (ends_set, starts_kept) (filled_node rooms f.parts one is o e); size = length-set table k end ∙ f.size }

        pub from_other : t ≢ Tag.node → FilledFrom (set table k end) end operator k
        from_other e = record { parts = rw (ends_set, starts_kept) (filled_other rooms f.parts one is o e); size = length-set table k end ∙ f.size }
