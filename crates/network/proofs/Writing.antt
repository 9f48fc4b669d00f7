-- The nodes of a network, written one after the other as goals. Assumes nothing.
use Prim.Native.Nat.{ℕ, ◌+◌, ◌-◌, ◌<◌, ◌≤◌}
use native.Mathlib.Omega.{arith}
use native.Mathlib.Nat.{zero-add}
use mathlib.Core.Path.{◌≡◌, refl, sym, ap, ap₂, ◌∙◌}
use mathlib.Core.Bool.{◌&&◌}
use mathlib.Core.List.{List, [], ◌∷◌, ◌++◌, map, zip_with, append_assoc, append-nil, map-append}
use lib.Dec.{leb}
use lib.ListN.{length, take, drop, get_or, set, length-append, length-take}
use Rattle.std.proofs.lemmas.List.{take_more_set, take_all}
use Rattle.hgn.proofs.Logic.Ranges.{length_range}
use Rattle.hgn.specs.Rows.{Row, row, has, values_tagged, most_rows}
use Rattle.hgn.specs.Tag as Tag
use Rattle.hgn.specs.Network.{most_waiting}
use Rattle.sheet_check.specs.declared.rows.Layout.{Layout}
use Rattle.sheet_index.specs.Index.{span, span_rows, sheet_words, layout_of, column_part, tags_of, values_of as valuesIn}
use Rattle.sheet_index.specs.Tables.{Bounds, Walk, stop, next}
use Rattle.sheet_index.specs.declared.index.Span.{Span}
use Rattle.sheet_index.proofs.NodeWalks.{Ahead, ahead, walk_same}
use Rattle.sheet_index.proofs.Spans.{by_test}
use Rattle.std.specs.Prelude.{Option}
use Rattle.network.specs.Entries.{waiting_of}
use Rattle.network.specs.Entering.{entry_of, entries_from, node_entries, entering}
use Rattle.network.specs.declared.waiting.Used.{Used}
use Rattle.network.specs.declared.waiting.Entry.{Entry}
use Rattle.network.specs.declared.waiting.Waiting.{Waiting}
use Rattle.network.proofs.Entered.{entries_more}

-- No more numbers stand in a part's rows than it has rows.
values_few : (t : ℕ) (rs : List Row) → length (values_tagged t rs) ≤ length rs
unfolding values_tagged
values_few t [] = omega arith
values_few t (r ∷ rs) = let ih = values_few t rs in by_test (has t r) (λ e. rw e (omega arith)) (λ e. rw e (omega arith))

zip_few : (ts vs : List ℕ) → length (zip_with row ts vs) ≤ length ts
unfolding zip_with
zip_few [] vs = omega arith
zip_few (t ∷ ts) [] = omega arith
zip_few (t ∷ ts) (v ∷ vs) = let ih = zip_few ts vs in omega arith

part_few : (words : List ℕ) (l : Layout) (column from to : ℕ) → length (column_part words l column from to) ≤ to
unfolding column_part span
part_few words l column from to =
    by_test (leb from to && leb to l.rows && leb (l.sizes + (l.rows + l.rows)) (length words))
    (λ e. rw e (omega (arith, length-take (column + to - (column + from)) (drop (column + from) words))))
    (λ e. rw e (omega arith))

rows_few : (shop order : List ℕ) (s : Span) → length (span_rows shop order s) ≤ s.to.0
unfolding span_rows tags_of
rows_few shop order s =
    let words = sheet_words s.sheet shop order in
    let layout = layout_of s.sheet words in
    omega (
      arith,
      zip_few (column_part words layout layout.sizes s.from.0 s.to.0) (valuesIn s shop order),
      part_few words layout layout.sizes s.from.0 s.to.0,
    )

-- A goal is listed after no more nodes than its rows end at, or than stand before it.
pub afters_few : (shop order : List ℕ) (e : Entry) → e.rows.to.0 ≤ most_rows → e.number ≤ most_waiting → length (waiting_of shop order e).after ≤ most_rows
unfolding waiting_of
afters_few shop order e h k =
    by_test e.last (λ b. rw b (omega (arith, length_range 0 e.number)))
    (λ b. rw b (omega (arith, values_few Tag.after (span_rows shop order e.rows), rows_few shop order e.rows)))

-- `number` nodes of the walk are written; the others follow from `row`.
pub record Writing (shop order tables : List ℕ) (source : Option Used) (e : ℕ) (bs : List Bounds) (room : List Waiting) (number row : ℕ) : Type 0 where
  pub done : List Bounds
  pub rest : List Bounds
  pub split : bs ≡ done ++ rest
  pub onward : Walk tables e row rest
  pub count : number ≡ length done
  pub written : take number room ≡ map (entering shop order) (node_entries source e done)

-- A walk that has a node ahead is not at its end.
walk_on : {tables : List ℕ} {e row : ℕ} {rest : List Bounds} → Walk tables e row rest → 0 < length rest → row < e
walk_on stop h = absurd (omega arith)
walk_on (next a b i q w) h = omega arith

none_left : (rest : List Bounds) → length rest ≡ 0 → rest ≡ []
none_left [] e = refl
none_left (b ∷ rest) e = absurd (omega arith)

module _ (shop order tables : List ℕ) (source : Option Used) (e : ℕ) (bs : List Bounds) (room : List Waiting) where
  pub writing_none : {row : ℕ} → Walk tables e row bs → Writing shop order tables source e bs room 0 row
  unfolding entries_from
  writing_none w = record { done = []; rest = bs; split = refl; onward = w; count = refl; written = refl }

  module _ {number row : ℕ} (v : Writing shop order tables source e bs room number row) (h : number < length room) (long : length room ≡ length bs) where
    pub writing_ahead : Ahead tables e row v.rest
    writing_ahead = ahead (walk_on v.onward (omega (arith, v.count, ap length v.split, length-append v.done v.rest))) v.onward

    -- The next node.
    abbrev node : Bounds
    node = record { from = row; to = get_or tables row 0 }

    pub writing_more : {goal : Entry} {pending : ℕ} → goal ≡ entry_of source e number node → pending ≡ length (waiting_of shop order goal).after
        → Writing shop order tables source e bs (set room number (record { goal = goal; pending = pending })) (number + 1) (get_or tables row 0)
    writing_more {goal} {pending} g p =
        let a = writing_ahead in
        let entry : goal ≡ entry_of source e (0 + length v.done) node =
        g ∙ ap {B = Entry} (λ (j : ℕ). entry_of source e j node) (v.count ∙ sym (zero-add (length v.done))) in
        record {
          done = v.done ++ (record { from = row; to = get_or tables row 0 } ∷ []);
          rest = a.rest;
          split = v.split ∙ ap {B = List Bounds} (λ x. v.done ++ x) a.list ∙ sym (append_assoc v.done (record { from = row; to = get_or tables row 0 } ∷ []) a.rest);
          onward = a.onward;
          count = omega (arith, v.count, length-append v.done (record { from = row; to = get_or tables row 0 } ∷ []));
          written =
              take_more_set room number (record { goal = goal; pending = pending }) h
              ∙ ap₂ {C = List Waiting} (λ l (w : Waiting). l ++ (w ∷ [])) v.written (ap {B = Waiting} (λ n. record { goal = goal; pending = n }) p ∙ ap (entering shop order) entry)
              ∙ sym (map-append (entering shop order) (node_entries source e v.done) (entry_of source e (0 + length v.done) node ∷ []))
              ∙ ap (map (entering shop order)) (sym (entries_more source e 0 v.done node));
        }

  pub writing_all : {number row first : ℕ} → Walk tables e first bs → Writing shop order tables source e bs room number row → length room ≤ number → length room ≡ length bs
      → {cs : List Bounds} → Walk tables e first cs → room ≡ map (entering shop order) (node_entries source e cs)
  writing_all {number} w v h long {cs} u =
      let none : v.rest ≡ [] = none_left v.rest (omega (arith, v.count, ap length v.split, length-append v.done v.rest)) in
      let same : v.done ≡ cs = sym (append-nil v.done) ∙ sym (v.split ∙ ap {B = List Bounds} (λ x. v.done ++ x) none) ∙ walk_same w u in
      sym (take_all number room h) ∙ v.written ∙ ap (λ (l : List Bounds). map (entering shop order) (node_entries source e l)) same
