-- The checks' questions one by one, and what is asked after the rows. Assumes nothing.
use Prim.Native.Nat.{ℕ, suc, ◌+◌, ◌*◌, ◌<◌, ◌≤◌}
use native.Mathlib.Omega.{arith}
use native.Mathlib.Nat.{zero-add, add-zero}
use mathlib.Core.Path.{◌≡◌, refl, sym, ap, ◌∙◌}
use mathlib.Core.Bool.{Bool, true, false, cond, true≢false, and-eq-true_iff}
use mathlib.Core.Logic.{◌≢◌}
use mathlib.Core.List.{List, [], ◌∷◌, ◌++◌}
use Rattle.std.specs.Prelude.{None, Some}
use lib.Dec.{eqb}
use lib.ListN.{length, length-map}
use borrow.Author.Tests.{eq-eqb, ne_eqb, eqb-true, le-leb, lt-leb, leb-true}
use Rattle.hgn.specs.Lists.{elem, any, split_at_each, take_until}
use Rattle.hgn.specs.Questions.{Refusal, without_atom, Question, ◌asks◌, ◌askedAt◌, Verdict, passed, refused, first_no}
use Rattle.hgn.specs.Rows.{Row, most_rows, has}
use Rattle.hgn.specs.RowQuestions.{row_questions, position_after}
use Rattle.hgn.specs.Tag as Tag
use Rattle.hgn.specs.Meaning.{nodes_of, node_of, order_of}
use Rattle.hgn.specs.Shop as Shop
use Rattle.hgn.specs.Order as Order
use Rattle.hgn.specs.Trace as Trace
use Rattle.hgn.proofs.Questions.FirstNo.{passed_cons, append_passed, append_refused}
use Rattle.sheet_rows.specs.Reading.{first_question_of, position_of}
use Rattle.sheet_check.specs.PartCounts.{offending, invalid_in, closed}
use Rattle.sheet_check.specs.Scanned.{Passed, questions_of}
use Rattle.sheet_rows.specs.declared.position.Sheet.{Sheet}
use Rattle.sheet_rows.specs.declared.position.Sheet.TheVariants as Of
use Rattle.sheet_check.specs.declared.rows.Scan.{Scan}
use Rattle.sheet_check.specs.declared.part_counts.PartCounts.{PartCounts}
use Rattle.sheet_check.proofs.Counts.{actions_counted, methods_counted, rules_counted}

-- Where the rows passed, the first no is that of what is asked after them, and the scan knows whether the sheet may end.
module _ (sheet : Sheet) (F : ℕ) (rows : List Row) {s : Scan} (sc : Passed sheet F rows s) where
  ends_follow : (ends : List Question) → first_no (questions_of sheet F rows ++ ends) ≡ first_no ends
  ends_follow ends = append_passed (questions_of sheet F rows) ends sc.questions

  position_same : Tag.may_end (position_after Tag.opening rows).context ≡ Tag.may_end (position_of s.position).context
  position_same = ap (λ (p : Tag.Position). Tag.may_end p.context) (sym sc.position)

module _ (shop : List ℕ) where
  pub shop_short : length shop < Shop.size_words → Shop.check_shop shop ≡ refused (1 asks false).failure
  unfolding Shop.check_shop Shop.shop_questions first_no
  shop_short h = rw (lt-leb Shop.size_words (length shop) h)

  module _ (long : Shop.size_words ≤ length shop) where
    pub shop_sizes_no : Shop.sizes_in_range shop ≡ false → Shop.check_shop shop ≡ refused (2 asks false).failure
    unfolding Shop.check_shop Shop.shop_questions first_no
    shop_sizes_no e = rw (le-leb Shop.size_words (length shop) long, e)

    module _ (sizes : Shop.sizes_in_range shop ≡ true) where
      pub shop_length_no : length shop ≢ Shop.size_words + 2 * Shop.row_count shop → Shop.check_shop shop ≡ refused (3 asks false).failure
      unfolding Shop.check_shop Shop.shop_questions first_no
      shop_length_no e = rw (le-leb Shop.size_words (length shop) long, sizes, ne_eqb (length shop) (Shop.size_words + 2 * Shop.row_count shop) e)

      pub shop_rest : length shop ≡ Shop.size_words + 2 * Shop.row_count shop
          → Shop.check_shop shop ≡ first_no (questions_of Of.Shop (Shop.atom_count shop) (Shop.shop_rows shop) ++ Shop.shop_end_questions shop)
      unfolding Shop.check_shop Shop.shop_questions first_no
      shop_rest e = rw (le-leb Shop.size_words (length shop) long, sizes, eq-eqb (length shop) (Shop.size_words + 2 * Shop.row_count shop) e)

      pub shop_row_no : {r : Refusal} → length shop ≡ Shop.size_words + 2 * Shop.row_count shop
          → first_no (questions_of Of.Shop (Shop.atom_count shop) (Shop.shop_rows shop)) ≡ refused (without_atom r)
          → Shop.check_shop shop ≡ refused (without_atom r)
      shop_row_no e h = shop_rest e ∙ append_refused _ _ _ h

  pub shop_rows_few : Shop.sizes_in_range shop ≡ true → Shop.row_count shop ≤ most_rows
  unfolding Shop.sizes_in_range
  shop_rows_few e = let s = simp and-eq-true_iff at e in omega (arith, leb-true)

-- What is asked of a shop sheet after its rows, question by question.
module _ (shop : List ℕ) (s : Scan) (sc : Passed Of.Shop (Shop.atom_count shop) (Shop.shop_rows shop) s) where
  -- The first no from the rows on.
  abbrev shop_end : Verdict
  shop_end = first_no (questions_of Of.Shop (Shop.atom_count shop) (Shop.shop_rows shop) ++ Shop.shop_end_questions shop)

  shop_follow_law : shop_end ≡ first_no (Shop.shop_end_questions shop)
  shop_follow_law = ends_follow Of.Shop _ _ sc _

  shop_position : Tag.may_end (position_after Tag.opening (Shop.shop_rows shop)).context ≡ Tag.may_end (position_of s.position).context
  shop_position = position_same Of.Shop _ _ sc

  actions_same : length (Shop.domain shop).actions ≡ s.counts.actions
  unfolding Shop.domain
  actions_same = sym (ap (λ (t : PartCounts). t.actions) sc.counts ∙ actions_counted (Shop.shop_rows shop))

  methods_same : length (Shop.domain shop).methods ≡ s.counts.methods
  unfolding Shop.domain
  methods_same = sym (ap (λ (t : PartCounts). t.methods) sc.counts ∙ methods_counted (Shop.shop_rows shop))

  pub shop_end_7 : Tag.may_end (position_of s.position).context ≡ false → shop_end ≡ refused (7 asks false).failure
  unfolding Shop.shop_end_questions first_no
  shop_end_7 e = shop_follow_law ∙ rw (shop_position ∙ e)

  module _ (ends : Tag.may_end (position_of s.position).context ≡ true) where
    pub shop_end_actions : s.counts.actions ≢ Shop.action_count shop → shop_end ≡ refused (8 asks false).failure
    unfolding Shop.shop_end_questions first_no
    shop_end_actions e = shop_follow_law ∙ rw (shop_position ∙ ends, actions_same, ne_eqb s.counts.actions (Shop.action_count shop) e)

    module _ (few : s.counts.actions ≡ Shop.action_count shop) where
      pub shop_end_methods : s.counts.methods ≢ Shop.method_count shop → shop_end ≡ refused (8 asks false).failure
      unfolding Shop.shop_end_questions first_no
      shop_end_methods e =
          shop_follow_law
          ∙ rw (
            shop_position ∙ ends,
            actions_same,
            eq-eqb s.counts.actions (Shop.action_count shop) few,
            methods_same,
            ne_eqb s.counts.methods (Shop.method_count shop) e,
          )

      shop_end_rules : s.counts.methods ≡ Shop.method_count shop → {t : PartCounts} → t ≡ closed s.counts → shop_end ≡ invalid_in t
      unfolding Shop.shop_end_questions first_no Shop.domain
      shop_end_rules e c =
          shop_follow_law
          ∙ rw (
            shop_position ∙ ends,
            actions_same,
            eq-eqb s.counts.actions (Shop.action_count shop) few,
            methods_same,
            eq-eqb s.counts.methods (Shop.method_count shop) e,
          ) (sym (ap invalid_in c ∙ ap (λ (t : PartCounts). invalid_in (closed t)) sc.counts ∙ rules_counted (Shop.shop_rows shop)))

      module _ (all : s.counts.methods ≡ Shop.method_count shop) {t : PartCounts} (c : t ≡ closed s.counts) where
        pub shop_end_9 : {k : ℕ} → t.offender ≡ Some k → shop_end ≡ refused (9 asks false askedAt k).failure
        unfolding invalid_in offending
        shop_end_9 e = shop_end_rules all c ∙ rw e

        pub shop_end_passed : t.offender ≡ None → shop_end ≡ passed
        unfolding invalid_in offending
        shop_end_passed e = shop_end_rules all c ∙ rw e

-- No row of an order sheet that passes begins a method, so every node counts.
order_tag : (c : Tag.Context) (t : ℕ) → elem t (Tag.order_follow c) ≡ true → eqb t Tag.method ≡ false
unfolding elem any Tag.order_follow
order_tag c t e = go (eqb t Tag.method) refl c e
  where
    go : (b : Bool) → eqb t Tag.method ≡ b → (c : Tag.Context) → elem t (Tag.order_follow c) ≡ true → b ≡ false
    go false q c e = refl
    go true q Tag.at_start e = sym (rw (eqb-true t Tag.method q) at e)
    go true q Tag.in_action e = sym e
    go true q Tag.in_effects e = sym e
    go true q Tag.in_method e = sym e
    go true q Tag.in_node e = sym (rw (eqb-true t Tag.method q) at e)
    go true q Tag.in_alternative e = sym (rw (eqb-true t Tag.method q) at e)

nodes_passed : (F i : ℕ) (p : Tag.Position) (rows : List Row) → first_no (row_questions Tag.order_follow (first_question_of Of.Order) F i p rows) ≡ passed
    → (position_after p rows).nodes ≡ p.nodes + length (split_at_each (has Tag.node) rows)
unfolding row_questions position_after split_at_each Tag.advance
nodes_passed F i p [] e = sym (add-zero p.nodes)
nodes_passed F i p (r ∷ rows) e =
    let a = passed_cons _ _ e in
    let b = passed_cons _ _ (passed_cons _ _ a.1).1 in
    nodes_passed F (suc i) (Tag.advance p r.tag r.value) rows b.1
    ∙ count (eqb r.tag Tag.method) (eqb r.tag Tag.node) (order_tag p.context r.tag a.0)
  where
    count : (m n : Bool) → m ≡ false
        → cond m 0 (cond n (suc p.nodes) p.nodes) + length (split_at_each (has Tag.node) rows)
        ≡ p.nodes + length (cond n ((r ∷ take_until (has Tag.node) rows) ∷ split_at_each (has Tag.node) rows) (split_at_each (has Tag.node) rows))
    count true n q = absurd (true≢false q)
    count false true q = omega arith
    count false false q = refl

module _ (shop order : List ℕ) where
  pub order_short : length order < Order.size_words → first_no (Order.order_questions shop order) ≡ refused (11 asks false).failure
  unfolding Order.order_questions first_no
  order_short h = rw (lt-leb Order.size_words (length order) h)

  module _ (long : Order.size_words ≤ length order) where
    pub order_sizes_no : Order.sizes_in_range shop order ≡ false → first_no (Order.order_questions shop order) ≡ refused (12 asks false).failure
    unfolding Order.order_questions first_no
    order_sizes_no e = rw (le-leb Order.size_words (length order) long, e)

    module _ (sizes : Order.sizes_in_range shop order ≡ true) where
      pub order_length_no : length order ≢ Order.size_words + 2 * Order.row_count order
          → first_no (Order.order_questions shop order) ≡ refused (13 asks false).failure
      unfolding Order.order_questions first_no
      order_length_no e = rw (le-leb Order.size_words (length order) long, sizes, ne_eqb (length order) (Order.size_words + 2 * Order.row_count order) e)

      pub order_rest : length order ≡ Order.size_words + 2 * Order.row_count order
          → first_no (Order.order_questions shop order)
          ≡ first_no (questions_of Of.Order (Order.atom_count order) (Order.order_rows order) ++ Order.order_end_questions order)
      unfolding Order.order_questions first_no
      order_rest e = rw (le-leb Order.size_words (length order) long, sizes, eq-eqb (length order) (Order.size_words + 2 * Order.row_count order) e)

      pub order_row_no : {r : Refusal} → length order ≡ Order.size_words + 2 * Order.row_count order
          → first_no (questions_of Of.Order (Order.atom_count order) (Order.order_rows order)) ≡ refused (without_atom r)
          → first_no (Order.order_questions shop order) ≡ refused (without_atom r)
      order_row_no e h = order_rest e ∙ append_refused _ _ _ h

  pub order_rows_few : Order.sizes_in_range shop order ≡ true → Order.row_count order ≤ most_rows
  unfolding Order.sizes_in_range
  order_rows_few e = let s = simp and-eq-true_iff at e in omega (arith, leb-true)

-- What is asked of an order sheet after its rows, question by question.
module _ (order : List ℕ) (s : Scan) (sc : Passed Of.Order (Order.atom_count order) (Order.order_rows order) s) where
  -- The first no from the rows on.
  abbrev order_end : Verdict
  order_end = first_no (questions_of Of.Order (Order.atom_count order) (Order.order_rows order) ++ Order.order_end_questions order)

  order_follow_law : order_end ≡ first_no (Order.order_end_questions order)
  order_follow_law = ends_follow Of.Order _ _ sc _

  order_position : Tag.may_end (position_after Tag.opening (Order.order_rows order)).context ≡ Tag.may_end (position_of s.position).context
  order_position = position_same Of.Order _ _ sc

  goals_same : length (Order.order order).goals ≡ s.position.nodes
  unfolding Order.order order_of nodes_of
  goals_same =
      length-map (split_at_each (has Tag.node) (Order.order_rows order)) node_of
      ∙ sym (ap (λ (x : Tag.Position). x.nodes) sc.position
      ∙ nodes_passed (Order.atom_count order) 0 Tag.opening (Order.order_rows order) sc.questions ∙ zero-add _)

  pub order_end_17 : Tag.may_end (position_of s.position).context ≡ false → order_end ≡ refused (17 asks false).failure
  unfolding Order.order_end_questions first_no
  order_end_17 e = order_follow_law ∙ rw (order_position ∙ e)

  module _ (ends : Tag.may_end (position_of s.position).context ≡ true) where
    pub order_end_18 : s.position.nodes ≢ Order.goal_count order → order_end ≡ refused (18 asks false).failure
    unfolding Order.order_end_questions first_no
    order_end_18 e = order_follow_law ∙ rw (order_position ∙ ends, goals_same, ne_eqb s.position.nodes (Order.goal_count order) e)

    pub order_end_passed : s.position.nodes ≡ Order.goal_count order → order_end ≡ passed
    unfolding Order.order_end_questions first_no
    order_end_passed e = order_follow_law ∙ rw (order_position ∙ ends, goals_same, eq-eqb s.position.nodes (Order.goal_count order) e)

module _ (trace : List ℕ) where
  -- The length that question 23 asks for.
  abbrev whole : ℕ
  whole = Trace.size_words + 2 * Trace.step_count trace

  pub trace_short : length trace < Trace.size_words → first_no (Trace.trace_questions trace) ≡ refused (21 asks false).failure
  unfolding Trace.trace_questions first_no
  trace_short h = rw (lt-leb Trace.size_words (length trace) h)

  module _ (long : Trace.size_words ≤ length trace) where
    pub trace_steps_no : Trace.most_steps < Trace.step_count trace → first_no (Trace.trace_questions trace) ≡ refused (22 asks false).failure
    unfolding Trace.trace_questions first_no
    trace_steps_no h = rw (le-leb Trace.size_words (length trace) long, lt-leb (Trace.step_count trace) Trace.most_steps h)

    module _ (few : Trace.step_count trace ≤ Trace.most_steps) where
      pub trace_length_no : length trace ≢ whole → first_no (Trace.trace_questions trace) ≡ refused (23 asks false).failure
      unfolding Trace.trace_questions first_no
      trace_length_no e =
          rw (le-leb Trace.size_words (length trace) long, le-leb (Trace.step_count trace) Trace.most_steps few, ne_eqb (length trace) whole e)

      pub trace_passed : length trace ≡ whole → first_no (Trace.trace_questions trace) ≡ passed
      unfolding Trace.trace_questions first_no
      trace_passed e =
          rw (le-leb Trace.size_words (length trace) long, le-leb (Trace.step_count trace) Trace.most_steps few, eq-eqb (length trace) whole e)
