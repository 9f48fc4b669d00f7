-- What a check that passes has asked, and back: a sheet of which all of that holds passes. Only this file takes the questions apart.
-- Assumes nothing.
use Prim.Native.Nat.{ℕ, suc, ◌+◌, ◌*◌, ◌≤◌}
use mathlib.Core.Path.{◌≡◌, refl, ◌∙◌}
use mathlib.Core.Bool.{true, and-eq-true_iff}
use mathlib.Core.List.Memᴰ
use mathlib.Core.List.{List, [], ◌∷◌, ◌++◌, Memᴰ}
use lib.ListN.{length}
use borrow.Author.Tests.{eqb-true, leb-true, le-leb, eq-eqb}
use Rattle.hgn.specs.Lists.{elem}
use Rattle.hgn.specs.Tag.{Context, Position, opening, shop_follow, order_follow, may_end, advance, in_range, rises}
use Rattle.hgn.specs.Questions.{passed, first_no}
use Rattle.hgn.specs.Rows.{Row}
use Rattle.hgn.specs.RowQuestions.{row_questions, position_after}
use Rattle.hgn.specs.Meaning.{Method}
use Rattle.hgn.specs.Shop
use Rattle.hgn.specs.Shop.{domain, shop_end_questions, shop_questions, check_shop, node_rules, method_questions}
use Rattle.hgn.specs.Order
use Rattle.hgn.specs.Order.{order, order_end_questions, order_questions, check_order}
use Rattle.hgn.specs.Trace.{step_count, most_steps, trace_questions, check_trace}
use Rattle.hgn.proofs.Questions.FirstNo.{passed_cons, passed_append, append_passed}

-- A check of more sheets has passed those of fewer.
pub shop_of_order : (shop sheet : List ℕ) → check_order shop sheet ≡ passed → check_shop shop ≡ passed
unfolding check_order check_shop
shop_of_order shop sheet e = (passed_append _ _ e).0

pub order_of_trace : (shop sheet trace : List ℕ) → check_trace shop sheet trace ≡ passed → check_order shop sheet ≡ passed
unfolding check_trace check_order
order_of_trace shop sheet trace e = (passed_append (shop_questions shop ++ order_questions shop sheet) _ e).0

-- Every row passes its three questions; the first stands at this position.
pub data Checked (follow : Context → List ℕ) (F : ℕ) : Position → List Row → Type 0 where
  end : {p : Position} → Checked follow F p []
  next : {p : Position} {r : Row} {rs : List Row}
      → elem r.tag (follow p.context) ≡ true → in_range F p r.tag r.value ≡ true → rises p r.tag r.value ≡ true
      → Checked follow F (advance p r.tag r.value) rs → Checked follow F p (r ∷ rs)

pub rows_checked : (follow : Context → List ℕ) (q F i : ℕ) (p : Position) (rs : List Row)
    → first_no (row_questions follow q F i p rs) ≡ passed → Checked follow F p rs
unfolding row_questions
rows_checked follow q F i p [] e = end
rows_checked follow q F i p (r ∷ rs) e =
    let a = passed_cons _ _ e in
    let b = passed_cons _ _ a.1 in
    let c = passed_cons _ _ b.1 in
    next a.0 b.0 c.0 (rows_checked follow q F (suc i) _ rs c.1)

pub checked_rows : (follow : Context → List ℕ) (q F i : ℕ) {p : Position} {rs : List Row}
    → Checked follow F p rs → first_no (row_questions follow q F i p rs) ≡ passed
unfolding row_questions first_no
checked_rows follow q F i end = refl
checked_rows follow q F i (next allowed range rise c) = rw (allowed, range, rise) (checked_rows follow q F (suc i) c)

-- Every method is within its node rules.
rules_asked : (i : ℕ) (ms : List Method) → first_no (method_questions i ms) ≡ passed → (m : Method) → Memᴰ m ms → node_rules m ≡ true
unfolding method_questions
rules_asked i [] e m k = absurd (Memᴰ.not-nil k)
rules_asked i (n ∷ ns) e m (Memᴰ.head q) = rw q (passed_cons _ _ e).0
rules_asked i (n ∷ ns) e m (Memᴰ.tail k) = rules_asked (suc i) ns (passed_cons _ _ e).1 m k

asked_rules : (i : ℕ) (ms : List Method) → ((m : Method) → Memᴰ m ms → node_rules m ≡ true) → first_no (method_questions i ms) ≡ passed
unfolding method_questions first_no
asked_rules i [] h = refl
asked_rules i (m ∷ ms) h = rw (h m (Memᴰ.head refl)) (asked_rules (suc i) ms (λ n k. h n (Memᴰ.tail k)))

-- What a shop sheet that passes has passed.
pub record ShopPassed (shop : List ℕ) : Type 0 where
  pub long : 4 ≤ length shop
  pub sizes : Shop.sizes_in_range shop ≡ true
  pub size : length shop ≡ 4 + 2 * Shop.row_count shop
  pub rows : Checked shop_follow (Shop.atom_count shop) opening (Shop.shop_rows shop)
  pub ends : may_end (position_after opening (Shop.shop_rows shop)).context ≡ true
  pub action_count_law : length (domain shop).actions ≡ Shop.action_count shop
  pub method_count_law : length (domain shop).methods ≡ Shop.method_count shop
  pub rules : (m : Method) → Memᴰ m (domain shop).methods → node_rules m ≡ true

pub shop_passed : (shop : List ℕ) → check_shop shop ≡ passed → ShopPassed shop
unfolding check_shop shop_questions shop_end_questions
shop_passed shop e =
    let a = passed_cons _ _ e in
    let b = passed_cons _ _ a.1 in
    let c = passed_cons _ _ b.1 in
    let d = passed_append (row_questions _ _ _ _ _ _) _ c.1 in
    let f = passed_cons _ _ d.1 in
    let g = passed_cons _ _ f.1 in
    let counts = simp and-eq-true_iff at g.0 in
    record {
      long = leb-true _ _ a.0;
      sizes = b.0;
      size = eqb-true _ _ c.0;
      rows = rows_checked _ _ _ _ _ _ d.0;
      ends = f.0;
      action_count_law = eqb-true _ _ counts.0;
      method_count_law = eqb-true _ _ counts.1;
      rules = rules_asked 0 _ g.1;
    }

pub passed_shop : (shop : List ℕ) → ShopPassed shop → check_shop shop ≡ passed
unfolding check_shop shop_questions shop_end_questions first_no
passed_shop shop h =
    rw (
      le-leb 4 (length shop) h.long,
      h.sizes,
      eq-eqb (length shop) (4 + 2 * Shop.row_count shop) h.size,
      append_passed (row_questions shop_follow 4 (Shop.atom_count shop) 0 opening (Shop.shop_rows shop)) _
          (checked_rows shop_follow 4 (Shop.atom_count shop) 0 h.rows),
      h.ends,
      eq-eqb (length (domain shop).actions) (Shop.action_count shop) h.action_count_law,
      eq-eqb (length (domain shop).methods) (Shop.method_count shop) h.method_count_law,
    )
    (asked_rules 0 (domain shop).methods h.rules)

-- What an order sheet that passes has passed, besides its shop sheet.
pub record OrderPassed (shop sheet : List ℕ) : Type 0 where
  pub long : 3 ≤ length sheet
  pub sizes : Order.sizes_in_range shop sheet ≡ true
  pub size : length sheet ≡ 3 + 2 * Order.row_count sheet
  pub rows : Checked order_follow (Order.atom_count sheet) opening (Order.order_rows sheet)
  pub ends : may_end (position_after opening (Order.order_rows sheet)).context ≡ true
  pub goal_count_law : length (order sheet).goals ≡ Order.goal_count sheet

pub order_passed : (shop sheet : List ℕ) → check_order shop sheet ≡ passed → OrderPassed shop sheet
unfolding check_order order_questions order_end_questions
order_passed shop sheet e =
    let a = passed_cons _ _ (passed_append (shop_questions shop) _ e).1 in
    let b = passed_cons _ _ a.1 in
    let c = passed_cons _ _ b.1 in
    let d = passed_append (row_questions _ _ _ _ _ _) _ c.1 in
    let f = passed_cons _ _ d.1 in
    let g = passed_cons _ _ f.1 in
    record {
      long = leb-true _ _ a.0;
      sizes = b.0;
      size = eqb-true _ _ c.0;
      rows = rows_checked _ _ _ _ _ _ d.0;
      ends = f.0;
      goal_count_law = eqb-true _ _ g.0;
    }

pub passed_order : (shop sheet : List ℕ) → check_shop shop ≡ passed → OrderPassed shop sheet → check_order shop sheet ≡ passed
unfolding check_order check_shop order_questions order_end_questions first_no
passed_order shop sheet e h =
    append_passed (shop_questions shop) _ e
    ∙ rw (
      le-leb 3 (length sheet) h.long,
      h.sizes,
      eq-eqb (length sheet) (3 + 2 * Order.row_count sheet) h.size,
      append_passed (row_questions order_follow 14 (Order.atom_count sheet) 0 opening (Order.order_rows sheet)) _
          (checked_rows order_follow 14 (Order.atom_count sheet) 0 h.rows),
      h.ends,
      eq-eqb (length (order sheet).goals) (Order.goal_count sheet) h.goal_count_law,
    )

-- What a trace that passes has passed, besides its shop and order sheets.
pub record TracePassed (trace : List ℕ) : Type 0 where
  pub long : 1 ≤ length trace
  pub short : step_count trace ≤ most_steps
  pub size : length trace ≡ 1 + 2 * step_count trace

-- The trace's own questions, whatever its sheets.
pub trace_asked : (trace : List ℕ) → first_no (trace_questions trace) ≡ passed → TracePassed trace
unfolding trace_questions
trace_asked trace e =
    let a = passed_cons _ _ e in
    let b = passed_cons _ _ a.1 in
    let c = passed_cons _ _ b.1 in
    record { long = leb-true _ _ a.0; short = leb-true _ _ b.0; size = eqb-true _ _ c.0 }

pub asked_trace : (trace : List ℕ) → TracePassed trace → first_no (trace_questions trace) ≡ passed
unfolding trace_questions first_no
asked_trace trace h =
    rw (
      le-leb 1 (length trace) h.long,
      le-leb (step_count trace) most_steps h.short,
      eq-eqb (length trace) (1 + 2 * step_count trace) h.size,
    )

pub trace_passed : (shop sheet trace : List ℕ) → check_trace shop sheet trace ≡ passed → TracePassed trace
unfolding check_trace
trace_passed shop sheet trace e = trace_asked trace (passed_append (shop_questions shop ++ order_questions shop sheet) _ e).1

pub passed_trace : (shop sheet trace : List ℕ) → check_order shop sheet ≡ passed → TracePassed trace → check_trace shop sheet trace ≡ passed
unfolding check_trace check_order
passed_trace shop sheet trace e h = append_passed (shop_questions shop ++ order_questions shop sheet) _ e ∙ asked_trace trace h
