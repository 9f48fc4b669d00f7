-- A sheet passes its check exactly when it is the words of a meaning that keeps document 01's rules. Assumes nothing.
use Prim.Native.Nat.{ℕ, ◌+◌, ◌*◌, ◌≤◌}
use native.Mathlib.Omega.{arith}
use mathlib.Core.Path.{◌≡◌, refl, sym, ap, ◌∙◌, subst}
use mathlib.Core.Bool.{true, false, and-eq-true_iff}
use mathlib.Core.List.{List, [], ◌∷◌, ◌++◌, map, Memᴰ}
use lib.ListN.{length}
use borrow.Author.Tests.{eqb-true, leb-true, le-leb, eq-eqb}
use Rattle.hgn.specs.Lists.{any, split_at_each}
use Rattle.hgn.specs.Rows.{word, row_words}
use Rattle.hgn.specs.Meaning.{Node, Method, Domain, Order, begins_operator, domain_of, order_of, last_of}
use Rattle.hgn.specs.Questions.{passed}
use Rattle.hgn.specs.Shop as Shop
use Rattle.hgn.specs.Shop.{shop_rows, domain, node_rules, check_shop}
use Rattle.hgn.specs.Order as Order
use Rattle.hgn.specs.Order.{order, check_order}
use Rattle.hgn.specs.Trace.{steps_of}
use Rattle.hgn.specs.Written.{action_rows, method_rows, domain_rows, order_rows, shop_words, order_words, MethodRules, DomainRules, OrderRules}
use Rattle.hgn.specs.Written.{ShopIsWritten, OrderIsWritten, TraceIsWritten, SheetsAreWritten}
use Rattle.hgn.proofs.Sheets.Passed.{shop_passed, passed_shop, order_passed, passed_order, trace_passed, passed_trace}
use Rattle.hgn.proofs.Sheets.Trace.{words_steps, words_pass_trace, steps_length, trace_is_words}
use Rattle.hgn.proofs.Sheets.Readback.{domain_parts, method_nodes, order_nodes, node_alternatives, domain_read, order_read, none_begins, words_read_law, words_back, words_length}
use Rattle.hgn.proofs.Sheets.Grammar.{DomainRead, OrderRead, domain_of_law, domain_passes, order_of_law, order_passes}

-- Words.

shop_words_law : (shop : List ℕ) → 4 ≤ length shop → length shop ≡ 4 + 2 * Shop.row_count shop
    → shop ≡ Shop.atom_count shop ∷ Shop.action_count shop ∷ Shop.method_count shop ∷ row_words (shop_rows shop)
unfolding shop_rows
shop_words_law [] h e = absurd (omega arith)
shop_words_law (F ∷ []) h e = absurd (omega arith)
shop_words_law (F ∷ K ∷ []) h e = absurd (omega arith)
shop_words_law (F ∷ K ∷ M ∷ []) h e = absurd (omega arith)
shop_words_law (F ∷ K ∷ M ∷ N ∷ rest) h e =
    ap {B = List ℕ} (λ l. F ∷ K ∷ M ∷ l) (words_back (F ∷ K ∷ M ∷ N ∷ []) rest N (omega arith))

words_shop : (F : ℕ) (d : Domain) → shop_rows (shop_words F d) ≡ domain_rows d
unfolding shop_rows shop_words row_words
words_shop F d = words_read_law (F ∷ length d.actions ∷ length d.methods ∷ length (domain_rows d) ∷ []) (domain_rows d)

words_domain : (F : ℕ) (d : Domain) → domain (shop_words F d) ≡ d
unfolding domain
words_domain F d = ap domain_of (words_shop F d) ∙ domain_read d

order_words_law : (sheet : List ℕ) → 3 ≤ length sheet → length sheet ≡ 3 + 2 * Order.row_count sheet
    → sheet ≡ Order.atom_count sheet ∷ Order.goal_count sheet ∷ row_words (Order.order_rows sheet)
unfolding Order.order_rows
order_words_law [] h e = absurd (omega arith)
order_words_law (F ∷ []) h e = absurd (omega arith)
order_words_law (F ∷ G ∷ []) h e = absurd (omega arith)
order_words_law (F ∷ G ∷ N ∷ rest) h e = ap {B = List ℕ} (λ l. F ∷ G ∷ l) (words_back (F ∷ G ∷ N ∷ []) rest N (omega arith))

words_rows : (F : ℕ) (o : Order) → Order.order_rows (order_words F o) ≡ order_rows o
unfolding Order.order_rows order_words row_words
words_rows F o = words_read_law (F ∷ length o.goals ∷ length (order_rows o) ∷ []) (order_rows o)

pub words_order : (F : ℕ) (o : Order) → order (order_words F o) ≡ o
unfolding order
words_order F o = ap order_of (words_rows F o) ∙ order_read o

-- A method's node rules, asked and said.

pub last_of_law : (init : List Node) (n : Node) → last_of (init ++ (n ∷ [])) ≡ n
unfolding last_of
last_of_law [] n = refl
last_of_law (m ∷ []) n = refl
last_of_law (m ∷ k ∷ init) n = last_of_law (k ∷ init) n

pub ends_in_last : (ns : List Node) → 1 ≤ length ns → (init : List Node) × (ns ≡ init ++ (last_of ns ∷ []))
unfolding last_of
ends_in_last [] h = absurd (omega arith)
ends_in_last (n ∷ []) h = ([], refl)
ends_in_last (n ∷ m ∷ ns) h =
    let r = ends_in_last (m ∷ ns) (omega arith) in
    (n ∷ r.0, ap {B = List Node} (◌∷◌ n) r.1)

no_numbers : (ks : List ℕ) → length ks ≡ 0 → ks ≡ []
no_numbers [] e = refl
no_numbers (k ∷ ks) e = absurd (omega arith)

-- The shop sheet.

module _ (shop : List ℕ) (e : check_shop shop ≡ passed) where
  shop_read : DomainRead (Shop.atom_count shop) (shop_rows shop) (domain shop)
  unfolding domain
  shop_read =
      let p = shop_passed shop e in
      let r = domain_of_law record { rows = p.rows; ends = p.ends } in
      subst (DomainRead (Shop.atom_count shop) (shop_rows shop)) (sym (ap domain_of r.1.rows ∙ domain_read r.0)) r.1

  shop_sized : shop ≡ Shop.atom_count shop ∷ Shop.action_count shop ∷ Shop.method_count shop ∷ row_words (shop_rows shop)
  shop_sized = let p = shop_passed shop e in shop_words_law shop p.long p.size

  method_rules : (m : Method) → Memᴰ m (domain shop).methods → MethodRules (Shop.atom_count shop) m
  unfolding node_rules
  method_rules m k =
      let rules = simp and-eq-true_iff at ((shop_passed shop e).rules m k) in
      record {
        needs = shop_read.needs m k;
        nodes = shop_read.nodes m k;
        some_node = omega (arith, leb-true);
        few_nodes = omega (arith, leb-true);
        one_goal = λ init n q. rw (q, last_of_law init n) at (eqb-true (length (last_of m.nodes).formula) 1 rules.0.1);
        no_afters = λ init n q. no_numbers n.after (rw (q, last_of_law init n) at (eqb-true (length (last_of m.nodes).after) 0 rules.1));
      }

  pub shop_length : length (domain_rows (domain shop)) ≡ Shop.row_count shop
  unfolding row_words
  shop_length = ap length (sym shop_read.rows) ∙ sym (ap (λ (l : List ℕ). word l 3) shop_sized)

  -- The rows of each action, then those of each method.
  pub shop_parts : split_at_each begins_operator (shop_rows shop) ≡ map action_rows (domain shop).actions ++ map method_rows (domain shop).methods
  shop_parts = ap (split_at_each begins_operator) shop_read.rows ∙ domain_parts (domain shop)

  pub shop_rules : DomainRules (Shop.atom_count shop) (domain shop)
  unfolding Shop.sizes_in_range
  shop_rules =
      let p = shop_passed shop e in
      let sizes = simp and-eq-true_iff at p.sizes in
      record {
        some_atom = omega (arith, leb-true);
        few_atoms = omega (arith, leb-true);
        few_actions = omega (arith, leb-true, p.action_count_law);
        few_methods = omega (arith, leb-true, p.method_count_law);
        few_rows = omega (arith, leb-true, shop_length);
        actions = shop_read.actions;
        methods = method_rules;
      }

  pub shop_is_words : shop ≡ shop_words (Shop.atom_count shop) (domain shop)
  unfolding shop_words
  shop_is_words = let p = shop_passed shop e in rw (p.action_count_law, p.method_count_law, ← shop_read.rows) shop_sized

asked_nodes : {F : ℕ} (m : Method) → MethodRules F m → node_rules m ≡ true
unfolding node_rules
asked_nodes m h =
    let r = ends_in_last m.nodes h.some_node in
    simp and-eq-true_iff (
      ((le-leb _ _ h.some_node, le-leb _ _ h.few_nodes), eq-eqb _ _ (h.one_goal r.0 _ r.1)),
      eq-eqb _ _ (ap length (h.no_afters r.0 _ r.1)),
    )

-- The words of a domain that keeps the rules pass.
pub words_pass_shop : (F : ℕ) (d : Domain) → DomainRules F d → check_shop (shop_words F d) ≡ passed
unfolding Shop.sizes_in_range shop_words row_words
words_pass_shop F d h =
    let p = domain_passes d h.actions h.methods in
    passed_shop (shop_words F d)
    record {
      long = omega arith;
      sizes =
          simp and-eq-true_iff (
            (((le-leb _ _ h.some_atom, le-leb _ _ h.few_atoms), le-leb _ _ h.few_actions), le-leb _ _ h.few_methods),
            le-leb _ _ h.few_rows,
          );
      size = omega (arith, words_length (domain_rows d));
      rows = rw (words_shop F d) p.rows;
      ends = rw (words_shop F d) p.ends;
      action_count_law = ap (λ (d : Domain). length d.actions) (words_domain F d);
      method_count_law = ap (λ (d : Domain). length d.methods) (words_domain F d);
      rules = rw (words_domain F d) (λ m k. asked_nodes m (h.methods m k));
    }

shops : (shop : List ℕ) → ShopIsWritten shop
unfolding shop_words
shops shop = record {
  passed_iff = (
    (λ e. (Shop.atom_count shop, domain shop, shop_rules shop e, shop_is_words shop e)),
    (λ w. rw w.3 (words_pass_shop w.0 w.1 w.2)),
  );
  means = λ F d e. rw e (refl, sym (words_domain F d));
}

-- The order sheet.

module _ (shop sheet : List ℕ) (e : check_order shop sheet ≡ passed) where
  pub same_atoms : Order.atom_count sheet ≡ Shop.atom_count shop
  unfolding Order.sizes_in_range
  same_atoms = let sizes = simp and-eq-true_iff at (order_passed shop sheet e).sizes in eqb-true _ _ sizes.0.0

  order_read_from : OrderRead (Shop.atom_count shop) (Order.order_rows sheet) (order sheet)
  unfolding order
  order_read_from =
      let p = order_passed shop sheet e in
      let r = order_of_law record { rows = p.rows; ends = p.ends } in
      rw same_atoms at (subst (OrderRead (Order.atom_count sheet) (Order.order_rows sheet)) (sym (ap order_of r.1.rows ∙ order_read r.0)) r.1)

  -- The rows of the sheet are those of its meaning, written out.
  pub order_rows_law : Order.order_rows sheet ≡ order_rows (order sheet)
  order_rows_law = order_read_from.rows

  order_sized : sheet ≡ Order.atom_count sheet ∷ Order.goal_count sheet ∷ row_words (Order.order_rows sheet)
  order_sized = let p = order_passed shop sheet e in order_words_law sheet p.long p.size

  pub order_begins_none : any begins_operator (Order.order_rows sheet) ≡ false
  order_begins_none = ap (any begins_operator) order_read_from.rows ∙ none_begins (order sheet)

  pub order_length : length (order_rows (order sheet)) ≡ Order.row_count sheet
  unfolding row_words
  order_length = ap length (sym order_read_from.rows) ∙ sym (ap (λ (l : List ℕ). word l 2) order_sized)

  pub order_rules : OrderRules (Shop.atom_count shop) (order sheet)
  unfolding Order.sizes_in_range
  order_rules =
      let p = order_passed shop sheet e in
      let sizes = simp and-eq-true_iff at p.sizes in
      record {
        few_goals = omega (arith, leb-true, p.goal_count_law);
        few_rows = omega (arith, leb-true, order_length);
        start = order_read_from.start;
        goals = order_read_from.goals;
      }

  pub order_is_words : sheet ≡ order_words (Shop.atom_count shop) (order sheet)
  unfolding order_words
  order_is_words =
      let p = order_passed shop sheet e in
      rw (p.goal_count_law, ← order_read_from.rows, ← same_atoms) order_sized

-- The words of an order that keeps the rules pass.
pub words_pass_order : (shop : List ℕ) (o : Order) → check_shop shop ≡ passed → OrderRules (Shop.atom_count shop) o
    → check_order shop (order_words (Shop.atom_count shop) o) ≡ passed
unfolding Order.sizes_in_range order_words row_words
words_pass_order shop o e h =
    let F = Shop.atom_count shop in
    let p = order_passes o h.start h.goals in
    passed_order shop (order_words F o) e
    record {
      long = omega arith;
      sizes = simp and-eq-true_iff ((eq-eqb F F refl, le-leb _ _ h.few_goals), le-leb _ _ h.few_rows);
      size = omega (arith, words_length (order_rows o));
      rows = rw (words_rows F o) p.rows;
      ends = rw (words_rows F o) p.ends;
      goal_count_law = ap (λ (o : Order). length o.goals) (words_order F o);
    }

orders : (shop sheet : List ℕ) → check_shop shop ≡ passed → OrderIsWritten shop sheet
orders shop sheet e = record {
  passed_iff = (
    (λ p. (order sheet, order_rules shop sheet p, order_is_words shop sheet p)),
    (λ w. rw w.2 (words_pass_order shop w.0 e w.1)),
  );
  means = λ F o q. rw q (sym (words_order F o));
}

-- The trace.

traces : (shop sheet trace : List ℕ) → check_order shop sheet ≡ passed → TraceIsWritten shop sheet trace
traces shop sheet trace e = record {
  passed_iff = (
    (λ h. let p = trace_passed shop sheet trace h in (steps_of trace, omega (arith, steps_length trace p), trace_is_words trace p)),
    (λ w. passed_trace shop sheet trace e (rw w.2 (words_pass_trace w.0 w.1))),
  );
  means = λ xs q. rw q (sym (words_steps xs));
}

pub sheets_are_written : SheetsAreWritten
sheets_are_written = record {
  shops = shops;
  orders = orders;
  split_at_each = record { of_domain = domain_parts; of_method = method_nodes; of_order_law = order_nodes; of_node = node_alternatives };
  traces = traces;
}
