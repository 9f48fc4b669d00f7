-- What a passed check gives, by the rules that its sheet keeps: the sizes, the numbers of nodes, that nodes come only after lower nodes,
-- that a method's network ends in its goal, the largest cost.
use Prim.Native.Nat.{ℕ, suc, ◌+◌, ◌-◌, ◌≤◌, ◌<◌}
use mathlib.Core.Path.{◌≡◌, refl, sym, ap, ◌∙◌}
use mathlib.Core.Bool.{Bool, true, false, cond}
use mathlib.Core.List.Memᴰ
use mathlib.Core.List.{List, [], ◌∷◌, ◌++◌, head_d, Memᴰ}
use native.Mathlib.Omega.{arith}
use native.Mathlib.Nat.{add-zero, zero-add, add-suc, suc-add}
use native.Mathlib.Numerals.{add-one}
use lib.ListN.{length}
use Rattle.hgn.specs.Lists.{filter, range}
use Rattle.hgn.specs.Meaning.{Formula, Node, Action, Method, last_of, goal_of, last_after_all, network_of}
use Rattle.hgn.specs.Questions.{passed}
use Rattle.hgn.specs.Shop
use Rattle.hgn.specs.Shop.{domain, check_shop}
use Rattle.hgn.specs.Order
use Rattle.hgn.specs.Order.{order, check_order}
use Rattle.hgn.specs.Written.{NetworkRules}
use Rattle.hgn.specs.Readings.{MethodsEndInGoals}
use Rattle.hgn.proofs.Logic.Ranges.{range_lt}
use Rattle.hgn.proofs.Sheets.Passed.{shop_passed, order_passed}
use Rattle.hgn.proofs.Sheets.Rules.{Network, rules_network, rising_top}
use Rattle.hgn.proofs.Sheets.Written.{shop_rules, order_rules, ends_in_last}
pub use Rattle.hgn.proofs.Sheets.Passed.{shop_of_order, order_of_trace}

-- A shop sheet has at most 255 actions and 255 methods, an order sheet at most 64 goals.
pub shop_actions : (shop : List ℕ) → check_shop shop ≡ passed → length (domain shop).actions ≤ 255
shop_actions shop e = (shop_rules shop e).few_actions

pub shop_methods : (shop : List ℕ) → check_shop shop ≡ passed → length (domain shop).methods ≤ 255
shop_methods shop e = (shop_rules shop e).few_methods

pub order_goals : (shop sheet : List ℕ) → check_order shop sheet ≡ passed → length (order sheet).goals ≤ 64
order_goals shop sheet e = (order_rules shop sheet e).few_goals

-- As many actions, methods and goals as the sheet says.
pub shop_counts : (shop : List ℕ) → check_shop shop ≡ passed
    → (length (domain shop).actions ≡ Shop.action_count shop) × (length (domain shop).methods ≡ Shop.method_count shop)
shop_counts shop e = ((shop_passed shop e).action_count_law, (shop_passed shop e).method_count_law)

pub order_count : (shop sheet : List ℕ) → check_order shop sheet ≡ passed → length (order sheet).goals ≡ Order.goal_count sheet
order_count shop sheet e = (order_passed shop sheet e).goal_count_law

-- Node `i` of a network comes only after lower nodes; these are its nodes from node `i` on.
abbrev pub Numbered : ℕ → List Node → Type 0
Numbered i [] = Unit {0}
Numbered i (n ∷ ns) = ((k : ℕ) → Memᴰ k n.after → k < i) × Numbered (suc i) ns

pub numbered : {F : ℕ} {ns : List Node} → NetworkRules F ns → Numbered 0 ns
numbered {F} {ns} h = go 0 ns (rules_network h)
  where
    go : (i : ℕ) (ns : List Node) → Network F i ns → Numbered i ns
    go i [] h = tt
    go i (n ∷ ns) h = (rising_top h.0.afters, go (suc i) ns h.1)

-- Goal `i` of an order comes only after lower goals.
pub order_numbered : (shop sheet : List ℕ) → check_order shop sheet ≡ passed → Numbered 0 (order sheet).goals
order_numbered shop sheet e = numbered (order_rules shop sheet e).goals

-- What is kept passes the test and was there.
pub kept : {A : Type 0} (test : A → Bool) (l : List A) {x : A} → Memᴰ x (filter test l) → (test x ≡ true) × Memᴰ x l
unfolding filter
kept test [] m = absurd (Memᴰ.not-nil m)
kept test (y ∷ ys) {x} m = go (test y) refl (kept test ys) m
  where
    go : (b : Bool) → test y ≡ b → (Memᴰ x (filter test ys) → (test x ≡ true) × Memᴰ x ys)
        → Memᴰ x (cond b (y ∷ filter test ys) (filter test ys)) → (test x ≡ true) × Memᴰ x (y ∷ ys)
    go true e ih (Memᴰ.head q) = (rw q e, Memᴰ.head q)
    go true e ih (Memᴰ.tail m) = ((ih m).0, Memᴰ.tail (ih m).1)
    go false e ih m = ((ih m).0, Memᴰ.tail (ih m).1)

pub length_last_after_all : (i : ℕ) (ns : List Node) → length (last_after_all i ns) ≡ length ns
unfolding last_after_all
length_last_after_all i [] = refl
length_last_after_all i (n ∷ []) = refl
length_last_after_all i (n ∷ m ∷ ns) = ap suc (length_last_after_all (suc i) (m ∷ ns))

-- A method's network has 1 to 63 nodes.
pub method_nodes : (shop : List ℕ) → check_shop shop ≡ passed → (m : Method) → Memᴰ m (domain shop).methods
    → (1 ≤ length (network_of m)) × (length (network_of m) ≤ 63)
unfolding network_of
method_nodes shop e m k =
    let rules = (shop_rules shop e).methods m k in
    rw length_last_after_all (rules.some_node, rules.few_nodes)

numbered_last_after_all : (i : ℕ) (ns : List Node) → Numbered i ns → Numbered i (last_after_all i ns)
unfolding last_after_all
numbered_last_after_all i [] h = tt
numbered_last_after_all i (n ∷ []) h = (range_lt i, tt)
numbered_last_after_all i (n ∷ m ∷ ns) h = (h.0, numbered_last_after_all (suc i) (m ∷ ns) h.1)

-- Node `i` of a method's network comes only after lower nodes.
pub method_numbered : (shop : List ℕ) → check_shop shop ≡ passed → (m : Method) → Memᴰ m (domain shop).methods
    → Numbered 0 (network_of m)
unfolding network_of
method_numbered shop e m k = numbered_last_after_all 0 m.nodes (numbered ((shop_rules shop e).methods m k).nodes)

-- The last node has the formula of the last listed node, and comes after all the others.
last_after_all_law : (i : ℕ) (ns : List Node) → 1 ≤ length ns
    → ((last_of (last_after_all i ns)).formula ≡ (last_of ns).formula) × ((last_of (last_after_all i ns)).after ≡ range 0 (i + length ns - 1))
unfolding last_after_all last_of
last_after_all_law i [] h = absurd (omega arith)
last_after_all_law i (n ∷ []) h = (refl, ap (range 0) (omega arith))
last_after_all_law i (n ∷ m ∷ []) h = (refl, ap (range 0) (omega arith))
last_after_all_law i (n ∷ m ∷ k ∷ ns) h =
    let r = last_after_all_law (suc i) (m ∷ k ∷ ns) (omega arith) in
    (r.0, r.1 ∙ ap (range 0) (omega arith))

pub one_alternative : (f : Formula) → length f ≡ 1 → f ≡ head_d f [] ∷ []
unfolding head_d
one_alternative [] e = absurd (omega arith)
one_alternative (c ∷ []) e = refl
one_alternative (c ∷ k ∷ f) e = absurd (omega arith)

-- Every listed node but the last enters as it is listed.
others_listed : (i : ℕ) (init : List Node) (last : Node)
    → last_after_all i (init ++ (last ∷ [])) ≡ init ++ (record { after = range 0 (i + length init); formula = last.formula } ∷ [])
unfolding last_after_all
others_listed i [] last = ap {B = List Node} (λ k. record { after = range 0 k; formula = last.formula } ∷ []) (sym (add-zero i))
others_listed i (n ∷ []) last = ap {B = List Node} (λ k. n ∷ record { after = range 0 k; formula = last.formula } ∷ []) (sym (add-one i))
others_listed i (n ∷ m ∷ init) last =
    ap {B = List Node} (◌∷◌ n)
    (others_listed (suc i) (m ∷ init) last
    ∙ ap {B = List Node} (λ k. (m ∷ init) ++ (record { after = range 0 k; formula = last.formula } ∷ [])) (suc-add i (length (m ∷ init)) ∙ sym (add-suc i (length (m ∷ init)))))

-- A method's network ends in a node with the method's goal.
pub methods_end_in_goals : MethodsEndInGoals
unfolding network_of goal_of
methods_end_in_goals shop e m k =
    let rules = (shop_rules shop e).methods m k in
    let last = ends_in_last m.nodes rules.some_node in
    let r = last_after_all_law 0 m.nodes rules.some_node in
    record {
      goal = r.0 ∙ one_alternative _ (rules.one_goal last.0 _ last.1);
      after_others = r.1 ∙ ap (range 0) (omega (arith, length_last_after_all 0 m.nodes));
      others = λ init last q.
          ap (last_after_all 0) q ∙ others_listed 0 init last
          ∙ ap {B = List Node} (λ j. init ++ (record { after = range 0 j; formula = last.formula } ∷ [])) (zero-add (length init));
    }

-- An action costs at most 65,535.
pub action_cost : (shop : List ℕ) → check_shop shop ≡ passed → (a : Action) → Memᴰ a (domain shop).actions → a.cost ≤ 65535
action_cost shop e a k = ((shop_rules shop e).actions a k).cost
