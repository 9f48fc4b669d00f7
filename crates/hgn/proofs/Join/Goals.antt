-- The join of two orders as a network: its goals come only after lower goals, and the second's after all of the first's.
-- Assumes nothing.
use Prim.Native.Nat.{ℕ, suc, ◌+◌, ◌≤◌, ◌<◌}
use native.Mathlib.Omega.{arith}
use native.Mathlib.Nat.{add-zero, zero-add}
use mathlib.Core.Path.{◌≡◌, refl, sym, ap, ◌∙◌}
use mathlib.Core.List.Memᴰ
use mathlib.Core.List.{List, [], ◌∷◌, ◌++◌, map, Memᴰ}
use mathlib.Core.Option.{none, none-ne-some}
use lib.ListN.{length, length-append, length-map}
use Rattle.hgn.specs.Lists.{At, here, there}
use Rattle.hgn.specs.Meaning.{Node, Order, no_node}
use Rattle.hgn.specs.Network.{from_order, order, Waiting, enter, goals_of}
use Rattle.hgn.specs.Join.{raised, join}
use Rattle.hgn.specs.Definition1.{ComesAfter, by_row, by_method}
use Rattle.hgn.specs.Questions.{passed}
use Rattle.hgn.specs.Shop as Shop
use Rattle.hgn.specs.Shop.{check_shop}
use Rattle.hgn.specs.Written.{NetworkRules}
use Rattle.hgn.specs.Readings.{FromSheets, by_sheet, by_join, FirstBeforeSecond, JoinIs01s, GoalsAfterListed}
use Rattle.hgn.proofs.Logic.Tests.{at_get_or}
use Rattle.hgn.proofs.Logic.Ranges.{lt_range}
use Rattle.hgn.proofs.Network.Places.{at_front, at_behind}
use Rattle.hgn.proofs.Sheets.Passed.{shop_of_order}
use Rattle.hgn.proofs.Sheets.Rules.{network_join}
use Rattle.hgn.proofs.Sheets.Written.{order_rules}
use Rattle.hgn.proofs.Sheets.Checked.{Numbered, numbered}

-- The goals of an order of checked sheets keep the rules, and the shop sheet passes.
rules_of_law : {shop : List ℕ} {o : Order} → FromSheets shop o → (check_shop shop ≡ passed) × NetworkRules (Shop.atom_count shop) o.goals
rules_of_law {shop} (by_sheet sheet e) = (shop_of_order shop sheet e, (order_rules shop sheet e).goals)
rules_of_law (by_join {a} {b} f g) = let r = rules_of_law f in (r.0, network_join a b r.1 (rules_of_law g).1)

-- So they come only after lower goals.
pub from_sheets : {shop : List ℕ} {o : Order} → FromSheets shop o → (check_shop shop ≡ passed) × Numbered 0 o.goals
from_sheets f = let r = rules_of_law f in (r.0, numbered r.1)

-- The goal at place `k`: its name, and its node.
goal_at_law : (i : ℕ) {k : ℕ} {q : Waiting} (ns : List Node) → At (enter order none i ns) k q
    → (q.name.origin ≡ from_order) × (q.name.number ≡ i + k) × ((n : Node) × At ns k n × (q.after ≡ n.after)) × (q.parent ≡ none)
unfolding enter
goal_at_law i (n ∷ ns) here = (refl, sym (add-zero i), (n, here, refl), refl)
goal_at_law i (n ∷ ns) (there h) = let r = goal_at_law (suc i) ns h in (r.0, omega arith, (r.2.0, there r.2.1, r.2.2), r.3)
goal_at_law i {k = k} {q = q} [] x' = elim x' [ ]

-- A raised node comes after every node below `g`.
after_first : (g : ℕ) {k : ℕ} (ns ms : List Node) {n : Node} → At (ns ++ map (raised g) ms) k n → length ns ≤ k
    → (i : ℕ) → i < g → Memᴰ i n.after
unfolding raised
after_first g [] (m ∷ ms) here h i l = Memᴰ.append_left _ (lt_range g i l)
after_first g [] (m ∷ ms) (there a) h i l = after_first g [] ms a (omega arith) i l
after_first g (n ∷ ns) ms here h i l = absurd (omega arith)
after_first g (n ∷ ns) ms (there a) h i l = after_first g ns ms a (omega arith) i l
after_first g [] [] a h i l = elim a [ ]

pub first_before_second : FirstBeforeSecond
unfolding goals_of join
first_before_second a b i j p q h k l m =
    let x = goal_at_law 0 _ h in
    let y = goal_at_law 0 _ k in
    by_row (x.0 ∙ sym y.0) (rw (x.1, zero-add, y.2.2) (after_first _ a.goals b.goals y.2.1 m i l))

-- One node stands at a place.
at_one : {k : ℕ} {m n : Node} (ns : List Node) → At ns k m → At ns k n → m ≡ n
at_one ns h k = sym (at_get_or no_node h) ∙ at_get_or no_node k

pub goals_after_listed : GoalsAfterListed
unfolding goals_of
goals_after_listed o i j p q n h k a =
    let x = goal_at_law 0 _ h in
    let y = goal_at_law 0 _ k in
    let number : p.name.number ≡ i = x.1 ∙ zero-add i in
    let after : q.after ≡ n.after = y.2.2 ∙ ap (λ (m : Node). m.after) (at_one _ y.2.1 a) in
    (rows number after x.3, λ m. by_row (x.0 ∙ sym y.0) (rw (number, after) m))
  where
    rows : p.name.number ≡ i → q.after ≡ n.after → p.parent ≡ none → ComesAfter q p → Memᴰ i n.after
    rows number after parent (by_row s m) = rw (number, after) at m
    rows number after parent (by_method s) = absurd (none-ne-some _ (sym parent ∙ s))

at_mapped : {k : ℕ} {n : Node} (f : Node → Node) {ns : List Node} → At ns k n → At (map f ns) k (f n)
at_mapped f here = here
at_mapped f (there h) = there (at_mapped f h)

pub joins_are_01s : (a b : Order) → JoinIs01s a b
unfolding join raised
joins_are_01s a b = record {
  start = refl;
  first = λ k n h. at_front _ h;
  second = λ k n h. at_behind a.goals (at_mapped (raised (length a.goals)) h);
  alone = length-append a.goals _ ∙ ap (λ (k : ℕ). length a.goals + k) (length-map b.goals (raised (length a.goals)));
}
