-- The rows of the joined sheet are those of the join, written out. Assumes nothing.
use Prim.Native.Nat.{ℕ, suc, ◌+◌, ◌*◌, ◌<◌, ◌≤◌}
use native.Mathlib.Omega.{arith}
use native.Mathlib.Nat.{suc-mul, zero-mul}
use mathlib.Core.Path.{◌≡◌, refl, sym, ap, ap₂, ◌∙◌}
use mathlib.Core.Bool.{Bool, false, ◌||◌}
use mathlib.Core.List.{List, [], ◌∷◌, ◌++◌, map, flat_map, append_assoc, map-append}
use mathlib.Core.List.{Memᴰ}
use lib.Dec.{eqb}
use lib.ListN.{length, length-append, length-map}
use borrow.Author.Tests.{eqb-false}
use Rattle.hgn.specs.Lists.{any, range, drop_until}
use Rattle.hgn.specs.Rows.{Row, row, has}
use Rattle.hgn.specs.Meaning.{Node, Order}
use Rattle.hgn.specs.Join.{raised, join}
use Rattle.hgn.specs.Questions.{passed}
use Rattle.hgn.specs.Shop as Shop
use Rattle.hgn.specs.Order as Sheet
use Rattle.hgn.specs.Order.{order, check_order}
use Rattle.hgn.specs.JoinSheet.{raised_row, joined_rows, joined_words}
use Rattle.hgn.specs.Written.{alternative_rows, node_rows, order_rows, order_words, NodeRules}
use Rattle.hgn.proofs.Logic.Ranges.{length_range}
use Rattle.hgn.proofs.Logic.Tests.{or_false}
use Rattle.hgn.proofs.Sheets.Readback.{formula_none, values_none}
use Rattle.hgn.proofs.Sheets.Passed.{order_passed}
use Rattle.hgn.proofs.Sheets.Rules.{Network, rising_top, rules_network}
use Rattle.hgn.proofs.Sheets.Written.{same_atoms, order_rows_law, order_length, order_rules}

-- Two lists one after the other.
flat_append : {A B : Type 0} (f : A → List B) (xs ys : List A) → flat_map f (xs ++ ys) ≡ flat_map f xs ++ flat_map f ys
unfolding flat_map
flat_append f [] ys = refl
flat_append f (x ∷ xs) ys = rw (flat_append f xs ys) (sym (append_assoc (f x) (flat_map f xs) (flat_map f ys)))

-- What the second order's rows become.

module _ (g : ℕ) where
  -- Neither a 7 nor an 11 row.
  moves : ℕ → Bool
  moves t = eqb t 7 || eqb t 11

  others_stay : (rs : List Row) → any (λ r. moves r.tag) rs ≡ false → flat_map (raised_row g) rs ≡ rs
  unfolding flat_map any raised_row moves
  others_stay [] e = refl
  others_stay (r ∷ rs) e =
      let h = or_false (moves r.tag) (any (λ r. moves r.tag) rs) e in
      let k = or_false (eqb r.tag 7) (eqb r.tag 11) h.0 in
      rw (k.0, k.1) (ap {B = List Row} (◌∷◌ r) (others_stay rs h.1))

  afters_raised : (ks : List ℕ) → flat_map (raised_row g) (map (row 11) ks) ≡ map (row 11) (map (λ k. g + k) ks)
  unfolding flat_map raised_row
  afters_raised [] = refl
  afters_raised (k ∷ ks) = ap {B = List Row} (◌∷◌ (row 11 (g + k))) (afters_raised ks)

  node_raised : (n : Node) → flat_map (raised_row g) (node_rows n) ≡ node_rows (raised g n)
  unfolding node_rows raised flat_map moves raised_row
  node_raised n =
      let news = map (row 11) (range 0 g) in
      let olds = map (row 11) (map (λ k. g + k) n.after) in
      let fs = flat_map alternative_rows n.formula in
      ap {B = List Row} (λ l. row 7 0 ∷ news ++ l)
      (flat_append (raised_row g) (map (row 11) n.after) fs
      ∙ ap₂ {C = List Row} ◌++◌ (afters_raised n.after) (others_stay fs (formula_none moves refl refl refl n.formula)))
      ∙ ap {B = List Row} (◌∷◌ (row 7 0)) (sym (append_assoc news olds fs))
      ∙ ap {B = List Row} (λ l. row 7 0 ∷ l ++ fs) (sym (map-append (row 11) (range 0 g) (map (λ k. g + k) n.after)))

  nodes_raised : (ns : List Node) → flat_map (raised_row g) (flat_map node_rows ns) ≡ flat_map node_rows (map (raised g) ns)
  unfolding flat_map
  nodes_raised [] = refl
  nodes_raised (n ∷ ns) =
      flat_append (raised_row g) (node_rows n) (flat_map node_rows ns) ∙ ap₂ {C = List Row} ◌++◌ (node_raised n) (nodes_raised ns)

-- The second's 12 rows, which stand before its first 7, are dropped.

skipped : (test : Row → Bool) (xs ys : List Row) → any test xs ≡ false → drop_until test (xs ++ ys) ≡ drop_until test ys
unfolding any drop_until
skipped test [] ys e = refl
skipped test (x ∷ xs) ys e = let h = or_false (test x) (any test xs) e in rw h.0 (skipped test xs ys h.1)

nodes_first : (ns : List Node) → drop_until (has 7) (flat_map node_rows ns) ≡ flat_map node_rows ns
unfolding drop_until node_rows flat_map
nodes_first [] = refl
nodes_first (n ∷ ns) = refl

from_first_goal : (o : Order) → drop_until (has 7) (order_rows o) ≡ flat_map node_rows o.goals
unfolding order_rows
from_first_goal o =
    skipped (has 7) (map (row 12) o.start) (flat_map node_rows o.goals) (values_none (λ t. eqb t 7) 12 refl o.start) ∙ nodes_first o.goals

-- How many rows and goals there are.

-- A goal of the second order has `g` new 11 rows.
node_length : (g : ℕ) (n : Node) → length (node_rows (raised g n)) ≡ length (node_rows n) + g
unfolding node_rows raised
node_length g n =
    let fs = flat_map alternative_rows n.formula in
    let ks = map (λ k. g + k) n.after in
    omega (
      arith,
      length-append (map (row 11) (range 0 g ++ ks)) fs,
      length-map (range 0 g ++ ks) (row 11),
      length-append (range 0 g) ks,
      length_range 0 g,
      length-map n.after (λ k. g + k),
      length-append (map (row 11) n.after) fs,
      length-map n.after (row 11),
    )

nodes_length : (g : ℕ) (ns : List Node) → length (flat_map node_rows (map (raised g) ns)) ≡ length (flat_map node_rows ns) + length ns * g
unfolding flat_map
nodes_length g [] = omega (arith, zero-mul g)
nodes_length g (n ∷ ns) =
    omega (
      arith,
      length-append (node_rows (raised g n)) (flat_map node_rows (map (raised g) ns)),
      length-append (node_rows n) (flat_map node_rows ns),
      node_length g n,
      nodes_length g ns,
      suc-mul (length ns) g,
    )

-- The second order's start rows are dropped.
pub join_length : (a b : Order)
    → length (order_rows (join a b)) + length b.start ≡ length (order_rows a) + length (order_rows b) + length b.goals * length a.goals
unfolding order_rows join
join_length a b =
    let g = length a.goals in
    let firsts = flat_map node_rows a.goals in
    let seconds = flat_map node_rows (map (raised g) b.goals) in
    omega (
      arith,
      length-append (map (row 12) a.start) (flat_map node_rows (a.goals ++ map (raised g) b.goals)),
      ap length (flat_append node_rows a.goals (map (raised g) b.goals)),
      length-append firsts seconds,
      nodes_length g b.goals,
      length-append (map (row 12) a.start) firsts,
      length-append (map (row 12) b.start) (flat_map node_rows b.goals),
      length-map b.start (row 12),
    )

pub joined_goals : (a b : Order) → length (join a b).goals ≡ length a.goals + length b.goals
unfolding join
joined_goals a b =
    omega
    (arith, length-append a.goals (map (raised (length a.goals)) b.goals), length-map b.goals (raised (length a.goals)))

-- The 11 rows of an order have values below its number of goals.

-- Each of the rows that is an 11 row has a value below `top`.
abbrev pub AftersBelow : ℕ → List Row → Type 0
AftersBelow top [] = Unit {0}
AftersBelow top (r ∷ rs) = (r.tag ≡ 11 → r.value < top) × AftersBelow top rs

module _ (top : ℕ) where
  below_append : (xs ys : List Row) → AftersBelow top xs → AftersBelow top ys → AftersBelow top (xs ++ ys)
  below_append [] ys h k = k
  below_append (x ∷ xs) ys h k = (h.0, below_append xs ys h.1 k)

  below_others : (rs : List Row) → any (λ r. eqb r.tag 11) rs ≡ false → AftersBelow top rs
  unfolding any
  below_others [] e = tt
  below_others (r ∷ rs) e =
      let h = or_false (eqb r.tag 11) (any (λ r. eqb r.tag 11) rs) e in
      (λ q. absurd (eqb-false r.tag 11 h.0 q), below_others rs h.1)

  below_afters : (ks : List ℕ) → ((k : ℕ) → Memᴰ k ks → k < top) → AftersBelow top (map (row 11) ks)
  below_afters [] h = tt
  below_afters (k ∷ ks) h = (λ q. h k (Memᴰ.head refl), below_afters ks (λ j m. h j (Memᴰ.tail m)))

  below_node : (F i : ℕ) (n : Node) → i ≤ top → NodeRules F i n → AftersBelow top (node_rows n)
  unfolding node_rows
  below_node F i n l h = (
    λ q. absurd (omega (arith, q)),
    below_append (map (row 11) n.after) _ (below_afters n.after (λ k m. omega (arith, rising_top h.afters k m)))
        (below_others _ (formula_none (λ t. eqb t 11) refl refl refl n.formula)),
  )

  below_nodes : (F i : ℕ) (ns : List Node) → i + length ns ≤ top → Network F i ns → AftersBelow top (flat_map node_rows ns)
  unfolding flat_map
  below_nodes F i [] l h = tt
  below_nodes F i (n ∷ ns) l h =
      below_append (node_rows n) _ (below_node F i n (omega (arith, l)) h.0) (below_nodes F (suc i) ns (omega (arith, l)) h.1)

pub afters_below : (shop sheet : List ℕ) → check_order shop sheet ≡ passed → AftersBelow (Sheet.goal_count sheet) (Sheet.order_rows sheet)
unfolding order_rows
afters_below shop sheet e =
    let top = Sheet.goal_count sheet in
    let ns = (order sheet).goals in
    rw (order_rows_law shop sheet e)
    (below_append top (map (row 12) (order sheet).start) _ (below_others top _ (values_none (λ t. eqb t 11) 12 refl (order sheet).start))
    (below_nodes top (Shop.atom_count shop) 0 ns (omega (arith, (order_passed shop sheet e).goal_count_law)) (rules_network (order_rules shop sheet e).goals)))

-- The joined sheet is the words of the join.
module _ (shop first second : List ℕ) (one : check_order shop first ≡ passed) (two : check_order shop second ≡ passed) where
  abbrev a : Order
  a = order first

  abbrev b : Order
  b = order second

  goals_of_first : length a.goals ≡ Sheet.goal_count first
  goals_of_first = (order_passed shop first one).goal_count_law

  goals_of_second : length b.goals ≡ Sheet.goal_count second
  goals_of_second = (order_passed shop second two).goal_count_law

  seconds_goals : drop_until (has 7) (Sheet.order_rows second) ≡ flat_map node_rows b.goals
  seconds_goals = ap (drop_until (has 7)) (order_rows_law shop second two) ∙ from_first_goal b

  pub joined_rows_law : joined_rows first second ≡ order_rows (join a b)
  unfolding joined_rows join order_rows
  joined_rows_law =
      let starts = map (row 12) a.start in
      let firsts = flat_map node_rows a.goals in
      let seconds = flat_map node_rows (map (raised (length a.goals)) b.goals) in
      ap₂ {C = List Row} ◌++◌ (order_rows_law shop first one)
      (ap (flat_map (raised_row (Sheet.goal_count first))) seconds_goals
      ∙ nodes_raised (Sheet.goal_count first) b.goals
      ∙ ap {B = List Row} (λ g. flat_map node_rows (map (raised g) b.goals)) (sym goals_of_first))
      ∙ append_assoc starts firsts seconds
      ∙ ap {B = List Row} (◌++◌ starts) (sym (flat_append node_rows a.goals (map (raised (length a.goals)) b.goals)))

  goals_sum : length (join a b).goals ≡ Sheet.goal_count first + Sheet.goal_count second
  goals_sum = joined_goals a b ∙ ap₂ ◌+◌ goals_of_first goals_of_second

  pub joined_words_law : joined_words first second ≡ order_words (Shop.atom_count shop) (join a b)
  unfolding joined_words order_words
  joined_words_law = rw (same_atoms shop first one, goals_sum, joined_rows_law) refl

  -- N: the first's rows, the second's from its first 7 on, and one for each goal of the first in each goal of the second.
  pub joined_count : length (joined_rows first second)
      ≡ Sheet.row_count first + length (drop_until (has 7) (Sheet.order_rows second)) + Sheet.goal_count second * Sheet.goal_count first
  unfolding joined_rows
  joined_count =
      let g = Sheet.goal_count first in
      length-append (Sheet.order_rows first) _
      ∙ ap₂ ◌+◌ (ap length (order_rows_law shop first one) ∙ order_length shop first one)
      (ap length (ap (flat_map (raised_row g)) seconds_goals ∙ nodes_raised g b.goals)
      ∙ nodes_length g b.goals
      ∙ ap₂ ◌+◌ (ap length (sym seconds_goals)) (ap (λ n. n * g) goals_of_second))
      ∙ omega arith
