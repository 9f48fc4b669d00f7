-- What the rows of a method in a shop sheet that passes say: its needs stand before its first node, and its goal is the literals wanted in
-- its last node.
use Prim.Native.Nat.{ℕ}
use mathlib.Core.Path.{◌≡◌, refl, sym, ap, ◌∙◌}
use mathlib.Core.Bool.{true, false≢true}
use mathlib.Core.Logic.{⊎_elim}
use mathlib.Core.List.Memᴰ
use mathlib.Core.List.{List, [], ◌∷◌, ◌++◌, map, head_d, Memᴰ}
use native.Mathlib.Omega.{arith}
use lib.ListN.{length, length-append}
use Rattle.hgn.specs.Lists.{take_until, split_at_each}
use Rattle.hgn.specs.Tag
use Rattle.hgn.specs.Rows.{Row, has}
use Rattle.hgn.specs.Meaning.{Formula, Node, Method, literals, method_of, begins_operator, starts_with, last_of, goal_of}
use Rattle.hgn.specs.Questions.{passed}
use Rattle.hgn.specs.Shop.{shop_rows, domain, check_shop}
use Rattle.hgn.specs.Written.{node_rows, action_rows, method_rows}
use Rattle.hgn.proofs.Sheets.Readback.{method_read, method_nodes, method_needs, node_wanted}
use Rattle.hgn.proofs.Sheets.Written.{last_of_law, shop_parts, shop_rules}
use Rattle.hgn.proofs.Sheets.Checked.{one_alternative}

-- The last of the parts that nodes are written as is the last node's.
last_part : (ns : List Node) (init : List (List Row)) (q : List Row) → map node_rows ns ≡ init ++ (q ∷ [])
    → (before : List Node) × (n : Node) × (ns ≡ before ++ (n ∷ [])) × (q ≡ node_rows n)
last_part [] init q e = absurd (omega (arith, ap length e, length-append init (q ∷ [])))
last_part (n ∷ []) [] q e = ([], n, refl, cc)
last_part (n ∷ m ∷ ns) [] q e = absurd (omega (arith, ap length e))
last_part (n ∷ ns) (x ∷ init) q e =
    let r = last_part ns init q (cc) in
    (n ∷ r.0, r.1, ap {B = List Node} (◌∷◌ n) r.2, r.3)

-- The rows of a method are those that it is written out with.
module _ (shop : List ℕ) (e : check_shop shop ≡ passed) (b : List Row) (k : Memᴰ b (split_at_each begins_operator (shop_rows shop))) (h : starts_with Tag.method b ≡ true) where
  written : (m : Method) × (b ≡ method_rows m)
  unfolding starts_with action_rows
  written =
      ⊎_elim (λ i. let r = Memᴰ.of_map action_rows (domain shop).actions i in absurd (false≢true (rw (← r.2) at h)))
      (λ i. let r = Memᴰ.of_map method_rows (domain shop).methods i in (r.0, sym r.2))
      (Memᴰ.append_cases (map action_rows (domain shop).actions) (rw (shop_parts shop e) at k))

  -- A method's needs are the 3 and 4 rows before its first node.
  pub needs_first : literals Tag.needs_true Tag.needs_false b ≡ literals Tag.needs_true Tag.needs_false (take_until (has Tag.node) b)
  needs_first = rw written.1 (method_needs written.0)

  -- A method's goal is the literals wanted in its last node.
  pub goal_of_last : (m : Method) → Memᴰ m (domain shop).methods → m ≡ method_of b
      → (init : List (List Row)) (q : List Row) → split_at_each (has Tag.node) b ≡ init ++ (q ∷ []) → goal_of m ≡ literals Tag.wanted_true Tag.wanted_false q
  unfolding goal_of
  goal_of_last m d from init q last =
      let same : m ≡ written.0 = from ∙ ap method_of written.1 ∙ method_read written.0 in
      let r = last_part m.nodes init q (sym (method_nodes m) ∙ ap (λ (m : Method). split_at_each (has 7) (method_rows m)) same ∙ ap (split_at_each (has 7)) (sym written.1) ∙ last) in
      let n = r.1 in
      let one = one_alternative n.formula (((shop_rules shop e).methods m d).one_goal r.0 n r.2) in
      ap (λ (ns : List Node). head_d (last_of ns).formula []) r.2 ∙ ap (λ (n : Node). head_d n.formula []) (last_of_law r.0 n)
      ∙ sym (node_wanted n.after (head_d n.formula []))
      ∙ ap (λ (f : Formula). literals 9 10 (node_rows (record { after = n.after; formula = f }))) (sym one)
      ∙ ap (literals 9 10) (sym r.3)
