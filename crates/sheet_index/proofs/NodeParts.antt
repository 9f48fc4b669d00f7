-- The nodes among a sheet's rows are walked along the table of its ends. Assumes nothing.
use Prim.Native.Nat.{ℕ, zero, suc, ◌-◌, ◌<◌, ◌≤◌}
use native.Mathlib.Omega.{arith}
use mathlib.Core.Path.{◌≡◌, refl, sym, ap₂, ◌∙◌, subst}
use mathlib.Core.List.{List, [], ◌∷◌, map}
use lib.Dec.{ltb}
use lib.ListN.{length, get_or}
use borrow.Author.Tests.{ltb-true, ltb-false}
use Rattle.hgn.specs.Lists.{split_at_each}
use Rattle.hgn.specs.Rows.{Row, has}
use Rattle.hgn.specs.Tag as Tag
use Rattle.sheet_index.specs.Index.{ends, span}
use Rattle.sheet_index.proofs.Spans.{by_test, span_empty, part_end, NodesFrom, next_node}
use Rattle.sheet_index.specs.Tables.{Bounds, Walk, stop, next}

-- `table` has the ends of these rows, and `part` hands back the rows between bounds.
module _ (rows : List Row) (table : List ℕ) (fit : length rows ≤ length table)
    (end_at : (i : ℕ) → i < length rows → get_or table i 0 ≡ get_or (ends 0 rows) i 0)
    (part : Bounds → List Row)
    (part_is : (from to : ℕ) → from ≤ to → to ≤ length rows → part (record { from = from; to = to }) ≡ span rows from to)
  where
    -- The walk over whole nodes.
    pub record Walked (n e : ℕ) : Type 0 where
      pub list : List Bounds
      pub walked : Walk table e n list
      pub same : map part list ≡ split_at_each (has Tag.node) (span rows n e)

    walk_none : (n e : ℕ) → e ≤ n → NodesFrom rows n e → Walked n e
    unfolding split_at_each
    walk_none n e h w =
        let q : e ≡ n = omega (arith, w.until) in
        record { list = []; walked = subst (λ (k : ℕ). Walk table e k []) q stop; same = rw (span_empty rows n e h) refl }

    walk_more : (n e : ℕ) → n < e → e ≤ length rows → NodesFrom rows n e → Walked (get_or (ends 0 rows) n 0) e → Walked n e
    walk_more n e h l w r =
        let to = get_or (ends 0 rows) n 0 in
        let x = next_node rows n e w h in
        let p = part_end rows n (omega arith) in
        record {
          list = record { from = n; to = to } ∷ r.list;
          walked = next p.0 (omega (arith, x.1.until)) (omega (arith, fit)) (end_at n (omega arith)) r.walked;
          same = ap₂ {C = List (List Row)} (λ a b. a ∷ b) (part_is n to (omega (arith, p.0)) p.1) r.same ∙ sym x.0;
        }

    walk_from : (fuel n e : ℕ) → e - n ≤ fuel → e ≤ length rows → NodesFrom rows n e → Walked n e
    walk_from zero n e f l w = walk_none n e (omega arith) w
    walk_from (suc fuel) n e f l w =
        by_test (ltb n e)
        (λ t.
        let h = ltb-true n e t in
        walk_more n e h l w (walk_from fuel (get_or (ends 0 rows) n 0) e (omega (arith, (part_end rows n (omega arith)).0)) l (next_node rows n e w h).1))
        (λ t. walk_none n e (ltb-false n e t) w)

    pub walk_nodes : (n e : ℕ) → e ≤ length rows → NodesFrom rows n e → Walked n e
    walk_nodes n e l w = walk_from (length rows) n e (omega arith) l w
