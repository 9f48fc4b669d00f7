-- The facts that the loop leaves. Assumes nothing.
use Prim.Native.Nat.{ℕ, ◌<◌}
use native.Mathlib.Omega.{arith}
use mathlib.Core.Path.{◌≡◌, refl, sym, subst}
use mathlib.Core.List.{List}
use lib.ListN.{get_or}
use Rattle.hgn.specs.Run.{Problem}
use Rattle.hgn.specs.Shop.{domain}
use Rattle.hgn.specs.Replay.{rules_of}
use Rattle.hgn.proofs.Sheets.Checked.{shop_counts}
use Rattle.sheet_index.specs.Tables.{Indexed}
use Rattle.sheet_index.proofs.Tables.{shop_passes}
use Rattle.search_theory.specs.Needed.{Needed}
use Rattle.search_bound.specs.declared.achievers.Table.{Table}
use Rattle.search_bound.specs.declared.needed_moves.NeededMoves.{NeededMoves}
use Rattle.search_bound.specs.Tables.{OnlyAchievers, OperatorOf}
use Rattle.search_bound.specs.NeededMoves.{move_of_operator, Holds}
use Rattle.search_bound.proofs.NeededMoves.{place_known, place_needed}
use Rattle.search_bound.proofs.least.close.Goals as goal

-- The operator that was found as number `at` is one of the sheets, and it is needed.
module _ (shop : List ℕ) (P : Problem) {moves : NeededMoves} {at operator : ℕ} (h : Holds (rules_of shop) P moves) (b : at < moves.count)
    (o : operator ≡ get_or moves.operators at 0) where
  operator_of : {order tables : List ℕ} {table : Table} → Indexed shop order tables → OnlyAchievers (domain shop) table
      → OperatorOf shop order tables table operator
  operator_of ix a = record {
    indexed = ix;
    known = omega (arith, o, shop_counts shop (shop_passes ix), place_known h at b);
    achievers = a;
  }

  needed : Needed (rules_of shop) P (move_of_operator (domain shop) operator)
  needed = subst (λ (z : ℕ). Needed (rules_of shop) P (move_of_operator (domain shop) z)) (sym o) (place_needed h at b)

pub add_needs-requires : goal.add_needs-requires
add_needs-requires c = operator_of _ _ c.loop-at.invariant (omega arith) c.operator_at-operator.ensures c.requires.indexed.0 c.requires.indexed.1

pub add_nodes-requires : goal.add_nodes-requires
add_nodes-requires c = operator_of _ _ c.loop-at.invariant (omega arith) c.operator_at-operator.ensures c.requires.indexed.0 c.requires.indexed.1

pub loop-at-preserved : goal.loop-at-preserved
loop-at-preserved c =
    let n = needed _ _ c.loop-at.invariant (omega arith) c.operator_at-operator.ensures in
    c.add_method.ensures _ n (c.add_nodes.ensures _ refl n (c.add_needs.ensures _ refl n c.loop-at.invariant))
