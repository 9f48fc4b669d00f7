-- The facts that the loop leaves. Assumes nothing.
use Prim.Native.Nat.{ℕ, ◌+◌, ◌<◌, ◌≤◌}
use native.Mathlib.Omega.{arith}
use mathlib.Core.Path.{◌≡◌, ap, ◌∙◌}
use mathlib.Core.List.{List, ◌++◌}
use lib.ListN.{length, get_or, length-append}
use Rattle.hgn.specs.Rows.{row}
use Rattle.hgn.specs.Questions.{passed}
use Rattle.hgn.specs.Order.{row_count, size_words, check_order}
use Rattle.hgn.specs.JoinSheet.{raised_row}
use Rattle.sheet_check.specs.declared.rows.Layout.{Layout}
use Rattle.sheet_join.proofs.Putting.{left_all, left_raised, left_none}
use Rattle.sheet_join.proofs.Orders.{sheet_holds, names_goal, raised_rest, raised_none}
use Rattle.sheet_join.proofs.rows.put_second.Goals as goal
use Rattle.sheet_join.proofs.rows.put_second.Invariants.{raised}

-- The second order's rows as they are laid out, and row `i` of them, read from the sheet.
module _ (shop second : List ℕ) (ok : check_order shop second ≡ passed) {from : Layout} (s : from.sizes ≡ size_words) (n : from.rows ≡ row_count second)
    {i : ℕ} (more : i < from.rows) {tag value : ℕ} (t : tag ≡ get_or second (from.sizes + i) 0) (v : value ≡ get_or second (from.sizes + from.rows + i) 0)
    (before : ℕ) where
  this_first : raised before second i ≡ raised_row before (row tag value) ++ raised before second (i + 1)
  this_first = raised_rest shop second ok from s n i more t v before

  fits_rest : (next : ℕ) {rows : ℕ} → next + length (raised before second i) ≤ rows
      → next + length (raised_row before (row tag value)) + length (raised before second (i + 1)) ≤ rows
  fits_rest next h = omega (arith, ap length this_first ∙ length-append (raised_row before (row tag value)) _)

pub loop-i-init : goal.loop-i-init
loop-i-init c = (c.requires.fits, left_all _ _ _ _ _)

pub tag-tag-requires : goal.tag-tag-requires
tag-tag-requires c =
    let rows = c.layout-from.ensures.1 ∙ c.of.ensures.rows in
    (c.loop-i-test.true, (sheet_holds _ _ c.requires.passes.1 c.layout-from.result c.layout-from.ensures.0 rows).enough)

pub value-value-requires : goal.value-value-requires
value-value-requires c =
    let rows = c.layout-from.ensures.1 ∙ c.of.ensures.rows in
    (c.loop-i-test.true, (sheet_holds _ _ c.requires.passes.1 c.layout-from.result c.layout-from.ensures.0 rows).enough)

pub put_raised-next-requires : goal.put_raised-next-requires
put_raised-next-requires c =
    let rows = c.layout-from.ensures.1 ∙ c.of.ensures.rows in
    let fits = fits_rest _ _ c.requires.passes.1 c.layout-from.ensures.0 rows c.loop-i-test.true c.tag-tag.ensures c.value-value.ensures c.args.joining.before
    c.loop-i.next c.loop-i.invariant.0 in
    record {
      room_for = record {
        few_rows = c.requires.room_for.few_rows;
        enough = omega (arith, c.loop-i.invariant.1.long, c.requires.room_for.enough);
      };
      fits = omega (arith, fits);
      few_before = c.requires.few_before;
      names_goal =
          names_goal _ _ c.requires.passes.1 c.layout-from.result c.layout-from.ensures.0 rows c.loop-i.i c.loop-i-test.true c.tag-tag.ensures
          c.value-value.ensures;
    }

pub loop-i-preserved : goal.loop-i-preserved
loop-i-preserved c =
    let rows = c.layout-from.ensures.1 ∙ c.of.ensures.rows in
    let first = this_first _ _ c.requires.passes.1 c.layout-from.ensures.0 rows c.loop-i-test.true c.tag-tag.ensures c.value-value.ensures c.args.joining.before in
    let fits = fits_rest _ _ c.requires.passes.1 c.layout-from.ensures.0 rows c.loop-i-test.true c.tag-tag.ensures c.value-value.ensures c.args.joining.before
    c.loop-i.next c.loop-i.invariant.0 in
    let r = c.put_raised-next in (
      omega (arith, r.ensures.1, fits),
      left_raised _ _ _ _ _ c.args.joining.before c.loop-i.next _ first c.loop-i.invariant.1 r.ensures.0 r.ensures.1,
    )

pub returns : goal.returns
returns c =
    let rows = c.layout-from.ensures.1 ∙ c.of.ensures.rows in
    left_none _ _ _ _ _ c.loop-i.next _ c.loop-i.invariant.1
    (raised_none _ _ c.requires.passes.1 c.args.joining.before c.loop-i.i (omega (arith, rows, c.loop-i-test.false)))
