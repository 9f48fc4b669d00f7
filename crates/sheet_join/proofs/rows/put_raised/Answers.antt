-- What a row becomes is put by its tag. Assumes nothing.
use native.Mathlib.Omega.{arith}
use mathlib.Core.Path.{ap, ◌∙◌}
use lib.ListN.{length}
use Rattle.hgn.specs.Rows.{row}
use Rattle.sheet_check.proofs.Puts.{length_put}
use Rattle.sheet_join.proofs.Raising.{raised_some, node_length, put_after, put_other, put_node}
use Rattle.sheet_join.proofs.rows.put_raised.Goals as goal

pub overflow_add-before : goal.overflow_add-before
overflow_add-before c = omega (arith, c.requires.names_goal c.if-tag-eq-AFTER.true)

pub put-requires : goal.put-requires
put-requires c = (omega (arith, raised_some c.args.before (row c.args.tag c.args.value)), c.requires.room_for.enough)

pub returns-then-tag-eq-AFTER : goal.returns-then-tag-eq-AFTER
returns-then-tag-eq-AFTER c = put_after _ _ _ _ _ _ _ c.if-tag-eq-AFTER.true c.put.ensures

pub put-requires-2 : goal.put-requires-2
put-requires-2 c = (omega (arith, raised_some c.args.before (row c.args.tag c.args.value)), c.requires.room_for.enough)

pub put_afters-requires : goal.put_afters-requires
put_afters-requires c =
    let long = length_put c.args.into.sizes c.args.into.rows c.args.at (row c.args.tag c.args.value) c.args.room.now in (
      record { few_rows = c.requires.room_for.few_rows; enough = omega (arith, ap length c.put-2.ensures ∙ long, c.requires.room_for.enough) },
      omega (arith, c.requires.fits, node_length c.args.before c.args.tag c.args.value c.if-tag-eq-NODE.true),
    )

pub returns-then-tag-eq-NODE : goal.returns-then-tag-eq-NODE
returns-then-tag-eq-NODE c = put_node _ _ _ _ _ _ _ c.if-tag-eq-NODE.true c.put-2.ensures c.put_afters.ensures

pub returns : goal.returns
returns c = put_other _ _ _ _ _ _ _ c.if-tag-eq-AFTER.false c.if-tag-eq-NODE.false c.put-2.ensures
