-- The facts that the loop leaves. Assumes nothing.
use native.Mathlib.Omega.{arith}
use mathlib.Core.Path.{ap, ◌∙◌}
use lib.ListN.{length-set}
use Rattle.network.specs.declared.waiting.Entry.{Entry}
use Rattle.network.proofs.Writing.{writing_none, writing_ahead, writing_more, writing_all, afters_few}
use Rattle.network.proofs.entering.write_nodes.Goals as goal

pub loop-number-init : goal.loop-number-init
loop-number-init c = let p = c.requires in (p.walk.0, p.walk.1, p.walk.2, writing_none _ _ _ _ _ _ _ p.walk.1)

pub bounds-tables-row : goal.bounds-tables-row
bounds-tables-row c = let i = c.loop-number.invariant in (writing_ahead _ _ _ _ _ _ _ i.3 (omega (arith, c.loop-number-test.true, c.loop-number.auto.room)) i.2).inside

pub overflow_cast-node : goal.overflow_cast-node
overflow_cast-node c =
    let i = c.loop-number.invariant in
    let h = writing_ahead _ _ _ _ _ _ _ i.3 (omega (arith, c.loop-number-test.true, c.loop-number.auto.room)) i.2 in
    let e = c.node_entry-goal.ensures in
    let few = afters_few c.args.shop.now c.args.order.now c.node_entry-goal.result (omega (arith, ap (λ (e : Entry). e.rows.to.0) e, h.below, c.requires.few.1))
    (omega (arith, ap (λ (e : Entry). e.number) e, c.loop-number-test.true, c.requires.few.0)) in
    omega (arith, c.in_network.ensures, few)

pub loop-number-preserved : goal.loop-number-preserved
loop-number-preserved c =
    let i = c.loop-number.invariant in (
      i.0,
      i.1,
      length-set c.loop-number.room c.loop-number.number _ ∙ i.2,
      writing_more _ _ _ _ _ _ _ i.3 (omega (arith, c.loop-number-test.true, c.loop-number.auto.room)) i.2 c.node_entry-goal.ensures c.in_network.ensures,
    )

pub returns : goal.returns
returns c bs w = let i = c.loop-number.invariant in writing_all _ _ _ _ _ _ _ i.1 i.3 (omega (arith, c.loop-number-test.false, c.loop-number.auto.room)) i.2 w
