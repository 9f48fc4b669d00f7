-- Each number stands behind what is before it (`Numbers`). Assumes nothing.
use Rattle.std.proofs.Common.{rules}
use lib.ListN.{take}
use Rattle.display_main.proofs.LineTexts.{numbers_more, numbers_all, numbers_without}
use Rattle.display_main.proofs.line.put_numbers.Goals as goal

pub returns-in_default-clause-text : goal.returns-in_default-clause-text
returns-in_default-clause-text c = numbers_without (take c.args.at c.args.text.now) _ c.in_default.ensures.cases

pub loop-number-preserved : goal.loop-number-preserved
loop-number-preserved c =
    numbers_more _ _ _ _ c.loop-number.invariant c.loop-number-test.true c.put-end.ensures.few (search rules) (rw c.from.ensures at c.put-end.ensures.text)

pub returns-clause-text : goal.returns-clause-text
returns-clause-text c =
    rw c.in-Some.ensures.cases.0
    (numbers_all _ _ _ _ _ _ c.loop-number.invariant c.loop-number-test.false (rw c.from-2.ensures at c.put.ensures.text))
