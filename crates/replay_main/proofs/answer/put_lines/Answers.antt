-- Each turn puts a line behind the others. Assumes nothing.
use Rattle.std.proofs.Common.{rules}
use Rattle.replay_main.proofs.Lines.{lines_more, lines_all}
use Rattle.replay_main.proofs.answer.put_lines.Goals as goal

pub loop-action-preserved : goal.loop-action-preserved
loop-action-preserved c =
    lines_more _ _ _ _ _ _ _ _ c.loop-action.invariant c.loop-action-test.true c.put-end.ensures.few (search rules)
    (rw c.from.ensures at c.put-end.ensures.text)

pub returns : goal.returns
returns c = lines_all _ _ _ _ _ _ c.loop-action.invariant c.loop-action-test.false
