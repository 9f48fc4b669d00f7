-- The move is applied, by its cases. Assumes nothing.
use Rattle.step.proofs.TakenSteps.{applied_release, applied_action, applied_method}
use Rattle.step.proofs.taking.apply.Goals as goal

pub returns-in-Release : goal.returns-in-Release
returns-in-Release c = applied_release _ _ _ _ c.requires.indexed.1.valid _ c.args.choice c.in-Release.is c.leave.ensures

pub returns-in-Act : goal.returns-in-Act
returns-in-Act c = applied_action _ _ _ _ c.requires.indexed.1.valid _ c.args.choice c.in-Act.is c.act.ensures

pub returns-in-Use : goal.returns-in-Use
returns-in-Use c = applied_method _ _ _ _ c.requires.indexed.1.valid _ c.args.choice c.in-Use.is c.decompose.ensures
