-- A move's own questions, by its cases. Assumes nothing.
use Rattle.step.proofs.Decided.{of_release, of_action, of_method}
use Rattle.search.proofs.trial.ask_move.Goals as goal

pub returns-in-Release : goal.returns-in-Release
returns-in-Release c = of_release _ _ _ _ _ _ c.in-Release.is (c.ask_release.ensures _)

pub returns-in-Act : goal.returns-in-Act
returns-in-Act c = of_action _ _ _ _ _ c.action_part-rows.result _ c.in-Act.is c.action_part-rows.ensures c.ask_action.ensures

pub returns-in-Use : goal.returns-in-Use
returns-in-Use c = of_method _ _ _ _ _ _ c.in-Use.is c.ask_method.ensures
