-- A release, or another move. Assumes nothing.
use Rattle.search_pruning.proofs.Asked.{crowded_release, crowded_other}
use Rattle.search_pruning.proofs.rules.crowded.Goals as goal

pub returns-in-Release : goal.returns-in-Release
returns-in-Release c = crowded_release _ _ c.in-Release.is

pub returns-in_default : goal.returns-in_default
returns-in_default c = crowded_other _ _ _ c.in_default.not-Release
