-- Some goal's count is 0, or none is. Assumes nothing.
use Rattle.network.proofs.WaitingGoals.{found_free}
use Rattle.network.proofs.goals.Goals.any_free.Goals as goal

pub returns : goal.returns
returns c shop order counted = found_free shop order c.args.self.now counted _ c.has_free.ensures
