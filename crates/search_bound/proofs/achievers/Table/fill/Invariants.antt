-- The first actions are noted. Assumes nothing.
use Rattle.hgn.specs.Shop.{domain}
use Rattle.search_bound.proofs.OnlyAchieved.{AchievedTo}
use Rattle.search_bound.proofs.achievers.Table.fill.Given as goal

abbrev pub invariant-loop-operator : goal.invariant-loop-operator
invariant-loop-operator l = AchievedTo (domain l.shop) l.operator l.self.entries
