-- Each entry is the one that all are. Assumes nothing.
use Rattle.std.proofs.lemmas.List.{get_or-replicate}
use Rattle.search_bound.specs.Tables.{entries, index_of}
use Rattle.search_bound.proofs.OnlyAchieved.{index_fits}
use Rattle.search_bound.proofs.achievers.Table.empty.Goals as goal

pub returns : goal.returns
returns c l h = get_or-replicate entries (index_of l) _ _ (index_fits l h)
