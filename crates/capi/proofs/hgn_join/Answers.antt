-- What is written is the join's answer. Assumes nothing.
use Rattle.capi.proofs.Leaving.{lent_left}
use Rattle.capi.proofs.hgn_join.Goals as goal

pub returns : goal.returns
returns c = lent_left c.join.ensures c.passed_words.ensures
