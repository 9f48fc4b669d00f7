-- What is written is the search's answer. Assumes nothing.
use Rattle.capi.proofs.Leaving.{lent_left}
use Rattle.capi.proofs.hgn_search_2.Goals as goal

pub returns : goal.returns
returns c = lent_left c.search.ensures c.found_words.ensures
