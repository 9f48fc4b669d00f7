-- The method's nodes are asked one after the other. Assumes nothing.
use Rattle.search_bound.proofs.OnlyMethods.{method_told}
use Rattle.search_bound.proofs.relevance.method_has.Goals as goal

pub returns : goal.returns
returns c =
    let a = c.method_rows-rows.ensures _ c.requires.0 in
    method_told a _ (c.has_node_for.ensures a.bs a.walk)
