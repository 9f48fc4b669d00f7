-- Of the methods asked so far none has a node but the one found. Assumes nothing.
use Rattle.search_bound.proofs.OnlyMethods.{FoundTo, has_node}
use Rattle.search_bound.proofs.relevance.only_method.Given as goal

abbrev pub invariant-loop-method : goal.invariant-loop-method
invariant-loop-method l = FoundTo (has_node l.shop l.effects) l.method l.found
