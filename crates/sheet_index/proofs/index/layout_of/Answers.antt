-- The two sheets by cases; a word of a sheet is a 16-bit number. Assumes nothing.
use borrow.Author.Rules.{rules}
use Rattle.sheet_index.proofs.index.layout_of.Goals as goal

pub returns-in-Shop : goal.returns-in-Shop
returns-in-Shop c = (cc, search rules, search rules)

pub returns-in-Order : goal.returns-in-Order
returns-in-Order c = (cc, search rules, search rules)
