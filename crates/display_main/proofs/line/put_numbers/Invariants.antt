-- The text holds what stood in front, then the numbers so far (`Numbers`). Assumes nothing.
use Rattle.display_main.proofs.LineTexts.{Numbers}
use Rattle.display_main.proofs.line.put_numbers.Given as goal

abbrev pub invariant-loop-number : goal.invariant-loop-number
invariant-loop-number l = Numbers l.others l.last l.initial.text l.text l.at l.end l.number-index
