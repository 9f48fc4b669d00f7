-- Each number stands behind what is before it. Assumes nothing.
use Rattle.listing_main.proofs.LineTexts.{line_is}
use Rattle.listing_main.proofs.line.put_line.Goals as goal

pub returns-clause-text : goal.returns-clause-text
returns-clause-text c =
    rw (← c.from.ensures, ← c.from-2.ensures, ← c.from-3.ensures, ← c.from-4.ensures)
    (line_is _ _ _ _ _ c.put_blanks-indented.ensures.text c.put-first.ensures.text c.put-second.ensures.text c.put.ensures.text)
