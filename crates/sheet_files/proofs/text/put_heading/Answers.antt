-- Each number stands behind the one before it. Assumes nothing.
use Rattle.sheet_files.proofs.Texts.{heading_is}
use Rattle.sheet_files.proofs.text.put_heading.Goals as goal

pub returns-clause-text : goal.returns-clause-text
returns-clause-text c =
    heading_is _ _ _ _ _ c.put-first.ensures.text c.put-second.ensures.text c.put-third.ensures.text c.put-fourth.ensures.text c.put.ensures.text
