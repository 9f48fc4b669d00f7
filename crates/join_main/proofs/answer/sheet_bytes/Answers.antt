-- The words in front are those of the sheet. Assumes nothing.
use Rattle.sheet_files.proofs.ByIndex.{filled_bytes}
use Rattle.join_main.proofs.Answering.{sheet_is}
use Rattle.join_main.proofs.answer.sheet_bytes.Goals as goal

pub returns : goal.returns
returns c = filled_bytes (sheet_is _ (rw c.from.ensures at c.front-sheet.ensures) c.of-sizes.ensures.rows) c.bytes_of.ensures
