-- The words in front are the trace's. Assumes nothing.
use Rattle.sheet_files.proofs.ByIndex.{filled_bytes}
use Rattle.search_main.specs.Printed.{trace_in}
use Rattle.search_main.proofs.answer.trace_bytes.Goals as goal

pub returns : goal.returns
unfolding trace_in
returns c = filled_bytes (rw c.from.ensures at c.front-trace.ensures) c.bytes_of.ensures
