-- What is found is written, or 43 is told (`Calls`). Assumes nothing.
use Rattle.search.proofs.Calls.{no_trace, trace_found}
use Rattle.search.proofs.call.find.Goals as goal

pub returns-in_default : goal.returns-in_default
returns-in_default c =
    no_trace _ _ _ _ c.requires.passes.0 c.requires.passes.1 c.requires.fits c.in_default.ensures.0 c.by.result c.by.ensures

pub returns : goal.returns
returns c =
    let w = c.write_trace.ensures in
    trace_found _ _ _ _ c.requires.passes.0 c.requires.passes.1 c.requires.fits c.in-Some.found c.in-Some.ensures.0 w.whole
    c.write_trace.new.room w.written
