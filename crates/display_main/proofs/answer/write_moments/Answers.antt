-- The first moment, and behind it the steps of a trace that passes. Assumes nothing.
use Rattle.display_main.proofs.Checks.{trace_passes}
use Rattle.display_main.proofs.ShownTexts.{first_is, writes_first, writes_all}
use Rattle.display_main.proofs.answer.write_moments.Goals as goal

pub returns-in-Ok : goal.returns-in-Ok
returns-in-Ok g c =
    writes_all _ _ _ c.write_steps.result c.requires (trace_passes _ _ _ c.in-Ok.ensures)
    (first_is _ _ _ c.prepared-problem.ensures c.in_ok-bytes.ensures.text)
    c.write_steps.ensures

pub returns-in-Err : goal.returns-in-Err
returns-in-Err g c =
    writes_first _ _ _ _ c.requires c.in-Err.ensures
    (first_is _ _ _ c.prepared-problem.ensures c.in_ok-bytes.ensures.text)
