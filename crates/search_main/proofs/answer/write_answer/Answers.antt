-- The line is that of the search's answer, and the file that of its room. Assumes nothing.
use Rattle.std.proofs.Common.{refl}
use Rattle.sheet_rows.proofs.Laws.{numbered}
use Rattle.sheet_files.proofs.ByIndex.{front_of_filled}
use Rattle.sheet_files.proofs.Answered.{answered_refused, answered_written}
use Rattle.search_main.specs.Printed.{printed, trace_in, trace_file}
use Rattle.search_main.proofs.answer.write_answer.Goals as goal

pub returns-in-Ok : goal.returns-in-Ok
unfolding printed trace_file
returns-in-Ok c =
    answered_written c.in-Ok.ensures (λ s. trace_in s.refusal.place s.room) refl c.put_accepted-end.ensures (front_of_filled c.trace_bytes-size.ensures refl)

pub returns-in-Err : goal.returns-in-Err
unfolding printed
returns-in-Err c = answered_refused c.in-Err.ensures (numbered c.in-Err.refusal.question) c.put_refusal-end.ensures
