-- The line is that of the join's answer, and the file that of its room. Assumes nothing.
use Rattle.std.proofs.Common.{refl}
use Rattle.hgn.specs.JoinSheet.{sheet_in}
use Rattle.sheet_rows.proofs.Laws.{numbered}
use Rattle.sheet_files.proofs.ByIndex.{front_of_filled}
use Rattle.sheet_files.proofs.Answered.{answered_refused, answered_written}
use Rattle.join_main.specs.Printed.{printed, order_file}
use Rattle.join_main.proofs.answer.write_join.Goals as goal

pub returns-in-Ok : goal.returns-in-Ok
unfolding order_file printed
returns-in-Ok c = answered_written c.in-Ok.ensures (λ l. sheet_in l.room) refl c.put_accepted-end.ensures (front_of_filled c.sheet_bytes-size.ensures refl)

pub returns-in-Err : goal.returns-in-Err
unfolding printed
returns-in-Err c = answered_refused c.in-Err.ensures (numbered c.in-Err.refusal.question) c.put_refusal-end.ensures
