-- Of a step that is given, fewer are left (`RowLaws`). Assumes nothing.
use Rattle.std.proofs.Common.{refl, sym}
use Rattle.trace_reader.proofs.RowLaws.{fewer_left}
use Rattle.trace_reader.proofs.reader.ReaderIterator.next.Goals as goal

pub returns-clause-goes : goal.returns-clause-goes
returns-clause-goes c = record {
  on = λ _. (tt, tt, fewer_left _ _ _ (sym c.in_ok-step.ensures.reads) refl refl refl refl);
  keeps = tt;
  rests = λ _. tt;
}
