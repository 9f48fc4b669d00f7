-- What is told before the step is what the step gives. Assumes nothing.
use Rattle.listing.proofs.Telling.{taken_told, refused_told}
use Rattle.listing.proofs.lines.take_step.Goals as goal

pub returns-in-Ok : goal.returns-in-Ok
returns-in-Ok c = taken_told _ _ _ _ _ c.args.waiting.now _ _ c.take.new.waiting c.requires.1 c.told_at-told.ensures c.in-Ok.ensures

pub returns-in-Err : goal.returns-in-Err
returns-in-Err c = refused_told _ _ _ _ _ c.args.waiting.now _ _ c.take.new.waiting c.in-Err.ensures.0
