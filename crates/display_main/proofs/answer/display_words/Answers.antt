-- A check that refuses nothing has passed; of one that refuses, nothing is shown. Assumes nothing.
use Rattle.display_main.proofs.Checks.{order_passes}
use Rattle.display_main.proofs.ShownTexts.{writes_nothing}
use Rattle.display_main.proofs.answer.display_words.Goals as goal

pub write_moments-requires : goal.write_moments-requires
write_moments-requires g c = order_passes _ _ c.in-Ok.ensures

pub returns-in-Err : goal.returns-in-Err
returns-in-Err g c = writes_nothing _ _ _ _ c.in-Err.ensures
