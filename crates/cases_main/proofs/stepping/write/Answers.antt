-- A check that refuses nothing has passed. Assumes nothing.
use Rattle.cases_main.proofs.Accepted.{order_passes}
use Rattle.cases_main.proofs.stepping.write.Goals as goal

pub write_checked-requires : goal.write_checked-requires
write_checked-requires g c = order_passes _ _ c.in-Ok.ensures
