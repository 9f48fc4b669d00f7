-- The sheets of an accepted trace pass. Assumes nothing.
use Rattle.cases_main.proofs.Accepted.{accepted_order}
use Rattle.cases_main.proofs.listed.write_accepted.Goals as goal

pub of-start-requires : goal.of-start-requires
of-start-requires g c = accepted_order _ _ _ c.requires
