-- A replay that accepts tells no refusal. Assumes nothing.
use mathlib.Core.Path.{sym, ap}
use Rattle.hgn.specs.Replay.{Replayed}
use Rattle.cases_main.proofs.listed.write.Goals as goal

pub write_accepted-requires : goal.write_accepted-requires
write_accepted-requires g c = (_, sym (ap (λ (r : Replayed). r.answer.refusal.number) c.in-Ok.ensures))
