-- The nodes are written, and are all that waits (`nodes_begun`). Assumes nothing.
use native.Mathlib.Omega.{arith}
use mathlib.Core.Path.{ap, ◌∙◌}
use mathlib.Core.List.{List}
use lib.ListN.{length, get_or, get_or-append}
use Rattle.sheet_index.proofs.NodeWalks.{walk_same}
use Rattle.network.specs.Goals.{nothing}
use Rattle.network.specs.declared.waiting.Waiting.{Waiting}
use Rattle.network.proofs.WaitingGoals.{nodes_begun, written_length}
use Rattle.network.proofs.goals.Goals.begin.Goals as goal

pub returns : goal.returns
returns c bs walk =
    let p = c.requires.walk in
    let w = c.write_nodes.ensures bs walk in
    let n = p.2 ∙ ap length (walk_same p.1 walk) in
    nodes_begun _ _ _ _ bs _ n
    (λ k h. get_or-append c.write_nodes.new.room _ nothing k (omega (arith, ap length w ∙ written_length _ _ _ _ bs)) ∙ ap (λ (l : List Waiting). get_or l k nothing) w)
