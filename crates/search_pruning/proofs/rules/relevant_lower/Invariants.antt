-- Whether a lower goal is free and wants the action is decided among the goals from `i` on. Assumes nothing.
use mathlib.Core.Path.{◌≡◌}
use mathlib.Core.Bool.{◌&&◌}
use lib.ListN.{take, drop}
use Rattle.hgn.specs.Lists.{any}
use Rattle.hgn.specs.Tag as Tag
use Rattle.hgn.specs.Meaning.{literals}
use Rattle.hgn.specs.State.{relevant}
use Rattle.hgn.specs.Network.{Waiting, free}
use Rattle.sheet_index.specs.Index.{rows_in}
use Rattle.network.specs.Goals.{list_in}
use Rattle.search_pruning.proofs.rules.relevant_lower.Given as goal

abbrev pub invariant-loop-i : goal.invariant-loop-i
invariant-loop-i l =
    let list = list_in l.shop l.order l.goals in
    let wants = λ (g : Waiting). relevant (literals Tag.makes_true Tag.makes_false (rows_in l.rows)) g.formula && free list g in
    any wants (take l.i-end list) ≡ any wants (drop l.i (take l.i-end list))
