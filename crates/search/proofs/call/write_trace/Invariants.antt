-- After `i` turns the first `i` moves and places are written. Assumes nothing.
use mathlib.Core.Path.{◌≡◌}
use Rattle.search.proofs.Traces.{moves_of, places_of, written}
use Rattle.search.proofs.call.write_trace.Given as goal

abbrev pub invariant-loop-i : goal.invariant-loop-i
invariant-loop-i l =
    l.room ≡ written l.initial.room (moves_of l.count l.fn.found.steps) (places_of l.count l.fn.found.steps) l.count l.i
