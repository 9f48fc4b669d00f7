-- L at the first place, then its moves and its places (`Traces`). Assumes nothing.
use Prim.Native.Nat.{ℕ, ◌+◌, ◌<◌, ◌≤◌}
use native.Mathlib.Omega.{arith}
use mathlib.Core.Path.{◌≡◌, ap₂, sym, ◌∙◌}
use mathlib.Core.List.{List}
use lib.ListN.{length, set, length-set}
use lib.Seq.{length-take-le}
use Rattle.search.proofs.Traces.{moves_of, places_of, written_more, trace_is, steps_length, moves_length, places_length, move_at, place_at}
use Rattle.search.specs.declared.found.Step.{Step}
use Rattle.search.proofs.call.write_trace.Goals as goal

pub loop-i-preserved : goal.loop-i-preserved
loop-i-preserved c =
    let f = c.args.found in
    let long : f.length ≤ length f.steps.listed = omega (arith, c.well_formed.1.0.1.1.1.0.1.1.0.1.0.1, c.requires.1) in
    let m = moves_length f.length f.steps long in
    let p = places_length f.length f.steps long in
    let inside : c.loop-i.i < f.length = omega (arith, c.loop-i-test.true, length-take-le f.length f.steps.listed long) in
    let first : Step = record { mv = 0; place = record { 0 = 0 } } in
    let front = set c.args.room.now 0 f.length in
    ap₂ {C = List ℕ} (λ (a b : ℕ). set (set c.loop-i.room (1 + c.loop-i.i) a) (1 + f.length + c.loop-i.i) b)
    (sym (move_at f.length f.steps long c.loop-i.i first inside)) (sym (place_at f.length f.steps long c.loop-i.i first inside))
    ∙ written_more front (moves_of f.length f.steps) (places_of f.length f.steps) f.length c.loop-i.i c.loop-i.invariant inside
    (omega (arith, length-set c.args.room.now 0 f.length, c.requires.0)) (omega (arith, m)) (omega (arith, p))

pub returns : goal.returns
returns c =
    let f = c.args.found in
    let long : f.length ≤ length f.steps.listed = omega (arith, c.well_formed.1.0.1.1.1.0.1.1.0.1.0.1, c.requires.1) in
    let all : c.loop-i.i ≡ f.length = omega (arith, c.loop-i-test.false, c.loop-i.auto.i-end, length-take-le f.length f.steps.listed long) in
    record { written = rw all at c.loop-i.invariant ∙ trace_is f long c.args.room.now c.requires.0; whole = steps_length f.length f.steps long }
