-- Each way that the call ends is one of `Calls`. Assumes nothing.
use native.Mathlib.Omega.{arith}
use Rattle.std.proofs.lemmas.Result.{err_from_is_err_and}
use Rattle.search.proofs.Calls.{sheet_refused, sheet_passes, too_deep, room_short}
use Rattle.search.proofs.call.search.Goals as goal

pub returns-in_err-check_order : goal.returns-in_err-check_order
returns-in_err-check_order c =
    let a = c.args in
    let p = err_from_is_err_and c.from_residual.result c.from_residual.ensures.1 in
    rw (p.1, p.2) (sheet_refused _ _ a.depth a.room.now _ c.in_err-check_order.ensures)

pub returns-then-depth-gt-MOST : goal.returns-then-depth-gt-MOST
returns-then-depth-gt-MOST c =
    let a = c.args in
    let passes = sheet_passes _ _ a.depth a.room.now c.in_ok-check_order.ensures in
    too_deep _ _ _ _ passes (omega (arith, c.if-depth-gt-MOST.true)) c.by.result c.by.ensures

pub returns-then-room-depth : goal.returns-then-room-depth
returns-then-room-depth c =
    let a = c.args in
    let passes = sheet_passes _ _ a.depth a.room.now c.in_ok-check_order.ensures in
    room_short _ _ _ _ passes (omega (arith, c.if-depth-gt-MOST.false)) (omega (arith, c.if-room-depth.true)) c.by-then-room-depth.result c.by-then-room-depth.ensures

pub find-requires : goal.find-requires
find-requires c =
    let a = c.args in
    record {
      passes = (sheet_passes _ _ a.depth a.room.now c.in_ok-check_order.ensures, omega (arith, c.if-depth-gt-MOST.false));
      fits = omega (arith, c.if-depth-gt-MOST.false, c.if-room-depth.false);
    }
