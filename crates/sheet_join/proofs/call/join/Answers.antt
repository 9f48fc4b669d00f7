-- Each way that the call ends is one of `Calls`. Assumes nothing.
use Prim.Native.Nat.{ℕ, ◌+◌, ◌*◌, ◌≤◌}
use native.Mathlib.Omega.{arith}
use mathlib.Core.Path.{◌≡◌}
use mathlib.Core.List.{List}
use lib.ListN.{length}
use Rattle.std.proofs.lemmas.Result.{err_from_is_err_and}
use Rattle.hgn.specs.Questions.{passed, first_no}
use Rattle.hgn.specs.JoinSheet.{sheet_questions}
use Rattle.hgn.specs.Rows.{most_rows}
use Rattle.hgn.specs.Order.{most_goals, size_words}
use Rattle.sheet_join.proofs.Calls.{sheet_refused, sheets_pass, pass_with_one, goals_many, rows_many, room_short, writable, join_written}
use Rattle.sheet_join.proofs.call.join.Goals as goal

pub returns-in_err-ask_sheets : goal.returns-in_err-ask_sheets
returns-in_err-ask_sheets c =
    let p = err_from_is_err_and c.from_residual.result c.from_residual.ensures.1 in
    rw (p.1, p.2) (sheet_refused _ _ _ _ c.in_err-ask_sheets.field-0.0 c.in_err-ask_sheets.ensures)

pub of-joining-requires : goal.of-joining-requires
of-joining-requires c =
    let shop : List ℕ = c.args.shop.now in
    let first : List ℕ = c.args.first.now in
    let second : List ℕ = c.args.second.now in
    let room : List ℕ = c.args.room.now in
    let passes : first_no (sheet_questions shop first second) ≡ passed = sheets_pass shop first second room c.in_ok-ask_sheets.ensures in
    pass_with_one shop first second room passes

pub returns-then-joining-gt-MOST_GOALS : goal.returns-then-joining-gt-MOST_GOALS
returns-then-joining-gt-MOST_GOALS c =
    let shop : List ℕ = c.args.shop.now in
    let first : List ℕ = c.args.first.now in
    let second : List ℕ = c.args.second.now in
    let room : List ℕ = c.args.room.now in
    let passes : first_no (sheet_questions shop first second) ≡ passed = sheets_pass shop first second room c.in_ok-ask_sheets.ensures in
    goals_many shop first second room passes c.of-joining.result c.of-joining.ensures (omega arith) c.by.result c.by.ensures

pub returns-then-joining : goal.returns-then-joining
returns-then-joining c =
    let shop : List ℕ = c.args.shop.now in
    let first : List ℕ = c.args.first.now in
    let second : List ℕ = c.args.second.now in
    let room : List ℕ = c.args.room.now in
    let passes : first_no (sheet_questions shop first second) ≡ passed = sheets_pass shop first second room c.in_ok-ask_sheets.ensures in
    rows_many shop first second room passes c.of-joining.result c.of-joining.ensures (omega arith) (omega arith) c.by-then-joining.result c.by-then-joining.ensures

pub returns-then-room-joining : goal.returns-then-room-joining
returns-then-room-joining c =
    let shop : List ℕ = c.args.shop.now in
    let first : List ℕ = c.args.first.now in
    let second : List ℕ = c.args.second.now in
    let room : List ℕ = c.args.room.now in
    let passes : first_no (sheet_questions shop first second) ≡ passed = sheets_pass shop first second room c.in_ok-ask_sheets.ensures in
    room_short shop first second room passes c.of-joining.result c.of-joining.ensures (omega arith) (omega arith) (omega arith) c.by-then-room-joining.result
    c.by-then-room-joining.ensures

pub write-requires : goal.write-requires
write-requires c =
    let shop : List ℕ = c.args.shop.now in
    let first : List ℕ = c.args.first.now in
    let second : List ℕ = c.args.second.now in
    let room : List ℕ = c.args.room.now in
    let passes : first_no (sheet_questions shop first second) ≡ passed = sheets_pass shop first second room c.in_ok-ask_sheets.ensures in
    let few_goals : c.of-joining.result.goals ≤ most_goals = omega arith in
    let few_rows : c.of-joining.result.rows ≤ most_rows = omega arith in
    let enough : size_words + 2 * c.of-joining.result.rows ≤ length room = omega arith in
    writable shop first second room passes c.of-joining.result c.of-joining.ensures few_goals few_rows enough

pub returns : goal.returns
returns c =
    let shop : List ℕ = c.args.shop.now in
    let first : List ℕ = c.args.first.now in
    let second : List ℕ = c.args.second.now in
    let room : List ℕ = c.args.room.now in
    let passes : first_no (sheet_questions shop first second) ≡ passed = sheets_pass shop first second room c.in_ok-ask_sheets.ensures in
    let few_goals : c.of-joining.result.goals ≤ most_goals = omega arith in
    let few_rows : c.of-joining.result.rows ≤ most_rows = omega arith in
    let enough : size_words + 2 * c.of-joining.result.rows ≤ length room = omega arith in
    join_written shop first second room passes c.of-joining.result c.of-joining.ensures few_goals few_rows enough c.write.new.room c.write.ensures
