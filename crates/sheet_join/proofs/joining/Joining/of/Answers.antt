-- The sizes of both orders give those of the joined sheet. Assumes nothing.
use Prim.Native.Nat.{ℕ, ◌+◌, ◌*◌, ◌≤◌}
use native.Mathlib.Omega.{arith}
use mathlib.Core.Path.{ap₂, ◌∙◌}
use mathlib.Core.List.{List}
use Rattle.hgn.specs.Order.{most_goals, order_rows}
use Rattle.sheet_join.specs.Joinings.{FirstGoal}
use Rattle.sheet_check.proofs.Orders.{few_goals}
use Rattle.sheet_join.proofs.Orders.{sheet_holds, rows_laid}
use Rattle.sheet_join.proofs.Counted.{few_new, inside, rows_come}
use Rattle.sheet_join.proofs.joining.Joining.of.Goals as goal

pub first_goal-from-requires : goal.first_goal-from-requires
first_goal-from-requires c =
    let second : List ℕ = c.args.second.now in
    sheet_holds c.requires.shop second c.requires.second_passes c.layout.result c.layout.ensures.0 (c.layout.ensures.1 ∙ c.of-two.ensures.rows)

pub overflow_sub-kept : goal.overflow_sub-kept
overflow_sub-kept c =
    let first : List ℕ = c.args.first.now in
    let second : List ℕ = c.args.second.now in
    let from : FirstGoal (order_rows second) c.first_goal-from.result = rw (rows_laid c.requires.shop second c.requires.second_passes c.layout.result c.layout.ensures.0
    (c.layout.ensures.1 ∙ c.of-two.ensures.rows)) at c.first_goal-from.ensures in
    let from-inside : c.first_goal-from.result ≤ c.of-two.result.rows = omega (arith, inside c.requires.shop first second c.requires.first_passes c.requires.second_passes _ from, c.of-two.ensures.rows) in
    from-inside

pub overflow_mul-new : goal.overflow_mul-new
overflow_mul-new c =
    let first : List ℕ = c.args.first.now in
    let second : List ℕ = c.args.second.now in
    let new-few : c.of-two.result.goals * c.of-one.result.goals ≤ most_goals * most_goals = rw (c.of-two.ensures.goals, c.of-one.ensures.goals)
    (few_new c.requires.shop first second c.requires.first_passes c.requires.second_passes) in
    omega (arith, new-few)

pub overflow_add-result : goal.overflow_add-result
overflow_add-result c =
    let first : List ℕ = c.args.first.now in
    let second : List ℕ = c.args.second.now in
    omega (
      arith,
      few_goals c.requires.shop first c.requires.first_passes,
      few_goals c.requires.shop second c.requires.second_passes,
      c.of-two.ensures.goals,
      c.of-one.ensures.goals,
    )

pub overflow_add-result-3 : goal.overflow_add-result-3
overflow_add-result-3 c =
    let first : List ℕ = c.args.first.now in
    let second : List ℕ = c.args.second.now in
    let new-few : c.of-two.result.goals * c.of-one.result.goals ≤ most_goals * most_goals = rw (c.of-two.ensures.goals, c.of-one.ensures.goals)
    (few_new c.requires.shop first second c.requires.first_passes c.requires.second_passes) in
    omega (arith, new-few)

pub returns : goal.returns
returns c =
    let first : List ℕ = c.args.first.now in
    let second : List ℕ = c.args.second.now in
    let from : FirstGoal (order_rows second) c.first_goal-from.result = rw (rows_laid c.requires.shop second c.requires.second_passes c.layout.result c.layout.ensures.0
    (c.layout.ensures.1 ∙ c.of-two.ensures.rows)) at c.first_goal-from.ensures in
    let one = c.of-one.ensures in
    let two = c.of-two.ensures in
    record {
      atoms = one.atoms;
      before = one.goals;
      goals = ap₂ ◌+◌ one.goals two.goals;
      from = from;
      rows =
          rw (one.rows, two.rows, one.goals, two.goals)
          (rows_come c.requires.shop first second c.requires.first_passes c.requires.second_passes c.first_goal-from.result from);
    }
