-- The goals from the place on move up, the nodes enter, and the goal comes after each of them (`goals_decomposed`). Assumes nothing.
use Prim.Native.Nat.{ℕ, ◌+◌, ◌-◌, ◌≤◌}
use native.Mathlib.Omega.{arith}
use mathlib.Core.Path.{◌≡◌, refl, sym, ap, ◌∙◌}
use mathlib.Core.List.{List}
use lib.ListN.{length, get_or}
use Rattle.sheet_index.specs.Tables.{MethodAt}
use Rattle.sheet_index.proofs.OperatorRows.{method_size}
use Rattle.network.specs.Goals.{nothing}
use Rattle.network.specs.declared.waiting.Waiting.{Waiting}
use Rattle.network.proofs.WaitingGoals.{written_length, goals_decomposed}
use Rattle.network.proofs.Moved.{entered_before, entered_nodes, entered_goal, entered_here, entered_behind}
use Rattle.network.proofs.goals.Goals.decompose.Goals as goal

pub copy_within-requires-clause-dest_in_bounds : goal.copy_within-requires-clause-dest_in_bounds
copy_within-requires-clause-dest_in_bounds c =
    let at : MethodAt c.args.shop.now c.args.order.now c.args.tables.now c.args.method c.method_rows-rows.result = c.method_rows-rows.ensures _ c.requires.indexed.0 in
    let number : c.nodes_between-nodes.result.count ≡ length at.bs = (c.nodes_between-nodes.ensures at.bs at.walk).number in
    let fits : (c.args.place.0 + c.nodes_between-nodes.result.count) + (c.args.self.now.count - c.args.place.0) ≤ length c.args.self.now.entries =
    omega (arith, number, method_size at, c.requires.within.0, c.requires.within.1, c.args.self.now.whole) in
    fits

pub returns : goal.returns
returns c =
    let ix = c.requires.indexed.0 in
    let at : MethodAt c.args.shop.now c.args.order.now c.args.tables.now c.args.method c.method_rows-rows.result = c.method_rows-rows.ensures _ c.requires.indexed.0 in
    let more : ℕ = c.nodes_between-nodes.result.count in
    let number : c.nodes_between-nodes.result.count ≡ length at.bs = (c.nodes_between-nodes.ensures at.bs at.walk).number in
    let p : ℕ = c.args.place.0 in
    let inside = c.requires.within.0 in
    let fits : c.args.self.now.count + c.nodes_between-nodes.result.count ≤ length c.args.self.now.entries =
    omega (arith, number, method_size at, c.requires.within.1, c.args.self.now.whole) in
    let m = c.copy_within.ensures.by_index in
    let r = c.copy_within.new.self in
    let size = c.copy_within.ensures.len in
    let room = c.write_nodes.new.room in
    let w = c.write_nodes.ensures at.bs at.walk in
    let long : length c.write_nodes.new.room ≡ c.nodes_between-nodes.result.count = ap length w ∙ written_length _ _ _ _ at.bs ∙ sym number in
    goals_decomposed ix c.requires.indexed.1 at (record { step = c.args.number; method = c.args.method; parent = c.name.result }) p c.args.self.now _ inside refl c.name.ensures more number refl
    (entered_before c.args.self.now p more inside fits r size m.0 m.1 room long (p + more) refl _)
    (λ k h. entered_nodes c.args.self.now p more inside fits r size m.0 m.1 room long (p + more) refl _ k h ∙ ap (λ (l : List Waiting). get_or l k nothing) w)
    (ap (λ (x : Waiting). x.goal) (entered_here c.args.self.now p more inside fits r size m.0 m.1 room long (p + more) refl _)
    ∙ ap (λ (x : Waiting). x.goal) (entered_goal c.args.self.now p more inside fits r size m.0 m.1 room long (p + more) refl))
    (ap (λ (x : Waiting). x.pending) (entered_here c.args.self.now p more inside fits r size m.0 m.1 room long (p + more) refl _))
    (entered_behind c.args.self.now p more inside fits r size m.0 m.1 room long (p + more) refl _)
    c.requires.list_reached.0 c.requires.list_reached.1 c.requires.place_value
