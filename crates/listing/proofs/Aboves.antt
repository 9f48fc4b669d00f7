-- How many goals stand above one, as they are met behind it. Assumes nothing.
use Prim.Native.Nat.{ℕ, suc, ◌+◌, ◌<◌, ◌≤◌}
use native.Mathlib.Omega.{arith}
use native.Mathlib.Numerals.{add-one}
use mathlib.Core.Path.{◌≡◌, sym, ap, ap₂, ◌∙◌}
use mathlib.Core.Bool.{true, false}
use mathlib.Core.List.{List, ◌∷◌}
use mathlib.Core.Option.{Option, none, some}
use lib.ListN.{length, drop, drop_of_length-le}
use lib.Seq.{drop-cons}
use Rattle.hgn.specs.Network.{Name, Waiting, same_name, is_parent, no_goal, goal_at, above_from, goals_above}
use Rattle.hgn.specs.Order as Sheet
use Rattle.hgn.proofs.Logic.Tests.{at_of_lt, same_name_true, same_name_refl, is_parent_iff, not_true_false, false_not_true}
use Rattle.hgn.proofs.Network.Above.{above_none, above_from_law}
use Rattle.hgn.proofs.Listing.Trees.{Any, reached_tree}
use Rattle.network.specs.Entries.{name_in, name_of, waiting_of}
use Rattle.network.specs.Goals.{count_in, entry_in, list_in}
use Rattle.network.specs.Reaching.{ListReached}
use Rattle.network.specs.declared.goals.Goals.{Goals}
use Rattle.network.specs.declared.waiting.Entry.{Entry}
use Rattle.network.proofs.WaitingGoals.{list_length, list_at}

-- A parent that stands first is found, and its own is looked for behind it; any other goal is passed.
above_found : (q : Waiting) (w : List Waiting) (o : Option Name) → is_parent q.name o ≡ true → above_from (q ∷ w) o ≡ suc (above_from w q.parent)
unfolding above_from
above_found q w o h = rw ((is_parent_iff q.name o).0 h, same_name_refl q.name)

above_passed : (q : Waiting) (w : List Waiting) (o : Option Name) → is_parent q.name o ≡ false → above_from (q ∷ w) o ≡ above_from w o
unfolding above_from
above_passed q w none h = sym (above_none w)
above_passed q w (some a) h =
    rw (not_true_false (same_name a q.name)
    (λ e. false_not_true (is_parent q.name (some a)) h ((is_parent_iff q.name (some a)).1 (ap {B = Option Name} some (same_name_true a q.name e)))))

-- On the way up from a goal: so many are found of those before place `at`, and behind it the parent of the last one found is looked for.
pub record Climbing (ws : Goals) (from : Entry) (at₀ : ℕ) (goal : Entry) (above at : ℕ) : Type 0 where
  pub few : above ≤ at
  pub rest : (shop order : List ℕ) → above + above_from (drop at (list_in shop order ws)) (waiting_of shop order goal).parent
      ≡ above_from (drop at₀ (list_in shop order ws)) (waiting_of shop order from).parent

module _ (ws : Goals) (from : Entry) (at₀ : ℕ) where
  pub climbing_start : Climbing ws from at₀ from 0 at₀
  climbing_start = record { few = omega arith; rest = λ shop order. omega arith }

  -- The goal at the next place is the parent that is looked for, or it is not.
  module _ (goal : Entry) (above at : ℕ) (v : Climbing ws from at₀ goal above at) (h : at < count_in ws) (other : Entry) (is : other ≡ entry_in ws at) where
    next : (shop order : List ℕ) → drop at (list_in shop order ws) ≡ waiting_of shop order other ∷ drop (at + 1) (list_in shop order ws)
    next shop order =
        drop-cons (list_in shop order ws) at no_goal (omega (arith, list_length shop order ws))
        ∙ ap₂ {C = List Waiting} (λ q k. q ∷ drop k (list_in shop order ws)) (list_at shop order ws at h ∙ ap (waiting_of shop order) (sym is)) (sym (add-one at))

    pub climbing_found : ((shop order : List ℕ) → true ≡ is_parent (name_of (name_in other)) (waiting_of shop order goal).parent)
        → Climbing ws from at₀ other (above + 1) (at + 1)
    unfolding waiting_of
    climbing_found e = record {
      few = omega (arith, v.few);
      rest = λ shop order.
          let w = drop (at + 1) (list_in shop order ws) in
          let met = ap (λ (l : List Waiting). above_from l (waiting_of shop order goal).parent) (next shop order) in
          let found = above_found (waiting_of shop order other) w (waiting_of shop order goal).parent (sym (e shop order)) in
          omega (arith, v.rest shop order, met, found);
    }

    pub climbing_passed : ((shop order : List ℕ) → false ≡ is_parent (name_of (name_in other)) (waiting_of shop order goal).parent)
        → Climbing ws from at₀ goal above (at + 1)
    unfolding waiting_of
    climbing_passed e = record {
      few = omega (arith, v.few);
      rest = λ shop order.
          let w = drop (at + 1) (list_in shop order ws) in
          let met = ap (λ (l : List Waiting). above_from l (waiting_of shop order goal).parent) (next shop order) in
          let passed = above_passed (waiting_of shop order other) w (waiting_of shop order goal).parent (sym (e shop order)) in
          omega (arith, v.rest shop order, met, passed);
    }

-- Behind the last goal nothing is left to look for, and what is found is all that stand above.
pub climbed : (ws : Goals) (p : ℕ) → p < count_in ws → {from goal : Entry} {above at : ℕ} → from ≡ entry_in ws p → Climbing ws from (p + 1) goal above at → count_in ws ≤ at
    → (shop order : List ℕ) (n : ℕ) → ListReached shop order n (list_in shop order ws) → above ≡ goals_above (list_in shop order ws) (goal_at (list_in shop order ws) p)
unfolding above_from
climbed ws p inside {from} {goal} {above} {at} is v h shop order n r =
    let w = list_in shop order ws in
    let q = goal_at w p in
    let tree = reached_tree (Sheet.order order) r.1.reached in
    let below : p < length w = omega (arith, list_length shop order ws) in
    let past : length w ≤ at = omega (arith, list_length shop order ws) in
    let end = ap (λ (l : List Waiting). above_from l (waiting_of shop order goal).parent) (drop_of_length-le w past) in
    let first = ap₂ {C = ℕ} (λ k (x : Waiting). above_from (drop k w) x.parent) (add-one p) (ap (waiting_of shop order) is ∙ sym (list_at shop order ws p inside)) in
    let all = above_from_law Any w p q tree.named.distinct tree.rooted (at_of_lt w p no_goal below) in
    omega (arith, v.rest shop order, end, first, all)
