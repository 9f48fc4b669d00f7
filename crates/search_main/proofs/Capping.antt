-- A search with a depth that is too deep answers alike, whichever the depth. Assumes nothing.
use Prim.Native.Nat.{ℕ, ◌<◌, ◌≤◌}
use native.Mathlib.Omega.{arith}
use mathlib.Core.Path.{◌≡◌, refl, sym, ap, ◌∙◌}
use mathlib.Core.Bool.{Bool, true, false}
use mathlib.Core.List.{List}
use lib.Dec.{leb}
use borrow.Author.Tests.{leb-true, leb-false, lt-leb}
use Rattle.hgn.specs.Questions.{Verdict, passed, refused, ◌asks◌}
use Rattle.hgn.specs.Lent.{unwritten}
use Rattle.hgn.specs.Order.{check_order}
use Rattle.hgn.specs.Search.{Searched, most_depth, search}
use Rattle.hgn.proofs.Search.Search.{search_refused, sheets_refused, depth_refused}
use Rattle.search_main.specs.Depths.{capped, CapChangesNothing}

module _ (shop sheet room : List ℕ) where
  -- The refusal of a sheet, or where the sheets pass that of the depth.
  abbrev refusal_by : Verdict → Searched
  refusal_by passed = unwritten room (41 asks false).failure.refusal
  refusal_by (refused q) = unwritten room q.refusal

  too_deep : (depth : ℕ) → most_depth < depth → (v : Verdict) → check_order shop sheet ≡ v → search shop sheet depth room ≡ refusal_by v
  too_deep depth h passed e = search_refused shop sheet depth room _ (depth_refused shop sheet depth room e (lt-leb depth most_depth h))
  too_deep depth h (refused q) e = search_refused shop sheet depth room q (sheets_refused shop sheet depth room q e)

pub cap_changes_nothing : CapChangesNothing
cap_changes_nothing shop sheet n room = go (leb n most_depth) refl
  where
    go : (t : Bool) → leb n most_depth ≡ t → search shop sheet (capped n) room ≡ search shop sheet n room
    go true e =
        let few : n ≤ most_depth = leb-true n most_depth e in
        let is : capped n ≡ n = omega arith in
        ap {B = Searched} (λ (d : ℕ). search shop sheet d room) is
    go false e =
        let deep : most_depth < n = leb-false n most_depth e in
        let v = check_order shop sheet in
        too_deep shop sheet room (capped n) (omega arith) v refl ∙ sym (too_deep shop sheet room n deep v refl)
