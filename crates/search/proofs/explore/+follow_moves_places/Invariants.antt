-- Behind a step there is one step fewer: 3 · left for what follows a step, one more for the move routine, two more for the place routine.
-- Each loop's invariant says that nothing was found so far, at every length that is covered. Assumes nothing.
use Rattle.std.proofs.Common.{◌+◌, ◌≡◌, ℕ}
use mathlib.Core.List.{List}
use mathlib.Core.Option.{Option}
use Rattle.hgn.specs.Shop.{domain}
use Rattle.hgn.specs.Run.{Problem, Step}
use Rattle.search_theory.specs.Pruned.{moves_from, places_from}
use Rattle.search.specs.Founds.{Covers}
use Rattle.search.specs.Trials.{problem_at}
use Rattle.search.proofs.Exploring.{found_by}
use Rattle.search.proofs.explore.+follow_moves_places.Given as goal

abbrev pub decreases-follow : goal.decreases-follow
decreases-follow l = l.node.left + l.node.left + l.node.left

abbrev pub decreases-moves : goal.decreases-moves
decreases-moves l = l.node.left + l.node.left + l.node.left + 1

abbrev pub decreases-places : goal.decreases-places
decreases-places l = l.node.left + l.node.left + l.node.left + 2

abbrev pub invariant-moves-loop-i : goal.invariant-moves-loop-i
invariant-moves-loop-i l =
    let F : ℕ → Step → Option (List Step) = found_by l.given.shop.now (problem_at l.given l.before) (problem_at l.given l.here) l.node in
    (k : ℕ) → Covers l.exhausted.0 l.node.left k → moves_from (F k) (domain l.given.shop.now) l.place.0 0 ≡ moves_from (F k) (domain l.given.shop.now) l.place.0 l.i

abbrev pub invariant-places-loop-i : goal.invariant-places-loop-i
invariant-places-loop-i l =
    let P : Problem = problem_at l.given l.here in
    let F : ℕ → Step → Option (List Step) = found_by l.given.shop.now (problem_at l.given l.before) P l.node in
    (k : ℕ) → Covers l.exhausted.0 l.node.left k → places_from (F k) (domain l.given.shop.now) P.waiting 0 ≡ places_from (F k) (domain l.given.shop.now) P.waiting l.i
