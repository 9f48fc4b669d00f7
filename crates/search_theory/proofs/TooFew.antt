-- Accepted steps are never too few for the goals that wait. Assumes nothing.
use Prim.Native.Nat.{ℕ}
use mathlib.Core.Path.{◌≡◌, refl, ap}
use mathlib.Core.Bool.{Bool, true, false, not, ◌&&◌}
use mathlib.Core.List.{List}
use lib.ListN.{length}
use borrow.Author.Tests.{le-ltb, eqb-true}
use Rattle.hgn.specs.Run.{Step, Problem, Rules}
use Rattle.hgn.proofs.Logic.Tests.{false_or}
use Rattle.hgn.proofs.Search.Best.{Runs}
use Rattle.hgn.proofs.Search.Waits.{waits_at_most, waits_all_hold}
use Rattle.search_theory.specs.Rules.{too_few_left}

pub few_best : (r : Rules) (n : ℕ) (P : Problem) (xs : List Step) → Runs r n P xs → too_few_left (length xs) P ≡ false
unfolding too_few_left
few_best r n P xs h =
    false_or _ _ (le-ltb _ _ (waits_at_most r n P xs h)) (unless _ _ λ e. ap not (waits_all_hold r n P xs h (eqb-true _ _ e)))
  where
    unless : (a b : Bool) → (a ≡ true → b ≡ false) → (a && b) ≡ false
    unless true b h = h refl
    unless false b h = refl
