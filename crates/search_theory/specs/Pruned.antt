-- The search of `Search` with the steps of `Rules` left out, by the depth, the places and the moves, as the code goes.
use Rattle.std.specs.Prelude.{ℕ, zero, suc, ◌+◌, ◌-◌, cond, leb, length, drop}
use mathlib.Core.List.{List, ◌∷◌, map, flatten}
use Rattle.std.proofs.Math.Option
use Rattle.std.proofs.Math.Option.{Option, none}
use Rattle.hgn.specs.Lists.{range, first_some}
use Rattle.hgn.specs.Meaning.{Domain}
use Rattle.hgn.specs.Network.{Waiting}
use Rattle.hgn.specs.Run.{Step, first_method, Problem, Rules, Stepped, refused, taken, stepped}
use Rattle.hgn.specs.Trace.{step}
use Rattle.hgn.specs.Search.{moves_of, steps_at, candidates, no_steps}
use Rattle.search_theory.specs.Rules.{left_out}

-- What is found behind a step: nothing where it is refused or left out. `next` searches on from the problem it leaves.
unfoldable pub behind : Rules → ℕ → Problem → Step → Problem → (Problem → Option (List Step)) → Step → Stepped → Option (List Step)
behind r left P₀ y P next x (refused q) = none
behind r left P₀ y P next x (taken deed P') = cond (left_out r left P₀ y P x P') none (Option.map (λ xs. x ∷ xs) (next P'))

-- The first trace of exactly so many steps, none left out, from step `n` and a problem. The step before was `y`, from `P₀`.
unfoldable pub pruned_of : ℕ → Rules → Problem → Step → ℕ → Problem → Option (List Step)
pruned_of zero r P₀ y n P = no_steps P.waiting
pruned_of (suc k) r P₀ y n P =
    first_some
    (λ x. behind r k P₀ y P (λ P'. pruned_of k r P x (suc n) P') x (stepped r n P x))
    (candidates r.domain P.waiting)

-- No step was before the first: a release at place 0 stands for it, which no step goes before.
abbrev pub no_step : Step
no_step = step 0 0

unfoldable pub pruned_shortest : ℕ → Rules → Problem → Option (List Step)
pruned_shortest depth r P = first_some (λ k. pruned_of k r P no_step 0 P) (range 0 (suc depth))

-- The move of place `i` in `moves_of`, which holds 0 to K and then the methods.
unfoldable pub move_at : Domain → ℕ → ℕ
move_at d i = cond (leb i (length d.actions)) i (first_method + (i - suc (length d.actions)))

-- The first found at place `p` from the move of place `i` on.
unfoldable pub moves_from : (Step → Option (List Step)) → Domain → ℕ → ℕ → Option (List Step)
moves_from f d p i = first_some f (map (λ m. step m p) (drop i (moves_of d)))

-- The first found from place `p` on.
unfoldable pub places_from : (Step → Option (List Step)) → Domain → List Waiting → ℕ → Option (List Step)
unfolding flatten
places_from f d w p = first_some f (flatten (map (steps_at d) (range p (length w - p))))
