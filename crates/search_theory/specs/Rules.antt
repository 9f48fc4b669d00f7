-- The steps that the search leaves out, one test for each reason. None stands on the first of the shortest traces: `proofs/` has a lemma
-- for each, so no reader needs to trust this.
use Rattle.std.specs.Prelude.{ℕ, Bool, true, false, not, ◌&&◌, ◌||◌, List, [], ◌∷◌, eqb, ltb, length, take}
use Rattle.std.specs.Bool.{beq}
use Rattle.hgn.specs.Lists.{any, all}
use Rattle.hgn.specs.Meaning.{Domain}
use Rattle.hgn.specs.State.{State, γ, all_hold, formula_holds}
use Rattle.hgn.specs.Network.{Waiting, free, goal_at}
use Rattle.hgn.specs.Run.{Step, Move, release, act, use_method, unknown, move_of, action_at, method_at, Problem, Rules}

-- Too few steps are left for the goals that wait: each takes a release, and one more step is wanted where one of them does not hold.
unfoldable pub too_few_left : ℕ → Problem → Bool
too_few_left left P =
    ltb left (length P.waiting)
    || (eqb left (length P.waiting) && not (all (λ g. formula_holds P.state g.formula) P.waiting))

-- The action may be taken for a free goal at a lower place too.
unfoldable pub lower_too : Rules → List Waiting → ℕ → Move → Bool
lower_too r w p (act k) = any (λ g. r.may_act (action_at r.domain k) g.formula && free w g) (take p w)
lower_too r w p release = false
lower_too r w p (use_method m) = false
lower_too r w p unknown = false

-- The action's effects hold already, so it leaves the state as it was.
unfoldable pub has_no_effect : Domain → State → Move → Bool
has_no_effect d s (act k) = all_hold s (action_at d k).effects
has_no_effect d s release = false
has_no_effect d s (use_method m) = false
has_no_effect d s unknown = false

-- What a move asks of the state at a goal: that it holds, or that the needs do.
unfoldable pub ready : Domain → State → Waiting → Move → Bool
ready d s g release = formula_holds s g.formula
ready d s g (act k) = all_hold s (action_at d k).needs
ready d s g (use_method m) = all_hold s (method_at d m).needs
ready d s g unknown = false

-- The state that a move leaves.
unfoldable pub state_after : Domain → State → Move → State
state_after d s (act k) = γ s (action_at d k).effects
state_after d s release = s
state_after d s (use_method m) = s
state_after d s unknown = s

unfoldable pub same_state : State → State → Bool
same_state [] [] = true
same_state [] (b ∷ t) = false
same_state (a ∷ s) [] = false
same_state (a ∷ s) (b ∷ t) = beq a b && same_state s t

-- Two moves, one after the other in either order, leave the same state. Only of two actions is that a question.
unfoldable pub commute : Domain → State → Move → Move → Bool
commute d s (act j) (act k) =
    same_state (state_after d (state_after d s (act k)) (act j)) (state_after d (state_after d s (act j)) (act k))
commute d s (act j) release = true
commute d s (act j) (use_method m) = true
commute d s (act j) unknown = true
commute d s release x = true
commute d s (use_method m) x = true
commute d s unknown x = true

unfoldable pub is_action : Move → Bool
is_action release = false
is_action (act k) = true
is_action (use_method m) = false
is_action unknown = false

-- Step `x` after step `y` would come earlier in the order on traces if it were taken first: at a lower place, or both actions at one
-- place, the lower first.
unfoldable pub is_earlier : Domain → Step → Step → Bool
is_earlier d y x =
    ltb x.place y.place
    || (eqb x.place y.place && (ltb x.move y.move && (is_action (move_of d x.move) && is_action (move_of d y.move))))

-- Step `x`, taken after step `y` from the problem `P`, could have been taken before it with the same result: it goes first, its goal was
-- free, both ask nothing that fails in that order, and the state comes out the same.
unfoldable pub commutes_with_last : Domain → Problem → Step → Step → Bool
commutes_with_last d P y x =
    is_earlier d y x
    && (free P.waiting (goal_at P.waiting x.place)
    && (ready d P.state (goal_at P.waiting x.place) (move_of d x.move)
    && (ready d (state_after d P.state (move_of d x.move)) (goal_at P.waiting y.place) (move_of d y.move)
    && commute d P.state (move_of d y.move) (move_of d x.move))))

-- The step `x` from `P` to `P'`, with so many steps left after it, is left out. The step before it was `y`, from `P₀`.
unfoldable pub left_out : Rules → ℕ → Problem → Step → Problem → Step → Problem → Bool
left_out r left P₀ y P x P' =
    has_no_effect r.domain P.state (move_of r.domain x.move)
    || (lower_too r P.waiting x.place (move_of r.domain x.move)
    || (too_few_left left P'
    || commutes_with_last r.domain P₀ y x))
