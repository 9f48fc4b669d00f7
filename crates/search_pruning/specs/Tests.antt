-- The code's moves and tests, as the rules have them.
use Rattle.std.specs.Prelude.{ℕ, ◌+◌, ◌-◌, Bool, false, cond, ◌&&◌, eqb, leb, ltb}
use Rattle.hgn.specs.Meaning.{Domain}
use Rattle.hgn.specs.State.{State}
use Rattle.hgn.specs.Network.{Waiting}
use Rattle.hgn.specs.Run as Run
use Rattle.hgn.specs.Run.{Step, first_method}
use Rattle.hgn.specs.Trace.{step}
use Rattle.step.specs.declared.moves.Move.{Move}
use Rattle.step.specs.declared.moves.Choice.{Choice}
use Rattle.step.specs.declared.moves.Move.TheVariants.{Release, Act, Use}
use Rattle.search_theory.specs.Rules.{ready, state_after, commute}

-- Move `i` of the known moves, with so many actions.
abbrev pub nth_move : ℕ → ℕ → Move
nth_move i actions = cond (eqb i 0) Release (cond (leb i actions) (Act i) (Use (i - actions - 1)))

abbrev pub move_number : Move → ℕ
move_number Release = 0
move_number (Act k) = k
move_number (Use m) = first_method + m

-- Both moves are actions, and the first has the lower number. No action has the number 0.
abbrev pub lower_action : Move → Move → Bool
lower_action (Act j) (Act k) = ltb 0 j && ltb j k
lower_action (Act j) Release = false
lower_action (Act j) (Use m) = false
lower_action Release y = false
lower_action (Use m) y = false

-- A choice, as a step of the definitions.
abbrev pub step_of : Choice → Step
step_of x = step (move_number x.mv) x.place.0

-- `is_earlier` of the rules: `x` would go before `y`.
abbrev pub earlier_choice : Choice → Choice → Bool
earlier_choice y x = cond (eqb x.place.0 y.place.0) (lower_action x.mv y.mv) (ltb x.place.0 y.place.0)

-- More goals wait after the move than the `left` steps after it. `count` goals wait before it.
unfoldable pub crowded : ℕ → ℕ → Run.Move → Bool
crowded left count Run.release = ltb (left + 1) count
crowded left count (Run.act k) = ltb left count
crowded left count (Run.use_method m) = ltb left count
crowded left count Run.unknown = ltb left count

-- What `commutes_with_last` asks of the state: the last move `y`, then `x`, in the other order.
abbrev pub swap_ready : Domain → State → Waiting → Run.Move → Waiting → Run.Move → Bool
swap_ready d s h y g x = ready d s g x && (ready d (state_after d s x) h y && commute d s y x)
