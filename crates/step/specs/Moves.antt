-- The code's moves, as the definitions have them. Document 01, "How a derivation runs".
use Rattle.std.specs.Prelude.{ℕ, Option, Some, None, ◌+◌, ◌-◌, ◌<◌, ◌≤◌, cond, ◌&&◌, eqb, leb, ltb}
use Rattle.hgn.specs.Run as Run
use Rattle.hgn.specs.Run.{first_method}
use Rattle.step.specs.declared.moves.Move.{Move}
use Rattle.step.specs.declared.moves.Move.TheVariants.{Release, Act, Use}

abbrev pub known_of : Move → Run.Move
known_of Release = Run.release
known_of (Act k) = Run.act k
known_of (Use m) = Run.use_method m

-- What a number was read as: a number that is no move's stands for an unknown move.
abbrev pub read_of : Option Move → Run.Move
read_of (Some m) = known_of m
read_of None = Run.unknown

-- `Run.move_of` for a domain with so many actions and methods.
unfoldable pub move_read : ℕ → ℕ → ℕ → Run.Move
move_read n actions methods =
    cond (eqb n 0) Run.release
    (cond (leb n actions) (Run.act n)
    (cond (leb first_method n && ltb n (first_method + methods)) (Run.use_method (n - first_method))
    Run.unknown))

-- A known move is within the sheet's numbers of actions and methods.
abbrev pub Known : ℕ → ℕ → Move → Type 0
Known actions methods Release = Unit {0}
Known actions methods (Act k) = (1 ≤ k) × (k ≤ actions)
Known actions methods (Use m) = m < methods
