-- The text of the moments that the display program prints. Document 01, "How a derivation runs": "a stepping display moves one record of atoms and
-- waiting goals forward where it is held"; document 02, Req 03, for where a goal came from, and Req 01 for the atom that a refused step names.
use Rattle.std.specs.Prelude.{ℕ, suc, ◌+◌, ◌*◌, true, false, cond, List, [], ◌∷◌, ◌++◌, length}
use Rattle.hgn.specs.State.{State, most_atoms, no_atom}
use Rattle.hgn.specs.Network.{Waiting, most_waiting, step_number, method_number, free}
use Rattle.hgn.specs.Run.{Step, Problem, Stepped, refused, taken}
use Rattle.sheet_files.specs.Texts.{ended, blank, newline, number_bytes}

-- A line of numbers, one blank apart.
unfoldable pub numbers_text : List ℕ → List ℕ
numbers_text [] = []
numbers_text (n ∷ []) = ended newline n
numbers_text (n ∷ m ∷ ns) = ended blank n ++ numbers_text (m ∷ ns)

-- A line of three numbers, and one of four.
abbrev pub three_text : ℕ → ℕ → ℕ → List ℕ
three_text first second third = numbers_text (first ∷ second ∷ third ∷ [])

abbrev pub four_text : ℕ → ℕ → ℕ → ℕ → List ℕ
four_text first second third fourth = numbers_text (first ∷ second ∷ third ∷ fourth ∷ [])

-- The atoms that are true, by rising numbers, in a state whose first atom has number `i`.
unfoldable pub true_from : ℕ → State → List ℕ
true_from i [] = []
true_from i (true ∷ s) = i ∷ true_from (suc i) s
true_from i (false ∷ s) = true_from (suc i) s

abbrev pub true_atoms : State → List ℕ
true_atoms s = true_from 0 s

-- One number a line.
unfoldable pub number_lines : List ℕ → List ℕ
number_lines [] = []
number_lines (n ∷ ns) = ended newline n ++ number_lines ns

-- The line of a goal among those that wait: its number within its network, 1 if it is free and 0 if not, and the step and the method that brought
-- it in, 65535 twice of a goal of the order.
unfoldable pub goal_text : List Waiting → Waiting → List ℕ
goal_text w q = four_text q.name.number (cond (free w q) 1 0) (step_number q.source) (method_number q.source)

-- A line for each goal of a list, in its order.
unfoldable pub goals_text : List Waiting → List Waiting → List ℕ
goals_text w [] = []
goals_text w (q ∷ qs) = goal_text w q ++ goals_text w qs

-- The moment after so many steps: a line with that number, how many atoms are true and how many goals wait; the atoms; the goals, in the order of
-- their places.
unfoldable pub moment_text : ℕ → Problem → List ℕ
moment_text number P =
    three_text number (length (true_atoms P.state)) (length P.waiting) ++ number_lines (true_atoms P.state) ++ goals_text P.waiting P.waiting

-- The line of a step: its move, its place, the number of the question that refuses it, 0 where it is taken, and the atom that is not as wanted.
abbrev pub step_text : Step → ℕ → ℕ → List ℕ
step_text x answer atom = four_text x.move x.place answer atom

-- The text of what step `n` comes to: its line, and the moment after it where it is taken.
unfoldable pub turn_text : ℕ → Step → Stepped → List ℕ
turn_text n x (refused f) = step_text x f.refusal.number f.atom
turn_text n x (taken deed P) = step_text x 0 no_atom ++ moment_text (n + 1) P

-- Bytes enough for a line of three numbers, and for one of four.
abbrev pub three_bytes : ℕ
three_bytes = 3 * number_bytes

abbrev pub four_bytes : ℕ
four_bytes = 4 * number_bytes

-- Bytes enough for a moment, and for a step's line with the moment after it.
abbrev pub moment_bytes : ℕ
moment_bytes = three_bytes + number_bytes * most_atoms + four_bytes * most_waiting

abbrev pub turn_bytes : ℕ
turn_bytes = four_bytes + moment_bytes
