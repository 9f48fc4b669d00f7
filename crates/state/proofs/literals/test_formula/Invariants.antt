-- The formula tells what the rows that are left do, after what holds so far and the first that was not as wanted (`told_from`). Assumes nothing.
use mathlib.Core.Path.{◌≡◌}
use Rattle.hgn.specs.Meaning.{node_of}
use Rattle.sheet_index.specs.Index.{rows_in, rows_left}
use Rattle.state.proofs.Tests.{goal_told}
use Rattle.state.proofs.Formulas.{told_from}
use Rattle.state.proofs.literals.test_formula.Given as goal

abbrev pub invariant-loop-tag : goal.invariant-loop-tag
invariant-loop-tag l =
    goal_told l.atoms (node_of (rows_in l.node)).formula ≡ told_from l.atoms l.so_far l.unmet (rows_left l.tag-iterator)
