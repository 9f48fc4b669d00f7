-- The questions are the definition's, in its order. Assumes nothing.
use mathlib.Core.Path.{sym, ◌∙◌}
use Rattle.search_pruning.proofs.Swaps.{not_earlier, not_free_then, commutes_asked}
use Rattle.search_pruning.proofs.rules.commutes_with_last.Goals as goal
use Rattle.search_pruning.proofs.rules.commutes_with_last.Goals.{then-is_earlier, else-is_earlier}

pub returns-then-is_free : goal.returns-then-is_free
returns-then-is_free c =
    let r = c.requires in
    elim c.if-is_earlier.branch [
      | then-is_earlier w ↦
          commutes_asked r.indexed.0 _ r.indexed.1 c.args.last c.args.choice r.indexed.2 r.known.0 r.known.1 c.is_earlier.ensures
          w.if-is_earlier.true w.is_free.ensures (sym w.value-is ∙ c.if-is_free.true) c.swap_ready.ensures
      | else-is_earlier w ↦ absurd cc
    ]

pub returns-else-is_free : goal.returns-else-is_free
returns-else-is_free c =
    let r = c.requires in
    c.if-is_free.false
    ∙ elim c.if-is_earlier.branch [
      | then-is_earlier w ↦
          not_free_then r.indexed.0 _ r.indexed.1 c.args.last c.args.choice r.indexed.2 r.known.0 r.known.1 c.is_earlier.ensures
          w.if-is_earlier.true w.is_free.ensures (sym w.value-is ∙ c.if-is_free.false)
      | else-is_earlier w ↦
          not_earlier r.indexed.0 _ r.indexed.1 c.args.last c.args.choice r.indexed.2 r.known.0 r.known.1 c.is_earlier.ensures w.if-is_earlier.false
    ]
