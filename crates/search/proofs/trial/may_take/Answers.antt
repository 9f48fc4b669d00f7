-- The move's own questions, then whether it changes anything. Assumes nothing.
use Rattle.sheet_rows.proofs.Laws.{told}
use Rattle.search.proofs.Trying.{taken_never, taken_if}
use Rattle.search.proofs.trial.may_take.Goals as goal

pub returns-else-is_ok : goal.returns-else-is_ok
returns-else-is_ok c =
    taken_never c.requires.indexed c.args.here.atoms.now c.args.here.goals.now c.args.choice c.requires.inside.0 c.requires.inside.1 c.requires.place_value c.entry_at-goal.ensures
    c.len.ensures _ c.ask_move.ensures (told c.is_ok.ensures.value c.if-is_ok.false) c.if-is_ok.false

pub returns-then-is_ok : goal.returns-then-is_ok
returns-then-is_ok c =
    taken_if c.requires.indexed c.args.here.atoms.now c.args.here.goals.now c.args.choice c.requires.inside.0 c.requires.inside.1 c.requires.place_value c.entry_at-goal.ensures
    c.len.ensures _ c.ask_move.ensures (told c.is_ok.ensures.value c.if-is_ok.true) c.has_no_effect.result c.has_no_effect.ensures
