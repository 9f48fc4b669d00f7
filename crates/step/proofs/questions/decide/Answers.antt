-- The questions are the definition's, but that 27 is not told from 28. Assumes nothing.
use Rattle.std.proofs.Common.{rules}
use Rattle.std.proofs.lemmas.Result.{err_from_is_err_and}
use Rattle.step.proofs.Decided.{decide_past, decide_unknown, read_known, decide_held, decide_takes, decide_refuses}
use Rattle.step.proofs.questions.decide.Goals as goal

pub returns-in_default : goal.returns-in_default
returns-in_default c P l = decide_past c.requires.0 _ c.args.load _ _ _ P l c.in_default.is c.by.result c.by.ensures

pub returns-in_default-read : goal.returns-in_default-read
returns-in_default-read c P l =
    decide_unknown c.requires.0 _ c.args.load _ _ _ P l c.in-Some.is c.word-actions.ensures c.word-methods.ensures
    c.in_default-read.ensures c.by-in_default-read.result c.by-in_default-read.ensures

pub returns-then-not-is_free : goal.returns-then-not-is_free
returns-then-not-is_free c P l =
    decide_held c.requires.0 _ c.args.load _ _ _ P l c.in-Some.is c.word-actions.ensures c.word-methods.ensures
    _ c.in-Some-read.ensures (search rules) c.by-then-not-is_free.result c.by-then-not-is_free.ensures

pub ask_move-requires-clause-known : goal.ask_move-requires-clause-known
ask_move-requires-clause-known c = (read_known c.args.shop.now _ _ _ c.word-actions.ensures c.word-methods.ensures _ c.in-Some-read.ensures, c.requires.1)

pub returns-in_err-ask_move : goal.returns-in_err-ask_move
returns-in_err-ask_move c P l =
    let p = err_from_is_err_and c.from_residual.result c.from_residual.ensures.1 in
    rw (p.1, p.2) (decide_refuses c.requires.0 _ c.args.load _ _ _ P l c.in-Some.is c.word-actions.ensures c.word-methods.ensures
    _ c.in-Some-read.ensures (search rules) c.in_err-ask_move.field-0.0 c.in_err-ask_move.ensures)

pub returns : goal.returns
returns c P l =
    decide_takes c.requires.0 _ c.args.load _ _ _ P l c.in-Some.is c.word-actions.ensures c.word-methods.ensures
    _ c.in-Some-read.ensures (search rules) c.requires.2 _ c.in_ok-ask_move.ensures
