-- The questions are the definition's, in its order. Assumes nothing.
use native.Mathlib.Omega.{arith}
use mathlib.Core.Path.{sym, ap, ◌∙◌}
use Rattle.hgn.specs.Questions.{answered}
use Rattle.sheet_check.proofs.Checks.{trace_short, trace_steps_no, trace_length_no, trace_passed}
use Rattle.sheet_check.proofs.check.ask_trace.Goals as goal

pub returns-then-trace-lt-SIZES : goal.returns-then-trace-lt-SIZES
returns-then-trace-lt-SIZES c = c.by.ensures ∙ ap answered (sym (trace_short _ c.if-trace-lt-SIZES.true))

pub returns-then-sizes-gt-MOST_STEPS : goal.returns-then-sizes-gt-MOST_STEPS
returns-then-sizes-gt-MOST_STEPS c = c.by-then-sizes-gt-MOST_STEPS.ensures ∙ ap answered (sym (trace_steps_no _ c.if-trace-lt-SIZES.false (omega arith)))

pub returns-then-trace-from : goal.returns-then-trace-from
returns-then-trace-from c =
    c.by-then-trace-from.ensures ∙ ap answered (sym (trace_length_no _ c.if-trace-lt-SIZES.false (omega arith)
    (λ e. c.if-trace-from.true (omega arith))))

pub returns : goal.returns
returns c = ap answered (sym (trace_passed _ c.if-trace-lt-SIZES.false (omega arith) (omega arith)))
