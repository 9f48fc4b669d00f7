-- Each test says whether the row's move and place are there (`RowLaws`). Assumes nothing.
use Rattle.std.proofs.Common.{ℕ, ◌+◌, ◌∙◌, sym, ap, ap₂, arith, get_or}
use Rattle.std.proofs.Math.Option.{Option, some}
use Rattle.hgn.specs.Run.{Step}
use Rattle.hgn.specs.Trace.{step}
use Rattle.trace_reader.proofs.RowLaws.{row_found, row_past_steps, row_past_words}
use Rattle.trace_reader.proofs.reader.step_at.Goals as goal

pub returns-then-at-steps-clause-reads : goal.returns-then-at-steps-clause-reads
returns-then-at-steps-clause-reads c = sym (row_past_steps _ _ (omega (arith, c.of.ensures.steps, c.from-steps.ensures, c.from-at.ensures)))

pub returns-in_err-place-clause-reads : goal.returns-in_err-place-clause-reads
returns-in_err-place-clause-reads c =
    rw c.from_residual.ensures
    (sym (row_past_words _ _ (omega (arith, c.of.ensures.steps, c.from-steps.ensures, c.from-at.ensures, c.in_err-place.ensures.lookup))))

pub returns-clause-reads : goal.returns-clause-reads
returns-clause-reads c =
    let trace = c.args.trace.now in
    let counts = c.from-steps.ensures ∙ c.of.ensures.steps in
    let inside = c.in_ok-place.ensures.lookup in
    let row = c.from-at.ensures in
    ap₂ {C = Option Step} (λ m p. some (step m p)) (ap (λ (k : ℕ). get_or trace (1 + k) 0) row)
    (inside.3.1 0 ∙ ap₂ {C = ℕ} (λ (n k : ℕ). get_or trace (1 + n + k) 0) counts row)
    ∙ sym (row_found _ _ (omega (arith, counts, row, c.if-at-steps.false)) (omega (arith, counts, row, inside.3.0)))
