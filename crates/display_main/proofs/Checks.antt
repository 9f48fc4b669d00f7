-- What a check's answer says of its sheets, and a step's of the step. Assumes nothing.
use Prim.Native.Nat.{ℕ}
use mathlib.Core.Path.{◌≡◌, refl, sym, ap, ◌∙◌}
use mathlib.Core.Logic.{◌≢◌}
use mathlib.Core.List.{List, []}
use Rattle.std.specs.Prelude.{Result, Ok, Err}
use Rattle.hgn.specs.Questions.{no_refusal, passed, answered}
use Rattle.hgn.specs.Order.{check_order}
use Rattle.hgn.specs.Trace.{check_trace}
use Rattle.hgn.proofs.Questions.FirstNo.{answered_passed}
use Rattle.hgn.proofs.Questions.Numbers.{of_order_law, of_trace_law, not_zero}
use Rattle.sheet_rows.proofs.Laws.{numbered}
use Rattle.step.specs.Failures.{told_of}
use Rattle.step.specs.declared.failure.Failure.{Failure}

-- A check that refuses nothing has passed.
pub order_passes : (shop sheet : List ℕ) → no_refusal ≡ answered (check_order shop sheet) → check_order shop sheet ≡ passed
unfolding check_order
order_passes shop sheet e = answered_passed _ [] no_refusal e (of_order_law _ not_zero shop sheet) refl

pub trace_passes : (shop sheet trace : List ℕ) → no_refusal ≡ answered (check_trace shop sheet trace) → check_trace shop sheet trace ≡ passed
unfolding check_trace
trace_passes shop sheet trace e = answered_passed _ [] no_refusal e (of_trace_law _ not_zero shop sheet trace) refl

-- What is told of a step that is taken has number 0, and of one that is refused another.
pub taken_number : {r : Result (Unit {0}) Failure} {u : Unit {0}} → r ≡ Ok u → (told_of r).refusal.number ≡ 0
taken_number e = ap (λ (q : Result (Unit {0}) Failure). (told_of q).refusal.number) e

pub refused_number : {r : Result (Unit {0}) Failure} {f : Failure} → r ≡ Err f → (told_of r).refusal.number ≢ 0
refused_number {r} {f} e z = numbered f.refusal.question (sym (ap (λ (q : Result (Unit {0}) Failure). (told_of q).refusal.number) e) ∙ z)
