-- Demand 1 of document 00, read of the three checks: what hgn's `specs/Demands.antt` says of an answer, said of the answers of these calls.
-- Each hypothesis is the contract of the call that its field names. A value of `Promised` stands in `proofs/CallDemands.antt`.
use Rattle.std.specs.Prelude.{ℕ, ◌≡◌, List, Result}
use Rattle.hgn.specs.Questions.{answered}
use Rattle.hgn.specs.Shop.{check_shop}
use Rattle.hgn.specs.Order.{check_order}
use Rattle.hgn.specs.Trace.{check_trace}
use Rattle.hgn.specs.Demands.{ShopCheckAnswers, OrderCheckAnswers, TraceCheckAnswers}
use Rattle.sheet_rows.specs.Refusals.{answer_of}
use Rattle.sheet_rows.specs.declared.refusal.Refusal.{Refusal}

pub record Promised : Type 0 where
  pub check_shop_call : (shop : List ℕ) (r : Result (Unit {0}) Refusal) → answer_of r ≡ answered (check_shop shop) → ShopCheckAnswers shop (answer_of r)
  pub check_order_call : (shop sheet : List ℕ) (r : Result (Unit {0}) Refusal) → answer_of r ≡ answered (check_order shop sheet)
      → OrderCheckAnswers shop sheet (answer_of r)
  pub check_trace_call : (shop sheet trace : List ℕ) (r : Result (Unit {0}) Refusal) → answer_of r ≡ answered (check_trace shop sheet trace)
      → TraceCheckAnswers shop sheet trace (answer_of r)
