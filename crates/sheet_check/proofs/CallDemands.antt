-- Demand 1 as hgn proves it, of the checks' answers. Assumes nothing.
use Rattle.hgn.proofs.Demands.{promised}
use Rattle.sheet_rows.specs.Refusals.{answer_of}
use Rattle.sheet_check.specs.Demands.{Promised}

pub checks_promised : Promised
checks_promised = record {
  check_shop_call = λ shop r. promised.demand_1.of_shop_check shop (answer_of r);
  check_order_call = λ shop sheet r. promised.demand_1.of_order_check shop sheet (answer_of r);
  check_trace_call = λ shop sheet trace r. promised.demand_1.of_trace_check shop sheet trace (answer_of r);
}
