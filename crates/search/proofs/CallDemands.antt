-- The demands as hgn proves them, of the call's answer and room. Assumes nothing.
use Rattle.hgn.proofs.Demands.{promised}
use Rattle.search.specs.Founds.{searched_of}
use Rattle.search.specs.Demands.{Promised}

pub call_promised : Promised
call_promised shop sheet depth room r exit e = record {
  demand_1 = promised.demand_1.of_search shop sheet depth room (searched_of r exit) e;
  demand_2 = promised.demand_2_of_search shop sheet depth room (searched_of r exit) e;
  agrees = promised.search_agrees_with_replay shop sheet depth room (searched_of r exit) e;
}
