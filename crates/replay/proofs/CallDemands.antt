-- The demands as hgn proves them, of the call's answer and room. Assumes nothing.
use mathlib.Core.Path.{refl}
use Rattle.hgn.proofs.Demands.{promised}
use Rattle.replay.specs.Answers.{replayed_of}
use Rattle.replay.specs.Demands.{Promised}

pub call_promised : Promised
call_promised = record {
  of_call = λ shop sheet trace room r exit e. record {
    demand_1 = promised.demand_1.of_replay shop sheet trace room (replayed_of r exit) e;
    demand_2 = promised.demand_2 shop sheet trace room (replayed_of r exit) e;
    is_call = λ inputs. (record { room = room; result = replayed_of r exit; inputs = inputs; called = e }, refl, refl);
    unmet = record {
      named = promised.unmet_is_named shop sheet trace room (replayed_of r exit) e;
      first = promised.unmet_is_first shop sheet trace room (replayed_of r exit) e;
    };
  };
  definitions = promised;
}
