-- What a caller of C reads is the definition's answer, so hgn's demands hold of it. Assumes nothing.
use Prim.Native.Nat.{ℕ}
use mathlib.Core.Path.{◌≡◌, refl, sym, ap, ◌∙◌}
use mathlib.Core.Bool.{true, false}
use mathlib.Core.List.{List, [], ◌∷◌, map}
use lib.Dec.{eqb}
use Rattle.hgn.specs.State.{State}
use Rattle.hgn.specs.Replay.{Replayed}
use Rattle.hgn.specs.Lent.{Lent}
use Rattle.hgn.specs.Demands.{SameJoins}
use Rattle.hgn.proofs.Demands.{promised}
use Rattle.capi.specs.Words.{refusal_words, state_bytes, ReplayLeft, LentLeft}
use Rattle.capi.specs.Demands.{refusal_in, replayed_in, lent_in, JoinLeft, Promised}

-- The atoms are read back from their bytes.
bytes_back : (s : State) → map (λ (byte : ℕ). eqb byte 1) (state_bytes s) ≡ s
bytes_back [] = refl
bytes_back (true ∷ s) = ap {B = State} (λ t. true ∷ t) (bytes_back s)
bytes_back (false ∷ s) = ap {B = State} (λ t. false ∷ t) (bytes_back s)

replayed_back : {c : Replayed} {plan answer atoms : List ℕ} → ReplayLeft c plan answer atoms → replayed_in plan answer atoms ≡ c
replayed_back {c} l = rw (l.leaves, l.answers, l.state, bytes_back c.answer.state) refl

lent_back : {c : Lent (List ℕ)} {room answer : List ℕ} → LentLeft c room answer → lent_in room answer ≡ c
lent_back l = rw (l.leaves, l.answers) refl

-- Three orders, the inner calls written.
same : {shop a b c ab bc : List ℕ} → JoinLeft shop a b ab → JoinLeft shop b c bc → SameJoins shop ab c a bc
same {shop} {a} {b} {c} u v =
    rw (u.leaves, v.leaves)
    (promised.either_grouping shop a b c u.room (lent_in u.left u.answer) (lent_back u.called) u.zero v.room
    (lent_in v.left v.answer) (lent_back v.called) v.zero)

pub c_calls_promised : Promised
c_calls_promised = record {
  hgn_check_shop = λ shop answer e. promised.demand_1.of_shop_check shop (refusal_in answer) (ap refusal_in e);
  hgn_check_order = λ shop sheet answer e. promised.demand_1.of_order_check shop sheet (refusal_in answer) (ap refusal_in e);
  hgn_check_trace = λ shop sheet trace answer e. promised.demand_1.of_trace_check shop sheet trace (refusal_in answer) (ap refusal_in e);
  hgn_replay = λ shop sheet trace room plan answer atoms l.
      let is = replayed_back l in
      record {
        is = is;
        demand_1 = promised.demand_1.of_replay shop sheet trace room (replayed_in plan answer atoms) is;
        demand_2 = promised.demand_2 shop sheet trace room (replayed_in plan answer atoms) is;
        is_call = λ inputs. (record { room = room; result = replayed_in plan answer atoms; inputs = inputs; called = is }, refl, refl);
        unmet_named = promised.unmet_is_named shop sheet trace room (replayed_in plan answer atoms) is;
        unmet_first = promised.unmet_is_first shop sheet trace room (replayed_in plan answer atoms) is;
      };
  hgn_search = λ shop sheet depth room left answer l.
      let is = lent_back l in
      record {
        is = is;
        demand_1 = promised.demand_1.of_search shop sheet depth room (lent_in left answer) is;
        demand_2 = promised.demand_2_of_search shop sheet depth room (lent_in left answer) is;
        agrees_with_replay = promised.search_agrees_with_replay shop sheet depth room (lent_in left answer) is;
      };
  hgn_join = λ shop first second room left answer l.
      let is = lent_back l in
      record {
        is = is;
        demand_1 = promised.demand_1.of_join shop first second room (lent_in left answer) is;
        numbers = promised.refused_joins shop first second room (lent_in left answer) is;
        is_join = promised.joined_is_join shop first second room (lent_in left answer) is;
        join_rule = λ z trace plan exit told atoms r.
            promised.join_rule_of_sheet shop first second room (lent_in left answer) is z trace plan (replayed_in exit told atoms) (replayed_back r);
        demand_3 = promised.demand_3_of_calls shop first second room (lent_in left answer) is;
      };
  either_grouping = λ shop a b c ab bc u v room one oneAnswer other otherAnswer l r.
      let alike = (same u v).alike room in (
        l.leaves ∙ ap (λ (c : Lent (List ℕ)). c.room) alike ∙ sym r.leaves,
        l.answers ∙ ap (λ (c : Lent (List ℕ)). refusal_words c.refusal) alike ∙ sym r.answers,
      );
  same_words = λ shop a b c ab bc one other u v p q.
      p.leaves
      ∙ (same u v).same_words p.room (lent_in p.left p.answer) (lent_back p.called) p.zero q.room (lent_in q.left q.answer)
      (lent_back q.called) q.zero
      ∙ sym q.leaves;
  definitions = promised;
}
