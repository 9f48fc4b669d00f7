-- The demands as hgn proves them, of the call's answer and room. Assumes nothing.
use Prim.Native.Nat.{ℕ}
use mathlib.Core.Path.{sym, ap, ◌∙◌}
use mathlib.Core.List.{List}
use Rattle.hgn.specs.Lent.{Lent}
use Rattle.hgn.proofs.Demands.{promised}
use Rattle.sheet_rows.specs.Refusals.{lent_of}
use Rattle.replay.specs.Answers.{replayed_of}
use Rattle.hgn.specs.Demands.{SameJoins}
use Rattle.sheet_join.specs.Demands.{Written, Promised}

-- Three orders, the inner calls written.
same : {shop a b c ab bc : List ℕ} → Written shop a b ab → Written shop b c bc → SameJoins shop ab c a bc
same {shop} {a} {b} {c} u v =
    rw (u.leaves, v.leaves)
    (promised.either_grouping shop a b c u.room (lent_of u.answer u.exit) u.called u.zero v.room
    (lent_of v.answer v.exit) v.called v.zero)

pub call_promised : Promised
call_promised = record {
  of_call = λ shop first second room r exit e. record {
    demand_1 = promised.demand_1.of_join shop first second room (lent_of r exit) e;
    numbers = promised.refused_joins shop first second room (lent_of r exit) e;
    is_join = promised.joined_is_join shop first second room (lent_of r exit) e;
    join_rule = λ z trace plan a left. promised.join_rule_of_sheet shop first second room (lent_of r exit) e z trace plan (replayed_of a left);
    demand_3 = promised.demand_3_of_calls shop first second room (lent_of r exit) e;
  };
  either_grouping = λ shop a b c ab bc u v room r s one other e f.
      let alike = e ∙ (same u v).alike room ∙ sym f in
      (ap (λ (c : Lent (List ℕ)). c.refusal) alike, ap (λ (c : Lent (List ℕ)). c.room) alike);
  same_words = λ shop a b c ab bc one other u v p q.
      p.leaves
      ∙ (same u v).same_words p.room (lent_of p.answer p.exit) p.called p.zero q.room (lent_of q.answer q.exit) q.called q.zero
      ∙ sym q.leaves;
  definitions = promised;
}
