-- The facts that the loop leaves. Assumes nothing.
use mathlib.Core.Path.{refl, sym, ap₂, ◌∙◌}
use Rattle.sheet_index.proofs.Columns.{next_row, no_row_left}
use Rattle.state.specs.Literals.{literal_of}
use Rattle.state.specs.Relevances.{followed}
use Rattle.state.proofs.Relevances.{effect_first, seen_row, seen_all, nothing_met, neither_twice, none_of_four}
use Rattle.state.proofs.relevance.two_meet.Goals as goal

pub loop-tag-init : goal.loop-tag-init
loop-tag-init c = (
  record {
    wanted_true_marked = rw (c.into_iter-tag-iterator.ensures.into_iter_gives, c.iter-tag-items.ensures);
    wanted_false_marked = rw (c.into_iter-tag-iterator.ensures.into_iter_gives, c.iter-tag-items.ensures);
  },
  record {
    wanted_true_marked = rw (c.into_iter-tag-iterator.ensures.into_iter_gives, c.iter-tag-items.ensures);
    wanted_false_marked = rw (c.into_iter-tag-iterator.ensures.into_iter_gives, c.iter-tag-items.ensures);
  },
)

pub loop-tag-preserved : goal.loop-tag-preserved
loop-tag-preserved c = (
  seen_row c.loop-tag.invariant.0 _ _ (next_row c.loop-tag.tag-iterator c.next.new.self c.next.ensures.steps c.in-Some.is) c.is_row-first_positive.ensures c.is_row-first_negative.ensures,
  seen_row c.loop-tag.invariant.1 _ _ (next_row c.loop-tag.tag-iterator c.next.new.self c.next.ensures.steps c.in-Some.is) c.is_row-second_positive.ensures c.is_row-second_negative.ensures,
)

pub returns-then-first_positive-first_negative : goal.returns-then-first_positive-first_negative
returns-then-first_positive-first_negative c =
    let end = no_row_left c.loop-tag.tag-iterator c.next.new.self c.next.ensures.steps c.in-None.is in
    c.followed_by.ensures ∙ ap₂ followed (c.meets.ensures ∙ seen_all c.loop-tag.invariant.0 end _ refl) (c.meets-then-first_positive-first_negative.ensures ∙ seen_all c.loop-tag.invariant.1 end _ refl) ∙ sym (effect_first _ _ _)

pub returns-else-first_positive-first_negative : goal.returns-else-first_positive-first_negative
returns-else-first_positive-first_negative c =
    let end = no_row_left c.loop-tag.tag-iterator c.next.new.self c.next.ensures.steps c.in-None.is in
    let none = none_of_four c.loop-tag.first_positive c.loop-tag.first_negative c.loop-tag.second_positive c.loop-tag.second_negative c.if-first_positive-first_negative.false in
    sym neither_twice
    ∙ sym (ap₂ followed (nothing_met (literal_of c.args.first) _ _ none.0) (nothing_met (literal_of c.args.second) _ _ none.1))
    ∙ ap₂ followed (seen_all c.loop-tag.invariant.0 end _ refl) (seen_all c.loop-tag.invariant.1 end _ refl)
    ∙ sym (effect_first _ _ _)
