-- The facts that the loop leaves. Assumes nothing.
use mathlib.Core.Path.{ap, ◌∙◌}
use borrow.Author.Tests.{eqb-false}
use Rattle.sheet_index.proofs.Columns.{next_row, no_row_left}
use Rattle.search_bound.proofs.Wants.{one_from, one_formula, one_begins, one_goes_on, one_not_yet, one_ends}
use Rattle.search_bound.proofs.least.one_alternative.Goals as goal
use Rattle.search_bound.proofs.least.one_alternative.Goals.{else-not-found-via-then-not-found+else-tag-eq-WANTED_FALSE, else-not-found-via-else-not-found}
use Rattle.search_bound.proofs.least.one_alternative.Goals.{then-tag-eq-WANTED_TRUE, else-tag-eq-WANTED_TRUE}

pub loop-tag-init : goal.loop-tag-init
loop-tag-init c = rw (c.into_iter-tag-iterator.ensures.into_iter_gives, c.iter-tag-items.ensures)

pub loop-tag-preserved-then-tag-eq-ALTERNATIVE : goal.loop-tag-preserved-then-tag-eq-ALTERNATIVE
loop-tag-preserved-then-tag-eq-ALTERNATIVE c =
    let p = next_row c.loop-tag.tag-iterator c.next.new.self c.next.ensures.steps c.in-Some.is in
    c.loop-tag.invariant ∙ ap (one_from c.loop-tag.found) p ∙ one_begins _ _ _ _ c.if-found.false c.if-tag-eq-ALTERNATIVE.true

pub loop-tag-preserved : goal.loop-tag-preserved
loop-tag-preserved c =
    let p = next_row c.loop-tag.tag-iterator c.next.new.self c.next.ensures.steps c.in-Some.is in
    c.loop-tag.invariant ∙ ap (one_from c.loop-tag.found) p
    ∙ elim c.else-not-found.branch [
      | else-not-found-via-then-not-found+else-tag-eq-WANTED_FALSE w ↦ elim w.if-tag-eq-WANTED_TRUE.branch [
        | then-tag-eq-WANTED_TRUE w' ↦ absurd (eqb-false _ _ (cc (w'.value-is, w.if-tag-eq-WANTED_FALSE.false)) w'.if-tag-eq-WANTED_TRUE.true)
        | else-tag-eq-WANTED_TRUE w' ↦
            one_not_yet _ _ _ _ w.if-not-found.true c.if-tag-eq-ALTERNATIVE.false w'.if-tag-eq-WANTED_TRUE.false
            (eqb-false _ _ (cc (w'.value-is, w.if-tag-eq-WANTED_FALSE.false)))
      ]
      | else-not-found-via-else-not-found w ↦ one_goes_on _ _ _ _ w.if-not-found.false c.if-tag-eq-ALTERNATIVE.false
    ]

pub returns : goal.returns
returns c e =
    one_formula _
    (c.loop-tag.invariant
    ∙ ap (one_from c.loop-tag.found) (no_row_left c.loop-tag.tag-iterator c.next.new.self c.next.ensures.steps c.in-None.is)
    ∙ one_ends c.loop-tag.found ∙ e)
