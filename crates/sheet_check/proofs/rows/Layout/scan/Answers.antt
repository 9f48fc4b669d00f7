-- The facts that the loop leaves. Assumes nothing.
use mathlib.Core.Path.{sym, ap, ◌∙◌}
use Rattle.hgn.specs.Questions as Questions
use Rattle.hgn.specs.Questions.{without_atom, placed, refused}
use Rattle.sheet_rows.specs.Reading.{context_of, position_of, next, reading_of}
use Rattle.sheet_rows.specs.declared.position.Position.{Position}
use Rattle.sheet_rows.proofs.Laws.{told, same_next}
use Rattle.sheet_rows.proofs.Groups.{going_on_passes}
use Rattle.sheet_check.proofs.GroupCounts.{going_on_counts}
use Rattle.sheet_check.proofs.Scans.{read_next, read_refused, read_end}
use Rattle.sheet_check.proofs.rows.Layout.scan.Goals as goal
use Rattle.sheet_check.proofs.rows.Layout.scan.Goals.{then-goes_on, else-goes_on+in-Ok}

pub returns-in-Err : goal.returns-in-Err
returns-in-Err c =
    let a = c.args in
    read_refused a.sheet a.atoms a.self.sizes a.self.rows a.words.now c.requires.0 c.loop-i.invariant
    c.loop-i-test.true c.tag-tag.ensures c.value-value.ensures _ (ap reading_of (sym c.in-Err.is) ∙ c.read.ensures)
    ∙ ap (λ (r : Questions.Refusal). refused (without_atom r)) (sym (c.at.ensures ∙ ap (placed _) c.by.ensures))

pub loop-i-preserved : goal.loop-i-preserved
loop-i-preserved c =
    let a = c.args in
    let p = c.loop-i.position in
    let at = λ (q : Position). next (position_of q) in
    elim c.if-goes_on.branch [
      | then-goes_on w ↦
          let on = told c.goes_on.ensures w.if-goes_on.true in
          read_next a.sheet a.atoms a.self.sizes a.self.rows a.words.now c.requires.0 c.loop-i.invariant
          c.loop-i-test.true c.tag-tag.ensures c.value-value.ensures
          (ap at w.position-is ∙ same_next w.above-position.ensures ∙ going_on_passes a.atoms p.least p.nodes _ a.sheet (context_of p.context) _ on)
          (w.counts-is ∙ w.count_in_group.ensures ∙ going_on_counts a.atoms p.least p.nodes _ _ (context_of p.context) _ on)
      | else-goes_on+in-Ok w ↦
          read_next a.sheet a.atoms a.self.sizes a.self.rows a.words.now c.requires.0 c.loop-i.invariant
          c.loop-i-test.true c.tag-tag.ensures c.value-value.ensures
          (ap at w.position-is ∙ ap reading_of (sym w.in-Ok.is) ∙ w.read.ensures) (w.counts-is ∙ w.count.ensures)
    ]

pub returns : goal.returns
returns c =
    let a = c.args in
    read_end a.sheet a.atoms a.self.sizes a.self.rows a.words.now c.requires.0 c.loop-i.invariant c.loop-i-test.false
