-- Move 0 is a release, and any other number is none. Assumes nothing.
use native.Mathlib.Omega.{arith}
use mathlib.Core.Path.{sym, ap, ◌∙◌}
use mathlib.Core.List.{List, [], ◌∷◌, map}
use Rattle.hgn.specs.Shop.{domain}
use Rattle.step.specs.Taking.{problem_with}
use Rattle.listing.specs.Lines.{numbers_of}
use Rattle.listing.specs.declared.line.Line.{Line}
use Rattle.listing.proofs.Telling.{release_lines, other_lines}
use Rattle.listing.proofs.lines.told_at.Goals as goal
use Rattle.listing.proofs.lines.told_at.Goals.{else-step-eq-RELEASE-via-then-step-eq-RELEASE+else-step-len, else-step-eq-RELEASE-via-else-step-eq-RELEASE}

pub returns-then-step-len : goal.returns-then-step-len
returns-then-step-len c shop order k s reached inside =
    let a = c.args in
    ap {B = List Line} (λ l. l ∷ []) (c.line_at.ensures shop order k (s, reached))
    ∙ ap (map numbers_of) (sym (release_lines (problem_with shop order s a.waiting.now) a.step.number a.step.place.0 (domain shop) a.step.mv
    c.if-step-eq-RELEASE.true))

pub returns-else-step-eq-RELEASE : goal.returns-else-step-eq-RELEASE
returns-else-step-eq-RELEASE c shop order k s reached inside =
    let a = c.args in
    elim c.else-step-eq-RELEASE.branch [
      | else-step-eq-RELEASE-via-then-step-eq-RELEASE+else-step-len w ↦ absurd (omega (arith, inside, w.if-step-len.false, w.len.ensures))
      | else-step-eq-RELEASE-via-else-step-eq-RELEASE w ↦ ap (map numbers_of)
          (sym (other_lines (problem_with shop order s a.waiting.now) a.step.number a.step.place.0 (domain shop) a.step.mv w.if-step-eq-RELEASE.false))
    ]
