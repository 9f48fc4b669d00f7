-- The facts that the loop leaves. Assumes nothing.
use Prim.Native.Nat.{ℕ}
use native.Mathlib.Omega.{arith}
use mathlib.Core.Path.{sym, subst}
use borrow.Author.Rules.{rules}
use Rattle.step.specs.Taking.{Going}
use Rattle.display.proofs.Steppings.{display_goes_on}
use Rattle.cases_main.proofs.stepping.write_steps.Goals as goal

pub loop-at-init : goal.loop-at-init
loop-at-init g c = ((display_goes_on.begins _ _ _ _ c.requires).1, omega arith, search rules)

pub show_step-shown-requires : goal.show_step-shown-requires
show_step-shown-requires g c = record { indexed = c.requires.indexed; going = c.loop-at.invariant.0 }

pub loop-at-preserved : goal.loop-at-preserved
loop-at-preserved g c =
    let a = c.args in
    let r = c.show_step-shown.result in
    let n = c.next_number-number.ensures in (
      subst (λ (k : ℕ). Going a.shop.now a.order.now k r.problem.atoms r.problem.waiting) (sym n.0)
          (display_goes_on.goes_on _ _ _ _ _ (record { answer = r.answer; after = r.problem; forward = c.show_step-shown.ensures }) c.loop-at.invariant.0),
      omega (arith, n.1, c.loop-at.invariant.1),
      c.loop-at.invariant.2,
    )
