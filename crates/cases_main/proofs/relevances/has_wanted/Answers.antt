-- The facts that the loop leaves. Assumes nothing.
use native.Mathlib.Omega.{arith}
use mathlib.Core.Path.{refl}
use mathlib.Core.Bool.{true, false}
use Rattle.std.proofs.lemmas.Bool.Decides.{nat_tests}
use Rattle.hgn.specs.Lists.{any, elem}
use Rattle.cases_main.proofs.Pairs.{wanted_here, wanted_on, none_wanted}
use Rattle.cases_main.proofs.relevances.has_wanted.Goals as goal

pub loop-row-init : goal.loop-row-init
loop-row-init c = refl

pub returns-then-matches : goal.returns-then-matches
unfolding elem any
returns-then-matches c = wanted_here c.args.words.now _ c.loop-row.invariant {answer = true} (omega arith) (grind (arith, nat_tests)) refl

pub loop-row-preserved : goal.loop-row-preserved
unfolding elem any
loop-row-preserved c = wanted_on c.args.words.now _ c.loop-row.invariant {answer = false} (omega arith) (grind (arith, nat_tests)) refl

pub returns : goal.returns
returns c = none_wanted c.args.words.now c.loop-row.row c.loop-row.invariant (omega arith)
