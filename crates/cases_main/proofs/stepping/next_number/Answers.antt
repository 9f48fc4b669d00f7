-- The answer is told as 0 where it is a step taken, as another number where not. Assumes nothing.
use native.Mathlib.Omega.{arith}
use mathlib.Core.Path.{refl}
use borrow.Author.Tests.{ne_eqb}
use Rattle.cases_main.proofs.Accepted.{refused_number}
use Rattle.cases_main.proofs.stepping.next_number.Goals as goal

pub returns-in-Ok : goal.returns-in-Ok
returns-in-Ok c = (rw c.in-Ok.is refl, omega arith)

pub returns-in-Err : goal.returns-in-Err
returns-in-Err c = (rw (ne_eqb _ 0 (refused_number c.in-Err.is)) refl, omega arith)
