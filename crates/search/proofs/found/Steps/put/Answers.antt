-- A step written at its number stands before the others (`Traces`). Assumes nothing.
use native.Mathlib.Omega.{arith}
use mathlib.Core.Path.{◌≡◌, refl}
use lib.ListN.{length}
use borrow.Author.Rules.{rules}
use Rattle.search.proofs.Traces.{step_first}
use Rattle.search.proofs.found.Steps.put.Goals as goal

pub returns : goal.returns
returns c =
    let whole : length c.args.self.now.listed ≡ 32 = search rules in
    step_first c.args.number (record { mv = c.args.mv; place = c.args.place }) c.args.self.now _ (omega arith) refl
