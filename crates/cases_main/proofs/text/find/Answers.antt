-- The first byte behind the place that is the one looked for, if there is one. Assumes nothing.
use Prim.Native.Nat.{ℕ, ◌+◌, ◌-◌}
use mathlib.Core.Path.{◌≡◌, ap, ◌∙◌}
use mathlib.Core.List.{List}
use lib.Dec.{eqb}
use lib.ListN.{length, take, drop}
use Rattle.std.proofs.Common.{rules}
use Rattle.hgn.specs.Lists.{take_until}
use Rattle.cases_main.proofs.Texts.{whole_rest, first_at}
use Rattle.cases_main.proofs.text.find.Goals as goal

pub returns : goal.returns
returns c h =
    let from : ℕ = c.args.from + 1 in
    let text : List ℕ = c.args.text.now in
    let byte : ℕ = c.args.byte in
    let found : c.unwrap_or.result ≡ length (take_until (eqb byte) (take (length text - from) (drop from text))) =
    first_at byte (take (length text - from) (drop from text)) c.unwrap_or.result (search rules) (search rules) (search rules) in
    ap (λ (n : ℕ). from + n) (found ∙ ap {A = List ℕ} (λ l. length (take_until (eqb byte) l)) (whole_rest text from))
