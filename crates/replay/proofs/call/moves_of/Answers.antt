-- As many words as the first word says, behind it. Assumes nothing.
use Prim.Native.Nat.{ℕ, ◌+◌, ◌-◌}
use native.Mathlib.Omega.{arith}
use mathlib.Core.Path.{◌≡◌, ap, ◌∙◌}
use lib.ListN.{take, drop}
use Rattle.replay.proofs.call.moves_of.Goals as goal

pub returns : goal.returns
returns c =
    let t = c.args.trace.now in
    ap (λ (n : ℕ). take n (drop 1 t)) (let e : (1 + c.word-steps.result) - 1 ≡ c.word-steps.result = omega arith in e ∙ c.word-steps.ensures)
