-- What a step that is taken leaves is what the next step asks. Assumes nothing.
use Prim.Native.Nat.{ℕ, ◌+◌}
use mathlib.Core.Path.{◌≡◌, ap₂, subst}
use mathlib.Core.List.{List}
use Rattle.hgn.specs.State.{State}
use Rattle.step.specs.Taking.{Going}
use Rattle.display.specs.Stepping.{next_number}
use Rattle.network.specs.declared.goals.Goals.{Goals}

pub going_next : {shop sheet : List ℕ} {k n answer : ℕ} {s : State} {ws : Goals} → Going shop sheet (next_number k answer) s ws → answer ≡ 0 → k ≡ n
    → Going shop sheet (n + 1) s ws
going_next {shop} {sheet} {s = s} {ws = ws} g z e = subst (λ (m : ℕ). Going shop sheet m s ws) (ap₂ {C = ℕ} (λ (i a : ℕ). next_number i a) e z) g
