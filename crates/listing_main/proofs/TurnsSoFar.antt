-- The turns from the first step to a row, as the loop over a reader holds them. Assumes nothing.
use Prim.Native.Nat.{ℕ, ◌+◌, ◌≤◌}
use native.Mathlib.Omega.{arith}
use mathlib.Core.Path.{◌≡◌, refl, sym, ap, subst, ◌∙◌}
use mathlib.Core.List.{List, [], ◌++◌}
use mathlib.Core.Option.{some, none}
use lib.ListN.{length, take}
use Rattle.std.specs.Prelude.{Some}
use Rattle.hgn.specs.State.{State}
use Rattle.network.specs.declared.goals.Goals.{Goals}
use Rattle.step.specs.declared.moves.Step.{Step}
use Rattle.step.specs.declared.problem.Problem.{Problem}
use Rattle.trace_reader.specs.TraceRows.{row_at, step_of}
use Rattle.listing_main.specs.Pieces.{piece_bytes, Ahead}
use Rattle.listing_main.specs.Turns.{Turning, TurnOf, Turned, Turns, last_turn, next_turn, Beginning}

abbrev problem : State → Goals → Problem
problem s ws = record { atoms = s; waiting = ws }

-- Row `k` is reached: how far the text is, and what the record and the room hold there. Turns from here to the trace's end are turns from the first
-- step on.
pub record Reached (shop sheet trace : List ℕ) (s₀ : State) (ws₀ : Goals) (room₀ : List ℕ) (k end : ℕ) (s : State) (ws : Goals) (room : List ℕ) : Type 0 where
  pub same : length room ≡ length room₀
  pub fits : end ≤ length room
  pub ahead : Ahead shop sheet trace k (problem s ws)
  pub on : (text : List ℕ) → Turns shop sheet trace k (problem s ws) (take end room) text
      → (whole : List ℕ) × Turns shop sheet trace 0 (problem s₀ ws₀) [] whole

module _ {shop sheet trace : List ℕ} {s₀ : State} {ws₀ : Goals} {room₀ : List ℕ} where
  pub begun : {k : ℕ} → k ≡ 0 → Beginning shop sheet trace s₀ ws₀ room₀ → Reached shop sheet trace s₀ ws₀ room₀ k 0 s₀ ws₀ room₀
  begun {k} e b = rw e (record {
    same = refl;
    fits = omega arith;
    ahead = b.ahead;
    on = λ text turns. (text, turns);
  })

  -- The row is read from the trace that is held.
  module _ {k end : ℕ} {s : State} {ws : Goals} {room : List ℕ} (a : Reached shop sheet trace s₀ ws₀ room₀ k end s ws room) {held : List ℕ} (same : held ≡ trace) where
    -- Past the last step the turns are over.
    pub over : row_at held k ≡ none → (text : List ℕ) × Turns shop sheet trace 0 (problem s₀ ws₀) [] text
    over past = a.on (take end room) (last_turn (ap (λ (t : List ℕ). row_at t k) (sym same) ∙ past))

    -- A step stands there, with the row for its number.
    module _ {step : Step} (found : row_at held k ≡ some (record { move = step.mv; place = step.place.0 })) (numbered : step.number ≡ k) where
      reads : step_of (Some step) ≡ row_at trace step.number
      reads = sym (ap (λ (t : List ℕ). row_at t step.number) (sym same) ∙ ap (row_at held) numbered ∙ found)

      ahead_here : Ahead shop sheet trace step.number (problem s ws)
      ahead_here = rw numbered a.ahead

      pub turning : piece_bytes ≤ length room₀ → Turning shop sheet (record { step = step; end = end }) (problem s ws) room
      turning roomy = record { trace = trace; ahead = ahead_here; reads = reads; fits = a.fits; roomy = omega (arith, roomy, a.same) }

      pub turned : {b : Problem} {room' : List ℕ} {new k' : ℕ}
          → Turned shop sheet (record { step = step; end = end }) (problem s ws) room b room' (Some new) → length room' ≡ length room → k' ≡ k + 1
          → Reached shop sheet trace s₀ ws₀ room₀ k' new b.atoms b.waiting room'
      turned {b} {room'} {new} turn long on =
          let t = subst (λ (m : ℕ). TurnOf shop sheet trace m (problem s ws) b end room new room') numbered (turn trace ahead_here reads) in
          rw on (record {
            same = long ∙ a.same;
            fits = t.fits;
            ahead = t.ahead;
            on = λ whole rest. a.on (t.out ++ whole) (next_turn t rest);
          })
