-- What a turn of the listing's loop leaves, and that the turns write out the whole text. Assumes nothing.
use Prim.Native.Nat.{ℕ, ◌+◌, ◌≤◌}
use native.Mathlib.Omega.{arith}
use mathlib.Core.Path.{◌≡◌, refl, sym, ap, ◌∙◌}
use mathlib.Core.Logic.{◌⊎◌, inl, inr}
use mathlib.Core.List.{List, [], ◌++◌, append_assoc, append-nil}
use mathlib.Core.Option.{some}
use lib.ListN.{length, take}
use Rattle.std.specs.Prelude.{Option}
use Rattle.hgn.specs.State.{State}
use Rattle.hgn.specs.Run.{Step}
use Rattle.step.specs.declared.problem.Problem.{Problem}
use Rattle.trace_reader.specs.TraceRows.{row_at}
use Rattle.listing.specs.Lines.{StepTold}
use Rattle.listing.specs.declared.line.Line.{Line}
use Rattle.listing_main.specs.Pieces.{piece_text, piece_bytes, text_ahead, Ahead}
use Rattle.listing_main.specs.Turns.{TurnOf, Turns, last_turn, next_turn, TurnsAreWhole}
use Rattle.listing_main.proofs.Ahead.{ahead_on, text_on, nothing_ahead}
use Rattle.listing_main.proofs.FirstAhead.{ahead_first, text_first}
use Rattle.network.specs.declared.goals.Goals.{Goals}

module _ (shop sheet trace : List ℕ) {k : ℕ} {b : Problem} (end : ℕ) (room : List ℕ) where
  -- A step was taken, and its piece was put.
  pub turn_step : Ahead shop sheet trace k b → (x : Step) → row_at trace k ≡ some x → (told : Option Line) (s : State) (ws : Goals)
      → StepTold shop sheet k x b.atoms b.waiting told s ws → (at : ℕ) → at + piece_bytes ≤ length room → (at ≡ end) ⊎ (at ≡ 0)
      → (room' : List ℕ) (new : ℕ) → length room' ≡ length room → new ≤ at + piece_bytes → take new room' ≡ take at room ++ piece_text told
      → TurnOf shop sheet trace k b (record { atoms = s; waiting = ws }) end room new room'
  turn_step a x found told s ws t at space where' room' new same put text = go where'
    where
      ahead' : List ℕ
      ahead' = text_ahead shop sheet trace (k + 1) (record { atoms = s; waiting = ws })

      next : take new room' ++ ahead' ≡ take at room ++ text_ahead shop sheet trace k b
      next =
          ap {B = List ℕ} (λ l. l ++ ahead') text
          ∙ append_assoc (take at room) (piece_text told) ahead'
          ∙ ap {B = List ℕ} (λ l. take at room ++ l) (sym (text_on shop sheet trace a x found told s ws t))

      go : (at ≡ end) ⊎ (at ≡ 0) → TurnOf shop sheet trace k b (record { atoms = s; waiting = ws }) end room new room'
      go (inl e) = record {
        fits = omega (arith, space, put, same);
        out = [];
        all_or_none = inl refl;
        ahead = ahead_on shop sheet trace a x found told s ws t;
        text = next ∙ ap {B = List ℕ} (λ (j : ℕ). take j room ++ text_ahead shop sheet trace k b) e;
      }
      go (inr e) = record {
        fits = omega (arith, space, put, same);
        out = take end room;
        all_or_none = inr refl;
        ahead = ahead_on shop sheet trace a x found told s ws t;
        text = ap {B = List ℕ} (λ l. take end room ++ l) (next ∙ ap {B = List ℕ} (λ (j : ℕ). take j room ++ text_ahead shop sheet trace k b) e);
      }

module _ (shop sheet trace : List ℕ) where
  turns_write : {k : ℕ} {b : Problem} {held text : List ℕ} → Turns shop sheet trace k b held text → Ahead shop sheet trace k b
      → text ≡ held ++ text_ahead shop sheet trace k b
  turns_write (last_turn {held = held} past) a = sym (append-nil held) ∙ ap {B = List ℕ} (λ l. held ++ l) (sym (nothing_ahead shop sheet trace a past))
  turns_write (next_turn t rest) a = ap {B = List ℕ} (λ l. t.out ++ l) (turns_write rest t.ahead) ∙ t.text

pub turns_are_whole : TurnsAreWhole
turns_are_whole shop sheet trace table b accepts first text turns =
    turns_write shop sheet trace turns (ahead_first shop sheet trace accepts first) ∙ text_first shop sheet trace accepts first
