-- What holds of a problem that a run has come to, and of the next. Assumes nothing.
use Prim.Native.Nat.{ℕ, suc}
use mathlib.Core.Path.{◌≡◌, refl, sym, ap, ◌∙◌, subst}
use mathlib.Core.List.{List, [], ◌∷◌, ◌++◌}
use Rattle.hgn.specs.Questions.{passed}
use Rattle.hgn.specs.State.{State}
use Rattle.hgn.specs.Network.{Waiting, goals_of}
use Rattle.hgn.specs.Run.{Step, Problem, Deed, taken, stepped}
use Rattle.hgn.specs.Order.{order, check_order}
use Rattle.hgn.specs.Replay.{rules_of}
use Rattle.hgn.specs.Readings.{first, next, by_sheet}
use Rattle.hgn.proofs.Network.Reached.{Sound, sound, one_more}
use Rattle.network.specs.Reaching.{ReachedAt}

-- Its names are distinct and its goals in order.
pub reached_sound : {shop sheet : List ℕ} {n : ℕ} {P : Problem} → check_order shop sheet ≡ passed → ReachedAt shop sheet n P → Sound n P.waiting
reached_sound {sheet = sheet} {P = P} e h = subst (λ (n : ℕ). Sound n P.waiting) h.number (sound (by_sheet sheet e) refl h.reached)

-- The order's goals are reached at the start, from any state.
pub reached_first : {shop sheet : List ℕ} (s : State) {w : List Waiting} → w ≡ goals_of (order sheet) → ReachedAt shop sheet 0 (record { state = s; waiting = w })
reached_first {shop} {sheet} s e =
    subst (λ (w : List Waiting). ReachedAt shop sheet 0 (record { state = s; waiting = w })) (sym e)
    (record { start = s; steps = []; reached = first; number = refl })

-- A step that is taken leads on.
pub reached_next : {shop sheet : List ℕ} {n : ℕ} {P P' : Problem} (x : Step) {deed : Deed} → ReachedAt shop sheet n P
    → stepped (rules_of shop) n P x ≡ taken deed P' → ReachedAt shop sheet (suc n) P'
reached_next {shop} {n = n} {P = P} x h e = record {
  start = h.start;
  steps = h.steps ++ (x ∷ []);
  reached = next x h.reached (ap (λ (k : ℕ). stepped (rules_of shop) k P x) h.number ∙ e);
  number = sym (one_more h.steps x) ∙ ap suc h.number;
}
