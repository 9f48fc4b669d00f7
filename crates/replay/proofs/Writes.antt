-- Writing the plan: the room holds the actions among the moves passed, then its own words. Assumes nothing.
use Prim.Native.Nat.{ℕ, suc, ◌+◌, ◌<◌, ◌≤◌}
use native.Mathlib.Omega.{arith}
use native.Mathlib.Numerals.{add-one}
use mathlib.Core.Path.{◌≡◌, refl, sym, ap, ◌∙◌}
use mathlib.Core.Bool.{Bool, true, false, cond, ◌&&◌}
use mathlib.Core.List.{List, [], ◌∷◌, ◌++◌, append_assoc, append-nil}
use lib.Dec.{leb, ltb}
use lib.ListN.{length, get_or, set, drop, length-append, length-drop, drop_of_length-le}
use lib.Seq.{drop-cons, set_at}
use borrow.Author.Tests.{lt-ltb, le-ltb, le-leb, lt-leb}
use Rattle.replay.specs.Answers.{action_moves}

pub record Writing (actions : ℕ) (moves before room : List ℕ) (written i : ℕ) : Type 0 where
  pub inside : i ≤ length moves
  pub done : List ℕ
  pub holds : room ≡ done ++ drop written before
  pub number : written ≡ length done
  pub few : written ≤ i
  pub whole : action_moves actions moves ≡ done ++ action_moves actions (drop i moves)

module _ (actions : ℕ) (moves before : List ℕ) where
  pub writing_none : Writing actions moves before before 0 0
  writing_none = record { inside = omega arith; done = []; holds = refl; number = refl; few = omega arith; whole = refl }

  module _ (room : List ℕ) (written i : ℕ) (w : Writing actions moves before room written i) (h : i < length moves) where
    rest : drop i moves ≡ get_or moves i 0 ∷ drop (i + 1) moves
    rest = drop-cons moves i 0 h ∙ ap (λ (k : ℕ). get_or moves i 0 ∷ drop k moves) (sym (add-one i))

    skip : (ltb 0 (get_or moves i 0) && leb (get_or moves i 0) actions) ≡ false → Writing actions moves before room written (i + 1)
    unfolding action_moves
    skip e = record {
      inside = omega arith;
      done = w.done;
      holds = w.holds;
      number = w.number;
      few = omega (arith, w.few);
      whole = w.whole ∙ ap {B = List ℕ} (λ l. w.done ++ action_moves actions l) rest
          ∙ ap {B = List ℕ} (λ (b : Bool). w.done ++ cond b (get_or moves i 0 ∷ action_moves actions (drop (i + 1) moves)) (action_moves actions (drop (i + 1) moves))) e;
    }

    pub writing_zero : get_or moves i 0 ≤ 0 → Writing actions moves before room written (i + 1)
    writing_zero z = skip (rw (le-ltb 0 (get_or moves i 0) z))

    pub writing_other : 0 < get_or moves i 0 → actions < get_or moves i 0 → Writing actions moves before room written (i + 1)
    writing_other z a = skip (rw (lt-ltb 0 (get_or moves i 0) z, lt-leb (get_or moves i 0) actions a))

    pub writing_more : length moves ≤ length before → 0 < get_or moves i 0 → get_or moves i 0 ≤ actions
        → Writing actions moves before (set room written (get_or moves i 0)) (written + 1) (i + 1)
    unfolding action_moves
    writing_more room_fits z a =
        let fits : written < length before = omega (arith, w.few) in
        let m = get_or moves i 0 in
        let is_action_law : (ltb 0 (get_or moves i 0) && leb (get_or moves i 0) actions) ≡ true = rw (lt-ltb 0 (get_or moves i 0) z, le-leb (get_or moves i 0) actions a) in
        record {
          inside = omega arith;
          done = w.done ++ (m ∷ []);
          holds =
              ap (λ (l : List ℕ). set l written m) (w.holds ∙ ap {B = List ℕ} (λ l. w.done ++ l) (drop-cons before written 0 fits))
              ∙ set_at w.done (get_or before written 0) (drop (suc written) before) m written (sym w.number)
              ∙ sym (append_assoc w.done (m ∷ []) (drop (suc written) before))
              ∙ ap {B = List ℕ} (λ k. w.done ++ (m ∷ []) ++ drop k before) (sym (add-one written));
          number = omega (arith, w.number, length-append w.done (m ∷ []));
          few = omega (arith, w.few);
          whole =
              w.whole ∙ ap {B = List ℕ} (λ l. w.done ++ action_moves actions l) rest
              ∙ ap {B = List ℕ} (λ (b : Bool). w.done ++ cond b (m ∷ action_moves actions (drop (i + 1) moves)) (action_moves actions (drop (i + 1) moves))) is_action_law
              ∙ sym (append_assoc w.done (m ∷ []) (action_moves actions (drop (i + 1) moves)));
        }

  -- There is room for one more word.
  pub writing_fits : {room : List ℕ} {written i : ℕ} → Writing actions moves before room written i → i < length moves → length moves ≤ length before
      → written < length room
  writing_fits {room} {written} {i} w h f = omega (arith, w.few, w.number, ap length w.holds, length-append w.done (drop written before), length-drop written before)

  pub writing_length : {room : List ℕ} {written i : ℕ} → Writing actions moves before room written i → length moves ≤ length before → length room ≡ length before
  writing_length {room} {written} w f = omega (arith, w.few, w.inside, w.number, ap length w.holds, length-append w.done (drop written before), length-drop written before)

  pub writing_all : {room : List ℕ} {written i : ℕ} → Writing actions moves before room written i → length moves ≤ i
      → room ≡ action_moves actions moves ++ drop (length (action_moves actions moves)) before
  unfolding action_moves
  writing_all {room} {written} w h =
      let e : action_moves actions moves ≡ w.done = w.whole ∙ ap {B = List ℕ} (λ l. w.done ++ action_moves actions l) (drop_of_length-le moves h) ∙ append-nil w.done in
      w.holds ∙ ap {B = List ℕ} (λ k. w.done ++ drop k before) w.number ∙ ap {B = List ℕ} (λ l. l ++ drop (length l) before) (sym e)
