-- The waiting goals of a record, written one by one. Assumes nothing.
use Prim.Native.Nat.{ℕ, ◌+◌, ◌*◌, ◌<◌, ◌≤◌}
use native.Mathlib.Omega.{arith}
use native.Mathlib.Numerals.{add-one}
use mathlib.Core.Path.{◌≡◌, refl, sym, ap, ◌∙◌}
use mathlib.Core.Bool.{Bool, true, false, cond}
use Rattle.std.specs.Int.{from_bool}
use mathlib.Core.List.{List, ◌++◌, append_assoc, append-nil}
use lib.Dec.{eqb}
use lib.ListN.{length, take, drop, drop_of_length-le}
use lib.Seq.{drop-cons}
use Rattle.hgn.specs.Network.{no_goal, goal_at, step_number, method_number}
use Rattle.network.specs.Entries.{source_in, waiting_of}
use Rattle.network.specs.declared.waiting.Entry.{Entry}
use Rattle.network.specs.Pending.{PendingCounts}
use Rattle.network.specs.Goals.{count_in, entry_in, pending_in, list_in, counts_in}
use Rattle.network.proofs.WaitingGoals.{list_length, list_at, free_at}
use Rattle.network.specs.declared.goals.Goals.{Goals}
use Rattle.display_main.specs.Moments.{four_text, goal_text, goals_text, four_bytes}
use Rattle.display_main.specs.Puts.{GoalPut, GoalsPut}

-- A goal that is free is told by 1, any other by 0.
flag_is : (is_free : Bool) → from_bool is_free ≡ cond is_free 1 0
flag_is true = refl
flag_is false = refl

-- The four numbers that the code reads off a record are those of the goal's line.
pub goal_is : (ws : Goals) (p : ℕ) (front : List ℕ) {text : List ℕ} {flag step method : ℕ} {goal : Entry} {is_free : Bool}
    → goal ≡ entry_in ws p → is_free ≡ eqb (pending_in ws p) 0 → flag ≡ from_bool is_free → step ≡ step_number (source_in goal.source)
    → method ≡ method_number (source_in goal.source) → text ≡ front ++ four_text goal.number flag step method → GoalPut ws p front text
unfolding goal_text waiting_of
goal_is ws p front g f k b m e shop order counted h =
    e ∙ rw (k ∙ flag_is _, f, b, m, g, ← free_at shop order ws counted p h, list_at shop order ws p h) refl

-- The text so far: what stood in front, and the lines of the goals passed.
pub record GoalLines (ws : Goals) (before text : List ℕ) (at end i : ℕ) : Type 0 where
  pub inside : i ≤ count_in ws
  pub few : end ≤ at + four_bytes * i
  pub same : length text ≡ length before
  pub whole : (shop order : List ℕ) → PendingCounts (list_in shop order ws) (counts_in ws)
      → take end text ++ goals_text (list_in shop order ws) (drop i (list_in shop order ws))
      ≡ take at before ++ goals_text (list_in shop order ws) (list_in shop order ws)

module _ (ws : Goals) (before : List ℕ) (at : ℕ) where
  pub goals_none : GoalLines ws before before at at 0
  goals_none = record { inside = omega arith; few = omega arith; same = refl; whole = λ shop order counted. refl }

  pub goals_more : (text next : List ℕ) (end new i : ℕ) → GoalLines ws before text at end i → i < count_in ws → new ≤ end + four_bytes
      → length next ≡ length text → GoalPut ws i (take end text) (take new next) → GoalLines ws before next at new (i + 1)
  unfolding goals_text
  goals_more text next end new i l h few same put = record {
    inside = omega arith;
    few = omega (arith, l.few);
    same = same ∙ l.same;
    whole = λ shop order counted.
        let w = list_in shop order ws in
        let first = goal_text w (goal_at w i) in
        ap {B = List ℕ} (λ x. x ++ goals_text w (drop (i + 1) w)) (put shop order counted h)
        ∙ append_assoc (take end text) first (goals_text w (drop (i + 1) w))
        ∙ ap {B = List ℕ} (λ (j : ℕ). take end text ++ (first ++ goals_text w (drop j w))) (add-one i)
        ∙ ap {B = List ℕ} (λ x. take end text ++ goals_text w x) (sym (drop-cons w i no_goal (omega (arith, list_length shop order ws))))
        ∙ l.whole shop order counted;
  }

  pub goals_all : (text : List ℕ) (end i : ℕ) → GoalLines ws before text at end i → count_in ws ≤ i → GoalsPut ws (take at before) (take end text)
  unfolding goals_text
  goals_all text end i l h shop order counted =
      let w = list_in shop order ws in
      let past : length w ≤ i = omega (arith, list_length shop order ws) in
      sym (append-nil (take end text)) ∙ ap {B = List ℕ} (λ x. take end text ++ goals_text w x) (sym (drop_of_length-le w past)) ∙ l.whole shop order counted
