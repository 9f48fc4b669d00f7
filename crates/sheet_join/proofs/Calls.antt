-- The ways that the call ends, and the definition's answer in each. Assumes nothing.
use Prim.Native.Nat.{ℕ, ◌+◌, ◌*◌, ◌<◌, ◌≤◌}
use native.Mathlib.Omega.{arith}
use mathlib.Core.Path.{◌≡◌, refl, sym, ap, ◌∙◌}
use mathlib.Core.Logic.{◌≢◌}
use mathlib.Core.Bool.{false}
use mathlib.Core.List.{List, []}
use lib.ListN.{length}
use borrow.Author.Tests.{lt-leb, le-leb}
use Rattle.hgn.specs.Rows.{most_rows}
use Rattle.hgn.specs.Questions as Questions
use Rattle.hgn.specs.Questions.{Question, no_refusal, ◌asks◌, Verdict, passed, refused, first_no, answered}
use Rattle.hgn.specs.Order.{most_goals, size_words}
use Rattle.hgn.specs.Lent.{unwritten, overwritten, writing}
use Rattle.hgn.specs.JoinSheet.{joined_words, sheet_questions, join_questions, write_join}
use Rattle.hgn.proofs.Questions.FirstNo.{append_refused, answered_passed}
use Rattle.hgn.proofs.Questions.Numbers.{not_zero}
use Rattle.hgn.proofs.Questions.Lent.{asking_refused, asking_passed}
use Rattle.hgn.proofs.Join.Call.{sheets_numbers, both_pass, size_questions, sizes_asked}
use Rattle.std.specs.Prelude.{Result, Ok, Err}
use Rattle.sheet_rows.specs.Refusals.{refusal_of, lent_of}
use Rattle.sheet_rows.specs.declared.refusal.Refusal.{Refusal}
use Rattle.sheet_rows.proofs.Laws.{numbered}
use Rattle.sheet_join.specs.declared.joining.Joining.{Joining}
use Rattle.sheet_join.specs.Joinings.{PassWithOne, IsJoining, Writable}

module _ (shop first second room : List ℕ) where
  -- What is asked of the three sheets.
  abbrev sheets : List Question
  sheets = sheet_questions shop first second

  -- What the call is to give.
  abbrev Gives : Result (Unit {0}) Refusal → List ℕ → Type 0
  Gives r exit = lent_of r exit ≡ write_join shop first second room

  -- It refuses by the first no.
  refuses : (q : Questions.Failure) → first_no (join_questions shop first second room) ≡ refused q → (r : Refusal) → refusal_of r ≡ q.refusal → Gives (Err r) room
  unfolding unwritten writing write_join
  refuses q e r a = ap (λ (x : Questions.Refusal). record { refusal = x; room = room }) a ∙ sym (asking_refused _ room _ q e)

  -- A sheet is refused.
  pub sheet_refused : (r : Refusal) → refusal_of r ≡ answered (first_no sheets) → Gives (Err r) room
  unfolding join_questions
  sheet_refused r e = go (first_no sheets) refl
    where
      go : (v : Verdict) → first_no sheets ≡ v → Gives (Err r) room
      go passed w = absurd (numbered r.question (ap (λ (x : Questions.Refusal). x.number) (e ∙ ap answered w)))
      go (refused q) w = refuses q (append_refused sheets _ q w) r (e ∙ ap answered w)

  -- Checks that answer no refusal have passed.
  pub sheets_pass : no_refusal ≡ answered (first_no sheets) → first_no sheets ≡ passed
  sheets_pass e = answered_passed sheets [] no_refusal e (sheets_numbers shop first second (λ k a. k ≢ 0) not_zero) refl

  module _ (ok : first_no sheets ≡ passed) where
    pub pass_with_one : PassWithOne first second
    pass_with_one = let h = both_pass shop first second ok in record { shop = shop; first_passes = h.0; second_passes = h.1 }

    -- Then 81 to 83 are asked.
    module _ (j : Joining) (comes : IsJoining first second j) where
      asked : first_no (join_questions shop first second room)
          ≡ first_no (size_questions j.goals j.rows (length room))
      asked = sizes_asked shop first second room (both_pass shop first second ok) ∙ rw (← comes.goals, ← comes.rows)

      pub goals_many : most_goals < j.goals → (r : Refusal) → refusal_of r ≡ (81 asks false).failure.refusal → Gives (Err r) room
      unfolding first_no
      goals_many h = refuses (81 asks false).failure (asked ∙ rw (lt-leb j.goals most_goals h))

      module _ (few : j.goals ≤ most_goals) where
        pub rows_many : most_rows < j.rows → (r : Refusal) → refusal_of r ≡ (82 asks false).failure.refusal → Gives (Err r) room
        unfolding first_no
        rows_many h = refuses (82 asks false).failure (asked ∙ rw (le-leb j.goals most_goals few, lt-leb j.rows most_rows h))

        module _ (short : j.rows ≤ most_rows) where
          pub room_short : length room < size_words + 2 * j.rows → (r : Refusal) → refusal_of r ≡ (83 asks false).failure.refusal → Gives (Err r) room
          unfolding first_no
          room_short h =
              refuses (83 asks false).failure
              (asked ∙ rw (le-leb j.goals most_goals few, le-leb j.rows most_rows short, lt-leb (size_words + 2 * j.rows) (length room) h))

          module _ (enough : size_words + 2 * j.rows ≤ length room) where
            pub writable : Writable first second room j
            writable = record { pass = pass_with_one; comes = comes; few_rows = short; room_enough = omega arith }

            pub join_written : {u : Unit {0}} (exit : List ℕ) → exit ≡ overwritten (joined_words first second) room → Gives (Ok u) exit
            unfolding first_no writing write_join
            join_written exit e =
                ap (λ (y : List ℕ). record { refusal = no_refusal; room = y }) e
                ∙ sym (asking_passed _ room _ (asked
                ∙ rw (le-leb j.goals most_goals few, le-leb j.rows most_rows short, le-leb (size_words + 2 * j.rows) (length room) enough)))
