-- The ways that the call ends, and the definition's answer in each. Assumes nothing.
use Prim.Native.Nat.{ℕ, ◌+◌, ◌*◌, ◌<◌, ◌≤◌}
use Rattle.std.specs.Prelude.{Result, Ok, Err}
use mathlib.Core.Path.{◌≡◌, refl, sym, ap, ap₂, ◌∙◌}
use mathlib.Core.Bool.{false}
use mathlib.Core.List.{List, [], ◌∷◌}
use mathlib.Core.Option.{Option, none, some}
use lib.ListN.{length}
use borrow.Author.Tests.{lt-leb, le-leb}
use Rattle.hgn.specs.Questions as Questions
use Rattle.hgn.specs.Questions.{no_refusal, ◌asks◌, placed, Verdict, passed, refused, first_no, answered}
use Rattle.hgn.specs.Run.{Step}
use Rattle.hgn.specs.Order.{check_order}
use Rattle.hgn.specs.Trace.{trace_words}
use Rattle.hgn.specs.Lent.{unwritten, overwritten}
use Rattle.hgn.specs.Search.{Searched, is_found, steps_found, searched, written, most_depth, search_questions, search}
use Rattle.hgn.proofs.Questions.FirstNo.{answered_passed}
use Rattle.hgn.proofs.Questions.Numbers.{of_order_law, not_zero}
use Rattle.hgn.proofs.Search.Search.{search_refused, search_passed, sheets_refused, depth_refused, room_refused, inputs_searched}
use Rattle.sheet_rows.specs.Refusals.{refusal_of}
use Rattle.sheet_rows.specs.declared.refusal.Refusal.{Refusal}
use Rattle.sheet_rows.proofs.Laws.{numbered}
use Rattle.search.specs.Founds.{searched_of, steps_of}
use Rattle.search.specs.declared.shortest.Shortest.{Shortest}

module _ (shop sheet : List ℕ) (depth : ℕ) (room : List ℕ) where
  abbrev answer : Questions.Refusal → List ℕ → Searched
  answer q exit = record { refusal = q; room = exit }

  -- What the call is to give.
  abbrev Gives : Result ℕ Refusal → List ℕ → Type 0
  Gives r exit = searched_of r exit ≡ search shop sheet depth room

  -- It refuses by the first no.
  refuses : (q : Questions.Failure) → first_no (search_questions shop sheet depth room) ≡ refused q → (r : Refusal) → refusal_of r ≡ q.refusal → Gives (Err r) room
  unfolding unwritten
  refuses q e r a = ap (λ (x : Questions.Refusal). answer x room) a ∙ sym (search_refused shop sheet depth room q e)

  -- A sheet is refused.
  pub sheet_refused : (r : Refusal) → refusal_of r ≡ answered (check_order shop sheet) → Gives (Err r) room
  sheet_refused r e = go (check_order shop sheet) refl
    where
      go : (v : Verdict) → check_order shop sheet ≡ v → Gives (Err r) room
      go passed w = absurd (numbered r.question (ap (λ (x : Questions.Refusal). x.number) (e ∙ ap answered w)))
      go (refused q) w = refuses q (sheets_refused shop sheet depth room q w) r (e ∙ ap answered w)

  -- A check that answers no refusal has passed.
  pub sheet_passes : no_refusal ≡ answered (check_order shop sheet) → check_order shop sheet ≡ passed
  unfolding check_order
  sheet_passes e = answered_passed _ [] no_refusal e (of_order_law _ not_zero shop sheet) refl

  module _ (ok : check_order shop sheet ≡ passed) where
    -- The depth is too large.
    pub too_deep : most_depth < depth → (r : Refusal) → refusal_of r ≡ (41 asks false).failure.refusal → Gives (Err r) room
    too_deep h = refuses _ (depth_refused shop sheet depth room ok (lt-leb depth most_depth h))

    module _ (few : depth ≤ most_depth) where
      -- The room is too short.
      pub room_short : length room < 1 + 2 * depth → (r : Refusal) → refusal_of r ≡ (42 asks false).failure.refusal → Gives (Err r) room
      room_short h = refuses _ (room_refused shop sheet depth room ok (le-leb depth most_depth few) (lt-leb (1 + 2 * depth) (length room) h))

      module _ (fits : 1 + 2 * depth ≤ length room) (o : Option (List Step)) (e : o ≡ searched shop sheet depth) where
        -- Only whether a trace was found is still asked.
        asked : first_no (search_questions shop sheet depth room) ≡ first_no (43 asks is_found o ∷ [])
        asked =
            inputs_searched shop sheet depth room (ok, few, fits)
            ∙ ap (λ (o : Option (List Step)). first_no (43 asks is_found o ∷ [])) (sym e)

      -- None is found.
      pub no_trace : 1 + 2 * depth ≤ length room → none ≡ searched shop sheet depth → (r : Refusal) → refusal_of r ≡ (43 asks false).failure.refusal → Gives (Err r) room
      unfolding first_no is_found
      no_trace fits e = refuses (43 asks false).failure (asked fits none e)

      -- The trace is written.
      pub trace_found : 1 + 2 * depth ≤ length room → (f : Shortest) → some (steps_of f) ≡ searched shop sheet depth → length (steps_of f) ≡ f.length
          → (exit : List ℕ) → exit ≡ overwritten (trace_words (steps_of f)) room → Gives (Ok f.length) exit
      unfolding first_no is_found steps_found written
      trace_found fits f e m exit w =
          ap₂ answer (ap (λ (n : ℕ). placed n no_refusal) (sym m)) w
          ∙ sym (search_passed shop sheet depth room (asked fits (some (steps_of f)) e) ∙ ap (λ (o : Option (List Step)). written room (steps_found o)) (sym e))
