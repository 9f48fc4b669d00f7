-- The order of the questions, read by neighbours. Assumes nothing.
use Prim.Native.Nat.{ℕ, ◌+◌, ◌*◌, ◌≤◌, ◌<◌}
use mathlib.Core.Path.{◌≡◌, refl, ap, ◌∙◌}
use mathlib.Core.Bool.{false}
use mathlib.Core.Logic.{◌≢◌}
use mathlib.Core.List.{List, [], ◌∷◌, ◌++◌}
use lib.Dec.{leb}
use lib.ListN.{length}
use borrow.Author.Tests.{le-leb, lt-leb, lt-ltb, le-ltb, ne_eqb}
use Rattle.hgn.specs.Questions.{Failure, ◌asks◌, ◌naming◌, first_no}
use Rattle.hgn.specs.Questions as Questions
use Rattle.hgn.specs.State.{no_atom, unmet}
use Rattle.hgn.specs.Run.{Step, known, action_at, method_at, Problem, Rules, own_questions, step_questions, stepped}
use Rattle.hgn.specs.Order.{check_order, order_questions}
use Rattle.hgn.specs.Shop.{shop_questions}
use Rattle.hgn.specs.Trace.{size_words, step_count, most_steps, trace_questions, check_trace}
use Rattle.hgn.specs.Replay.{Replayed, refusal, input_questions, check_replay, replay}
use Rattle.hgn.specs.Search.{Searched, search_questions, search}
use Rattle.hgn.specs.Lent.{unwritten}
use Rattle.hgn.specs.Readings.{RefusedBy, StepOrder, ReplayOrder, SearchOrder, QuestionsInOrder}
use Rattle.hgn.proofs.Questions.FirstNo.{append_passed, append_refused}
use Rattle.hgn.proofs.Run.Steps.{some_free, step_refused}
use Rattle.hgn.proofs.Run.Replay.{replay_refused}
use Rattle.hgn.proofs.Search.Search.{search_refused, sheets_refused, depth_refused, room_refused}

module _ (r : Rules) (n : ℕ) (P : Problem) (x : Step) where
  -- The question of this number is the first no, and names this atom.
  refused_by : (k a : ℕ) → first_no (step_questions r n P x) ≡ Questions.refused (k asks false naming a).failure → RefusedBy k (stepped r n P x)
  refused_by k a e = ((k asks false naming a).failure, step_refused r n P x _ e, refl)

  step_order : StepOrder r n P x
  unfolding step_questions own_questions first_no known
  step_order = record {
    place_before_known = λ h e. refused_by 25 no_atom (rw (le-ltb _ _ h));
    known_before_any = λ h e a. refused_by 26 no_atom (rw (lt-ltb _ _ h, e));
    any_before_this = λ h e a f. refused_by 27 no_atom (rw (lt-ltb _ _ h, e, a));
    this_before_holds = λ h e a f g. refused_by 28 no_atom (rw (lt-ltb _ _ h, e, a, f));
    this_before_needs = λ k h e a f g. refused_by 28 no_atom (rw (lt-ltb _ _ h, e, a, f));
    this_before_method_needs = λ m h e a f g. refused_by 28 no_atom (rw (lt-ltb _ _ h, e, a, f));
    needs_before_relevant = λ k h e f g l. refused_by 30 (unmet P.state (action_at r.domain k).needs) (rw (lt-ltb _ _ h, e, some_free P.waiting x.place h f, f, g));
    method_needs_before_relevant = λ m h e f g l. refused_by 30 (unmet P.state (method_at r.domain m).needs) (rw (lt-ltb _ _ h, e, some_free P.waiting x.place h f, f, g));
    relevant_before_limit = λ m h e f g l o. refused_by 31 no_atom (rw (lt-ltb _ _ h, e, some_free P.waiting x.place h f, f, g, l));
  }

module _ (shop sheet trace room : List ℕ) where
  -- The replay's number is that of the first no before the run.
  number_by : (k : ℕ) → check_replay shop sheet trace room ≡ Questions.refused (k asks false).failure
      → (replay shop sheet trace room).answer.refusal.number ≡ k
  unfolding refusal
  number_by k e = ap (λ (c : Replayed). c.answer.refusal.number) (replay_refused shop sheet trace room _ e)

  replay_order : ReplayOrder shop sheet trace room
  unfolding check_replay input_questions check_order check_trace trace_questions first_no refusal
  replay_order = record {
    sheets_first = λ q e.
        ap (λ (c : Replayed). c.answer.refusal)
        (replay_refused shop sheet trace room q (append_refused (shop_questions shop ++ order_questions shop sheet ++ trace_questions trace) _ q e));
    size_before_room = λ h one few size short.
        number_by 23
        (append_refused (shop_questions shop ++ order_questions shop sheet ++ trace_questions trace) _ _
        (append_passed (shop_questions shop ++ order_questions shop sheet) _ h ∙ sizes one few size));
    room_before_place = λ h short s ss e p.
        number_by 24 (append_passed (shop_questions shop ++ order_questions shop sheet ++ trace_questions trace) _ h ∙ roomy short);
  }
    where
      sizes : 1 ≤ length trace → step_count trace ≤ most_steps → length trace ≢ size_words + 2 * step_count trace
          → first_no (trace_questions trace) ≡ Questions.refused (23 asks false).failure
      sizes one few size = rw (le-leb 1 (length trace) one, le-leb _ _ few, ne_eqb _ _ size)

      roomy : length room < step_count trace
          → first_no (24 asks leb (step_count trace) (length room) ∷ []) ≡ Questions.refused (24 asks false).failure
      roomy short = rw (lt-leb _ _ short)

module _ (shop sheet : List ℕ) (depth : ℕ) (room : List ℕ) where
  search_by : (q : Failure) → first_no (search_questions shop sheet depth room) ≡ Questions.refused q
      → (search shop sheet depth room).refusal.number ≡ q.refusal.number
  unfolding unwritten
  search_by q e = ap (λ (c : Searched). c.refusal.number) (search_refused shop sheet depth room q e)

  search_order : SearchOrder shop sheet depth room
  unfolding unwritten
  search_order = record {
    sheets_first = λ q h.
        ap (λ (c : Searched). c.refusal) (search_refused shop sheet depth room q (sheets_refused shop sheet depth room q h));
    depth_before_room = λ h l k. search_by _ (depth_refused shop sheet depth room h (lt-leb _ _ l));
    room_before_none = λ h l k none. search_by _ (room_refused shop sheet depth room h (le-leb _ _ l) (lt-leb _ _ k));
  }

pub questions_in_order : QuestionsInOrder
questions_in_order = record { of_step_law = step_order; of_replay = replay_order; of_search = search_order }
