-- Demand 1: the checks, the replay, the search and the join answer with the first question whose answer is no, and leave what they were lent.
-- Assumes nothing.
use Prim.Native.Nat.{ℕ}
use mathlib.Core.Path.{◌≡◌, refl, sym, ap, subst, ◌∙◌}
use mathlib.Core.Logic.{◌≢◌}
use mathlib.Core.List.{List, [], ◌++◌}
use Rattle.hgn.specs.Questions.{Refusal, without_atom, Question, first_no, answered}
use Rattle.hgn.specs.State.{no_atom}
use Rattle.hgn.specs.Shop.{shop_questions, check_shop}
use Rattle.hgn.specs.Order.{order_questions, check_order}
use Rattle.hgn.specs.Trace.{trace_questions, check_trace}
use Rattle.hgn.specs.Search.{Searched, written, search_questions, search}
use Rattle.hgn.specs.Demands.{CheckAnswers, SearchAnswers, Demand1}
use Rattle.hgn.proofs.Questions.FirstNo.{Numbers, numbers_append, Tells, answers_first, answered_tells, answered_passed}
use Rattle.hgn.proofs.Questions.Numbers.{shop_numbers, of_order_law, of_trace_law, replay_not_zero, not_zero}
use Rattle.hgn.proofs.Run.Replay.{replay_tells, replay_refuses}
use Rattle.hgn.proofs.Questions.Lent.{lent_answers}
use Rattle.hgn.proofs.Join.Call.{join_answers}
use native.Mathlib.Omega.{arith}

-- A check that answers the verdict of its questions.
checks : (qs : List Question) → Numbers (λ k a. k ≢ 0) qs → Numbers (λ k a. a ≡ no_atom) qs → (a : Refusal) → a ≡ answered (first_no qs) → CheckAnswers qs a
checks qs h u a e = record {
  first = answers_first qs (without_atom a) (Unit {0}) h (subst (λ (b : Refusal). Tells (without_atom b) (first_no qs)) (sym e) (answered_tells qs u)) (λ z. tt);
  passed_place = λ z. ap (λ (b : Refusal). b.place) (e ∙ ap answered (answered_passed qs [] a e h z));
}

search_answers : (shop sheet : List ℕ) (depth : ℕ) (room : List ℕ) (c : Searched) → c ≡ search shop sheet depth room → SearchAnswers shop sheet depth room c
unfolding search_questions search written
search_answers shop sheet depth room c e =
    lent_answers (search_questions shop sheet depth room) room _
    (numbers_append (λ k a. k ≢ 0) (shop_questions shop ++ order_questions shop sheet) _ (of_order_law (λ k a. k ≢ 0) not_zero shop sheet)
    (omega arith, (omega arith, (omega arith, tt))))
    (numbers_append (λ k a. a ≡ no_atom) (shop_questions shop ++ order_questions shop sheet) _ (of_order_law (λ k a. a ≡ no_atom) (λ k l. refl) shop sheet)
    (refl, (refl, (refl, tt))))
    refl c e

pub demand_1 : Demand1
unfolding check_shop check_order check_trace
demand_1 = record {
  of_shop_check = λ shop a e. checks (shop_questions shop) (shop_numbers (λ k a. k ≢ 0) not_zero shop) (shop_numbers (λ k a. a ≡ no_atom) (λ k l. refl) shop) a e;
  of_order_check = λ shop sheet a e. checks (shop_questions shop ++ order_questions shop sheet) (of_order_law (λ k a. k ≢ 0) not_zero shop sheet) (of_order_law (λ k a. a ≡ no_atom) (λ k l. refl) shop sheet) a e;
  of_trace_check = λ shop sheet trace a e.
      checks (shop_questions shop ++ order_questions shop sheet ++ trace_questions trace) (of_trace_law (λ k a. k ≢ 0) not_zero shop sheet trace)
      (of_trace_law (λ k a. a ≡ no_atom) (λ k l. refl) shop sheet trace) a e;
  of_replay = λ shop sheet trace room c e.
      answers_first _ _ _ (replay_not_zero shop sheet trace room) (replay_tells shop sheet trace room c e) (replay_refuses shop sheet trace room c e);
  of_search = search_answers;
  of_join = join_answers;
}
