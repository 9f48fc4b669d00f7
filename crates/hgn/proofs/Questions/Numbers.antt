-- What holds of the numbers 1 to 28 and 31 to 33 with no atom, and of 29 and 30 with any, holds of the number and the atom of every question of a
-- replay: so none of the numbers is 0, and only 29 and 30 name an atom. The questions of the sheets are among 1 to 28. Assumes nothing.
use Prim.Native.Nat.{ℕ, suc, ◌+◌, ◌<◌}
use native.Mathlib.Omega.{arith}
use mathlib.Core.Logic.{◌≢◌}
use mathlib.Core.List.{List, [], ◌∷◌, ◌++◌}
use Rattle.hgn.specs.Questions.{all_at}
use Rattle.hgn.specs.Rows.{Row}
use Rattle.hgn.specs.RowQuestions.{row_questions}
use Rattle.hgn.specs.Tag.{Context, Position, advance}
use Rattle.hgn.specs.Meaning.{Method}
use Rattle.hgn.specs.State.{no_atom}
use Rattle.hgn.specs.Run.{Step, Move, release, act, use_method, unknown, move_of, Problem, Rules, own_questions, step_questions, end_questions, run_questions}
use Rattle.hgn.specs.Shop.{method_questions, shop_end_questions, shop_questions}
use Rattle.hgn.specs.Order.{order_end_questions, order_questions}
use Rattle.hgn.specs.Trace.{trace_questions}
use Rattle.hgn.specs.Replay.{input_questions, replay_questions}
use Rattle.hgn.proofs.Questions.FirstNo.{Numbers, numbers_append, numbers_at}

module _ (H : ℕ → ℕ → Type 0) (given : (k : ℕ) → k < 28 → H (suc k) no_atom) where
  pub rows_numbers : (follow : Context → List ℕ) (q F i : ℕ) (p : Position) (rows : List Row) → H q no_atom → H (q + 1) no_atom → H (q + 2) no_atom
      → Numbers H (row_questions follow q F i p rows)
  unfolding row_questions
  rows_numbers follow q F i p [] h₀ h₁ h₂ = tt
  rows_numbers follow q F i p (r ∷ rs) h₀ h₁ h₂ = (h₀, (h₁, (h₂, rows_numbers follow q F (suc i) (advance p r.tag r.value) rs h₀ h₁ h₂)))

  methods_numbers : (i : ℕ) (ms : List Method) → Numbers H (method_questions i ms)
  unfolding method_questions
  methods_numbers i [] = tt
  methods_numbers i (m ∷ ms) = (given 8 (omega arith), methods_numbers (suc i) ms)

  pub shop_numbers : (shop : List ℕ) → Numbers H (shop_questions shop)
  unfolding shop_questions shop_end_questions
  shop_numbers shop = (
    given 0 (omega arith),
    (
      given 1 (omega arith),
      (
        given 2 (omega arith),
        numbers_append H (row_questions _ _ _ _ _ _) _
            (rows_numbers _ 4 _ _ _ _ (given 3 (omega arith)) (given 4 (omega arith)) (given 5 (omega arith)))
            (given 6 (omega arith), (given 7 (omega arith), methods_numbers 0 _)),
      ),
    ),
  )

  pub order_numbers : (shop sheet : List ℕ) → Numbers H (order_questions shop sheet)
  unfolding order_questions order_end_questions
  order_numbers shop sheet = (
    given 10 (omega arith),
    (
      given 11 (omega arith),
      (
        given 12 (omega arith),
        numbers_append H (row_questions _ _ _ _ _ _) _
            (rows_numbers _ 14 _ _ _ _ (given 13 (omega arith)) (given 14 (omega arith)) (given 15 (omega arith)))
            (given 16 (omega arith), (given 17 (omega arith), tt)),
      ),
    ),
  )

  pub trace_numbers : (trace : List ℕ) → Numbers H (trace_questions trace)
  unfolding trace_questions
  trace_numbers trace = (given 20 (omega arith), (given 21 (omega arith), (given 22 (omega arith), tt)))

  -- Of all sheets that a check asks about.
  pub of_order_law : (shop sheet : List ℕ) → Numbers H (shop_questions shop ++ order_questions shop sheet)
  of_order_law shop sheet = numbers_append H (shop_questions shop) _ (shop_numbers shop) (order_numbers shop sheet)

  pub of_trace_law : (shop sheet trace : List ℕ) → Numbers H (shop_questions shop ++ order_questions shop sheet ++ trace_questions trace)
  of_trace_law shop sheet trace = numbers_append H (shop_questions shop ++ order_questions shop sheet) _ (of_order_law shop sheet) (trace_numbers trace)

  pub input_numbers : (shop sheet trace room : List ℕ) → Numbers H (input_questions shop sheet trace room)
  unfolding input_questions
  input_numbers shop sheet trace room =
      numbers_append H (shop_questions shop ++ order_questions shop sheet ++ trace_questions trace) _ (of_trace_law shop sheet trace) (given 23 (omega arith), tt)

  -- Of a run, where the questions of a goal and of needs name an atom.
  module _ (goal : (a : ℕ) → H 29 a) (needs : (a : ℕ) → H 30 a) (last : (k : ℕ) → k < 3 → H (31 + k) no_atom) where
    own_numbers : (r : Rules) (n : ℕ) (P : Problem) (p : ℕ) (m : Move) → Numbers H (own_questions r n P p m)
    unfolding own_questions
    own_numbers r n P p release = (goal _, tt)
    own_numbers r n P p (act k) = (needs _, (last 0 (omega arith), tt))
    own_numbers r n P p (use_method m) = (needs _, (last 0 (omega arith), (last 1 (omega arith), tt)))
    own_numbers r n P p unknown = tt

    pub step_numbers : (r : Rules) (n : ℕ) (P : Problem) (x : Step) → Numbers H (step_questions r n P x)
    unfolding step_questions
    step_numbers r n P x = (
      given 24 (omega arith),
      (given 25 (omega arith), (given 26 (omega arith), (given 27 (omega arith), own_numbers r n P x.place (move_of r.domain x.move)))),
    )

    pub run_numbers : (r : Rules) (n : ℕ) (P : Problem) (xs : List Step) → Numbers H (run_questions r n P xs)
    unfolding run_questions end_questions all_at
    run_numbers r n P [] = (last 2 (omega arith), tt)
    run_numbers r n P (x ∷ xs) =
        numbers_append H (all_at n (step_questions r n P x)) _ (numbers_at H n (step_questions r n P x) (step_numbers r n P x)) (run_numbers r (suc n) _ xs)

    pub replay_numbers : (shop sheet trace room : List ℕ) → Numbers H (replay_questions shop sheet trace room)
    unfolding replay_questions
    replay_numbers shop sheet trace room =
        numbers_append H (input_questions shop sheet trace room) _ (input_numbers shop sheet trace room) (run_numbers _ 0 _ _)

-- No number is 0.
pub not_zero : (k : ℕ) → k < 28 → suc k ≢ 0
not_zero k l = omega arith

abbrev NotZero : ℕ → ℕ → Type 0
NotZero k a = k ≢ 0

pub step_not_zero : (r : Rules) (n : ℕ) (P : Problem) (x : Step) → Numbers (λ k a. k ≢ 0) (step_questions r n P x)
step_not_zero = step_numbers NotZero not_zero (λ a. omega arith) (λ a. omega arith) (λ k l. omega arith)

pub run_not_zero : (r : Rules) (n : ℕ) (P : Problem) (xs : List Step) → Numbers (λ k a. k ≢ 0) (run_questions r n P xs)
run_not_zero = run_numbers NotZero not_zero (λ a. omega arith) (λ a. omega arith) (λ k l. omega arith)

pub replay_not_zero : (shop sheet trace room : List ℕ) → Numbers (λ k a. k ≢ 0) (replay_questions shop sheet trace room)
replay_not_zero = replay_numbers NotZero not_zero (λ a. omega arith) (λ a. omega arith) (λ k l. omega arith)
