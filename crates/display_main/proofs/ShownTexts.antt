-- The whole text, turn by turn: what each step that is shown gives to it, and what is left of it. Assumes nothing.
use Prim.Native.Nat.{ℕ, suc, ◌+◌, ◌*◌, ◌≤◌}
use native.Mathlib.Omega.{arith}
use native.Mathlib.Numerals.{add-one}
use mathlib.Core.Path.{◌≡◌, refl, sym, ap, subst, ◌∙◌}
use mathlib.Core.Logic.{◌≢◌}
use mathlib.Core.List.{List, [], ◌∷◌, ◌++◌, append-nil}
use mathlib.Core.Option.{none, some}
use Rattle.std.specs.Prelude.{Option, None, Some}
use lib.ListN.{length, length-append, take, drop, length-take}
use Rattle.hgn.specs.Questions as Questions
use Rattle.hgn.specs.Questions.{Verdict, passed, answered}
use Rattle.hgn.specs.Run as Run
use Rattle.hgn.specs.Run.{Step, problem_of, stepped}
use Rattle.hgn.specs.Order.{order, check_order}
use Rattle.hgn.specs.Trace.{steps_of, check_trace}
use Rattle.hgn.specs.Replay.{rules_of}
use Rattle.sheet_rows.specs.Refusals.{refusal_of}
use Rattle.sheet_rows.specs.declared.refusal.Refusal.{Refusal}
use Rattle.sheet_rows.proofs.Laws.{numbered}
use Rattle.step.specs.Failures.{told_of}
use Rattle.step.specs.Steps.{problem_in, Comes}
use Rattle.step.specs.Taking.{Going}
use Rattle.step.specs.declared.problem.Problem.{Problem}
use Rattle.step.specs.declared.problem.Stepped as Code
use Rattle.replay.specs.Running.{Prepared}
use Rattle.trace_reader.specs.TraceRows.{row_at}
use Rattle.trace_reader.proofs.RowLaws.{row_first, row_none}
use Rattle.display.specs.Forward.{Forward, stepped_at}
use Rattle.display.proofs.Steppings.{display_goes_on}
use Rattle.display_main.specs.Moments.{moment_text, turn_text, moment_bytes, turn_bytes}
use Rattle.display_main.specs.Puts.{MomentPut}
use Rattle.display_main.specs.Shown.{turns_text, steps_text, if_passed, shown_text, Writes, FewBytes, FirstWritten}
use Rattle.display_main.proofs.Goings.{going_next}

-- The steps shown so far: they have led to the record, and their bytes and the text from the next step on are the whole text.
pub record Turning (shop sheet trace : List ℕ) (before n bytes : ℕ) (b : Problem) : Type 0 where
  pub going : Going shop sheet n b.atoms b.waiting
  pub few : bytes ≤ before + turn_bytes * n
  pub whole : bytes + length (turns_text (rules_of shop) n (problem_in shop sheet b) (drop n (steps_of trace))) ≡ before + length (steps_text shop sheet trace)

module _ (shop sheet trace : List ℕ) (before : ℕ) where
  pub turning_none : {table : List ℕ} (b : Problem) → Prepared shop sheet table b → Turning shop sheet trace before 0 before b
  unfolding steps_text
  turning_none {table} b p =
      let g = display_goes_on.begins shop sheet table b p in
      record {
        going = g.1;
        few = omega arith;
        whole = ap {B = ℕ} (λ (P : Run.Problem). before + length (turns_text (rules_of shop) 0 P (steps_of trace))) g.0;
      }

  -- A step is read from the trace that is held, and its number is the row's.
  pub at_step : {n number bytes : ℕ} {b : Problem} {x : Step} {held : List ℕ} → number ≡ n → held ≡ trace → Turning shop sheet trace before n bytes b
      → row_at held n ≡ some x → Turning shop sheet trace before number bytes b × (row_at trace number ≡ some x)
  at_step e same t found = (rw e t, rw (e, ← same) found)

  -- Behind the last step nothing is left.
  pub turning_over : {n bytes : ℕ} (b : Problem) → Turning shop sheet trace before n bytes b → row_at trace n ≡ none → bytes ≡ before + length (steps_text shop sheet trace)
  unfolding turns_text
  turning_over {n} {bytes} b t e =
      let over : length (turns_text (rules_of shop) n (problem_in shop sheet b) (drop n (steps_of trace))) ≡ 0 =
      ap {B = ℕ} (λ (xs : List Step). length (turns_text (rules_of shop) n (problem_in shop sheet b) xs)) (row_none trace n e) in
      omega (arith, t.whole, over)

  module _ {n bytes : ℕ} (b : Problem) (t : Turning shop sheet trace before n bytes b) (x : Step) (found : row_at trace n ≡ some x) (shown : Code.Stepped)
      (f : Forward shop sheet n x b shown.answer shown.problem) where
    abbrev rest : List Step
    rest = drop (suc n) (steps_of trace)

    abbrev text : List ℕ
    text = turn_text n x (stepped_at shop sheet n x b)

    here : turns_text (rules_of shop) n (problem_in shop sheet b) (drop n (steps_of trace)) ≡ turns_text (rules_of shop) n (problem_in shop sheet b) (x ∷ rest)
    here = ap {B = List ℕ} (λ (xs : List Step). turns_text (rules_of shop) n (problem_in shop sheet b) xs)
        (row_first trace n x found ∙ ap {B = List Step} (λ (j : ℕ). x ∷ drop j (steps_of trace)) (add-one n))

    -- A step that is refused gives its text, and nothing is behind it.
    ends : (told_of shown.answer).refusal.number ≢ 0 → turns_text (rules_of shop) n (problem_in shop sheet b) (x ∷ rest) ≡ text ++ []
    unfolding turns_text
    ends z = go (stepped_at shop sheet n x b) f.comes_to
      where
        go : (o : Run.Stepped) → Comes shop sheet o shown
            → turn_text n x o ++ elim o [
              | Run.refused q ↦ []
              | Run.taken deed P ↦ turns_text (rules_of shop) (suc n) P rest
            ] ≡ turn_text n x o ++ []
        go (Run.refused q) k = refl
        go (Run.taken deed P) k = absurd (z (ap (λ (q : Questions.Failure). q.refusal.number) k.0))

    -- Behind a step that is taken are those from the record that it leaves.
    goes : (told_of shown.answer).refusal.number ≡ 0
        → turns_text (rules_of shop) n (problem_in shop sheet b) (x ∷ rest) ≡ text ++ turns_text (rules_of shop) (suc n) (problem_in shop sheet shown.problem) rest
    unfolding turns_text
    goes z = go (stepped_at shop sheet n x b) f.comes_to
      where
        go : (o : Run.Stepped) → Comes shop sheet o shown
            → turn_text n x o ++ elim o [
              | Run.refused q ↦ []
              | Run.taken deed P ↦ turns_text (rules_of shop) (suc n) P rest
            ] ≡ turn_text n x o ++ turns_text (rules_of shop) (suc n) (problem_in shop sheet shown.problem) rest
        go (Run.refused q) k = absurd (k.1 (sym (ap (λ (q : Questions.Failure). q.refusal.number) k.0) ∙ z))
        go (Run.taken deed P) k = ap {B = List ℕ} (λ (Q : Run.Problem). turn_text n x (Run.taken deed P) ++ turns_text (rules_of shop) (suc n) Q rest) (sym k.1)

    pub turning_ends : {more : ℕ} → more ≡ bytes + length text → (told_of shown.answer).refusal.number ≢ 0 → more ≡ before + length (steps_text shop sheet trace)
    turning_ends e z = omega (arith, t.whole, ap length here, ap length (ends z), length-append text [], e)

    pub turning_more : {more : ℕ} → more ≡ bytes + length text → length text ≤ turn_bytes → (told_of shown.answer).refusal.number ≡ 0
        → Turning shop sheet trace before (n + 1) more shown.problem
    turning_more {more} e few z =
        let later : turns_text (rules_of shop) (n + 1) (problem_in shop sheet shown.problem) (drop (n + 1) (steps_of trace))
        ≡ turns_text (rules_of shop) (suc n) (problem_in shop sheet shown.problem) rest =
        ap {B = List ℕ} (λ (j : ℕ). turns_text (rules_of shop) j (problem_in shop sheet shown.problem) (drop j (steps_of trace))) (add-one n) in
        record {
          going = going_next {k = n} (display_goes_on.goes_on _ _ _ _ _ (record { answer = shown.answer; after = shown.problem; forward = f }) t.going) z refl;
          few = omega (arith, t.few, e, few);
          whole = omega (
            arith,
            t.whole,
            ap length here,
            ap length (goes z),
            length-append text (turns_text (rules_of shop) (suc n) (problem_in shop sheet shown.problem) rest),
            ap length later,
            e,
          );
        }

-- All of a text was written, and its bytes were counted.
pub counted : (before : ℕ) (piece : List ℕ) {n : ℕ} {text : List ℕ} → n ≡ before + length piece → piece ≡ text → n ≡ before + length text
counted before piece w p = w ∙ ap {B = ℕ} (λ l. before + length l) p

-- The first moment, counted.
pub first_written : (b : Problem) (r : Option ℕ) (end : ℕ) (room : List ℕ) {text : List ℕ} → text ≡ take end room → end ≤ moment_bytes → Writes 0 text r
    → MomentPut 0 b [] (take end room) → FewBytes r × FirstWritten b r
first_written b (Some n) end room {text} e few w put = (
  omega (arith, w, ap length e, length-take end room, few),
  λ shop sheet valid. omega (arith, w, ap length e, ap length (put shop sheet valid)),
)
first_written b None end room e few w put = (tt, λ shop sheet valid. tt)

-- The front of a room has no more bytes than were counted.
pub few_front : (end : ℕ) (room : List ℕ) {most : ℕ} {piece : List ℕ} → piece ≡ take end room → end ≤ most → length piece ≤ most
few_front end room e few = omega (arith, ap length e, length-take end room, few)

-- What the code's record gives first is the moment of the order's problem.
pub first_is : (shop sheet : List ℕ) {table : List ℕ} (b : Problem) {n : ℕ} → Prepared shop sheet table b → FirstWritten b (Some n)
    → n ≡ length (moment_text 0 (problem_of (order sheet)))
first_is shop sheet {table} b {n} p w =
    subst (λ (Q : Run.Problem). n ≡ length (moment_text 0 Q)) (display_goes_on.begins shop sheet table b p).0
    (omega (arith, w shop sheet p.goals.valid))

module _ (shop sheet trace : List ℕ) where
  -- A check that refuses has not passed.
  module _ (q : Refusal) where
    unpassed : (v : Verdict) (l : List ℕ) → refusal_of q ≡ answered v → if_passed v l ≡ []
    unfolding if_passed
    unpassed passed l e = absurd (numbered q.question (ap (λ (a : Questions.Refusal). a.number) e))
    unpassed (Questions.refused f) l e = refl

    shown_nothing : refusal_of q ≡ answered (check_order shop sheet) → shown_text shop sheet trace ≡ []
    unfolding shown_text
    shown_nothing e = unpassed (check_order shop sheet) _ e

    pub writes_nothing : refusal_of q ≡ answered (check_order shop sheet) → Writes 0 (shown_text shop sheet trace) (Some 0)
    writes_nothing e = omega (arith, ap length (shown_nothing e))

    shown_first : check_order shop sheet ≡ passed → refusal_of q ≡ answered (check_trace shop sheet trace)
        → shown_text shop sheet trace ≡ moment_text 0 (problem_of (order sheet))
    unfolding shown_text if_passed
    shown_first o e =
        ap {B = List ℕ} (λ v. if_passed v (moment_text 0 (problem_of (order sheet)) ++ if_passed (check_trace shop sheet trace) (steps_text shop sheet trace))) o
        ∙ ap {B = List ℕ} (λ l. moment_text 0 (problem_of (order sheet)) ++ l) (unpassed (check_trace shop sheet trace) (steps_text shop sheet trace) e)
        ∙ append-nil (moment_text 0 (problem_of (order sheet)))

    pub writes_first : {n : ℕ} → check_order shop sheet ≡ passed → refusal_of q ≡ answered (check_trace shop sheet trace)
        → n ≡ length (moment_text 0 (problem_of (order sheet))) → Writes 0 (shown_text shop sheet trace) (Some n)
    writes_first o e h = omega (arith, h, ap length (shown_first o e))

  shown_all : check_order shop sheet ≡ passed → check_trace shop sheet trace ≡ passed
      → shown_text shop sheet trace ≡ moment_text 0 (problem_of (order sheet)) ++ steps_text shop sheet trace
  unfolding shown_text if_passed
  shown_all o e =
      ap {B = List ℕ} (λ v. if_passed v (moment_text 0 (problem_of (order sheet)) ++ if_passed (check_trace shop sheet trace) (steps_text shop sheet trace))) o
      ∙ ap {B = List ℕ} (λ v. moment_text 0 (problem_of (order sheet)) ++ if_passed v (steps_text shop sheet trace)) e

  -- The first moment, and behind it the steps.
  pub writes_all : (r : Option ℕ) {n : ℕ} → check_order shop sheet ≡ passed → check_trace shop sheet trace ≡ passed → n ≡ length (moment_text 0 (problem_of (order sheet)))
      → Writes n (steps_text shop sheet trace) r → Writes 0 (shown_text shop sheet trace) r
  writes_all (Some m) o e h w =
      omega (arith, w, h, ap length (shown_all o e), length-append (moment_text 0 (problem_of (order sheet))) (steps_text shop sheet trace))
  writes_all None o e h w = tt

-- The text depends on the words of the sheets alone, so equal words may be put for each other.
pub writes_of : {shop shop' sheet sheet' trace trace' : List ℕ} (r : Option ℕ) → shop ≡ shop' → sheet ≡ sheet' → trace ≡ trace' → Writes 0 (shown_text shop sheet trace) r
    → Writes 0 (shown_text shop' sheet' trace') r
writes_of r a b c w = rw (← a, ← b, ← c) w
