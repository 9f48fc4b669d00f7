-- Stepping through a trace shows what the replay answers, and can be done. Assumes nothing.
use Prim.Native.Nat.{ℕ, zero, suc, ◌+◌}
use native.Mathlib.Omega.{arith}
use native.Mathlib.Nat.{add-zero, zero-add}
use mathlib.Core.Path.{◌≡◌, refl, sym, ap, ap₂, subst, ◌∙◌}
use mathlib.Core.Logic.{◌≢◌}
use mathlib.Core.List.{List, [], ◌∷◌, ◌++◌, append-nil, append_assoc}
use lib.Dec.{eqb}
use lib.ListN.{length, take}
use borrow.Author.Tests.{eqb-true, eqb-false}
use Rattle.hgn.specs.Questions as Questions
use Rattle.hgn.specs.Questions.{failed_at, all_at, first_no}
use Rattle.hgn.specs.Meaning.{Domain}
use Rattle.hgn.specs.Network.{most_waiting}
use Rattle.hgn.specs.Run as Run
use Rattle.hgn.specs.Run.{Step, Stepped, Deed, problem_of, refused, taken, stepped, move_of, deed_of, Outcome, stopped, accepted, prepend, end_questions, ended, run_by, run}
use Rattle.hgn.specs.Shop.{domain}
use Rattle.hgn.specs.Order.{order}
use Rattle.hgn.specs.Trace.{step_count, steps_of}
use Rattle.hgn.specs.Replay.{rules_of, Replayed, refusal, acceptance, reported}
use Rattle.hgn.specs.Readings.{Reached, first, next}
use Rattle.hgn.proofs.Run.Steps.{taken_deed, taken_passed, step_passed}
use Rattle.hgn.proofs.Run.Runs.{resumed, run_cons}
use Rattle.hgn.proofs.Run.Replay.{inputs_passed, replay_passed}
use Rattle.hgn.proofs.Network.Reached.{one_more}
use Rattle.hgn.proofs.Sheets.Trace.{trace_sizes}
use Rattle.sheet_index.proofs.Spans.{by_test}
use Rattle.step.specs.Failures.{told_of}
use Rattle.step.specs.Steps.{problem_in, Comes}
use Rattle.step.specs.declared.problem.Problem.{Problem}
use Rattle.step.proofs.Taken.{going_taken, going_refused}
use Rattle.replay.proofs.Totals.{steps_length}
use Rattle.replay.proofs.TakenSteps.{going_first}
use Rattle.display.specs.Forward.{stepped_at}
use Rattle.display.specs.Stepping.{StepCall, Calls, onward, shown_by, left_by, DisplayShowsReplay, DisplayGoesOn}

-- Where the number is 0, what holds of both that follow holds of both that it leads to; at any other number that is all.
both_on : {A B : Type 0} (Q : A → B → Type 0) (a : A) (b : B) (number : ℕ) (f : number ≡ 0 → A) (g : number ≡ 0 → B) → number ≡ 0
    → ((e : number ≡ 0) → Q (f e) (g e)) → Q (onward a number f) (onward b number g)
unfolding onward
both_on Q a b zero f g e h = h refl
both_on Q a b (suc number) f g e h = absurd (omega arith)

stops : {A : Type 0} (here : A) (number : ℕ) (rest : number ≡ 0 → A) → number ≢ 0 → onward here number rest ≡ here
unfolding onward
stops here zero rest h = absurd (h refl)
stops here (suc k) rest h = refl

-- The place at which a run of so many steps ends.
unfoldable place_of : ℕ → Outcome → ℕ
place_of steps (stopped q) = q.refusal.place
place_of steps (accepted deeds s) = steps

place_prepended : (steps : ℕ) (deed : Deed) (o : Outcome) → place_of steps (prepend deed o) ≡ place_of steps o
unfolding place_of prepend
place_prepended steps deed (stopped q) = refl
place_prepended steps deed (accepted deeds s) = refl

place_ended : (n : ℕ) (P : Run.Problem) → place_of n (ended n P) ≡ n
unfolding place_of ended end_questions first_no all_at
place_ended n P = by_test (eqb (length P.waiting) 0) (λ z. rw (z, ended) refl) (λ z. rw (z, ended) refl)

place_reported : (d : Domain) (steps : ℕ) (room : List ℕ) (o : Outcome) → (reported d steps room o).answer.refusal.place ≡ place_of steps o
unfolding reported refusal acceptance place_of
place_reported d steps room (stopped q) = refl
place_reported d steps room (accepted deeds s) = refl

module _ (shop sheet : List ℕ) where
  -- What a call showed of a step that is refused, and of one that is taken.
  module _ (n : ℕ) (b : Problem) (x : Step) (c : StepCall shop sheet n x b) where
    comes : (o : Stepped) → stepped_at shop sheet n x b ≡ o → Comes shop sheet o (record { answer = c.answer; problem = c.after })
    comes o e = subst (λ (s : Stepped). Comes shop sheet s (record { answer = c.answer; problem = c.after })) e c.forward.comes_to

    not_zero : (q : Questions.Failure) → stepped_at shop sheet n x b ≡ refused q → (told_of c.answer).refusal.number ≢ 0
    not_zero q e z = (comes (refused q) e).1 (sym (ap (λ (f : Questions.Failure). f.refusal.number) (comes (refused q) e).0) ∙ z)

    did : (deed : Deed) (P : Run.Problem) → stepped_at shop sheet n x b ≡ taken deed P
        → deed_of (problem_in shop sheet b) x.place (move_of (domain shop) x.move) ≡ deed
    did deed P e =
        let pass = taken_passed (rules_of shop) n (problem_in shop sheet b) x deed P e in
        taken_deed (sym (step_passed (rules_of shop) n (problem_in shop sheet b) x pass) ∙ e)

  shown_run : (n : ℕ) (b : Problem) (xs : List Step) (cs : Calls shop sheet n b xs)
      → shown_by shop sheet n b xs cs ≡ run (rules_of shop) n (problem_in shop sheet b) xs
  unfolding Calls shown_by run_by resumed
  shown_run n b [] cs = refl
  shown_run n b (x ∷ xs) cs = go (stepped_at shop sheet n x b) refl (λ a. shown_run (suc n) cs.0.after xs (cs.1 a))
    where
      go : (o : Stepped) → stepped_at shop sheet n x b ≡ o
          → ((a : (told_of cs.0.answer).refusal.number ≡ 0) → shown_by shop sheet (suc n) cs.0.after xs (cs.1 a) ≡ run (rules_of shop) (suc n) (problem_in shop sheet cs.0.after) xs)
          → shown_by shop sheet n b (x ∷ xs) cs ≡ run (rules_of shop) n (problem_in shop sheet b) (x ∷ xs)
      go (refused q) e h =
          stops _ (told_of cs.0.answer).refusal.number _ (not_zero n b x cs.0 q e)
          ∙ ap (λ (f : Questions.Failure). stopped (failed_at n f)) (comes n b x cs.0 (refused q) e).0
          ∙ sym (run_cons (stepped (rules_of shop)) n (problem_in shop sheet b) x xs ∙ ap (resumed (stepped (rules_of shop)) n xs) e)
      go (taken deed P) e h =
          let t = comes n b x cs.0 (taken deed P) e in
          both_on (λ (o : Outcome) (u : Unit {0}). o ≡ run (rules_of shop) n (problem_in shop sheet b) (x ∷ xs)) _ tt (told_of cs.0.answer).refusal.number _
          (λ z. tt) (ap (λ (f : Questions.Failure). f.refusal.number) t.0)
          (λ z. ap₂ {C = Outcome} prepend (did n b x cs.0 deed P e)
          (h z ∙ ap (λ (Q : Run.Problem). run (rules_of shop) (suc n) Q xs) t.1)
          ∙ sym (run_cons (stepped (rules_of shop)) n (problem_in shop sheet b) x xs ∙ ap (resumed (stepped (rules_of shop)) n xs) e))

  -- From a problem that the steps `ys` have led to: the record left, after how many of the steps it stands, and the place shown.
  record Left (P₀ : Run.Problem) (ys : List Step) (n : ℕ) (xs : List Step) (o : Outcome) (b : Problem) : Type 0 where
    pub steps : ℕ
    pub reached : Reached (rules_of shop) P₀ (ys ++ take steps xs) (problem_in shop sheet b)
    pub place : place_of (n + length xs) o ≡ n + steps

  left : (P₀ : Run.Problem) (ys : List Step) (n : ℕ) (b : Problem) (xs : List Step) (cs : Calls shop sheet n b xs) → length ys ≡ n
      → Reached (rules_of shop) P₀ ys (problem_in shop sheet b) → Left P₀ ys n xs (shown_by shop sheet n b xs cs) (left_by shop sheet n b xs cs)
  unfolding Calls shown_by left_by place_of
  left P₀ ys n b [] cs l h = record {
    steps = 0;
    reached = subst (λ (zs : List Step). Reached (rules_of shop) P₀ zs (problem_in shop sheet b)) (sym (append-nil ys)) h;
    place = rw add-zero (place_ended n (problem_in shop sheet b));
  }
  left P₀ ys n b (x ∷ xs) cs l h = go (stepped_at shop sheet n x b) refl (λ a. left P₀ (ys ++ (x ∷ [])) (suc n) cs.0.after xs (cs.1 a) (sym (one_more ys x) ∙ ap suc l))
    where
      go : (o : Stepped) → stepped_at shop sheet n x b ≡ o
          → ((a : (told_of cs.0.answer).refusal.number ≡ 0) → Reached (rules_of shop) P₀ (ys ++ (x ∷ [])) (problem_in shop sheet cs.0.after)
          → Left P₀ (ys ++ (x ∷ [])) (suc n) xs (shown_by shop sheet (suc n) cs.0.after xs (cs.1 a)) (left_by shop sheet (suc n) cs.0.after xs (cs.1 a)))
          → Left P₀ ys n (x ∷ xs) (shown_by shop sheet n b (x ∷ xs) cs) (left_by shop sheet n b (x ∷ xs) cs)
      go (refused q) e ih =
          let z = not_zero n b x cs.0 q e in
          record {
            steps = 0;
            reached =
                subst (λ (c : Problem). Reached (rules_of shop) P₀ (ys ++ []) (problem_in shop sheet c)) (sym (stops _ (told_of cs.0.answer).refusal.number _ z ∙ cs.0.forward.unchanged z))
                (subst (λ (zs : List Step). Reached (rules_of shop) P₀ zs (problem_in shop sheet b)) (sym (append-nil ys)) h);
            place = ap (place_of (n + suc (length xs))) (stops _ (told_of cs.0.answer).refusal.number _ z) ∙ sym (add-zero n);
          }
      go (taken deed P) e ih =
          let t = comes n b x cs.0 (taken deed P) e in
          let r : Reached (rules_of shop) P₀ (ys ++ (x ∷ [])) (problem_in shop sheet cs.0.after) =
          subst (Reached (rules_of shop) P₀ (ys ++ (x ∷ []))) (sym t.1) (next x h (ap (λ (k : ℕ). stepped (rules_of shop) k (problem_in shop sheet b) x) l ∙ e))
          in
          both_on (Left P₀ ys n (x ∷ xs)) _ _ (told_of cs.0.answer).refusal.number _ _ (ap (λ (f : Questions.Failure). f.refusal.number) t.0) (λ z.
          let i = ih z r in
          let longer : n + suc (length xs) ≡ suc n + length xs = omega arith in
          let one_on : suc n + i.steps ≡ n + suc i.steps = omega arith in
          record {
            steps = suc i.steps;
            reached =
                subst (λ (zs : List Step). Reached (rules_of shop) P₀ zs (problem_in shop sheet (left_by shop sheet (suc n) cs.0.after xs (cs.1 z))))
                (append_assoc ys (x ∷ []) (take i.steps xs)) i.reached;
            place = place_prepended (n + suc (length xs)) _ _ ∙ ap (λ (k : ℕ). place_of k (shown_by shop sheet (suc n) cs.0.after xs (cs.1 z))) longer ∙ i.place ∙ one_on;
          })

pub display_shows_replay : DisplayShowsReplay
display_shows_replay shop sheet trace room c inputs called b f cs =
    let tells =
    called ∙ replay_passed shop sheet trace room (inputs_passed shop sheet trace room inputs)
    ∙ ap (reported (domain shop) (step_count trace) room)
    (sym (shown_run shop sheet 0 b (steps_of trace) cs ∙ ap (λ (P : Run.Problem). run (rules_of shop) 0 P (steps_of trace)) f))
    in
    let l = left shop sheet (problem_of (order sheet)) [] 0 b (steps_of trace) cs refl (subst (Reached (rules_of shop) (problem_of (order sheet)) []) (sym f) first) in
    let long = zero-add _ ∙ steps_length trace (trace_sizes shop sheet trace inputs.0).0 in
    record {
      tells = tells;
      leaves =
          subst (λ (k : ℕ). Reached (rules_of shop) (problem_of (order sheet)) (take k (steps_of trace)) (problem_in shop sheet (left_by shop sheet 0 b (steps_of trace) cs)))
          (sym (ap (λ (e : Replayed). e.answer.refusal.place) tells
          ∙ place_reported (domain shop) (step_count trace) room _
          ∙ ap (λ (k : ℕ). place_of k (shown_by shop sheet 0 b (steps_of trace) cs)) (sym long)
          ∙ l.place ∙ zero-add _))
          l.reached;
    }

pub display_goes_on : DisplayGoesOn
display_goes_on = record {
  begins = λ shop sheet table b f. (ap₂ {C = Run.Problem} (λ s w. record { state = s; waiting = w }) f.atoms f.goals.list, going_first b.atoms f.goals);
  goes_on = λ shop sheet n x b c g. by_test (eqb (told_of c.answer).refusal.number 0)
      (λ z. rw z (going_taken most_waiting (omega arith) x g c.forward (eqb-true _ _ z)))
      (λ z. rw z (going_refused most_waiting (omega arith) x g c.forward (eqb-false _ _ z)));
}
