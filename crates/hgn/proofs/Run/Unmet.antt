-- The unmet atom that a replay tells: it is the first, and it is named exactly where 29 or 30 is told. Assumes nothing.
use Prim.Native.Nat.{ℕ, zero, suc, ◌-◌, ◌≤◌, ◌<◌}
use native.Mathlib.Omega.{arith}
use mathlib.Core.Path.{◌≡◌, refl, sym, ap, ◌∙◌, subst}
use mathlib.Core.Bool.{Bool, true, false, ◌&&◌, true≢false}
use mathlib.Core.Logic.{◌⊎◌, inl, inr, ⊎_elim, ◌≢◌}
use mathlib.Core.List.Memᴰ
use mathlib.Core.List.{List, [], ◌∷◌, ◌++◌, head_d, Memᴰ}
use lib.ListN.{length, get_or}
use borrow.Author.Tests.{ltb-true}
use Rattle.hgn.specs.Lists.{any, all}
use Rattle.hgn.specs.Meaning.{Literal, Formula, Action, Method}
use Rattle.hgn.specs.State.{State, no_atom, literal_holds, all_hold, formula_holds, unmet, unmet_goal, Entails, EntailsAll}
use Rattle.hgn.specs.Questions.{Failure, Question, Verdict, passed, first_no, FirstNo}
use Rattle.hgn.specs.Questions as Questions
use Rattle.hgn.specs.Network.{Waiting, goal_at}
use Rattle.hgn.specs.Run.{Step, Move, release, act, use_method, unknown, move_of, action_at, method_at, Problem, problem_of, Rules}
use Rattle.hgn.specs.Run.{own_questions, step_questions, refused, taken, stepped, Outcome, stopped, accepted, run}
use Rattle.hgn.specs.Shop.{atom_count, domain}
use Rattle.hgn.specs.Order.{order, check_order}
use Rattle.hgn.specs.Trace.{step_count, steps_of}
use Rattle.hgn.specs.Written.{ConjunctRules, none, DomainRules}
use Rattle.hgn.specs.Replay.{rules_of, Replayed, refusal, acceptance, reported, check_replay, replay}
use Rattle.hgn.specs.Demands.{failure_of, FirstUnmet, NeedsUnmet, of_action, of_method, GoalUnmet, StepReached, TestsTellFirst, TellsFirstUnmet, NamesUnmet, UnmetIsFirst, UnmetIsNamed}
use Rattle.hgn.specs.Readings.{first}
use Rattle.hgn.proofs.Logic.Tests.{holds_entails, entails_holds, formula_holds_iff, or_false, not_true_false, false_not_true}
use Rattle.hgn.proofs.Questions.FirstNo.{refused≢passed, first_found, found_first, refused_number}
use Rattle.hgn.proofs.Questions.Numbers.{input_numbers, replay_numbers}
use Rattle.hgn.proofs.Run.Steps.{refused≢taken, step_refused, step_passed}
use Rattle.hgn.proofs.Run.Stopped.{Stops, at_step, at_end, run_stops}
use Rattle.hgn.proofs.Run.Replay.{outcome, passed_inputs, replay_refused, replay_passed, Report, refuses, accepts, reports}
use Rattle.hgn.proofs.Network.Waiting.{goal_mem}
use Rattle.hgn.proofs.Network.Formed.{Formed, reached_formed}
use Rattle.hgn.proofs.Sheets.Rules.{rising_top}
use Rattle.hgn.proofs.Sheets.Passed.{shop_of_order, order_of_trace}
use Rattle.hgn.proofs.Sheets.Written.{shop_rules, order_rules}

-- The first literal that does not hold splits the list.
pub first_unmet : (s : State) (ls : List Literal) → all_hold s ls ≡ false → FirstUnmet s ls (unmet s ls)
unfolding all_hold all unmet
first_unmet s [] e = absurd (true≢false e)
first_unmet s (l ∷ ls) e = go (literal_holds s l) refl (first_unmet s ls) e
  where
    go : (b : Bool) → literal_holds s l ≡ b → (all_hold s ls ≡ false → FirstUnmet s ls (unmet s ls)) → (b && all (literal_holds s) ls) ≡ false
        → FirstUnmet s (l ∷ ls) (unmet s (l ∷ ls))
    go true h ih f =
        let r = ih f in
        record {
          before = l ∷ r.before;
          literal = r.literal;
          behind = r.behind;
          listed = ap {B = List Literal} (λ k. l ∷ k) r.listed;
          held = λ k m. ⊎_elim (λ z. rw z (holds_entails s l h)) (λ n. r.held k n) (Memᴰ.cases_cons m);
          not_held = r.not_held;
          atom_is = r.atom_is ∙ rw h;
        }
    go false h ih f = record {
      before = [];
      literal = l;
      behind = ls;
      listed = refl;
      held = λ k m. absurd (Memᴰ.not-nil m);
      not_held = λ z. false_not_true (literal_holds s l) h (entails_holds s l z);
      atom_is = rw h;
    }

-- A goal that has an alternative and does not hold is unmet in its first.
pub goal_unmet : (s : State) (g : Formula) → 1 ≤ length g → formula_holds s g ≡ false → GoalUnmet s g (unmet_goal s g)
unfolding formula_holds any unmet_goal head_d
goal_unmet s [] h e = absurd (omega arith)
goal_unmet s (c ∷ cs) h e = record {
  none_holds = λ k. false_not_true (formula_holds s (c ∷ cs)) e ((formula_holds_iff s (c ∷ cs)).1 k);
  alternative = c;
  others = cs;
  alternatives = refl;
  unmet = rw e (first_unmet s c (or_false (all_hold s c) _ e).0);
}

-- And back: what splits a list so is what its test tells.
none_unmet : (s : State) (ls : List Literal) → EntailsAll s ls → unmet s ls ≡ no_atom
unfolding unmet
none_unmet s [] h = refl
none_unmet s (l ∷ ls) h = rw (entails_holds s l (h l (Memᴰ.head refl))) (none_unmet s ls (λ k m. h k (Memᴰ.tail m)))

split_unmet : (s : State) (before : List Literal) (l : Literal) (behind : List Literal) → EntailsAll s before → ¬ Entails s l
    → unmet s (before ++ (l ∷ behind)) ≡ l.atom
unfolding unmet
split_unmet s [] l behind h n = rw (not_true_false (literal_holds s l) (λ e. n (holds_entails s l e))) refl
split_unmet s (k ∷ before) l behind h n =
    rw (entails_holds s k (h k (Memᴰ.head refl))) (split_unmet s before l behind (λ j m. h j (Memᴰ.tail m)) n)

first_told : (s : State) (ls : List Literal) (atom : ℕ) → FirstUnmet s ls atom → unmet s ls ≡ atom
first_told s ls atom u = ap (unmet s) u.listed ∙ split_unmet s u.before u.literal u.behind u.held u.not_held ∙ u.atom_is

goal_told_law : (s : State) (g : Formula) (atom : ℕ) → GoalUnmet s g atom → unmet_goal s g ≡ atom
unfolding unmet_goal head_d
goal_told_law s g atom u =
    rw (not_true_false (formula_holds s g) (λ e. u.none_holds ((formula_holds_iff s g).0 e)))
    (ap (λ (f : Formula). unmet s (head_d f [])) u.alternatives ∙ first_told s u.alternative atom u.unmet)

pub tests_tell_first : TestsTellFirst
unfolding unmet_goal head_d unmet formula_holds any
tests_tell_first = record {
  none_is_256 = refl;
  needs_hold = none_unmet;
  needs_fail = first_told;
  goal_holds = λ s g h. rw ((formula_holds_iff s g).1 h) refl;
  goal_fails = goal_told_law;
  no_alternatives = λ s. refl;
}

-- What holds of every element of a list and of the default holds of what is read at a place.
get_or_keeps : {A : Type 0} (H : A → Type 0) {d : A} (xs : List A) (n : ℕ) → ((x : A) → Memᴰ x xs → H x) → H d → H (get_or xs n d)
get_or_keeps H [] n h k = k
get_or_keeps H (x ∷ xs) zero h k = h x (Memᴰ.head refl)
get_or_keeps H (x ∷ xs) (suc n) h k = get_or_keeps H xs n (λ y m. h y (Memᴰ.tail m)) k

-- What the refusal of a step at place `p` names, by its move: 29 and 30 with what they ask, or another number.
data Names (r : Rules) (P : Problem) (p : ℕ) (f : Failure) : Move → Type 0 where
  names_goal : p < length P.waiting → f.refusal.number ≡ 29 → formula_holds P.state (goal_at P.waiting p).formula ≡ false
      → f.atom ≡ unmet_goal P.state (goal_at P.waiting p).formula → Names r P p f release
  names_action : {k : ℕ} → f.refusal.number ≡ 30 → all_hold P.state (action_at r.domain k).needs ≡ false
      → f.atom ≡ unmet P.state (action_at r.domain k).needs → Names r P p f (act k)
  names_method : {m : ℕ} → f.refusal.number ≡ 30 → all_hold P.state (method_at r.domain m).needs ≡ false
      → f.atom ≡ unmet P.state (method_at r.domain m).needs → Names r P p f (use_method m)
  names_neither : {mv : Move} → f.refusal.number ≢ 29 → f.refusal.number ≢ 30 → Names r P p f mv

-- The first question or a later one is the first no.
first_cases : {q : Question} {qs : List Question} {f : Failure} → FirstNo (q ∷ qs) f
    → ((q.answer ≡ false) × (f ≡ q.failure)) ⊎ ((q.answer ≡ true) × FirstNo qs f)
first_cases (FirstNo.here e) = inl (e, refl)
first_cases (FirstNo.later e h) = inr (e, h)

none_first : {f : Failure} → ¬ FirstNo [] f
unfolding first_no
none_first h = refused≢passed (sym (first_found h))

module _ (r : Rules) (n : ℕ) (P : Problem) (p : ℕ) (f : Failure) where
  -- Another number.
  neither : {k : ℕ} {mv : Move} → f.refusal.number ≡ k → k ≢ 29 → k ≢ 30 → Names r P p f mv
  neither e a b = names_neither (λ z. a (sym e ∙ z)) (λ z. b (sym e ∙ z))

  number : {g : Failure} → f ≡ g → f.refusal.number ≡ g.refusal.number
  number e = ap (λ (f : Failure). f.refusal.number) e

  atom : {g : Failure} → f ≡ g → f.atom ≡ g.atom
  atom e = ap (λ (f : Failure). f.atom) e

  own_names : p < length P.waiting → (m : Move) → FirstNo (own_questions r n P p m) f → Names r P p f m
  unfolding own_questions
  own_names i release h = ⊎_elim (λ a. names_goal i (number a.1) a.0 (atom a.1)) (λ a. absurd (none_first a.1)) (first_cases h)
  own_names i (act k) h =
      ⊎_elim (λ a. names_action (number a.1) a.0 (atom a.1))
      (λ a. ⊎_elim (λ b. neither (number b.1) (omega arith) (omega arith)) (λ b. absurd (none_first b.1)) (first_cases a.1))
      (first_cases h)
  own_names i (use_method m) h =
      ⊎_elim (λ a. names_method (number a.1) a.0 (atom a.1))
      (λ a. ⊎_elim (λ b. neither (number b.1) (omega arith) (omega arith))
      (λ b. ⊎_elim (λ c. neither (number c.1) (omega arith) (omega arith)) (λ c. absurd (none_first c.1)) (first_cases b.1))
      (first_cases a.1))
      (first_cases h)
  own_names i unknown h = absurd (none_first h)

-- A refused step is refused by the first no of its questions.
refused_first : (r : Rules) (n : ℕ) (P : Problem) (x : Step) (f : Failure) → stepped r n P x ≡ refused f → FirstNo (step_questions r n P x) f
refused_first r n P x f e = go (first_no (step_questions r n P x)) refl
  where
    same : {a b : Failure} → refused a ≡ refused b → a ≡ b
    same e = cc

    go : (v : Verdict) → first_no (step_questions r n P x) ≡ v → FirstNo (step_questions r n P x) f
    go passed q = absurd (refused≢taken (sym e ∙ step_passed r n P x q))
    go (Questions.refused g) q = found_first _ f (q ∙ ap Questions.refused (same (sym (step_refused r n P x g q) ∙ e)))

step_names : (r : Rules) (n : ℕ) (P : Problem) (x : Step) (f : Failure) → stepped r n P x ≡ refused f
    → Names r P x.place f (move_of r.domain x.move)
unfolding step_questions
step_names r n P x f e =
    let p = x.place in
    ⊎_elim (λ a. neither r n P p f (number r n P p f a.1) (omega arith) (omega arith))
    (λ a. ⊎_elim (λ b. neither r n P p f (number r n P p f b.1) (omega arith) (omega arith))
    (λ b. ⊎_elim (λ c. neither r n P p f (number r n P p f c.1) (omega arith) (omega arith))
    (λ c. ⊎_elim (λ d. neither r n P p f (number r n P p f d.1) (omega arith) (omega arith))
    (λ d. own_names r n P p f (ltb-true _ _ a.0) (move_of r.domain x.move) d.1)
    (first_cases c.1)) (first_cases b.1)) (first_cases a.1)) (first_cases (refused_first r n P x f e))

-- What a refusal by 30 or 29 says of the needs or of the goal.
needs_named : {r : Rules} {P : Problem} {p : ℕ} {f : Failure} {mv : Move} → Names r P p f mv → f.refusal.number ≡ 30
    → NeedsUnmet r.domain P.state f.atom mv
needs_named (names_goal i a b c) e = absurd (omega arith)
needs_named {r} {P} (names_action {k} a b c) e =
    of_action k (subst (FirstUnmet P.state (action_at r.domain k).needs) (sym c) (first_unmet P.state _ b))
needs_named {r} {P} (names_method {m} a b c) e =
    of_method m (subst (FirstUnmet P.state (method_at r.domain m).needs) (sym c) (first_unmet P.state _ b))
needs_named (names_neither a b) e = absurd (b e)

goal_named : {F : ℕ} {r : Rules} {P : Problem} {p : ℕ} {f : Failure} {mv : Move} → Formed F P.waiting → Names r P p f mv → f.refusal.number ≡ 29
    → (mv ≡ release) × GoalUnmet P.state (goal_at P.waiting p).formula f.atom
goal_named {P = P} {p = p} h (names_goal i a b c) e = (
  refl,
  subst (GoalUnmet P.state (goal_at P.waiting p).formula) (sym c)
      (goal_unmet P.state _ (h _ (goal_mem P.waiting p i)).some_alternative b),
)
goal_named h (names_action a b c) e = absurd (omega arith)
goal_named h (names_method a b c) e = absurd (omega arith)
goal_named h (names_neither a b) e = absurd (a e)

-- Only 29 and 30 name an atom.
abbrev Only : ℕ → ℕ → Type 0
Only k a = a ≢ no_atom → (k ≡ 29) ⊎ (k ≡ 30)

module _ (shop sheet trace room : List ℕ) (c : Replayed) (called : c ≡ replay shop sheet trace room) where
  abbrev told : Failure
  told = failure_of c.answer

  -- Where 29 or 30 is told, the sheets passed and a step of the run was refused.
  record RefusedStep : Type 0 where
    passes : check_order shop sheet ≡ passed
    problem : Problem
    step : Step
    failure : Failure
    reached : StepReached shop sheet trace c.answer.refusal.place problem step
    names : Names (rules_of shop) problem step.place failure (move_of (domain shop) step.move)
    number_is : failure.refusal.number ≡ c.answer.refusal.number
    atom_is : failure.atom ≡ c.answer.atom

  refused_step : ((told.refusal.number ≡ 29) ⊎ (told.refusal.number ≡ 30)) → RefusedStep
  unfolding reported refusal acceptance check_replay
  refused_step z = go (check_replay shop sheet trace room) refl
    where
      stopped_at : check_replay shop sheet trace room ≡ passed → {f : Failure} → told ≡ f → Stops (rules_of shop) (problem_of (order sheet)) (steps_of trace) f
          → RefusedStep
      stopped_at p t (at_step i P x g h a e w) =
          let w' = t ∙ w in record {
            passes = order_of_trace shop sheet trace (passed_inputs shop sheet trace room p).0;
            problem = P;
            step = x;
            failure = g;
            reached = subst (λ (i : ℕ). StepReached shop sheet trace i P x) (sym (ap (λ (f : Failure). f.refusal.place) w')) (record { reached = h; is_step = a });
            names = step_names (rules_of shop) i P x g e;
            number_is = sym (ap (λ (f : Failure). f.refusal.number) w');
            atom_is = sym (ap (λ (f : Failure). f.atom) w');
          }
      stopped_at p t (at_end e) =
          let k : told.refusal.number ≡ 33 = ap (λ (f : Failure). f.refusal.number) t ∙ e in
          absurd (⊎_elim (λ y. omega arith) (λ y. omega arith) z)

      ran : check_replay shop sheet trace room ≡ passed → (o : Outcome) → outcome shop sheet trace room ≡ o → RefusedStep
      ran p (stopped f) e =
          stopped_at p (ap (λ (c : Replayed). failure_of c.answer) (called ∙ replay_passed shop sheet trace room p ∙ ap (reported (domain shop) (step_count trace) room) e))
          (run_stops (rules_of shop) (problem_of (order sheet)) first (steps_of trace) f e)
      ran p (accepted deeds last) e =
          let k : told.refusal.number ≡ 0 =
          ap (λ (c : Replayed). c.answer.refusal.number) (called ∙ replay_passed shop sheet trace room p ∙ ap (reported (domain shop) (step_count trace) room) e) in
          absurd (⊎_elim (λ y. omega arith) (λ y. omega arith) z)

      go : (v : Verdict) → check_replay shop sheet trace room ≡ v → RefusedStep
      go passed e = ran e (outcome shop sheet trace room) refl
      go (Questions.refused f) e =
          let k : told.refusal.number ≡ f.refusal.number = ap (λ (c : Replayed). c.answer.refusal.number) (called ∙ replay_refused shop sheet trace room f e) in
          let l = refused_number (λ k a. k ≤ 28) _ (input_numbers (λ k a. k ≤ 28) (λ k l. l) shop sheet trace room) f e in
          absurd (⊎_elim (λ y. omega arith) (λ y. omega arith) z)

  rules : RefusedStep → DomainRules (atom_count shop) (domain shop)
  rules s = shop_rules shop (shop_of_order shop sheet s.passes)

  formed : (s : RefusedStep) → Formed (atom_count shop) s.problem.waiting
  formed s =
      reached_formed (λ m k. ((rules s).methods m k).nodes) (order sheet)
      (order_rules shop sheet s.passes).goals s.reached.reached

  tells_first : TellsFirstUnmet shop sheet trace c
  tells_first = record {
    by_30 = λ z. let s = refused_step (inr z) in
        let at = subst (λ (a : ℕ). NeedsUnmet (domain shop) s.problem.state a (move_of (domain shop) s.step.move)) s.atom_is in
        (s.problem, s.step, s.reached, at (needs_named s.names (s.number_is ∙ z)));
    by_29 = λ z. let s = refused_step (inl z) in
        let g = goal_named (formed s) s.names (s.number_is ∙ z) in
        (s.problem, s.step, s.reached, g.0, subst (GoalUnmet s.problem.state _) s.atom_is g.1);
  }

  -- The atom of a literal of checked sheets is below F.
  unmet_below : {s : State} {ls : List Literal} {a : ℕ} → FirstUnmet s ls a → ConjunctRules (atom_count shop) ls → a < atom_count shop
  unmet_below {ls = ls} u h =
      subst (λ (k : ℕ). k < atom_count shop) u.atom_is
      (rising_top h u.literal.atom (Memᴰ.map (λ (l : Literal). l.atom) (subst (Memᴰ u.literal) (sym u.listed) (Memᴰ.append_right u.before (Memᴰ.head refl)))))

  goal_below : (s : RefusedStep) {a : ℕ} → GoalUnmet s.problem.state (goal_at s.problem.waiting s.step.place).formula a → a < atom_count shop
  goal_below s u =
      unmet_below u.unmet
      (get_or_keeps (λ (t : Waiting). (c : List Literal) → Memᴰ c t.formula → ConjunctRules (atom_count shop) c)
      s.problem.waiting s.step.place (λ t m. (formed s t m).alternatives) (λ c m. absurd (Memᴰ.not-nil m))
      u.alternative (subst (Memᴰ u.alternative) (sym u.alternatives) (Memᴰ.head refl)))

  needs_below : (s : RefusedStep) {mv : Move} {a : ℕ} → NeedsUnmet (domain shop) s.problem.state a mv → a < atom_count shop
  needs_below s (of_action k u) =
      unmet_below u (get_or_keeps (λ (a : Action). ConjunctRules (atom_count shop) a.needs) (domain shop).actions (k - 1) (λ a m. ((rules s).actions a m).needs) none)
  needs_below s (of_method m u) =
      unmet_below u (get_or_keeps (λ (m : Method). ConjunctRules (atom_count shop) m.needs) (domain shop).methods m (λ a m. ((rules s).methods a m).needs) none)

  below : ((told.refusal.number ≡ 29) ⊎ (told.refusal.number ≡ 30)) → c.answer.atom < atom_count shop
  below z = ⊎_elim by_29 by_30 z
    where
      by_30 : told.refusal.number ≡ 30 → c.answer.atom < atom_count shop
      by_30 e = let s = refused_step (inr e) in
          subst (λ (a : ℕ). a < atom_count shop) s.atom_is (needs_below s (needs_named s.names (s.number_is ∙ e)))

      by_29 : told.refusal.number ≡ 29 → c.answer.atom < atom_count shop
      by_29 e = let s = refused_step (inl e) in
          let g = goal_named (formed s) s.names (s.number_is ∙ e) in
          subst (λ (a : ℕ). a < atom_count shop) s.atom_is (goal_below s g.1)

  names_unmet : NamesUnmet shop c
  unfolding refusal acceptance
  names_unmet = record { named_iff = (to, from); below = λ z. below (to z) }
    where
      to : c.answer.atom ≢ no_atom → (told.refusal.number ≡ 29) ⊎ (told.refusal.number ≡ 30)
      to = go (reports shop sheet trace room c called)
        where
          go : Report shop sheet trace room c → c.answer.atom ≢ no_atom → (told.refusal.number ≡ 29) ⊎ (told.refusal.number ≡ 30)
          go (refuses q h f e) = rw e (refused_number Only _ (replay_numbers Only (λ k l z. absurd (z refl)) (λ a z. inl refl) (λ a z. inr refl) (λ k l z. absurd (z refl)) shop sheet trace room) q f)
          go (accepts p o f e) = λ z. absurd (z (ap (λ (c : Replayed). c.answer.atom) e))

      from : (told.refusal.number ≡ 29) ⊎ (told.refusal.number ≡ 30) → c.answer.atom ≢ no_atom
      from z = let b = below z in let s = (rules (refused_step z)).few_atoms in λ e. omega arith

pub unmet_is_first : UnmetIsFirst
unmet_is_first = tells_first

pub unmet_is_named : UnmetIsNamed
unmet_is_named shop sheet trace room c e = names_unmet shop sheet trace room c e
