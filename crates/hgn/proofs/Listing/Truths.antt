-- Each line of an accepted run is that of the goal which its step released, and each release has a line. Assumes nothing.
use Prim.Native.Nat.{ℕ, zero, suc, ◌+◌, ◌<◌}
use native.Mathlib.Omega.{arith}
use native.Mathlib.Nat.{zero-add}
use mathlib.Core.Path.{◌≡◌, refl, sym, ap, ◌∙◌, subst}
use mathlib.Core.Logic.{⊎_elim}
use mathlib.Core.List.Memᴰ
use mathlib.Core.List.{List, [], ◌∷◌, ◌++◌, append_assoc, Memᴰ}
use lib.ListN.{length, take}
use lib.Seq.{take-append_seam}
use Rattle.hgn.specs.Lists.{At, here, there}
use Rattle.hgn.specs.State.{State}
use Rattle.hgn.specs.Network.{step_number, method_number, no_goal, goal_at}
use Rattle.hgn.specs.Run.{Step, Move, release, move_of, Problem, problem_of, Rules, leaving, Deed, stepped, accepted, run_by, run}
use Rattle.hgn.specs.Shop.{domain}
use Rattle.hgn.specs.Order.{order}
use Rattle.hgn.specs.Trace.{steps_of}
use Rattle.hgn.specs.Replay.{rules_of}
use Rattle.hgn.specs.Listing.{Line, line_of, lines_at, lines_of, lines_in}
use Rattle.hgn.specs.Readings.{Reached, first, next}
use Rattle.hgn.specs.Demands.{LineTrue, LinesOfRuns, NumbersAre02s}
use Rattle.hgn.proofs.Logic.Tests.{at_of_lt}
use Rattle.hgn.proofs.Run.Steps.{Moved, by_release, by_action, by_method, took}
use Rattle.hgn.proofs.Run.Runs.{resumes, ended_empty}
use Rattle.hgn.proofs.Run.Stopped.{at_middle}
use Rattle.hgn.proofs.Network.Reached.{one_more}

module _ (shop sheet trace : List ℕ) where
  abbrev r : Rules
  r = rules_of shop

  -- These steps are taken, and those are left of the trace.
  abbrev Split : List Step → List Step → Type 0
  Split ys xs = steps_of trace ≡ ys ++ xs

  -- The line of a goal that leaves behind these steps.
  now_true : (ys : List Step) (x : Step) (xs : List Step) (P : Problem) → Split ys (x ∷ xs) → Reached r (problem_of (order sheet)) ys P → x.place < length P.waiting
      → move_of r.domain x.move ≡ release → LineTrue shop sheet trace (line_of (length ys) (leaving P.waiting (goal_at P.waiting x.place)))
  now_true ys x xs P e i h mv = record {
    before = P;
    reached = subst (λ (zs : List Step). Reached r (problem_of (order sheet)) zs P) (sym (ap (take (length ys)) e ∙ take-append_seam ys (x ∷ xs))) i;
    step = x;
    is_step = subst (λ (zs : List Step). At zs (length ys) x) (sym e) (at_middle ys x xs);
    is_release = mv;
    goal = goal_at P.waiting x.place;
    waits = at_of_lt P.waiting x.place no_goal h;
    source = refl;
    above = refl;
  }

  later_true : (l : Line) (x : Step) {mv : Move} {deed : Deed} {n : ℕ} {P P' : Problem} (ls : List Line) → move_of r.domain x.move ≡ mv → Moved r n P x.place mv deed P'
      → (move_of r.domain x.move ≡ release → LineTrue shop sheet trace (line_of n (leaving P.waiting (goal_at P.waiting x.place))))
      → (Memᴰ l ls → LineTrue shop sheet trace l) → Memᴰ l (lines_at n deed ++ ls) → LineTrue shop sheet trace l
  unfolding lines_at
  later_true l x ls mv (by_release a) now later m = ⊎_elim (λ z. subst (LineTrue shop sheet trace) (sym z) (now mv)) later (Memᴰ.cases_cons m)
  later_true l x ls mv (by_action a b) now later m = later m
  later_true l x ls mv (by_method a b c) now later m = later m

  run_true : (xs ys : List Step) (P : Problem) (deeds : List Deed) (last : State) → Split ys xs → Reached r (problem_of (order sheet)) ys P
      → run r (length ys) P xs ≡ accepted deeds last → (l : Line) → Memᴰ l (lines_of (length ys) deeds) → LineTrue shop sheet trace l
  unfolding run_by lines_of
  run_true [] ys P deeds last s i e l m = absurd (Memᴰ.not-nil (subst (λ (ds : List Deed). Memᴰ l (lines_of (length ys) ds)) (ended_empty (length ys) P deeds last e).1 m))
  run_true (x ∷ xs) ys P deeds last s i e l m =
      let f = resumes (stepped r) (length ys) P x xs deeds last e in
      let t = took x f.deed f.left f.first in
      let longer = one_more ys x in
      later_true l x (lines_of (suc (length ys)) f.rest) refl t.by (now_true ys x xs P s i t.inside)
      (λ k. run_true xs (ys ++ (x ∷ [])) f.left f.rest last (s ∙ sym (append_assoc ys (x ∷ []) xs)) (next x i f.first)
      (subst (λ (n : ℕ). run r n f.left xs ≡ accepted f.rest last) longer f.goes_on) l
      (subst (λ (n : ℕ). Memᴰ l (lines_of n f.rest)) longer k))
      (subst (λ (ds : List Deed). Memᴰ l (lines_of (length ys) ds)) f.whole m)

  -- A step that releases has a line.
  has_line : {n : ℕ} {mv : Move} {deed : Deed} {P P' : Problem} {p : ℕ} (ls : List Line) → mv ≡ release → Moved r n P p mv deed P'
      → (l : Line) × Memᴰ l (lines_at n deed ++ ls) × (l.released ≡ n)
  unfolding lines_at
  has_line {n} ls e (by_release a) = (_, Memᴰ.head refl, refl)
  has_line ls e (by_action a b) = let z : ◌≡◌ {A = ℕ} 0 1 = cc in absurd (omega (arith, z))
  has_line ls e (by_method a b c) = let z : ◌≡◌ {A = ℕ} 0 1 = cc in absurd (omega (arith, z))

  behind : {l : Line} (ms ls : List Line) → Memᴰ l ls → Memᴰ l (ms ++ ls)
  behind [] ls m = m
  behind (a ∷ ms) ls m = Memᴰ.tail (behind ms ls m)

  run_each : (xs : List Step) (n : ℕ) (P : Problem) (deeds : List Deed) (last : State) → run r n P xs ≡ accepted deeds last
      → (i : ℕ) (x : Step) → At xs i x → move_of (domain shop) x.move ≡ release → (l : Line) × Memᴰ l (lines_of n deeds) × (l.released ≡ n + i)
  unfolding run_by lines_of
  run_each (x ∷ xs) n P deeds last e zero _ here h =
      let f = resumes (stepped r) n P x xs deeds last e in
      let z = has_line (lines_of (suc n) f.rest) h (took x f.deed f.left f.first).by in
      rw f.whole (z.0, z.1, omega (arith, z.2))
  run_each (y ∷ xs) n P deeds last e (suc i) x (there a) h =
      let f = resumes (stepped r) n P y xs deeds last e in
      let z = run_each xs (suc n) f.left f.rest last f.goes_on i x a h in
      rw f.whole (z.0, behind (lines_at n f.deed) _ z.1, omega (arith, z.2))
  run_each [] n P deeds last e i x x5 h = elim x5 [ ]

  module _ (deeds : List Deed) (last : State) (runs : run (rules_of shop) 0 (problem_of (order sheet)) (steps_of trace) ≡ accepted deeds last) where
    pub lines_true : (l : Line) → Memᴰ l (lines_of 0 deeds) → LineTrue shop sheet trace l
    lines_true = run_true (steps_of trace) [] (problem_of (order sheet)) deeds last refl first runs

    pub each_release : (n : ℕ) (x : Step) → At (steps_of trace) n x → move_of (domain shop) x.move ≡ release
        → (l : Line) × Memᴰ l (lines_of 0 deeds) × (l.released ≡ n)
    each_release n x a h = let z = run_each (steps_of trace) 0 (problem_of (order sheet)) deeds last runs n x a h in (z.0, z.1, z.2 ∙ zero-add n)

pub lines_of_runs : (shop sheet trace : List ℕ) → LinesOfRuns shop sheet trace
unfolding lines_in
lines_of_runs shop sheet trace = record { of_accepted = λ deeds last e. rw (e, lines_in); of_refused = λ f e. rw (e, lines_in) }

pub numbers_are_02s : NumbersAre02s
unfolding step_number method_number
numbers_are_02s = record { order_step = refl; order_method = refl; step = λ k m. refl; method = λ k m. refl }
