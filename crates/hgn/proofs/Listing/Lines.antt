-- One line a goal: how many lines have the order or a step for their origin, that steps of release rise, and that a goal's line stands before its
-- parent's. Assumes nothing.
use Prim.Native.Nat.{ℕ, zero, suc, ◌+◌, ◌≤◌, ◌<◌, zero-le, suc-le-suc}
use native.Mathlib.Omega.{arith}
use native.Mathlib.Nat.{le_of_suc-le-suc, zero-add, lt_irrefl}
use mathlib.Core.Path.{◌≡◌, refl, sym, ap, ◌∙◌, subst}
use mathlib.Core.Bool.{Bool, true, false, not, cond, ◌&&◌}
use mathlib.Core.Logic.{⊎_elim, ◌≢◌}
use mathlib.Core.List.Memᴰ
use mathlib.Core.List.{List, [], ◌∷◌, ◌++◌, Memᴰ}
use mathlib.Core.Option.{none, some}
use lib.Dec.{eqb}
use lib.ListN.{length}
use borrow.Author.Tests.{eqb-true, eq-eqb, ne_eqb}
use Rattle.hgn.specs.Lists.{At, here, there}
use Rattle.hgn.specs.Meaning.{network_of}
use Rattle.hgn.specs.Questions.{passed}
use Rattle.hgn.specs.State.{State}
use Rattle.hgn.specs.Network as Network
use Rattle.hgn.specs.Network.{Source, used, step_number, method_number, Waiting, enter, goals_of, no_goal, goal_at, goals_above, released, decomposed}
use Rattle.hgn.specs.Run.{Step, Move, use_method, move_of, method_at, Problem, problem_of, Rules, Leaving, leaving, Deed, releases, takes, uses, taken, stepped, accepted, run_by, run}
use Rattle.hgn.specs.Shop.{domain}
use Rattle.hgn.specs.Order.{order}
use Rattle.hgn.specs.Trace.{steps_of, check_trace}
use Rattle.hgn.specs.Replay.{rules_of}
use Rattle.hgn.specs.Listing.{Line, lines_at, lines_of}
use Rattle.hgn.specs.Demands.{ParentWaits, brought_at, UsesAt, ReleasedAt, ReleasedBefore, OneLineAGoal}
use Rattle.hgn.proofs.Logic.Tests.{at_mem, at_of_lt, at_get_or, true_and, false_not_true}
use Rattle.hgn.proofs.Run.Steps.{Moved, by_release, by_action, by_method, Took, took}
use Rattle.hgn.proofs.Run.Runs.{resumes, ended_empty}
use Rattle.hgn.proofs.Network.Waiting.{stays, inserted_old}
use Rattle.hgn.proofs.Network.Names.{strangers}
use Rattle.hgn.proofs.Network.Rooted.{Rooted}
use Rattle.hgn.proofs.Network.Above.{member_parent, above_released, above_inserted}
use Rattle.hgn.proofs.Sheets.Checked.{kept, length_last_after_all}
use Rattle.hgn.proofs.Sheets.Trace.{steps_length}
use Rattle.hgn.proofs.Sheets.Passed.{trace_passed}
use Rattle.hgn.proofs.Listing.Trees.{Any, Tree, start_tree, tree_next}
use Rattle.hgn.proofs.Listing.Parents.{parent_waits}
use Rattle.hgn.proofs.Listing.Truths.{lines_true, each_release}
use Rattle.hgn.proofs.Listing.Counts.{count, none_counted, nothing_left, goals_from, lines_from, entered_from, brought, lines_counted, none_brought, one_brings}

-- Lines with rising steps of release, from step `n` on.
abbrev Rising : ℕ → List Line → Type 0
Rising n [] = Unit {0}
Rising n (l ∷ ls) = (n ≤ l.released) × Rising (suc l.released) ls

rising_from : (n : ℕ) (ls : List Line) → Rising (suc n) ls → Rising n ls
rising_from n [] h = tt
rising_from n (l ∷ ls) h = (let z = h.0 in omega arith, h.1)

run_rises : (r : Rules) (xs : List Step) (n : ℕ) (P : Problem) (deeds : List Deed) (last : State) → run r n P xs ≡ accepted deeds last → Rising n (lines_of n deeds)
unfolding run_by lines_of lines_at
run_rises r [] n P deeds last e = rw (ended_empty n P deeds last e).1 tt
run_rises r (x ∷ xs) n P deeds last e =
    let f = resumes (stepped r) n P x xs deeds last e in
    rw f.whole (go (took x f.deed f.left f.first).by (lines_of (suc n) f.rest) (run_rises r xs (suc n) f.left f.rest last f.goes_on))
  where
    go : {mv : Move} {deed : Deed} {P' : Problem} → Moved r n P x.place mv deed P' → (ls : List Line) → Rising (suc n) ls → Rising n (lines_at n deed ++ ls)
    go (by_release a) ls h = (omega arith, h)
    go (by_action a b) ls h = rising_from n ls h
    go (by_method a b c) ls h = rising_from n ls h

rising_least : (n : ℕ) {ls : List Line} {j : ℕ} {b : Line} → Rising n ls → At ls j b → n ≤ b.released
rising_least n {ls = []} h a = elim a [ ]
rising_least n {ls = l ∷ ls} (h, u) here = h
rising_least n {ls = l ∷ ls} (h, u) (there k) = let z = rising_least (suc l.released) u k in omega arith

rises : (n : ℕ) {ls : List Line} (i j : ℕ) (a b : Line) → Rising n ls → At ls i a → At ls j b → i < j → a.released < b.released
rises n {ls = l ∷ ls} zero (suc j) a b (h, u) here (there k) _ = rising_least (suc a.released) u k
rises n {ls = l ∷ ls} (suc i) (suc j) a b (h, u) (there p) (there q) k = rises (suc l.released) i j a b u p q (le_of_suc-le-suc k)
rises n {ls = ls} zero zero a b _ _ _ l = elim l [ ]
rises n {ls = []} (suc i) j a b _ x10 _ k = elim x10 [ ]
rises n {ls = l ∷ ls} (suc i) zero a b _ _ _ k = elim k [ ]
rises n {ls = []} zero (suc j) a b _ x10 _ k = elim x10 [ ]

-- A step that leaves a goal waiting leaves as many goals above it.
kept_above : (r : Rules) (n : ℕ) (P : Problem) (x : Step) (deed : Deed) (P' : Problem) → Tree n P.waiting → stepped r n P x ≡ taken deed P'
    → (q : Waiting) → Memᴰ q P.waiting → Memᴰ q P'.waiting → goals_above P'.waiting q ≡ goals_above P.waiting q
unfolding decomposed
kept_above r n P x deed P' t e q m k = go s.by (tree_next r n P x deed P' t e).rooted k
  where
    s : Took r n P x deed P'
    s = took x deed P' e

    at : At P.waiting x.place (goal_at P.waiting x.place)
    at = at_of_lt P.waiting x.place no_goal s.inside

    go : {mv : Move} {deed : Deed} {P' : Problem} → Moved r n P x.place mv deed P' → Rooted Any P'.waiting → Memᴰ q P'.waiting
        → goals_above P'.waiting q ≡ goals_above P.waiting q
    go (by_release a) u k = above_released Any P.waiting x.place _ t.named.distinct at u q.parent (member_parent Any _ u q k)
    go (by_action a b) u k = refl
    go (by_method {m = i} a b c) u k =
        above_inserted Any P.waiting _ x.place (λ p e j l. (strangers {at = (goal_at P.waiting x.place).name} i (network_of (method_at r.domain i)) t.named p e j l).other)
        t.rooted q.parent (member_parent Any P.waiting t.rooted q m)

-- A goal that waits is released by a step of an accepted run, with as many goals above it.
on_released : {deed : Deed} {deeds : List Deed} {n : ℕ} {q : Waiting} {above : ℕ} → ReleasedAt deeds n q above → ReleasedAt (deed ∷ deeds) (suc n) q above
on_released a = record { goals = a.goals; deed = there a.deed; among = a.among }

released_once : (r : Rules) (xs : List Step) (n : ℕ) (P : Problem) (deeds : List Deed) (last : State) → Tree n P.waiting → run r n P xs ≡ accepted deeds last
    → (q : Waiting) → Memᴰ q P.waiting → (i : ℕ) × ReleasedAt deeds i q (goals_above P.waiting q)
unfolding run_by decomposed
released_once r [] n P deeds last t e q m = absurd (Memᴰ.not-nil (subst (λ (w : List Waiting). Memᴰ q w) (ended_empty n P deeds last e).0 m))
released_once r (x ∷ xs) n P deeds last t e q m =
    let f = resumes (stepped r) n P x xs deeds last e in
    let s = took x f.deed f.left f.first in
    rw f.whole
    (go s.inside s.by (λ k.
    let z = released_once r xs (suc n) f.left f.rest last (tree_next r n P x f.deed f.left t f.first) f.goes_on q k in
    (z.0, subst (ReleasedAt f.rest z.0 q) (kept_above r n P x f.deed f.left t f.first q m k) z.1)))
  where
    go : {mv : Move} {deed : Deed} {P' : Problem} {rest : List Deed} → x.place < length P.waiting → Moved r n P x.place mv deed P'
        → (Memᴰ q P'.waiting → (i : ℕ) × ReleasedAt rest i q (goals_above P.waiting q))
        → (i : ℕ) × ReleasedAt (deed ∷ rest) i q (goals_above P.waiting q)
    go h (by_release a) later =
        ⊎_elim
        (λ z. (0, record { goals = leaving P.waiting (goal_at P.waiting x.place) ∷ []; deed = here; among = Memᴰ.head (ap (leaving P.waiting) z) }))
        (λ k. let z = later k in (suc z.0, on_released z.1))
        (stays (at_of_lt P.waiting x.place no_goal h) m)
    go h (by_action a b) later = let z = later m in (suc z.0, on_released z.1)
    go h (by_method {m = i} a b c) later =
        let new = enter (used n i) (some (goal_at P.waiting x.place).name) 0 (network_of (method_at r.domain i)) in
        let z = later (inserted_old new (at_of_lt P.waiting x.place no_goal h) m) in (suc z.0, on_released z.1)

suc_not_same : (n : ℕ) → n ≡ suc n → ⊥
suc_not_same n e = omega (arith, e)

takes≢releases : {k : ℕ} {goals : List Leaving} → takes k ≡ releases goals → ⊥
takes≢releases e = let z : ◌≡◌ {A = ℕ} 0 1 = cc in omega arith

uses≢releases : {m : ℕ} {g : Waiting} {goals : List Leaving} → uses m g ≡ releases goals → ⊥
uses≢releases e = let z : ◌≡◌ {A = ℕ} 0 1 = cc in omega arith

-- A goal that a method brought in is released before its parent, with one goal more above it.
before_on : {deed : Deed} {deeds : List Deed} {n : ℕ} {q : Waiting} {above : ℕ} → ReleasedBefore deeds n q above → ReleasedBefore (deed ∷ deeds) (suc n) q above
before_on b = record {
  parent = b.parent;
  parent_named = b.parent_named;
  step = suc b.step;
  over = b.over;
  released_then = on_released b.released_then;
  later = let z = b.later in omega arith;
  one_more = b.one_more;
}

-- The goal at place `p`, which a method brought in, leaves; its parent waits, and is released later.
parent_later : {n : ℕ} (w : List Waiting) (p : ℕ) (rest : List Deed) → Tree n w → At w p (goal_at w p) → (k m : ℕ) → (goal_at w p).source ≡ used k m
    → ((q : Waiting) → Memᴰ q w → Memᴰ q (released w p) → (i : ℕ) × ReleasedAt rest i q (goals_above w q))
    → ReleasedBefore (releases (leaving w (goal_at w p) ∷ []) ∷ rest) 0 (goal_at w p) (goals_above w (goal_at w p))
parent_later w p rest t at k m s on = behind (parent_waits t p (goal_at w p) at k m s)
  where
    other : (u : ParentWaits w p (goal_at w p)) → u.parent ≡ goal_at w p → ⊥
    other u e = suc_not_same (goals_above w (goal_at w p)) (u.one_more ∙ ap suc (ap (goals_above w) e))

    behind : ParentWaits w p (goal_at w p) → ReleasedBefore (releases (leaving w (goal_at w p) ∷ []) ∷ rest) 0 (goal_at w p) (goals_above w (goal_at w p))
    behind u =
        let later = on u.parent (at_mem u.waits) (⊎_elim (λ e. absurd (other u e)) (λ l. l) (stays at (at_mem u.waits))) in
        record {
          parent = u.parent;
          parent_named = u.parent_named;
          step = suc later.0;
          over = goals_above w u.parent;
          released_then = on_released later.1;
          later = suc-le-suc zero-le;
          one_more = u.one_more;
        }

-- A deed in front of others: what was released then, and what by a deed behind it.
goals_same : {a b : List Leaving} → releases a ≡ releases b → a ≡ b
goals_same e = cc

only_one : {a b : Leaving} → Memᴰ a (b ∷ []) → a ≡ b
only_one (Memᴰ.head e) = e
only_one {a = a} {b = b} (Memᴰ.tail x4) = elim x4 [ ]

tail_at : {d : Deed} {ds : List Deed} {i : ℕ} {c : Deed} → At (d ∷ ds) (suc i) c → At ds i c
tail_at (there a) = a

released_behind : {d : Deed} {ds : List Deed} {i : ℕ} {q : Waiting} {above : ℕ} → ReleasedAt (d ∷ ds) (suc i) q above → ReleasedAt ds i q above
released_behind b = record { goals = b.goals; deed = tail_at b.deed; among = b.among }

released_now : {l : Leaving} {ds : List Deed} {q : Waiting} {above : ℕ} → ReleasedAt (releases (l ∷ []) ∷ ds) 0 q above → record { goal = q; above = above } ≡ l
released_now {l} {q = q} {above = above} b =
    only_one (subst (λ (gs : List Leaving). Memᴰ (record { goal = q; above = above }) gs) (goals_same (sym (at_get_or (takes 0) b.deed))) b.among)

-- What a step did in front of what the rest did.
step_before : (r : Rules) (n : ℕ) (P : Problem) (p : ℕ) {mv : Move} {deed : Deed} {P' : Problem} (rest : List Deed) → Tree n P.waiting → p < length P.waiting
    → Moved r n P p mv deed P'
    → ((q : Waiting) → Memᴰ q P.waiting → Memᴰ q P'.waiting → (i : ℕ) × ReleasedAt rest i q (goals_above P.waiting q))
    → (q : Waiting) (above : ℕ) → ((j : ℕ) → ReleasedAt rest j q above → ReleasedBefore rest j q above)
    → (k m : ℕ) → q.source ≡ used k m → (i : ℕ) → ReleasedAt (deed ∷ rest) i q above → ReleasedBefore (deed ∷ rest) i q above
step_before r n P p rest t h (by_release c) on q above later k m s zero b =
    let w = P.waiting in
    let it = released_now b in
    subst (λ (l : Leaving). ReleasedBefore (releases (leaving w (goal_at w p) ∷ []) ∷ rest) 0 l.goal l.above) (sym it)
    (parent_later w p rest t (at_of_lt w p no_goal h) k m (ap (λ (l : Leaving). l.goal.source) (sym it) ∙ s) on)
step_before r n P p rest t h (by_action c d) on q above later k m s zero b = absurd (takes≢releases (at_get_or (takes 0) b.deed))
step_before r n P p rest t h (by_method c d l) on q above later k m s zero b = absurd (uses≢releases (at_get_or (takes 0) b.deed))
step_before r n P p rest t h d on q above later k m s (suc i) b = before_on (later i (released_behind b))

released_kept : (rest : List Deed) (p : Waiting) {a b : ℕ} → a ≡ b → (i : ℕ) × ReleasedAt rest i p a → (i : ℕ) × ReleasedAt rest i p b
released_kept rest p e z = (z.0, subst (ReleasedAt rest z.0 p) e z.1)

nothing_released : {ds : List Deed} {i : ℕ} {q : Waiting} {above : ℕ} → ds ≡ [] → ReleasedAt ds i q above → ⊥
nothing_released {i = i} {q = q} {above = above} e b = none (subst (λ (l : List Deed). At l i (releases b.goals)) e b.deed)
  where
    none : {i : ℕ} {d : Deed} → At [] i d → ⊥
    none a = elim a [ ]

before_parent : (r : Rules) (xs : List Step) (n : ℕ) (P : Problem) (deeds : List Deed) (last : State) → Tree n P.waiting → run r n P xs ≡ accepted deeds last
    → (i : ℕ) (q : Waiting) (above : ℕ) → ReleasedAt deeds i q above → (k m : ℕ) → q.source ≡ used k m → ReleasedBefore deeds i q above
unfolding run_by
before_parent r [] n P deeds last t e i q above a k m s = absurd (nothing_released (ended_empty n P deeds last e).1 a)
before_parent r (x ∷ xs) n P deeds last t e i q above a k m s =
    let f = resumes (stepped r) n P x xs deeds last e in
    let o = took x f.deed f.left f.first in
    let u = tree_next r n P x f.deed f.left t f.first in
    subst (λ (l : List Deed). ReleasedBefore l i q above) (sym f.whole)
    (step_before r n P x.place f.rest t o.inside o.by
    (λ p j l. released_kept f.rest p (kept_above r n P x f.deed f.left t f.first p j l) (released_once r xs (suc n) f.left f.rest last u f.goes_on p l)) q above
    (λ j b. before_parent r xs (suc n) f.left f.rest last u f.goes_on j q above b k m s) k m s i
    (subst (λ (l : List Deed). ReleasedAt l i q above) f.whole a))

-- The numbers of lines, by tests on what their goals carry.

-- The step is this one, and the step is this one but the method is another.
abbrev of_step : ℕ → Source → Bool
of_step k s = eqb (step_number s) k

abbrev other_method : ℕ → ℕ → Source → Bool
other_method k m s = eqb (step_number s) k && not (eqb (method_number s) m)

at_short : {xs : List Step} {i : ℕ} {x : Step} → At xs i x → i < length xs
at_short here = omega arith
at_short (there a) = let z = at_short a in omega arith

-- A line that has the step but for the method, where there is no such line, has the method.
method_is : (k m : ℕ) (ls : List Line) → count (λ (l : Line). other_method k m l.source) ls ≡ 0
    → (l : Line) → Memᴰ l (brought_at k ls) → method_number l.source ≡ m
method_is k m ls e l j =
    let h = kept (λ (l : Line). of_step k l.source) ls j in
    go (eqb (method_number l.source) m) refl (none_counted (λ (l : Line). other_method k m l.source) ls e l h.1) h.0
  where
    go : (b : Bool) → eqb (method_number l.source) m ≡ b → other_method k m l.source ≡ false → of_step k l.source ≡ true → method_number l.source ≡ m
    go true z f g = eqb-true _ _ z
    go false z f g = absurd (false_not_true (other_method k m l.source) f (true_and _ _ g (ap not z)))

module _ (shop sheet trace : List ℕ) (passes : check_trace shop sheet trace ≡ passed) (deeds : List Deed) (last : State)
    (runs : run (rules_of shop) 0 (problem_of (order sheet)) (steps_of trace) ≡ accepted deeds last) where
  abbrev lines : List Line
  lines = lines_of 0 deeds

  -- Every step's number is below 65,535.
  short : {i : ℕ} {x : Step} → At (steps_of trace) i x → i < 65535
  short a = let p = trace_passed shop sheet trace passes in omega (arith, at_short a, steps_length trace p, p.short)

  counted : (test : Source → Bool) → lines_from test lines ≡ goals_from test (goals_of (order sheet)) + brought test (rules_of shop) 0 (steps_of trace)
  counted test = lines_counted test (rules_of shop) (steps_of trace) 0 (problem_of (order sheet)) deeds last runs

  -- No step brings in goals of which none is such.
  none_such : (test : Source → Bool) → ((i m : ℕ) → UsesAt shop trace i m → test (used i m) ≡ false) → brought test (rules_of shop) 0 (steps_of trace) ≡ 0
  none_such test h = none_brought test (rules_of shop) (steps_of trace) 0 (λ i m x a e. subst (λ (j : ℕ). test (used j m) ≡ false) (sym (zero-add i)) (h i m (x, a, e)))

  order_goals_such : (test : Source → Bool) (b : Bool) → test Network.order ≡ b → goals_from test (goals_of (order sheet)) ≡ cond b (length (order sheet).goals) 0
  unfolding goals_of
  order_goals_such test b e = entered_from test Network.order none 0 (order sheet).goals ∙ ap (λ (c : Bool). cond c (length (order sheet).goals) 0) e

  of_order_law : length (brought_at 65535 lines) ≡ length (order sheet).goals
  unfolding step_number
  of_order_law =
      counted (of_step 65535)
      ∙ omega (arith, order_goals_such (of_step 65535) true refl, none_such (of_step 65535) (λ i m u. ne_eqb i 65535 (λ e. lt_irrefl 65535 (omega (arith, short u.1, e)))))

  of_order_number : (l : Line) → Memᴰ l (brought_at 65535 lines) → method_number l.source ≡ 65535
  unfolding step_number method_number
  of_order_number =
      method_is 65535 65535 lines
      (counted (other_method 65535 65535)
      ∙ omega (
        arith,
        order_goals_such (other_method 65535 65535) false refl,
        none_such (other_method 65535 65535) (λ i m u. ap (λ (b : Bool). b && not (eqb m 65535)) (ne_eqb i 65535 (λ e. lt_irrefl 65535 (omega (arith, short u.1, e))))),
      ))

  -- A number below 65,535 is not the order's.
  of_a_step : {k m : ℕ} → UsesAt shop trace k m → eqb 65535 k ≡ false
  of_a_step {k} u = ne_eqb 65535 k (λ e. lt_irrefl 65535 (omega (arith, short u.1, e)))

  of_step_law : (k m : ℕ) → UsesAt shop trace k m → length (brought_at k lines) ≡ length (method_at (domain shop) m).nodes
  unfolding step_number network_of
  of_step_law k m u =
      counted (of_step k)
      ∙ omega (
        arith,
        order_goals_such (of_step k) false (of_a_step u),
        one_brings (of_step k) (rules_of shop) (steps_of trace) 0 k m u.0 u.1 u.2 (eq-eqb (0 + k) k (zero-add k)) (λ j n y a d. ne_eqb (0 + j) k (λ e. d (omega (arith, e)))),
        length_last_after_all 0 (method_at (domain shop) m).nodes,
      )

  -- A step uses one method.
  one_method : {k m n : ℕ} → UsesAt shop trace k m → UsesAt shop trace k n → m ≡ n
  one_method u v = same (sym u.2 ∙ ap (λ (x : Step). move_of (domain shop) x.move) (one_step u.1 v.1) ∙ v.2)
    where
      same : {m n : ℕ} → use_method m ≡ use_method n → m ≡ n
      same e = cc

      one_step : {xs : List Step} {k : ℕ} {x y : Step} → At xs k x → At xs k y → x ≡ y
      one_step a b = sym (at_get_or step_0 a) ∙ at_get_or step_0 b
        where
          step_0 : Step
          step_0 = record { move = 0; place = 0 }

  of_step_number : (k m : ℕ) → UsesAt shop trace k m → (l : Line) → Memᴰ l (brought_at k lines) → method_number l.source ≡ m
  unfolding step_number method_number
  of_step_number k m u =
      method_is k m lines
      (counted (other_method k m)
      ∙ omega (
        arith,
        order_goals_such (other_method k m) false (ap (λ (b : Bool). b && not (eqb 65535 m)) (of_a_step u)),
        none_such (other_method k m) (λ i n v. go i n v (eqb i k) refl),
      ))
    where
      go : (i n : ℕ) → UsesAt shop trace i n → (b : Bool) → eqb i k ≡ b → (eqb i k && not (eqb n m)) ≡ false
      go i n v false e = ap (λ (b : Bool). b && not (eqb n m)) e
      go i n v true e =
          let same = one_method (subst (λ (j : ℕ). UsesAt shop trace j n) (eqb-true i k e) v) u in
          ap (λ (b : Bool). b && not (eqb n m)) e ∙ ap not (eq-eqb n m same)

  of_no_method : (k : ℕ) → k ≢ 65535 → ((m : ℕ) → ¬ UsesAt shop trace k m) → brought_at k lines ≡ []
  unfolding step_number
  of_no_method k d unused =
      nothing_left (λ (l : Line). of_step k l.source) lines
      (counted (of_step k)
      ∙ omega (
        arith,
        order_goals_such (of_step k) false (ne_eqb 65535 k (λ e. d (sym e))),
        none_such (of_step k) (λ i m u. ne_eqb i k (λ e. unused m (subst (λ (j : ℕ). UsesAt shop trace j m) e u))),
      ))

pub one_line_a_goal : OneLineAGoal
one_line_a_goal shop sheet trace passes deeds last runs = record {
  of_order_law = of_order_law shop sheet trace passes deeds last runs;
  of_order_number = of_order_number shop sheet trace passes deeds last runs;
  of_step_law = of_step_law shop sheet trace passes deeds last runs;
  of_step_number = of_step_number shop sheet trace passes deeds last runs;
  of_no_method = of_no_method shop sheet trace passes deeds last runs;
  lines_true = lines_true shop sheet trace deeds last runs;
  each_release = each_release shop sheet trace deeds last runs;
  rise = λ i j a b. rises 0 i j a b (run_rises (rules_of shop) (steps_of trace) 0 (problem_of (order sheet)) deeds last runs);
  before_parent = before_parent (rules_of shop) (steps_of trace) 0 (problem_of (order sheet)) deeds last (start_tree (order sheet)) runs;
}
