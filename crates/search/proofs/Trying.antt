-- What is found with a step, by the code's tests. Assumes nothing.
use Prim.Native.Nat.{ℕ, suc, ◌+◌, ◌<◌}
use native.Mathlib.Omega.{arith}
use mathlib.Core.Path.{◌≡◌, refl, ap, sym, subst, ◌∙◌}
use mathlib.Core.Bool.{Bool, true, false, not, or-true}
use mathlib.Core.Logic.{inl, inr, ⊎_elim}
use mathlib.Core.List.{List, ◌∷◌}
use mathlib.Core.Option.{Option, none, map}
use lib.Dec.{leb}
use lib.ListN.{length}
use borrow.Author.Tests.{ltb-true, lt-ltb, leb-false}
use Rattle.hgn.specs.Questions.{Failure}
use Rattle.hgn.specs.Meaning.{network_of, node_of}
use Rattle.hgn.specs.State.{State}
use Rattle.hgn.specs.Network as Network
use Rattle.hgn.specs.Network.{most_waiting, free, goal_at}
use Rattle.hgn.specs.Run.{Step, Move, move_of, method_at, Problem, Rules, Deed, Stepped, refused, taken, moved, stepped}
use Rattle.hgn.specs.Shop.{domain, action_count, method_count}
use Rattle.hgn.specs.Replay.{rules_of}
use Rattle.hgn.proofs.Run.Steps.{Moved, by_release, by_action, by_method, took}
use Rattle.hgn.proofs.Search.Waits.{one_released, none_lost}
use Rattle.step.specs.Failures.{failure_of}
use Rattle.std.specs.Prelude.{Result, Ok, Err, is_ok}
use Rattle.step.specs.declared.failure.Failure as Code
use Rattle.sheet_index.specs.Index.{span_rows}
use Rattle.sheet_index.specs.Tables.{Indexed}
use Rattle.network.specs.Entries.{waiting_of}
use Rattle.network.specs.declared.goals.Goals.{Goals}
use Rattle.network.specs.declared.waiting.Entry.{Entry}
use Rattle.network.specs.Goals.{count_in, entry_in, list_in}
use Rattle.network.proofs.WaitingGoals.{list_length, list_at}
use Rattle.step.specs.Moves.{Known, known_of}
use Rattle.step.specs.Deciding.{Faces, Answers}
use Rattle.step.specs.Taking.{problem_with}
use Rattle.step.specs.declared.moves.Choice.{Choice}
use Rattle.step.proofs.Bodies.{own_refuses, own_takes, own_room}
use Rattle.search_theory.specs.Rules.{has_no_effect, lower_too, too_few_left, commutes_with_last, left_out}
use Rattle.search_theory.specs.Pruned.{behind, pruned_of}
use Rattle.search_pruning.specs.Tests.{move_number, step_of, crowded}
use Rattle.search_pruning.proofs.Reading.{number_read}
use Rattle.search.specs.Trials.{tried, Suffices, Effective, NotEffective, MayTake, Open, Opens}

-- A move that was crowded leaves too few steps.
crowded_after : {r : Rules} {n : ℕ} {P : Problem} {p : ℕ} (left : ℕ) {m : Move} {deed : Deed} {P' : Problem} → p < length P.waiting → Moved r n P p m deed P'
    → crowded left (length P.waiting) m ≡ true → left < length P'.waiting
unfolding crowded
crowded_after {P = P} {p = p} left h (by_release a) e = omega (arith, ltb-true (left + 1) (length P.waiting) e, one_released P.waiting p h)
crowded_after {P = P} left h (by_action a b) e = ltb-true left (length P.waiting) e
crowded_after {r} {n} {P} {p} left h (by_method {m} a b c) e =
    omega (arith, ltb-true left (length P.waiting) e, none_lost P.waiting p (Network.used n m) (network_of (method_at r.domain m)) h)

-- A step `x` from `P`, with `k` steps left after it. The step before it was `y`, from `P₀`.
module _ (r : Rules) (k : ℕ) (P₀ : Problem) (y : Step) (n : ℕ) (P : Problem) (x : Step) where
  abbrev m : Move
  m = move_of r.domain x.move

  abbrev Out : Problem → Bool → Type 0
  Out P' b = left_out r k P₀ y P x P' ≡ b

  -- Each rule by itself leaves the step out.
  no_effect_out : (P' : Problem) → has_no_effect r.domain P.state m ≡ true → Out P' true
  unfolding left_out
  no_effect_out P' e = rw e refl

  lower_out : (P' : Problem) → lower_too r P.waiting x.place m ≡ true → Out P' true
  unfolding left_out
  lower_out P' e = rw (e, or-true (has_no_effect r.domain P.state m)) refl

  few_out : (P' : Problem) → too_few_left k P' ≡ true → Out P' true
  unfolding left_out
  few_out P' e = rw (e, or-true (lower_too r P.waiting x.place m), or-true (has_no_effect r.domain P.state m)) refl

  first_out : (P' : Problem) → commutes_with_last r.domain P₀ y x ≡ true → Out P' true
  unfolding left_out
  first_out P' e =
      rw (e, or-true (too_few_left k P'), or-true (lower_too r P.waiting x.place m), or-true (has_no_effect r.domain P.state m)) refl

  few_count : (P' : Problem) → k < length P'.waiting → too_few_left k P' ≡ true
  unfolding too_few_left
  few_count P' h = rw (lt-ltb k (length P'.waiting) h) refl

  none_out : (P' : Problem) → has_no_effect r.domain P.state m ≡ false → lower_too r P.waiting x.place m ≡ false
      → too_few_left k P' ≡ false → commutes_with_last r.domain P₀ y x ≡ false → Out P' false
  unfolding left_out
  none_out P' a b c e = rw (a, b, c, e) refl

  -- What is found with it.
  abbrev next : Problem → Option (List Step)
  next = pruned_of k r P x (suc n)

  abbrev found : Stepped → Option (List Step)
  found o = behind r k P₀ y P next x o

  -- Nothing is found where each way in which the step is taken is left out.
  out : ((deed : Deed) (P' : Problem) → stepped r n P x ≡ taken deed P' → Out P' true) → tried k r P₀ y n P x ≡ none
  unfolding behind
  out h = go (stepped r n P x) refl
    where
      go : (o : Stepped) → stepped r n P x ≡ o → found o ≡ none
      go (refused q) e = refl
      go (taken deed P') e = rw (h deed P' e) refl

  refused_none : (q : Failure) → stepped r n P x ≡ refused q → tried k r P₀ y n P x ≡ none
  unfolding behind
  refused_none q e = ap found e

  -- Nothing is found where more goals wait after it than steps are left.
  pub crowded_none : crowded k (length P.waiting) m ≡ true → tried k r P₀ y n P x ≡ none
  crowded_none c = out λ deed P' t. let a = took x deed P' t in few_out P' (few_count P' (crowded_after k a.inside a.by c))

  -- A step that is taken, and that no reason leaves out but the number of steps left.
  module _ {deed : Deed} {P' : Problem} (t : stepped r n P x ≡ taken deed P') where
    few_none : too_few_left k P' ≡ true → tried k r P₀ y n P x ≡ none
    unfolding behind
    few_none e = ap found t ∙ rw (few_out P' e) refl

    module _ (a : has_no_effect r.domain P.state m ≡ false) (b : lower_too r P.waiting x.place m ≡ false) (c : commutes_with_last r.domain P₀ y x ≡ false) where
      kept : too_few_left k P' ≡ false → tried k r P₀ y n P x ≡ map (λ xs. x ∷ xs) (next P')
      unfolding behind
      kept e = ap found t ∙ rw (none_out P' a b e c) refl

      no_more : next P' ≡ none → tried k r P₀ y n P x ≡ none
      no_more e = go (too_few_left k P') refl
        where
          go : (v : Bool) → too_few_left k P' ≡ v → tried k r P₀ y n P x ≡ none
          go true f = few_none f
          go false f = kept f ∙ ap (map (λ xs. x ∷ xs)) e

-- One step of the code.
module _ {shop order table : List ℕ} (ix : Indexed shop order table) (P₀ : Problem) (y : Step) (P : Problem) (x : Choice)
    (known : Known (action_count shop) (method_count shop) x.mv) where
  reads : move_of (domain shop) (move_number x.mv) ≡ known_of x.mv
  reads = number_read ix x.mv known

  abbrev Tried : ℕ → ℕ → Option (List Step) → Type 0
  Tried k n o = tried k (rules_of shop) P₀ y n P (step_of x) ≡ o

  -- Nothing is found with it, however many steps are left.
  pub closed_untaken : NotEffective shop P x → (k n : ℕ) → Tried k n none
  closed_untaken h k n =
      ⊎_elim
      (λ i. out (rules_of shop) k P₀ y n P (step_of x) λ deed P' t. no_effect_out (rules_of shop) k P₀ y n P (step_of x) P' (ap (has_no_effect (domain shop) P.state) reads ∙ i))
      (λ f. refused_none (rules_of shop) k P₀ y n P (step_of x) (f n).0 (f n).1)
      h

  pub closed_first : commutes_with_last (domain shop) P₀ y (step_of x) ≡ true → (k n : ℕ) → Tried k n none
  closed_first h k n = out (rules_of shop) k P₀ y n P (step_of x) λ deed P' t. first_out (rules_of shop) k P₀ y n P (step_of x) P' h

  pub closed_lower : lower_too (rules_of shop) P.waiting x.place.0 (known_of x.mv) ≡ true → (k n : ℕ) → Tried k n none
  closed_lower h k n =
      out (rules_of shop) k P₀ y n P (step_of x) λ deed P' t.
      lower_out (rules_of shop) k P₀ y n P (step_of x) P' (ap (lower_too (rules_of shop) P.waiting x.place.0) reads ∙ h)

  -- The step is left out, however it is told.
  pub closed_if : {v : Bool} → v ≡ false → ((k n : ℕ) → Tried k n none) → Opens shop P₀ y P x v
  closed_if e h = subst (Opens shop P₀ y P x) (sym e) h

  -- The last reason decides.
  pub open_if : Effective shop P x → commutes_with_last (domain shop) P₀ y (step_of x) ≡ false → (b : Bool)
      → b ≡ lower_too (rules_of shop) P.waiting x.place.0 (known_of x.mv) → Opens shop P₀ y P x (not b)
  open_if e f true q = closed_lower (sym q)
  open_if e f false q = record { taken = e; lowest = sym q; in_order = f }

  -- Nothing is found with so many steps, where more goals wait than that.
  pub crowded_out : (k n : ℕ) → crowded k (length P.waiting) (known_of x.mv) ≡ true → Tried k n none
  crowded_out k n c = crowded_none (rules_of shop) k P₀ y n P (step_of x) (ap (crowded k (length P.waiting)) reads ∙ c)

  -- An open step leaves this problem.
  module _ (o : Open shop P₀ y P x) (k n : ℕ) where
    abbrev P' : Problem
    P' = moved (domain shop) n P x.place.0 (known_of x.mv)

    abbrev onward : Option (List Step)
    onward = pruned_of k (rules_of shop) P (step_of x) (suc n) P'

    has_effect : has_no_effect (domain shop) P.state (move_of (domain shop) (move_number x.mv)) ≡ false
    has_effect = ap (has_no_effect (domain shop) P.state) reads ∙ o.taken.changes

    not_lower : lower_too (rules_of shop) P.waiting x.place.0 (move_of (domain shop) (move_number x.mv)) ≡ false
    not_lower = ap (lower_too (rules_of shop) P.waiting x.place.0) reads ∙ o.lowest

    pub open_few : too_few_left k P' ≡ true → Tried k n none
    open_few e = few_none (rules_of shop) k P₀ y n P (step_of x) (o.taken.taking.comes n) e

    pub open_kept : too_few_left k P' ≡ false → Tried k n (map (λ xs. step_of x ∷ xs) onward)
    open_kept e = kept (rules_of shop) k P₀ y n P (step_of x) (o.taken.taking.comes n) has_effect not_lower o.in_order e

    pub open_none : onward ≡ none → Tried k n none
    open_none e = no_more (rules_of shop) k P₀ y n P (step_of x) (o.taken.taking.comes n) has_effect not_lower o.in_order e

-- Whether so many steps may suffice, by a number that no accepted trace goes below.
pub suffices_least : (shop : List ℕ) (P : Problem) (least left : ℕ) → too_few_left left P ≡ false
    → ((k : ℕ) → k < least → (P₀ : Problem) (y : Step) (n : ℕ) → pruned_of k (rules_of shop) P₀ y n P ≡ none) → Suffices shop P left (leb least left)
suffices_least shop P least left few none_below = go (leb least left) refl
  where
    go : (b : Bool) → leb least left ≡ b → Suffices shop P left b
    go true e = few
    go false e = inr λ P₀ y n. none_below left (leb-false least left e) P₀ y n

-- A free goal's step, by what its own questions answer.
module _ {shop order table : List ℕ} (ix : Indexed shop order table) (s : State) (ws : Goals) (x : Choice) (inside : x.place.0 < count_in ws)
    (known : Known (action_count shop) (method_count shop) x.mv)
    (is_free : free (list_in shop order ws) (goal_at (list_in shop order ws) x.place.0) ≡ true) {goal : Entry} (here : goal ≡ entry_in ws x.place.0)
    {count : ℕ} (counts : count ≡ count_in ws) where
  abbrev P : Problem
  P = problem_with shop order s ws

  faces : Faces shop order s goal.rows count P x.place.0
  unfolding waiting_of
  faces = record {
    state = refl;
    formula =
        ap (λ (g : Network.Waiting). g.formula) (list_at shop order ws x.place.0 inside)
        ∙ ap (λ (e : Entry). (node_of (span_rows shop order e.rows)).formula) (sym here);
    size = list_length shop order ws ∙ sym counts;
  }

  below : x.place.0 < length P.waiting
  below = rw (list_length shop order ws) inside

  -- What the questions answer.
  abbrev Said : Result (Unit {0}) Code.Failure → Type 0
  Said = Answers shop order s goal.rows (record { count = count; limit = most_waiting }) (known_of x.mv)

  not_taken : (q : Code.Failure) → Said (Err q) → NotEffective shop P x
  not_taken q said =
      inr λ n. (
        failure_of q,
        own_refuses (rules_of shop) n P (move_number x.mv) x.place.0 below x.mv (number_read ix x.mv known) is_free (failure_of q)
            (sym (said n P x.place.0 faces)),
      )

  is_taken : (u : Unit {0}) → Said (Ok u) → has_no_effect (domain shop) s (known_of x.mv) ≡ false → Effective shop P x
  is_taken u said i = record {
    taking = record {
      inside = below;
      known = known;
      fits = rw (list_length shop order ws ∙ sym counts)
          (own_room shop order s goal.rows count most_waiting 0 x.place.0 P faces (omega arith) x.mv
          (sym (said 0 P x.place.0 faces)));
      comes = λ n.
          own_takes (rules_of shop) n P (move_number x.mv) x.place.0 below x.mv (number_read ix x.mv known) is_free (sym (said n P x.place.0 faces));
    };
    changes = i;
  }

  -- Refused.
  pub taken_never : (r : Result (Unit {0}) Code.Failure) → Said r → is_ok r ≡ false → {v : Bool} → v ≡ false → MayTake shop P x v
  taken_never (Ok u) said z e = absurd (cc)
  taken_never (Err q) said z e = subst (MayTake shop P x) (sym e) (not_taken q said)

  -- Not refused: whether the step has an effect decides.
  pub taken_if : (r : Result (Unit {0}) Code.Failure) → Said r → is_ok r ≡ true → (b : Bool) → b ≡ has_no_effect (domain shop) s (known_of x.mv)
      → MayTake shop P x (not b)
  taken_if (Err q) said z b e = absurd (cc)
  taken_if (Ok u) said z true e = inl (sym e)
  taken_if (Ok u) said z false e = is_taken u said (sym e)
