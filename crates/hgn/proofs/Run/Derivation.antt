-- The run accepts exactly the derivations of Definition 1, and a derivation's plan is no longer than its steps. Assumes nothing.
use Prim.Native.Nat.{ℕ, suc, ◌+◌, ◌≤◌, ◌<◌}
use native.Mathlib.Omega.{arith}
use mathlib.Core.Path.{◌≡◌, refl, sym, ap, ◌∙◌, subst, subst₂}
use mathlib.Core.Bool.{true}
use mathlib.Core.List.{List, [], ◌∷◌}
use lib.ListN.{length, get_or}
use Rattle.hgn.specs.Lists.{At}
use Rattle.hgn.specs.Meaning.{Domain, Action, Method, network_of}
use Rattle.hgn.specs.State.{State, EntailsAll, Satisfies, γ}
use Rattle.hgn.specs.Network.{Waiting, used, free, goal_at, no_goal, released, decomposed}
use Rattle.hgn.specs.Run.{Step, first_method, Move, release, act, use_method, move_of, action_at, no_action, no_method, Problem, Rules, Decided, Deed, plan_of, stepped, accepted, run_by, run}
use Rattle.hgn.specs.Run as Run
use Rattle.hgn.specs.Definition1.{Stands, Derivation, base, satisfaction, application, decomposition}
use Rattle.hgn.specs.Readings.{AcceptedIsDerivation}
use Rattle.hgn.proofs.Logic.Tests.{at_mem, at_get_or, at_lt, at_of_lt, all_hold_iff, formula_holds_iff, free_iff_unconstrained, strict_decided}
use Rattle.hgn.proofs.Run.Steps.{Moved, by_release, by_action, by_method, took, takes}
use Rattle.hgn.proofs.Run.Moves.{Reads, as_release, as_action, as_method, as_unknown, reads, reads_action, reads_method}
use Rattle.hgn.proofs.Network.Waiting.{length_released}
use Rattle.hgn.proofs.Run.Runs.{resumes, resumed_accepts, ended_nothing, ended_empty}

-- The action of the move `suc k` is action `k` of the list.
action_at_law : (d : Domain) {k : ℕ} {a : Action} → At d.actions k a → action_at d (suc k) ≡ a
action_at_law d {k} a = ap (λ (i : ℕ). get_or d.actions i no_action) (omega arith) ∙ at_get_or no_action a

-- After a step no more wait than the limit.
pub moved_within : {r : Rules} {n : ℕ} {P : Problem} {p : ℕ} {m : Move} {deed : Deed} {P' : Problem}
    → length P.waiting ≤ r.limit → Moved r n P p m deed P' → length P'.waiting ≤ r.limit
moved_within {P = P} {p = p} l (by_release f) = omega (arith, length_released P.waiting p)
moved_within l (by_action f g) = l
moved_within l (by_method f g b) = b

-- A free goal at a place of a list within the limit stands there unconstrained.
stands : {r : Rules} (P : Problem) → length P.waiting ≤ r.limit → (p : ℕ) → p < length P.waiting
    → free P.waiting (goal_at P.waiting p) ≡ true → Stands r P p (goal_at P.waiting p)
stands P l p h e =
    let a = at_of_lt P.waiting p no_goal h in
    record { within = l; at = a; unconstrained = (free_iff_unconstrained P.waiting (goal_at P.waiting p) (at_mem a)).0 e }

-- Definition 1's conditions on a move at the goal `t` of place `p` answer that move's questions.
module _ (r : Rules) (dec : Decided r) (n : ℕ) (P : Problem) {p : ℕ} {t : Waiting} (a : At P.waiting p t) where
  moved_release : Satisfies P.state t.formula
      → Moved r n P p release (Run.releases (Run.leaving P.waiting (goal_at P.waiting p) ∷ [])) (record { state = P.state; waiting = released P.waiting p })
  moved_release =
      subst
      (λ (g : Waiting). Satisfies P.state g.formula
      → Moved r n P p release (Run.releases (Run.leaving P.waiting (goal_at P.waiting p) ∷ [])) (record { state = P.state; waiting = released P.waiting p }))
      (at_get_or no_goal a)
      (λ f. by_release ((formula_holds_iff P.state _).1 f))

  moved_action : {k : ℕ} {x : Action} → At r.domain.actions k x → EntailsAll P.state x.needs → r.MayAct x t.formula
      → Moved r n P p (act (suc k)) (Run.takes (suc k)) (record { state = γ P.state x.effects; waiting = P.waiting })
  moved_action {k} c =
      subst₂
      (λ (y : Action) (g : Waiting). EntailsAll P.state y.needs → r.MayAct y g.formula
      → Moved r n P p (act (suc k)) (Run.takes (suc k)) (record { state = γ P.state y.effects; waiting = P.waiting }))
      (action_at_law r.domain c) (at_get_or no_goal a)
      (λ f g. by_action ((all_hold_iff P.state _).1 f) ((dec.act_iff _ _).1 g))

  moved_method : {k : ℕ} {m : Method} → At r.domain.methods k m → EntailsAll P.state m.needs → r.MayUse m t.formula
      → length (decomposed P.waiting p (used n k) (network_of m)) ≤ r.limit
      → Moved r n P p (use_method k) (Run.uses k (goal_at P.waiting p))
      (record { state = P.state; waiting = decomposed P.waiting p (used n k) (network_of m) })
  moved_method {k} c =
      subst₂
      (λ (y : Method) (g : Waiting). EntailsAll P.state y.needs → r.MayUse y g.formula
      → length (decomposed P.waiting p (used n k) (network_of y)) ≤ r.limit
      → Moved r n P p (use_method k) (Run.uses k (goal_at P.waiting p))
      (record { state = P.state; waiting = decomposed P.waiting p (used n k) (network_of y) }))
      (at_get_or no_method c) (at_get_or no_goal a)
      (λ f g l. by_method ((all_hold_iff P.state _).1 f) ((dec.use_iff _ _).1 g) l)

-- An accepted run of the steps, told as this plan and this last state.
pub record RunsTo (r : Rules) (n : ℕ) (P : Problem) (xs : List Step) (plan : List ℕ) (last : State) : Type 0 where
  pub deeds : List Deed
  pub runs : run r n P xs ≡ accepted deeds last
  pub plan_is : plan ≡ plan_of deeds

-- A move at an unconstrained goal, its questions answered, put before an accepted run.
steps_by : (r : Rules) (n : ℕ) (P : Problem) {p : ℕ} {t : Waiting} → Stands r P p t
    → (m : ℕ) {mv : Move} {deed : Deed} {P' : Problem} → move_of r.domain m ≡ mv → Moved r n P p mv deed P'
    → (xs : List Step) {deeds : List Deed} {last : State} → run r (suc n) P' xs ≡ accepted deeds last
    → run r n P (record { move = m; place = p } ∷ xs) ≡ accepted (deed ∷ deeds) last
steps_by r n P {p} {t} s m {mv} {deed} {P'} q h xs {deeds} {last} e =
    resumed_accepts (stepped r) n P (record { move = m; place = p }) xs deed P' deeds last
    (takes (record { move = m; place = p }) deed P' (record {
      inside = at_lt s.at;
      is_free = ap (free P.waiting) (at_get_or no_goal s.at) ∙ (free_iff_unconstrained P.waiting t (at_mem s.at)).1 s.unconstrained;
      by = rw q h;
    }))
    e

module _ (r : Rules) (dec : Decided r) where
  -- A derivation runs, to its plan and its last state, and its list is within the limit.
  pub derivation_runs : length r.domain.actions ≤ 255 → {n : ℕ} {P : Problem} {last : State} {xs : List Step} {plan : List ℕ}
      → Derivation r n P xs plan last → (length P.waiting ≤ r.limit) × RunsTo r n P xs plan last
  unfolding run_by plan_of move_of
  derivation_runs b (base {n} {s}) = (omega arith, record { deeds = []; runs = ended_nothing n s; plan_is = refl })
  derivation_runs b (satisfaction {n} {P} {xs = xs} h f i) =
      let o = (derivation_runs b i).1 in (
        h.within,
        record {
          deeds = _;
          runs = steps_by r n P h 0 refl (moved_release r dec n P h.at f) xs o.runs;
          plan_is = o.plan_is;
        },
      )
  derivation_runs b (application {n} {P} {xs = xs} {k = k} h c f g i) =
      let o = (derivation_runs b i).1 in (
        h.within,
        record {
          deeds = _;
          runs = steps_by r n P h (suc k) (reads_action r.domain k (at_lt c)) (moved_action r dec n P h.at c f g) xs o.runs;
          plan_is = ap (λ (l : List ℕ). suc k ∷ l) o.plan_is;
        },
      )
  derivation_runs b (decomposition {n} {P} {xs = xs} {k = k} h c f g i) =
      let t = derivation_runs b i in
      let o = t.1 in (
        h.within,
        record {
          deeds = _;
          runs = steps_by r n P h (first_method + k) (reads_method r.domain k b (at_lt c)) (moved_method r dec n P h.at c f g t.0) xs o.runs;
          plan_is = o.plan_is;
        },
      )

  -- A taken step, put before a derivation of what is left.
  derives_by : (n : ℕ) (P : Problem) {p move : ℕ} {m : Move} {deed : Deed} {P' : Problem} → length P.waiting ≤ r.limit
      → p < length P.waiting → free P.waiting (goal_at P.waiting p) ≡ true → Reads r.domain move m → Moved r n P p m deed P'
      → (deeds : List Deed) {xs : List Step} {last : State} → Derivation r (suc n) P' xs (plan_of deeds) last
      → Derivation r n P (record { move = move; place = p } ∷ xs) (plan_of (deed ∷ deeds)) last
  unfolding plan_of
  derives_by n P {p} l h e as_release (by_release f) deeds i =
      satisfaction (stands P l p h e) ((formula_holds_iff P.state _).0 f) i
  derives_by n P {p} l h e (as_action {k} c) (by_action f g) deeds i =
      let b = at_of_lt r.domain.actions k no_action c in
      application (stands P l p h e) (subst (At r.domain.actions k) (sym (action_at_law r.domain b)) b)
      ((all_hold_iff P.state _).0 f) ((dec.act_iff _ _).0 g) i
  derives_by n P {p} l h e (as_method {k} c) (by_method f g b) deeds i =
      decomposition (stands P l p h e) (at_of_lt r.domain.methods k no_method c)
      ((all_hold_iff P.state _).0 f) ((dec.use_iff _ _).0 g) i
  derives_by n P l h e as_unknown m deeds i = elim m [ ]

  -- An accepted run from a list within the limit is a derivation of its plan and its last state.
  pub run_derives : (n : ℕ) (P : Problem) (xs : List Step) (deeds : List Deed) (last : State) → length P.waiting ≤ r.limit
      → run r n P xs ≡ accepted deeds last → Derivation r n P xs (plan_of deeds) last
  unfolding run_by plan_of
  run_derives n P [] deeds last l e =
      let z = ended_empty n P deeds last e in
      subst₂ (λ (s : State) (k : List Deed). Derivation r n (record { state = P.state; waiting = P.waiting }) [] (plan_of k) s) z.2 (sym z.1)
      (subst (λ (w : List Waiting). Derivation r n (record { state = P.state; waiting = w }) [] [] P.state) (sym z.0) base)
  run_derives n P (x ∷ xs) deeds last l e =
      let f = resumes (stepped r) n P x xs deeds last e in
      let t = took x f.deed f.left f.first in
      subst (λ (k : List Deed). Derivation r n P (x ∷ xs) (plan_of k) last) (sym f.whole)
      (derives_by n P l t.inside t.is_free (reads r.domain x.move) t.by f.rest
      (run_derives (suc n) f.left xs f.rest last (moved_within l t.by) f.goes_on))

-- Accepted steps are a derivation, and back.
pub accepted_is_derivation : AcceptedIsDerivation
accepted_is_derivation = record {
  accepted_iff = λ r dec b P xs plan last. (
    (λ a. subst (λ (p : List ℕ). Derivation r 0 P xs p last) (sym a.plan_is) (run_derives r dec 0 P xs a.deeds last a.within a.runs)),
    (λ h. let t = derivation_runs r dec b h in record { within = t.0; deeds = t.1.deeds; runs = t.1.runs; plan_is = t.1.plan_is }),
  );
  strict_decided = strict_decided;
}

-- A plan has at most one action for each step.
pub plan_short : {r : Rules} {n : ℕ} {P : Problem} {last : State} {xs : List Step} {plan : List ℕ}
    → Derivation r n P xs plan last → length plan ≤ length xs
plan_short base = omega arith
plan_short (satisfaction h f i) = omega (arith, plan_short i)
plan_short (application h c f g i) = omega (arith, plan_short i)
plan_short (decomposition h c f g i) = omega (arith, plan_short i)
