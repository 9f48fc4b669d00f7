-- A run in progress: some steps are taken, the actions done are counted and their costs summed. Assumes nothing.
use Prim.Native.Nat.{ℕ, suc, ◌+◌, ◌*◌, ◌<◌, ◌≤◌}
use native.Mathlib.Omega.{arith}
use native.Mathlib.Numerals.{add-one}
use mathlib.Core.Path.{◌≡◌, refl, ap, ap₂, sym, ◌∙◌}
use mathlib.Core.List.{List, [], ◌∷◌, ◌++◌}
use lib.ListN.{length, get_or, drop, length-append, drop_of_length-le}
use lib.Seq.{drop-cons}
use Rattle.hgn.specs.Questions.{Failure, failed_at}
use Rattle.hgn.specs.State.{State}
use Rattle.hgn.specs.Run.{Step, Problem, Rules, Deed, refused, taken, stepped, Outcome, stopped, accepted, prepend, ended, run_by, run, plan_of, cost_of}
use Rattle.hgn.proofs.Run.Runs.{resumed, run_cons}
use Rattle.hgn.proofs.Join.Cut.{plan_append}
use Rattle.hgn.proofs.Run.Costs.{cost_append}

-- What several steps did, in front of what the rest of the run did.
unfoldable pub prepend_all : List Deed → Outcome → Outcome
prepend_all [] o = o
prepend_all (deed ∷ deeds) o = prepend deed (prepend_all deeds o)

prepended_one : (deeds : List Deed) (deed : Deed) (o : Outcome) → prepend_all deeds (prepend deed o) ≡ prepend_all (deeds ++ (deed ∷ [])) o
unfolding prepend_all
prepended_one [] deed o = refl
prepended_one (d ∷ deeds) deed o = ap (prepend d) (prepended_one deeds deed o)

pub prepended_stopped : (deeds : List Deed) (q : Failure) → prepend_all deeds (stopped q) ≡ stopped q
unfolding prepend_all prepend
prepended_stopped [] q = refl
prepended_stopped (d ∷ deeds) q = ap (prepend d) (prepended_stopped deeds q)

pub prepended_accepted : (deeds : List Deed) (s : State) → prepend_all deeds (accepted [] s) ≡ accepted deeds s
unfolding prepend_all prepend
prepended_accepted [] s = refl
prepended_accepted (d ∷ deeds) s = ap (prepend d) (prepended_accepted deeds s)

pub record Running (r : Rules) (xs : List Step) (P₀ : Problem) (i : ℕ) (P : Problem) (count cost : ℕ) : Type 0 where
  pub inside : i ≤ length xs
  pub deeds : List Deed
  pub ran : run r 0 P₀ xs ≡ prepend_all deeds (run r i P (drop i xs))
  pub counts : count ≡ length (plan_of deeds)
  pub costs : cost ≡ cost_of r.domain (plan_of deeds)
  pub few : count ≤ i
  pub cheap : cost ≤ 65535 * i

module _ (r : Rules) (xs : List Step) (P₀ : Problem) where
  pub running_start : Running r xs P₀ 0 P₀ 0 0
  unfolding cost_of plan_of prepend_all
  running_start = record {
    inside = omega arith;
    deeds = [];
    ran = refl;
    counts = refl;
    costs = refl;
    few = omega arith;
    cheap = omega arith;
  }

  module _ (i : ℕ) (P : Problem) (count cost : ℕ) (going : Running r xs P₀ i P count cost) (h : i < length xs)
      (x : Step) (at : get_or xs i (record { move = 0; place = 0 }) ≡ x) where
    rest : drop i xs ≡ x ∷ drop (i + 1) xs
    rest = drop-cons xs i (record { move = 0; place = 0 }) h ∙ ap₂ {C = List Step} (λ y k. y ∷ drop k xs) at (sym (add-one i))

    onward : run r i P (drop i xs) ≡ resumed (stepped r) i (drop (i + 1) xs) (stepped r i P x)
    onward = ap (run r i P) rest ∙ run_cons (stepped r) i P x (drop (i + 1) xs)

    -- A step that is taken leads on, with the actions it does.
    pub running_next : (deed : Deed) (P' : Problem) (count' cost' : ℕ) → stepped r i P x ≡ taken deed P'
        → count' ≡ count + length (plan_of (deed ∷ [])) → cost' ≡ cost + cost_of r.domain (plan_of (deed ∷ []))
        → length (plan_of (deed ∷ [])) ≤ 1 → cost_of r.domain (plan_of (deed ∷ [])) ≤ 65535
        → Running r xs P₀ (i + 1) P' count' cost'
    unfolding resumed
    running_next deed P' count' cost' e c k one cheap =
        let plan = plan_append going.deeds (deed ∷ []) in
        record {
          inside = omega arith;
          deeds = going.deeds ++ (deed ∷ []);
          ran =
              going.ran
              ∙ ap (prepend_all going.deeds) (onward ∙ ap (resumed (stepped r) i (drop (i + 1) xs)) e)
              ∙ prepended_one going.deeds deed (run r (suc i) P' (drop (i + 1) xs))
              ∙ ap (λ (n : ℕ). prepend_all (going.deeds ++ (deed ∷ [])) (run r n P' (drop (i + 1) xs))) (sym (add-one i));
          counts = omega (arith, going.counts, ap length plan, length-append (plan_of going.deeds) (plan_of (deed ∷ [])));
          costs = omega (arith, going.costs, ap (cost_of r.domain) plan, cost_append r.domain (plan_of going.deeds) (plan_of (deed ∷ [])));
          few = omega (arith, going.few);
          cheap = omega (arith, going.cheap);
        }

    -- A step that is refused ends the run.
    pub running_stop : (q : Failure) → stepped r i P x ≡ refused q → run r 0 P₀ xs ≡ stopped (failed_at i q)
    unfolding resumed
    running_stop q e =
        going.ran
        ∙ ap (prepend_all going.deeds) (onward ∙ ap (resumed (stepped r) i (drop (i + 1) xs)) e)
        ∙ prepended_stopped going.deeds (failed_at i q)

  -- After the last step.
  pub running_end : (i : ℕ) (P : Problem) (count cost : ℕ) (going : Running r xs P₀ i P count cost) → length xs ≤ i
      → run r 0 P₀ xs ≡ prepend_all going.deeds (ended i P)
  unfolding run_by
  running_end i P count cost going h =
      going.ran ∙ ap (λ (l : List Step). prepend_all going.deeds (run r i P l)) (drop_of_length-le xs h)
