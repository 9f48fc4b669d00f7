-- What the questions of a step answered where it was taken, and back: from those answers the step is taken. Assumes nothing.
use Prim.Native.Nat.{ℕ, ◌<◌, ◌≤◌}
use native.Mathlib.Omega.{arith}
use mathlib.Core.Path.{◌≡◌, refl, sym, ◌∙◌, subst}
use mathlib.Core.Bool.{true}
use mathlib.Core.List.{List, [], ◌∷◌}
use lib.ListN.{length}
use borrow.Author.Tests.{ltb-true, lt-ltb, leb-true, le-leb}
use Rattle.hgn.specs.Questions.{Failure, Verdict, passed, first_no}
use Rattle.hgn.specs.Questions as Questions
use Rattle.hgn.specs.Meaning.{network_of}
use Rattle.hgn.specs.State.{γ, all_hold, formula_holds}
use Rattle.hgn.specs.Network.{Waiting, used, free, any_free, goal_at, no_goal, released, decomposed}
use Rattle.hgn.specs.Run.{Step, Move, release, act, use_method, unknown, move_of, known, action_at, method_at}
use Rattle.hgn.specs.Run.{Problem, Rules, moved, own_questions, step_questions, Deed, releases, leaving, deed_of, refused, taken, stepped}
use Rattle.hgn.specs.Run as Run
use Rattle.hgn.proofs.Logic.Tests.{true_any, at_of_lt, at_mem}
use Rattle.hgn.proofs.Questions.FirstNo.{passed_cons}

pub refused≢taken : {q : Failure} {deed : Deed} {P : Problem} → refused q ≡ taken deed P → ⊥
refused≢taken e = let z : ◌≡◌ {A = ℕ} 0 1 = cc in omega arith

-- What was taken, part by part.
module _ {deed deed' : Deed} {P P' : Problem} (e : taken deed P ≡ taken deed' P') where
  pub taken_deed : deed ≡ deed'
  taken_deed = cc

  pub taken_problem : P ≡ P'
  taken_problem = cc

-- The answers to a move's own questions at place `p`, what it did, and the problem that it leaves.
pub data Moved (r : Rules) (n : ℕ) (P : Problem) (p : ℕ) : Move → Deed → Problem → Type 0 where
  by_release : formula_holds P.state (goal_at P.waiting p).formula ≡ true
      → Moved r n P p release (releases (leaving P.waiting (goal_at P.waiting p) ∷ [])) (record { state = P.state; waiting = released P.waiting p })
  by_action : {k : ℕ} → all_hold P.state (action_at r.domain k).needs ≡ true
      → r.may_act (action_at r.domain k) (goal_at P.waiting p).formula ≡ true
      → Moved r n P p (act k) (Run.takes k) (record { state = γ P.state (action_at r.domain k).effects; waiting = P.waiting })
  by_method : {m : ℕ} → all_hold P.state (method_at r.domain m).needs ≡ true
      → r.may_use (method_at r.domain m) (goal_at P.waiting p).formula ≡ true
      → length (decomposed P.waiting p (used n m) (network_of (method_at r.domain m))) ≤ r.limit
      → Moved r n P p (use_method m) (Run.uses m (goal_at P.waiting p))
      (record { state = P.state; waiting = decomposed P.waiting p (used n m) (network_of (method_at r.domain m)) })

pub record Took (r : Rules) (n : ℕ) (P : Problem) (x : Step) (deed : Deed) (P' : Problem) : Type 0 where
  pub inside : x.place < length P.waiting
  pub is_free : free P.waiting (goal_at P.waiting x.place) ≡ true
  pub by : Moved r n P x.place (move_of r.domain x.move) deed P'

-- A free goal among the waiting answers 27 with yes.
pub some_free : (w : List Waiting) (p : ℕ) → p < length w → free w (goal_at w p) ≡ true → any_free w ≡ true
unfolding any_free
some_free w p h e = true_any (free w) w (at_mem (at_of_lt w p no_goal h)) e

module _ (r : Rules) (n : ℕ) (P : Problem) where
  -- The first no of a step's questions is what it is refused by, and where there is none it is taken.
  pub step_refused : (x : Step) (q : Failure) → first_no (step_questions r n P x) ≡ Questions.refused q → stepped r n P x ≡ refused q
  unfolding stepped
  step_refused x q e = rw (e, stepped)

  pub step_passed : (x : Step) → first_no (step_questions r n P x) ≡ passed
      → stepped r n P x ≡ taken (deed_of P x.place (move_of r.domain x.move)) (moved r.domain n P x.place (move_of r.domain x.move))
  unfolding stepped
  step_passed x e = rw (e, stepped)

  -- A step that is taken has passed its questions.
  pub taken_passed : (x : Step) (deed : Deed) (P' : Problem) → stepped r n P x ≡ taken deed P' → first_no (step_questions r n P x) ≡ passed
  taken_passed x deed P' e = go (first_no (step_questions r n P x)) refl
    where
      go : (v : Verdict) → first_no (step_questions r n P x) ≡ v → first_no (step_questions r n P x) ≡ passed
      go passed q = q
      go (Questions.refused q) f = absurd (refused≢taken (sym (step_refused x q f) ∙ e))

module _ {r : Rules} {n : ℕ} {P : Problem} where
  own_answers : (p : ℕ) (m : Move) → known m ≡ true → first_no (own_questions r n P p m) ≡ passed
      → Moved r n P p m (deed_of P p m) (moved r.domain n P p m)
  unfolding own_questions deed_of moved known
  own_answers p release k e = by_release (passed_cons _ _ e).0
  own_answers p (act a) k e =
      let b = passed_cons _ _ e in
      by_action b.0 (passed_cons _ _ b.1).0
  own_answers p (use_method m) k e =
      let b = passed_cons _ _ e in
      let c = passed_cons _ _ b.1 in
      by_method b.0 c.0 (leb-true _ _ (passed_cons _ _ c.1).0)
  own_answers p unknown k e = let z : ◌≡◌ {A = ℕ} 0 1 = cc in absurd (omega arith)

  pub took : (x : Step) (deed : Deed) (P' : Problem) → stepped r n P x ≡ taken deed P' → Took r n P x deed P'
  unfolding step_questions
  took x deed P' e =
      let pass = taken_passed r n P x deed P' e in
      let a = passed_cons _ _ pass in
      let b = passed_cons _ _ a.1 in
      let c = passed_cons _ _ b.1 in
      let d = passed_cons _ _ c.1 in
      let same = sym (step_passed r n P x pass) ∙ e in
      record {
        inside = ltb-true _ _ a.0;
        is_free = d.0;
        by =
            subst (λ (Q : Problem). Moved r n P x.place (move_of r.domain x.move) deed Q) (taken_problem same)
            (subst (λ (k : Deed). Moved r n P x.place (move_of r.domain x.move) k (moved r.domain n P x.place (move_of r.domain x.move))) (taken_deed same)
            (own_answers x.place (move_of r.domain x.move) b.0 d.1));
      }

  own_passed : {p : ℕ} {m : Move} {deed : Deed} {P' : Problem} → Moved r n P p m deed P'
      → (known m ≡ true) × (first_no (own_questions r n P p m) ≡ passed) × (taken (deed_of P p m) (moved r.domain n P p m) ≡ taken deed P')
  unfolding own_questions deed_of moved known first_no
  own_passed (by_release a) = (refl, rw a, refl)
  own_passed (by_action a b) = (refl, rw (a, b), refl)
  own_passed (by_method a b c) = (refl, rw (a, b, le-leb _ _ c), refl)

  pub takes : (x : Step) (deed : Deed) (P' : Problem) → Took r n P x deed P' → stepped r n P x ≡ taken deed P'
  unfolding step_questions first_no
  takes x deed P' t =
      let own = own_passed t.by in
      step_passed r n P x
      (rw (lt-ltb _ _ t.inside, own.0, some_free P.waiting x.place t.inside t.is_free, t.is_free) own.1)
      ∙ own.2
