-- The plan of an accepted run is the actions among its moves. Assumes nothing.
use Prim.Native.Nat.{ℕ, suc, ◌+◌, ◌≤◌}
use native.Mathlib.Omega.{arith}
use mathlib.Core.Path.{◌≡◌, refl, sym, ap, ap₂, ◌∙◌}
use mathlib.Core.Bool.{cond, ◌&&◌}
use mathlib.Core.List.{List, [], ◌∷◌, ◌++◌, zip_with}
use lib.Dec.{eqb, leb, ltb}
use lib.ListN.{length}
use borrow.Author.Tests.{eqb-true, eqb-false, le-ltb, lt-ltb}
use Rattle.hgn.specs.Meaning.{Domain}
use Rattle.hgn.specs.State.{State}
use Rattle.hgn.specs.Run.{Step, Move, release, act, use_method, unknown, move_of, Problem, Rules, Deed, deed_of, stepped, accepted, run_by, run, plan_of}
use Rattle.hgn.specs.Trace.{step}
use Rattle.hgn.proofs.Run.Steps.{taken_deed, taken_passed, step_passed}
use Rattle.hgn.proofs.Run.Runs.{resumes, ended_empty}
use Rattle.sheet_index.proofs.Spans.{by_test}
use Rattle.replay.specs.Answers.{action_moves}

-- The action that a move takes, if it is one.
abbrev pub actions_of : Move → List ℕ
actions_of release = []
actions_of (act k) = k ∷ []
actions_of (use_method m) = []
actions_of unknown = []

-- The actions among the moves of steps.
unfoldable pub actions_in : Domain → List Step → List ℕ
actions_in d [] = []
actions_in d (x ∷ xs) = actions_of (move_of d x.move) ++ actions_in d xs

deed_plan : (P : Problem) (p : ℕ) (m : Move) (deeds : List Deed) → plan_of (deed_of P p m ∷ deeds) ≡ actions_of m ++ plan_of deeds
unfolding deed_of plan_of
deed_plan P p release deeds = refl
deed_plan P p (act k) deeds = refl
deed_plan P p (use_method m) deeds = refl
deed_plan P p unknown deeds = refl

-- Which moves are actions.
move_actions : (d : Domain) (m : ℕ) → actions_of (move_of d m) ≡ cond (ltb 0 m && leb m (length d.actions)) (m ∷ []) []
unfolding move_of
move_actions d m =
    by_test (eqb m 0)
    (λ z. let e = eqb-true m 0 z in rw (z, le-ltb 0 m (omega arith)) refl)
    (λ z.
    let e = eqb-false m 0 z in
    rw (z, lt-ltb 0 m (omega arith))
    (by_test (leb m (length d.actions)) (λ t. rw t refl)
    (λ t. rw t (by_test (leb 256 m && ltb m (256 + length d.methods)) (λ u. rw u refl) (λ u. rw u refl)))))

pub plan_moves : (d : Domain) (ms ps : List ℕ) → length ms ≤ length ps → actions_in d (zip_with step ms ps) ≡ action_moves (length d.actions) ms
unfolding actions_in action_moves zip_with
plan_moves d [] ps h = refl
plan_moves d (m ∷ ms) [] h = absurd (omega arith)
plan_moves d (m ∷ ms) (p ∷ ps) h =
    ap₂ {C = List ℕ} (λ a b. a ++ b) (move_actions d m) (plan_moves d ms ps (omega arith))
    ∙ by_test (ltb 0 m && leb m (length d.actions)) (λ t. rw t refl) (λ t. rw t refl)

pub plan_is : (r : Rules) (n : ℕ) (P : Problem) (xs : List Step) (deeds : List Deed) (last : State)
    → run r n P xs ≡ accepted deeds last → plan_of deeds ≡ actions_in r.domain xs
unfolding run_by actions_in plan_of
plan_is r n P [] deeds last e = ap plan_of (ended_empty n P deeds last e).1
plan_is r n P (x ∷ xs) deeds last e =
    let h = resumes (stepped r) n P x xs deeds last e in
    let t = taken_passed r n P x h.deed h.left h.first in
    let same = taken_deed (sym h.first ∙ step_passed r n P x t) in
    ap plan_of (h.whole ∙ ap {B = List Deed} (λ k. k ∷ h.rest) same)
    ∙ deed_plan P x.place (move_of r.domain x.move) h.rest
    ∙ ap {B = List ℕ} (λ l. actions_of (move_of r.domain x.move) ++ l) (plan_is r (suc n) h.left xs h.rest last h.goes_on)
