-- An accepted run goes on behind a step that was told: for callers that tell a trace step by step. Assumes nothing.
use Prim.Native.Nat.{ℕ, suc, ◌+◌}
use native.Mathlib.Numerals.{add-one}
use mathlib.Core.Path.{◌≡◌, sym, ap, ap₂, ◌∙◌}
use mathlib.Core.List.{List, ◌∷◌, ◌++◌, map, map-append}
use Rattle.hgn.specs.State.{State}
use Rattle.hgn.specs.Run.{Step, Problem, Deed, stepped, Outcome, accepted, run}
use Rattle.hgn.specs.Replay.{rules_of}
use Rattle.hgn.specs.Listing.{lines_at, lines_of}
use Rattle.hgn.proofs.Run.Runs.{resumes}
use Rattle.step.specs.Taking.{problem_with, Going}
use Rattle.listing.specs.Lines.{numbers_of, lines_told, Narrow, StepTold}
use Rattle.network.specs.declared.goals.Goals.{Goals}
use Rattle.listing.specs.declared.line.Line.{Line}
use Rattle.std.specs.Prelude.{Option}

-- Behind step `n` of a run that does these deeds: the rest is accepted too, and the lines of the run are those told and those of the rest.
pub record Onward (shop order : List ℕ) (n : ℕ) (xs : List Step) (deeds : List Deed) (last : State) (told : Option Line) (s : State) (ws : Goals) : Type 0 where
  pub rest : List Deed
  pub accepts : run (rules_of shop) (n + 1) (problem_with shop order s ws) xs ≡ accepted rest last
  pub lines : map numbers_of (lines_of n deeds) ≡ lines_told told ++ map numbers_of (lines_of (n + 1) rest)
  pub narrow : Narrow (lines_told told)
  pub going : Going shop order (n + 1) s ws

pub onward : (shop order : List ℕ) (n : ℕ) (x : Step) (xs : List Step) (deeds : List Deed) (last : State) (s : State) (ws : Goals) (told : Option Line) (s' : State) (ws' : Goals)
    → run (rules_of shop) n (problem_with shop order s ws) (x ∷ xs) ≡ accepted deeds last → StepTold shop order n x s ws told s' ws'
    → Onward shop order n xs deeds last told s' ws'
unfolding lines_of
onward shop order n x xs deeds last s ws told s' ws' ran tells =
    let r = resumes (stepped (rules_of shop)) n (problem_with shop order s ws) x xs deeds last ran in
    let f = tells r.deed r.left r.first in
    record {
      rest = r.rest;
      accepts = ap₂ {C = Outcome} (λ (k : ℕ) (P : Problem). run (rules_of shop) k P xs) (add-one n) f.leaves ∙ r.goes_on;
      lines =
          ap (λ (ds : List Deed). map numbers_of (lines_of n ds)) r.whole
          ∙ map-append numbers_of (lines_at n r.deed) (lines_of (suc n) r.rest)
          ∙ ap₂ {C = List Line} (λ (a : List Line) (k : ℕ). a ++ map numbers_of (lines_of k r.rest)) (sym f.lines) (sym (add-one n));
      narrow = f.narrow;
      going = f.going;
    }
