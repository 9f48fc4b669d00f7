-- The facts that the loop leaves. Assumes nothing.
use Prim.Native.Nat.{ℕ, suc}
use native.Mathlib.Omega.{arith}
use native.Mathlib.Numerals.{add-one}
use mathlib.Core.Path.{◌≡◌, refl, subst}
use mathlib.Core.Logic.{inl, inr}
use mathlib.Core.List.{List}
use Rattle.std.specs.Prelude.{Result, Ok, Err}
use Rattle.hgn.specs.Run.{Problem}
use Rattle.hgn.specs.Replay.{rules_of}
use Rattle.search_theory.specs.Pruned.{pruned_of}
use Rattle.search_pruning.specs.Tests.{step_of}
use Rattle.search.specs.Founds.{Finds}
use Rattle.search.specs.Trials.{problem_at, first_node}
use Rattle.search.specs.declared.explore.Node.{Node}
use Rattle.search.specs.declared.found.Steps.{Steps}
use Rattle.search.specs.declared.found.Exhausted.{Exhausted}
use Rattle.search.proofs.Depths.{at_depth, NoneBelow, none_from, found_first, none_next, none_found, none_longer}
use Rattle.search.proofs.shortest.deepen.Goals as goal

-- What the search of one length told, where it begins.
from_first : (shop : List ℕ) (depth left : ℕ) (P : Problem) (node : Node) → node ≡ first_node left → (r : Result Steps Exhausted)
    → Finds (λ k. pruned_of k (rules_of shop) P (step_of node.last) node.number P) node.number node.left r → Finds (at_depth depth (rules_of shop) P) 0 left r
from_first shop depth left P node e r =
    subst (λ (node : Node). Finds (λ k. pruned_of k (rules_of shop) P (step_of node.last) node.number P) node.number node.left r) e

-- Nothing was found: no trace has fewer than one step more.
none_here : (shop : List ℕ) (depth left : ℕ) (P : Problem) (node : Node) → node ≡ first_node left → NoneBelow depth (rules_of shop) P left → (e : Exhausted)
    → Finds (λ k. pruned_of k (rules_of shop) P (step_of node.last) node.number P) node.number node.left (Err e) → NoneBelow depth (rules_of shop) P (suc left)
none_here shop depth left P node first below e nothing = none_next _ _ _ left below (from_first shop depth left P node first (Err e) nothing left (inl refl))

pub loop-left-init : goal.loop-left-init
loop-left-init c = none_from _ _ _ c.in-Some.least (λ k h. c.in-Some.ensures k h _ _ 0)

-- No trace of any length is accepted.
pub returns-in_default : goal.returns-in_default
returns-in_default c =
    (none_found _ _ _ (suc c.args.depth) (omega arith) (none_from _ _ _ (suc c.args.depth) (λ k h. c.in_default.ensures k tt _ _ 0)), tt)

pub returns-in-Ok : goal.returns-in-Ok
returns-in-Ok c =
    let a = c.args in
    let P : Problem = problem_at a.given.now a.start in (
      found_first _ _ _ c.loop-left.left (omega arith) c.loop-left.invariant _
          (from_first a.given.now.shop.now a.depth _ P _ c.first.ensures (Ok c.places.new.found) c.in-Ok.ensures),
      omega arith,
    )

-- No branch ran out of steps.
pub returns-in-Err-eq0 : goal.returns-in-Err-eq0
returns-in-Err-eq0 c =
    let a = c.args in
    let P : Problem = problem_at a.given.now a.start in
    let nothing = from_first a.given.now.shop.now a.depth _ P _ c.first.ensures (Err c.in-Err-eq0.field-0) c.in-Err-eq0.ensures in
    (none_longer _ _ _ (suc a.depth) c.loop-left.left (omega arith) c.loop-left.invariant (λ k h. nothing k (inr (omega arith, h))), tt)

pub loop-left-preserved : goal.loop-left-preserved
loop-left-preserved c = rw add-one (none_here _ _ _ _ _ c.first.ensures c.loop-left.invariant c.in-Err.field-0 c.in-Err.ensures)

-- The last length was tried.
pub returns-in-Err : goal.returns-in-Err
returns-in-Err c =
    (none_found _ _ _ (suc c.loop-left.left) (omega arith) (none_here _ _ _ _ _ c.first.ensures c.loop-left.invariant c.in-Err.field-0 c.in-Err.ensures), tt)

-- No length is small enough.
pub returns-in-Some : goal.returns-in-Some
returns-in-Some c = (none_found _ _ _ c.loop-left.left (omega arith) c.loop-left.invariant, tt)
