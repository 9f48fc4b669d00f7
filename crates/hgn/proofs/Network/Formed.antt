-- The formulas of the goals that a run from checked sheets reaches: each has an alternative, and its atoms are below F. Assumes nothing.
use Prim.Native.Nat.{ℕ, suc, ◌≤◌, ◌<◌}
use mathlib.Core.Path.{◌≡◌, refl, sym, ap, subst}
use mathlib.Core.Logic.{⊎_elim}
use mathlib.Core.List.Memᴰ
use mathlib.Core.List.{List, [], ◌∷◌, Memᴰ}
use mathlib.Core.Option.{Option, some}
use lib.ListN.{length}
use Rattle.hgn.specs.Lists.{At, here, there}
use Rattle.hgn.specs.Meaning.{Literal, Formula, Node, Method, Order, last_after_all, network_of}
use Rattle.hgn.specs.State.{State}
use Rattle.hgn.specs.Network.{Name, Source, used, Waiting, enter, goals_of, no_goal, goal_at, decomposed}
use Rattle.hgn.specs.Run.{Step, Move, move_of, method_at, no_method, Problem, problem_from, Rules, Deed}
use Rattle.hgn.specs.Written.{ConjunctRules, NetworkRules}
use Rattle.hgn.specs.Readings.{Reached, first, next}
use Rattle.hgn.proofs.Logic.Tests.{at_mem, at_of_lt}
use Rattle.hgn.proofs.Run.Steps.{Moved, took}
use Rattle.hgn.proofs.Run.Moves.{method_known}
use Rattle.hgn.proofs.Network.Waiting.{released_mem, inserted_cases}

-- The formula has an alternative, and the alternatives keep their rules.
pub record FormulaRules (F : ℕ) (g : Formula) : Type 0 where
  pub some_alternative : 1 ≤ length g
  pub alternatives : (c : List Literal) → Memᴰ c g → ConjunctRules F c

-- Every goal of the list has such a formula.
abbrev pub Formed : ℕ → List Waiting → Type 0
Formed F w = (t : Waiting) → Memᴰ t w → FormulaRules F t.formula

-- A formula that a node of the list has.
abbrev FormulaOf : List Node → Formula → Type 0
FormulaOf ns g = (k : ℕ) × (n : Node) × At ns k n × (g ≡ n.formula)

also : {n : Node} {ns : List Node} {g : Formula} → FormulaOf ns g → FormulaOf (n ∷ ns) g
also a = (suc a.0, a.1, there a.2, a.3)

-- A goal that enters has the formula of a node.
entered_formula : (o : Source) (parent : Option Name) (i : ℕ) (ns : List Node) (t : Waiting) → Memᴰ t (enter o parent i ns) → FormulaOf ns t.formula
unfolding enter
entered_formula o parent i [] t m = absurd (Memᴰ.not-nil m)
entered_formula o parent i (n ∷ ns) t m =
    ⊎_elim (λ e. (0, n, here, ap (λ (t : Waiting). t.formula) e)) (λ k. also (entered_formula o parent (suc i) ns t k)) (Memᴰ.cases_cons m)

-- The rule for a method's last node leaves the formulas as they are.
method_formula : (i : ℕ) (ns : List Node) {g : Formula} → FormulaOf (last_after_all i ns) g → FormulaOf ns g
unfolding last_after_all
method_formula i [] h = h
method_formula i (n ∷ []) (k, m, here, e) = (0, n, here, e)
method_formula i (n ∷ o ∷ ns) (k, m, here, e) = (0, n, here, e)
method_formula i (n ∷ o ∷ ns) (k, m, there a, e) = also (method_formula (suc i) (o ∷ ns) (_, m, a, e))
method_formula i (n ∷ []) {g = g} (_, m, there a, e) = elim a [ ]

keeps : {F : ℕ} {ns : List Node} → NetworkRules F ns → {g : Formula} → FormulaOf ns g → FormulaRules F g
keeps {F} h {g} (k, n, a, e) =
    let r = h k n a in
    subst (FormulaRules F) (sym e) (record { some_alternative = r.some_alternative; alternatives = r.alternatives })

module _ {F : ℕ} {r : Rules} (methods : (m : Method) → Memᴰ m r.domain.methods → NetworkRules F m.nodes) where
  moved_formed : {n p : ℕ} {P P' : Problem} {deed : Deed} {mv : Move} (k : ℕ) → move_of r.domain k ≡ mv
      → p < length P.waiting → Moved r n P p mv deed P' → Formed F P.waiting → Formed F P'.waiting
  unfolding decomposed network_of
  moved_formed {p = p} {P = P} k e i (Moved.by_release a) h t m = h t (released_mem (at_of_lt P.waiting p no_goal i) m)
  moved_formed k e i (Moved.by_action a b) h t m = h t m
  moved_formed {n = n} {p = p} {P = P} k e i (Moved.by_method {m = m} a b c) h t j =
      let at = some (goal_at P.waiting p).name in
      let nodes = network_of (method_at r.domain m) in
      ⊎_elim (λ l. h t l)
      (λ l. keeps (methods _ (at_mem (at_of_lt r.domain.methods m no_method (method_known r.domain k m e))))
      (method_formula 0 _ (entered_formula (used n m) at 0 nodes t l)))
      (inserted_cases (enter (used n m) at 0 nodes) (at_of_lt P.waiting p no_goal i) j)

  pub reached_formed : (o : Order) → NetworkRules F o.goals → {s : State} {xs : List Step} {P : Problem} → Reached r (problem_from s o) xs P
      → Formed F P.waiting
  unfolding goals_of
  reached_formed o g first = λ t m. keeps g (entered_formula _ _ 0 o.goals t m)
  reached_formed o g (next x i e) = let t = took x _ _ e in moved_formed x.move refl t.inside t.by (reached_formed o g i)
