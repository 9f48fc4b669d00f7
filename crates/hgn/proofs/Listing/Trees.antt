-- Every network that steps lead to from an order has each goal's parent behind it, and no name twice. Assumes nothing.
use Prim.Native.Nat.{ℕ, suc}
use mathlib.Core.Path.{◌≡◌, refl, subst}
use mathlib.Core.List.{List, [], ◌∷◌}
use mathlib.Core.Option.{none}
use lib.ListN.{length}
use Rattle.hgn.specs.Meaning.{Node, Order}
use Rattle.hgn.specs.State.{State}
use Rattle.hgn.specs.Network.{order, Waiting, enter, goals_of}
use Rattle.hgn.specs.Run.{Step, Problem, problem_from, Rules, Deed, taken, stepped}
use Rattle.hgn.specs.Readings.{Reached, first, next}
use Rattle.hgn.proofs.Network.Names.{Named, named_goals, named_next}
use Rattle.hgn.proofs.Network.Reached.{one_more}
use Rattle.hgn.proofs.Network.Rooted.{of_order_law, Rooted, rooted_step}

-- Nothing is asked of the order's own goals.
abbrev pub Any : Waiting → Type 0
Any q = Unit {0}

start_rooted : (i : ℕ) (ns : List Node) → Rooted Any (enter order none i ns)
unfolding enter
start_rooted i [] = tt
start_rooted i (n ∷ ns) = (of_order_law refl refl refl tt, start_rooted (suc i) ns)

-- Every network that steps lead to from an order has its parents behind, and no name twice.
pub record Tree (n : ℕ) (w : List Waiting) : Type 0 where
  pub named : Named n w
  pub rooted : Rooted Any w

pub tree_next : (r : Rules) (n : ℕ) (P : Problem) (x : Step) (deed : Deed) (P' : Problem) → Tree n P.waiting → stepped r n P x ≡ taken deed P' → Tree (suc n) P'.waiting
tree_next r n P x deed P' t e = record { named = named_next r n P x deed P' t.named e; rooted = rooted_step Any r n P x deed P' t.rooted e }

pub start_tree : (o : Order) → Tree 0 (goals_of o)
unfolding goals_of
start_tree o = record { named = named_goals o; rooted = start_rooted 0 o.goals }

pub reached_tree : {r : Rules} {s : State} (o : Order) {xs : List Step} {P : Problem} → Reached r (problem_from s o) xs P → Tree (length xs) P.waiting
reached_tree o first = start_tree o
reached_tree {r} o (next {xs = xs} {P = P} {P' = P'} {deed = deed} x i e) =
    subst (λ (n : ℕ). Tree n P'.waiting) (one_more xs x) (tree_next r (length xs) P x deed P' (reached_tree o i) e)
