-- The cost of a plan: of two plans one after the other, and at most 4,096 × 65,535. Assumes nothing.
use Prim.Native.Nat.{ℕ, zero, suc, ◌+◌, ◌-◌, ◌*◌, ◌≤◌}
use native.Mathlib.Omega.{arith}
use mathlib.Core.Path.{◌≡◌, refl, ap, ◌∙◌}
use mathlib.Core.List.{List, [], ◌∷◌, ◌++◌, Memᴰ}
use lib.ListN.{length, get_or}
use Rattle.hgn.specs.Meaning.{Action, Domain}
use Rattle.hgn.specs.Run.{no_action, cost_of}
use Rattle.hgn.specs.Shop.{domain}
use Rattle.hgn.specs.Readings.{CostsAreSums}
use Rattle.hgn.proofs.Logic.Tests.{at_get_or}
use Rattle.hgn.proofs.Sheets.Checked.{action_cost}
use Rattle.hgn.proofs.Run.Derivation.{plan_short}

pub cost_append : (d : Domain) (p q : List ℕ) → cost_of d (p ++ q) ≡ cost_of d p + cost_of d q
unfolding cost_of
cost_append d [] q = omega arith
cost_append d (k ∷ p) q = omega (arith, cost_append d p q)

-- An action that is not there costs 0.
cost_at : (xs : List Action) → ((a : Action) → Memᴰ a xs → a.cost ≤ 65535) → (i : ℕ) → (get_or xs i no_action).cost ≤ 65535
cost_at [] h i = omega arith
cost_at (a ∷ xs) h zero = h a (Memᴰ.head refl)
cost_at (a ∷ xs) h (suc i) = cost_at xs (λ b m. h b (Memᴰ.tail m)) i

plan_cost : (d : Domain) → ((a : Action) → Memᴰ a d.actions → a.cost ≤ 65535) → (plan : List ℕ) → cost_of d plan ≤ length plan * 65535
unfolding cost_of
plan_cost d h [] = omega arith
plan_cost d h (k ∷ plan) = omega (arith, cost_at d.actions h (k - 1), plan_cost d h plan)

one_less : (k : ℕ) → suc k - 1 ≡ k
one_less k = omega arith

pub costs_are_sums : CostsAreSums
unfolding cost_of
costs_are_sums = record {
  bounded = λ shop e plan l. omega (arith, plan_cost (domain shop) (action_cost shop e) plan);
  product = refl;
  of_none = λ d. refl;
  of_action = λ d k a plan h. ap (λ (x : Action). x.cost + cost_of d plan) (ap (λ (j : ℕ). get_or d.actions j no_action) (one_less k) ∙ at_get_or no_action h);
  short = λ r n P xs plan last. plan_short;
}
