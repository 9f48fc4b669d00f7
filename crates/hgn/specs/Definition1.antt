-- Definition 1 of source document 000, "Solutions to HGN Planning Problems", as types, not tests.
use Rattle.std.specs.Prelude.{ℕ, suc, ◌+◌, ◌≤◌, ◌≡◌, length}
use mathlib.Core.List.{List, [], ◌∷◌, Memᴰ}
use Rattle.std.proofs.Math.Option.{some}
use Rattle.hgn.specs.Lists.{At}
use Rattle.hgn.specs.Meaning.{Action, Method, network_of}
use Rattle.hgn.specs.State.{State, EntailsAll, Satisfies, γ}
use Rattle.hgn.specs.Network.{Waiting, used, released, decomposed}
use Rattle.hgn.specs.Run.{Step, first_method, Problem, Rules}

-- The listed pairs: `q` comes after `p` of its network, by an 11 row or by rule; or because `p` came with a method used at `q`.
pub data ComesAfter (q p : Waiting) : Type 0 where
  by_row : p.name.origin ≡ q.name.origin → Memᴰ p.name.number q.after → ComesAfter q p
  by_method : p.parent ≡ some q.name → ComesAfter q p

-- The partial order ≺ of the goal network: the transitive closure of the listed pairs between waiting goals.
pub data Precedes (w : List Waiting) : Waiting → Waiting → Type 0 where
  listed : {p q : Waiting} → Memᴰ p w → Memᴰ q w → ComesAfter q p → Precedes w p q
  through : {p q r : Waiting} → Precedes w p q → Precedes w q r → Precedes w p r

-- "having no predecessors"
abbrev pub Unconstrained : List Waiting → Waiting → Type 0
Unconstrained w t = (p : Waiting) → ¬ Precedes w p t

-- The goal `t` waits at place `p`, nothing precedes it, and no more wait than the rules allow.
pub record Stands (r : Rules) (P : Problem) (p : ℕ) (t : Waiting) : Type 0 where
  pub within : length P.waiting ≤ r.limit
  pub at : At P.waiting p t
  pub unconstrained : Unconstrained P.waiting t

-- The solutions of 000, each with the steps that derive it: `Derivation r n P xs plan last` says that under the rules `r` the steps `xs`,
-- numbered from `n`, derive `plan` for the problem `P` and leave the state `last`, with at most the rules' limit of goals waiting at each
-- moment. Under 000's rules, `strict` of `Run`, `MayAct` and `MayUse` are 'relevant', and these are the solutions of Definition 1; other
-- rules stand in the place of 'relevant'.
pub data Derivation (r : Rules) : ℕ → Problem → List Step → List ℕ → State → Type 0 where
  -- "If T is empty, the empty plan is a solution."
  base : {n : ℕ} {s : State} → Derivation r n (record { state = s; waiting = [] }) [] [] s
  -- "If s₀ ⊨ g_t, then any solution for P' = (D, s₀, gn₀ - t) is also a solution for P."
  satisfaction : {n : ℕ} {P : Problem} {last : State} {xs : List Step} {plan : List ℕ} {t : Waiting} {p : ℕ}
      → Stands r P p t
      → Satisfies P.state t.formula
      → Derivation r (suc n) (record { state = P.state; waiting = released P.waiting p }) xs plan last
      → Derivation r n P (record { move = 0; place = p } ∷ xs) plan last
  -- "If action a is applicable in s₀ and a is relevant to g_t, and π is a solution for P' = (D, γ(s₀, a), gn₀), then a ∘ π is
  -- a solution for P."
  application : {n : ℕ} {P : Problem} {last : State} {xs : List Step} {plan : List ℕ} {t : Waiting} {p : ℕ} {a : Action} {k : ℕ}
      → Stands r P p t
      → At r.domain.actions k a → EntailsAll P.state a.needs → r.MayAct a t.formula
      → Derivation r (suc n) (record { state = γ P.state a.effects; waiting = P.waiting }) xs plan last
      → Derivation r n P (record { move = suc k; place = p } ∷ xs) (suc k ∷ plan) last
  -- "If m is a method applicable in s and relevant to g_t, then any solution to P' = (D, s₀, gn₀ ∘_t m) is also a solution to P."
  decomposition : {n : ℕ} {P : Problem} {last : State} {xs : List Step} {plan : List ℕ} {t : Waiting} {p : ℕ} {m : Method} {k : ℕ}
      → Stands r P p t
      → At r.domain.methods k m → EntailsAll P.state m.needs → r.MayUse m t.formula
      → Derivation r (suc n) (record { state = P.state; waiting = decomposed P.waiting p (used n k) (network_of m) }) xs plan last
      → Derivation r n P (record { move = first_method + k; place = p } ∷ xs) plan last
