-- Moves that every accepted trace makes, and so the least number of its steps, where a search may begin; and when no trace is accepted.
-- `proofs/` has a lemma for each way in which a move is needed, so no reader needs to trust this.
use Rattle.std.specs.Prelude.{ℕ, suc, ◌+◌, ◌≤◌, ◌≡◌, true, ◌≢◌, length, get_or}
use mathlib.Core.List.{List, [], ◌∷◌, Memᴰ}
use Rattle.hgn.specs.Meaning.{Literal, Formula, Node, Domain, no_node}
use Rattle.hgn.specs.State.{State, contains}
use Rattle.hgn.specs.Run.{Step, Move, release, act, use_method, unknown, move_of, action_at, method_at, Problem, Rules, Deed, run, accepted}

-- Some step makes the move.
abbrev pub Makes : Domain → List Step → Move → Type 0
Makes d xs m = (x : Step) × Memᴰ x xs × (move_of d x.move ≡ m)

-- Every list of steps that is accepted from a problem makes the move.
abbrev pub Needed : Rules → Problem → Move → Type 0
Needed r P m = (n : ℕ) (xs : List Step) (deeds : List Deed) (last : State) → run r n P xs ≡ accepted deeds last → Makes r.domain xs m

-- No list of steps is accepted from the problem.
abbrev pub Hopeless : Rules → Problem → Type 0
Hopeless r P = (n : ℕ) (xs : List Step) (deeds : List Deed) (last : State) → run r n P xs ≡ accepted deeds last → ⊥

-- What a move needs of the state.
abbrev pub needs_of : Domain → Move → List Literal
needs_of d release = []
needs_of d (act k) = (action_at d k).needs
needs_of d (use_method m) = (method_at d m).needs
needs_of d unknown = []

-- No action but `k` makes the literal. Actions are counted from 1: where `k` is 0, none does.
abbrev pub OnlyAchiever : Domain → Literal → ℕ → Type 0
OnlyAchiever d l k = (j : ℕ) → 1 ≤ j → j ≤ length d.actions → contains (action_at d j).effects l ≡ true → j ≡ k

-- Node `i` of method `j`.
abbrev pub node_in : Domain → ℕ → ℕ → Node
node_in d j i = get_or (method_at d j).nodes i no_node

-- No method but `m` has a node for which action `k` may be taken.
abbrev pub OnlyMethod : Rules → ℕ → ℕ → Type 0
OnlyMethod r k m = (j i : ℕ) → suc j ≤ length r.domain.methods → suc i ≤ length (method_at r.domain j).nodes
    → r.may_act (action_at r.domain k) (node_in r.domain j i).formula ≡ true → j ≡ m

-- The literal stands in every alternative.
abbrev pub InEvery : Literal → Formula → Type 0
InEvery l f = (c : List Literal) → Memᴰ c f → contains c l ≡ true

-- The steps that a move brings with it: itself, and a release for each node of a method.
unfoldable pub steps_of_move : Domain → Move → ℕ
steps_of_move d release = 0
steps_of_move d (act k) = 1
steps_of_move d (use_method m) = suc (length (method_at d m).nodes)
steps_of_move d unknown = 0

unfoldable pub steps_of_moves : Domain → List Move → ℕ
steps_of_moves d [] = 0
steps_of_moves d (m ∷ ms) = steps_of_move d m + steps_of_moves d ms

-- No move stands twice.
abbrev pub Different : List Move → Type 0
Different [] = Unit {0}
Different (m ∷ ms) = ((x : Move) → Memᴰ x ms → x ≢ m) × Different ms
