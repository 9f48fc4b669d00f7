-- The counts beside a waiting list, `c` before and `r` after, as goals enter and leave. Assumes nothing.
use Prim.Native.Nat.{ℕ, suc, ◌+◌, ◌<◌, ◌≤◌}
use mathlib.Core.Path.{◌≡◌}
use mathlib.Core.List.{List}
use lib.ListN.{length, get_or}
use Rattle.hgn.specs.Network as Network
use Rattle.hgn.specs.Network.{goal_at}
use Rattle.network.specs.Pending.{times_listed}

-- `w` is the list once `more` nodes have entered directly before place `p`.
pub record Entered (w : List Network.Waiting) (p more : ℕ) (c r : List ℕ) : Type 0 where
  pub before : (k : ℕ) → k < p → get_or r k 0 ≡ get_or c k 0
  pub nodes : (k : ℕ) → k < more → get_or r (p + k) 0 ≡ length (goal_at w (p + k)).after
  pub goal : get_or r (p + more) 0 ≡ more
  pub behind : (k : ℕ) → p < k → k + more < length w → get_or r (k + more) 0 ≡ get_or c k 0

-- `w` is the list before the goal of place `p` is released: the counts behind it, less what they counted of it, move down.
pub record Released (w : List Network.Waiting) (p : ℕ) (c r : List ℕ) : Type 0 where
  pub before : (k : ℕ) → k < p → get_or r k 0 ≡ get_or c k 0
  pub behind : (k : ℕ) → p ≤ k → suc k < length w → get_or r k 0 + times_listed (goal_at w (suc k)) (goal_at w p) ≡ get_or c (suc k) 0
