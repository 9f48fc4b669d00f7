-- How often a goal is listed after goals that still wait. Document 01, "How a derivation runs": a waiting goal is free if no goal it comes
-- after still waits.
use Rattle.std.specs.Prelude.{ℕ, suc, ◌+◌, ◌-◌, ◌<◌, ◌≤◌, ◌≡◌, cond, List, [], ◌∷◌, eqb, length, get_or}
use Rattle.hgn.specs.Network.{Waiting, same_origin, is_parent, goal_at}
use Rattle.network.specs.Entries.{waiting_of}
use Rattle.network.specs.declared.waiting.Entry.{Entry}
use Rattle.network.specs.declared.waiting.Waiting as Code

-- How often the number stands in the list.
unfoldable pub occurrences : ℕ → List ℕ → ℕ
occurrences n [] = 0
occurrences n (k ∷ ks) = cond (eqb n k) (suc (occurrences n ks)) (occurrences n ks)

-- How often `q`'s rows list it after `p`, a goal of its network; 0 in two networks.
abbrev pub by_network : Waiting → Waiting → ℕ
by_network q p = cond (same_origin q.name.origin p.name.origin) (occurrences p.name.number q.after) 0

-- How often `q` is listed after `p`: by their network, or once if `p` came with a method used at `q`.
unfoldable pub times_listed : Waiting → Waiting → ℕ
times_listed q p = cond (eqb (by_network q p) 0) (cond (is_parent q.name p.parent) 1 0) (by_network q p)

-- How often `q` is listed after goals of a list: 0 where `q` is free.
unfoldable pub pending : List Waiting → Waiting → ℕ
pending [] q = 0
pending (p ∷ w) q = times_listed q p + pending w q

-- The counts are those of the waiting goals, place by place.
abbrev pub PendingCounts : List Waiting → List ℕ → Type 0
PendingCounts w c = (k : ℕ) → k < length w → get_or c k 0 ≡ pending w (goal_at w k)

-- How often a goal of the code is listed after one that leaves, and the goal once the other has left.
abbrev pub listed_after : List ℕ → List ℕ → Entry → Code.Waiting → ℕ
listed_after shop order leaving w = times_listed (waiting_of shop order w.goal) (waiting_of shop order leaving)

abbrev pub lowered : List ℕ → List ℕ → Entry → Code.Waiting → Code.Waiting
lowered shop order leaving w = record { goal = w.goal; pending = w.pending - listed_after shop order leaving w }

-- Each of these goals counts what it is listed after one that leaves.
abbrev pub CountsLeaving : List ℕ → List ℕ → Entry → List Code.Waiting → Type 0
CountsLeaving shop order leaving ws = (k : ℕ) (d : Code.Waiting) → k < length ws → listed_after shop order leaving (get_or ws k d) ≤ (get_or ws k d).pending
