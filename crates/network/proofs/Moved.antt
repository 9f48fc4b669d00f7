-- The array of the waiting goals, as goals leave and enter. Assumes nothing.
use Prim.Native.Nat.{ℕ, suc, ◌+◌, ◌-◌, ◌<◌, ◌≤◌}
use native.Mathlib.Omega.{arith}
use mathlib.Core.Path.{◌≡◌, sym, ap, ◌∙◌}
use mathlib.Core.List.{List, ◌++◌, map}
use lib.ListN.{length, take, drop, get_or, set, length-map, length-take, length-drop, get_or-map}
use lib.Seq.{get_or-take, get_or-drop, get_or-set_same, get_or-set_other}
use Rattle.std.specs.List.{CopiedTo, SameBelow}
use Rattle.hgn.proofs.Join.Embedding.{get_d_default}
use Rattle.network.specs.Pending.{lowered, CountsLeaving, PendingCounts}
use Rattle.network.specs.Goals.{count_in, nothing, at_place, entry_in, list_in, counts_in}
use Rattle.network.specs.declared.waiting.Waiting.{Waiting}
use Rattle.network.specs.declared.goals.Goals.{Goals}
use Rattle.network.proofs.Gaps.{changed_length, changed_before, changed_new, changed_behind}
use Rattle.network.proofs.WaitingGoals.{counts_leaving}

-- The goal at place `p` leaves: the counts behind it are made less, and then the goals behind it move down.
module _ (shop order : List ℕ) (g : Goals) (p : ℕ) (inside : p < count_in g) where
  abbrev n : ℕ
  n = count_in g - (p + 1)

  abbrev later : List Waiting
  later = take n (drop (p + 1) g.entries)

  later_long : length later ≡ n
  later_long = simp (length-take, length-drop) (omega (arith, g.few, g.whole, inside))

  later_at : (k : ℕ) (d : Waiting) → k < n → get_or later k d ≡ at_place g (p + 1 + k)
  later_at k d h =
      get_d_default later k d nothing (omega (arith, later_long))
      ∙ get_or-take n (drop (p + 1) g.entries) k nothing h ∙ get_or-drop (p + 1) g.entries k nothing

  pub leaving_counted : PendingCounts (list_in shop order g) (counts_in g) → CountsLeaving shop order (entry_in g p) later
  leaving_counted counted k d h =
      let b : k < n = omega (arith, later_long) in
      rw (later_at k d b) (counts_leaving shop order g p inside counted (p + 1 + k) (omega arith) (omega arith))

  module _ (ys r : List Waiting) (is : ys ≡ map (lowered shop order (entry_in g p)) later) where
    long : length ys ≡ n
    long = ap length is ∙ length-map later (lowered shop order (entry_in g p)) ∙ later_long

    pub left_before : SameBelow (take (p + 1) g.entries ++ (ys ++ drop n (drop (p + 1) g.entries))) r p → (k : ℕ) → k < p → get_or r k nothing ≡ at_place g k
    left_before same k h = same k nothing h ∙ changed_before g.entries ys (p + 1) (count_in g) nothing (omega arith) (omega (arith, g.few, g.whole)) long k (omega arith)

    pub left_behind : CopiedTo (take (p + 1) g.entries ++ (ys ++ drop n (drop (p + 1) g.entries))) r (p + 1) p n
        → (k : ℕ) → p ≤ k → suc k < count_in g → get_or r k nothing ≡ lowered shop order (entry_in g p) (at_place g (suc k))
    left_behind copied k a b =
        let e : p + 1 + (k - p) ≡ suc k = omega arith in
        let h : k - p < n = omega arith in
        copied k nothing a (omega arith)
        ∙ changed_new g.entries ys (p + 1) (count_in g) nothing (omega arith) (omega (arith, g.few, g.whole)) long (k - p) h
        ∙ get_d_default ys (k - p) nothing (lowered shop order (entry_in g p) nothing) (omega (arith, long))
        ∙ ap (λ (l : List Waiting). get_or l (k - p) (lowered shop order (entry_in g p) nothing)) is
        ∙ get_or-map (lowered shop order (entry_in g p)) later (k - p) nothing
        ∙ ap (lowered shop order (entry_in g p)) (later_at (k - p) nothing h ∙ ap (at_place g) e)

-- Nodes enter before place `p`: the goals from there on move up, and the nodes are written into the room. The goal counts them.
module _ (g : Goals) (p more : ℕ) (inside : p < count_in g) (fits : count_in g + more ≤ length g.entries) (r : List Waiting) (size : length r ≡ length g.entries)
    (copied : CopiedTo g.entries r p (p + more) (count_in g - p)) (same : SameBelow g.entries r (p + more)) (room : List Waiting) (long : length room ≡ more) (e : ℕ) (end : e ≡ p + more) where
  abbrev filled : List Waiting
  filled = take p r ++ (room ++ drop (e - p) (drop p r))

  abbrev last : Waiting → List Waiting
  last w = set filled e w

  pub entered_before : (w : Waiting) (k : ℕ) → k < p → get_or (last w) k nothing ≡ at_place g k
  entered_before w k h =
      get_or-set_other filled e k w nothing (λ z. omega arith)
      ∙ changed_before r room p e nothing (omega arith) (omega arith) (omega arith) k h ∙ same k nothing (omega arith)

  pub entered_nodes : (w : Waiting) (k : ℕ) → k < more → get_or (last w) (p + k) nothing ≡ get_or room k nothing
  entered_nodes w k h =
      get_or-set_other filled e (p + k) w nothing (λ z. omega arith) ∙ changed_new r room p e nothing (omega arith) (omega arith) (omega arith) k (omega arith)

  pub entered_goal : get_or filled e nothing ≡ at_place g p
  entered_goal =
      let x : p + (e - (p + more)) ≡ p = omega arith in
      changed_behind r room p e nothing (omega arith) (omega arith) (omega arith) e (omega arith)
      ∙ copied e nothing (omega arith) (omega arith) ∙ ap (at_place g) x

  pub entered_here : (w : Waiting) → get_or (last w) (p + more) nothing ≡ w
  entered_here w =
      ap (λ (k : ℕ). get_or (last w) k nothing) (sym end)
      ∙ get_or-set_same filled e w nothing (omega (arith, changed_length r room p e nothing (omega arith) (omega arith) (omega arith)))

  pub entered_behind : (w : Waiting) (k : ℕ) → p < k → k < count_in g → get_or (last w) (k + more) nothing ≡ at_place g k
  entered_behind w k a b =
      let x : p + (k + more - (p + more)) ≡ k = omega arith in
      get_or-set_other filled e (k + more) w nothing (λ z. omega arith)
      ∙ changed_behind r room p e nothing (omega arith) (omega arith) (omega arith) (k + more) (omega arith)
      ∙ copied (k + more) nothing (omega arith) (omega arith) ∙ ap (at_place g) x
