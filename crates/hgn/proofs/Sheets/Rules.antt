-- The rules of `specs/Written.antt` by recursion on a list: numbers that rise from a least one on, nodes from a number on, and both for the
-- join of two orders. Assumes nothing.
use Prim.Native.Nat.{ℕ, zero, suc, ◌+◌, ◌≤◌, ◌<◌}
use native.Mathlib.Omega.{arith}
use native.Mathlib.Nat.{zero-add, add-zero, add-suc, suc-add}
use mathlib.Core.Path.{subst}
use mathlib.Core.List.Memᴰ
use mathlib.Core.List.{List, [], ◌∷◌, ◌++◌, map, Memᴰ}
use lib.ListN.{length}
use Rattle.hgn.specs.Lists.{range, At, here, there}
use Rattle.hgn.specs.Meaning.{Literal, Node, Order}
use Rattle.hgn.specs.Join.{raised, join}
use Rattle.hgn.specs.Written.{RisingBelow, none, one, more, NodeRules, NetworkRules}

-- The numbers are at least `l`, rise strictly and are below `top`.
abbrev pub Rise : ℕ → ℕ → List ℕ → Type 0
Rise top l [] = Unit {0}
Rise top l (k ∷ ks) = (l ≤ k) × (k < top) × Rise top (suc k) ks

abbrev pub atoms : List Literal → List ℕ
atoms c = map (λ l. l.atom) c

pub rising : {top : ℕ} (l : ℕ) (ks : List ℕ) → Rise top l ks → RisingBelow top ks
rising l [] h = none
rising l (k ∷ []) h = one h.1
rising l (j ∷ k ∷ ks) h = more h.2.0 (rising (suc j) (k ∷ ks) h.2)

rise_from : {top k : ℕ} {ks : List ℕ} (l : ℕ) → l ≤ k → RisingBelow top (k ∷ ks) → Rise top l (k ∷ ks)
rise_from l h (one e) = (h, e, tt)
rise_from l h (more {m} {n} e r) = let k = rise_from (suc m) e r in (h, omega (arith, k.1), k)

pub rise : {top : ℕ} {ks : List ℕ} → RisingBelow top ks → Rise top 0 ks
rise none = tt
rise (one e) = rise_from 0 (omega arith) (one e)
rise (more e r) = rise_from 0 (omega arith) (more e r)

pub rise_top : (top l : ℕ) (ks : List ℕ) → Rise top l ks → (k : ℕ) → Memᴰ k ks → k < top
rise_top top l [] h k m = absurd (Memᴰ.not-nil m)
rise_top top l (j ∷ ks) h k (Memᴰ.head e) = rw e h.1
rise_top top l (j ∷ ks) h k (Memᴰ.tail m) = rise_top top (suc j) ks h.2 k m

pub rising_top : {top : ℕ} {ks : List ℕ} → RisingBelow top ks → (k : ℕ) → Memᴰ k ks → k < top
rising_top {top} {ks} h = rise_top top 0 ks (rise h)

-- Nodes of a network from node `i` on.
abbrev pub Network : ℕ → ℕ → List Node → Type 0
Network F i [] = Unit {0}
Network F i (n ∷ ns) = NodeRules F i n × Network F (suc i) ns

network_at : {F : ℕ} (i : ℕ) {ns : List Node} {j : ℕ} {n : Node} → Network F i ns → At ns j n → NodeRules F (i + j) n
network_at i h here = rw add-zero h.0
network_at {F} i {n = m} h (there {n = j} a) = subst (λ k. NodeRules F k m) (omega arith) (network_at (suc i) h.1 a)

at_network : {F : ℕ} (i : ℕ) (ns : List Node) → ((j : ℕ) (n : Node) → At ns j n → NodeRules F (i + j) n) → Network F i ns
at_network i [] h = tt
at_network {F} i (n ∷ ns) h =
    (rw add-zero at (h 0 n here), at_network (suc i) ns (λ j m a. subst (λ k. NodeRules F k m) (omega arith) (h (suc j) m (there a))))

pub network_rules : {F : ℕ} {ns : List Node} → Network F 0 ns → NetworkRules F ns
network_rules h i n a = rw zero-add at (network_at 0 h a)

pub rules_network : {F : ℕ} {ns : List Node} → NetworkRules F ns → Network F 0 ns
rules_network {ns = ns} h = at_network 0 ns (λ j n a. rw zero-add (h j n a))

-- Two networks one after the other.
network_append : (F i : ℕ) (ns ms : List Node) → Network F i ns → Network F (i + length ns) ms → Network F i (ns ++ ms)
network_append F i [] ms h k = rw add-zero at k
network_append F i (n ∷ ns) ms h k = (h.0, network_append F (suc i) ns ms h.1 (rw (suc-add, ← add-suc) k))

-- `g` numbers from `i` on, then numbers that go on from there.
rise_range : (i g top : ℕ) (ks : List ℕ) → i + g ≤ top → Rise top (i + g) ks → Rise top i (range i g ++ ks)
unfolding range
rise_range i zero top ks h r = rw add-zero at r
rise_range i (suc g) top ks h r = (omega arith, omega arith, rise_range (suc i) g top ks (omega arith) (rw (suc-add, ← add-suc) r))

rise_raised : (g top l : ℕ) (ks : List ℕ) → Rise top l ks → Rise (g + top) (g + l) (map (λ k. g + k) ks)
rise_raised g top l [] r = tt
rise_raised g top l (k ∷ ks) r = (omega (arith, r.0), omega (arith, r.1), rw add-suc at (rise_raised g top (suc k) ks r.2))

-- A network's nodes raised by `g`.
network_raised : (F g i : ℕ) (ns : List Node) → Network F i ns → Network F (g + i) (map (raised g) ns)
unfolding raised
network_raised F g i [] h = tt
network_raised F g i (n ∷ ns) h = (
  record {
    afters = rising 0 _ (rise_range 0 g (g + i) _ (omega arith) (rw zero-add (rw add-zero at (rise_raised g i 0 n.after (rise h.0.afters)))));
    some_alternative = h.0.some_alternative;
    alternatives = h.0.alternatives;
  },
  rw add-suc at (network_raised F g (suc i) ns h.1),
)

-- The goals of the join of two orders that keep the rules keep them.
pub network_join : {F : ℕ} (a b : Order) → NetworkRules F a.goals → NetworkRules F b.goals → NetworkRules F (join a b).goals
unfolding join
network_join {F} a b h k =
    let g = length a.goals in
    network_rules
    (network_append F 0 a.goals _ (rules_network h)
    (rw zero-add (rw add-zero at (network_raised F g 0 b.goals (rules_network k)))))
