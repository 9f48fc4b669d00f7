-- Joining three orders gives the same order in either grouping. Assumes nothing.
use Prim.Native.Nat.{ℕ, zero, suc, ◌+◌}
use native.Mathlib.Omega.{arith}
use native.Mathlib.Nat.{zero-add, add-zero}
use mathlib.Core.Path.{◌≡◌, refl, sym, ap, ap₂, ◌∙◌}
use mathlib.Core.List.{List, [], ◌∷◌, ◌++◌, map, append_assoc, map-append}
use lib.ListN.{length}
use Rattle.hgn.specs.Lists.{range}
use Rattle.hgn.specs.Meaning.{Node, Order}
use Rattle.hgn.specs.Join.{raised, join}
use Rattle.hgn.proofs.Join.Rows.{joined_goals}

-- So many numbers from `i` on are `g` of them and `h` from there on.
range_append : (i g h : ℕ) → range i (g + h) ≡ range i g ++ range (i + g) h
unfolding range
range_append i zero h = rw (zero-add, add-zero) refl
range_append i (suc g) h =
    let e : suc g + h ≡ suc (g + h) = omega arith in
    ap (range i) e
    ∙ ap {B = List ℕ} (◌∷◌ i) (range_append (suc i) g h)
    ∙ ap {B = List ℕ} (λ j. i ∷ range (suc i) g ++ range j h) (omega arith)

range_raised : (g i h : ℕ) → map (λ k. g + k) (range i h) ≡ range (g + i) h
unfolding range
range_raised g i zero = refl
range_raised g i (suc h) = ap {B = List ℕ} (◌∷◌ (g + i)) (range_raised g (suc i) h ∙ ap (λ j. range j h) (omega arith))

numbers_raised : (g h : ℕ) (ks : List ℕ) → map (λ k. g + k) (map (λ k. h + k) ks) ≡ map (λ k. g + h + k) ks
numbers_raised g h [] = refl
numbers_raised g h (k ∷ ks) = ap₂ {C = List ℕ} ◌∷◌ (omega arith) (numbers_raised g h ks)

-- Raised by `h`, then by `g`, is raised by both.
raised_twice : (g h : ℕ) (n : Node) → raised g (raised h n) ≡ raised (g + h) n
unfolding raised
raised_twice g h n = ap {B = Node} (λ ks. record { after = ks; formula = n.formula }) afters
  where
    afters : range 0 g ++ map (λ k. g + k) (range 0 h ++ map (λ k. h + k) n.after) ≡ range 0 (g + h) ++ map (λ k. g + h + k) n.after
    afters =
        ap {B = List ℕ} (◌++◌ (range 0 g))
        (map-append (λ k. g + k) (range 0 h) (map (λ k. h + k) n.after)
        ∙ ap₂ {C = List ℕ} ◌++◌ (range_raised g 0 h ∙ ap (λ j. range j h) (omega arith)) (numbers_raised g h n.after))
        ∙ sym (append_assoc (range 0 g) (range (0 + g) h) (map (λ k. g + h + k) n.after))
        ∙ ap {B = List ℕ} (λ l. l ++ map (λ k. g + h + k) n.after) (sym (range_append 0 g h))

nodes_twice : (g h : ℕ) (ns : List Node) → map (raised g) (map (raised h) ns) ≡ map (raised (g + h)) ns
nodes_twice g h [] = refl
nodes_twice g h (n ∷ ns) = ap₂ {C = List Node} ◌∷◌ (raised_twice g h n) (nodes_twice g h ns)

pub join_groups : (a b c : Order) → join (join a b) c ≡ join a (join b c)
unfolding join
join_groups a b c = ap {B = Order} (λ ns. record { start = a.start; goals = ns }) goals
  where
    goals : (a.goals ++ map (raised (length a.goals)) b.goals) ++ map (raised (length (join a b).goals)) c.goals
        ≡ a.goals ++ map (raised (length a.goals)) (b.goals ++ map (raised (length b.goals)) c.goals)
    goals =
        append_assoc a.goals (map (raised (length a.goals)) b.goals) (map (raised (length (join a b).goals)) c.goals)
        ∙ ap {B = List Node} (λ l. a.goals ++ (map (raised (length a.goals)) b.goals ++ l))
        (ap (λ k. map (raised k) c.goals) (joined_goals a b) ∙ sym (nodes_twice (length a.goals) (length b.goals) c.goals))
        ∙ ap {B = List Node} (◌++◌ a.goals) (sym (map-append (raised (length a.goals)) b.goals (map (raised (length b.goals)) c.goals)))
