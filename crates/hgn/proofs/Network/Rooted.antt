-- Every waiting goal is one of the order's, of which something holds, or has its parent waiting behind it; every step that is taken keeps
-- it so. Assumes nothing.
use Prim.Native.Nat.{ℕ, zero, suc}
use mathlib.Core.Path.{◌≡◌, refl, ap, ◌∙◌}
use mathlib.Core.Logic.{⊎_elim}
use mathlib.Core.List.Memᴰ
use mathlib.Core.List.{List, [], ◌∷◌, ◌++◌, Memᴰ}
use mathlib.Core.Option.{Option, none, some}
use lib.ListN.{take, drop}
use Rattle.hgn.specs.Lists.{At, there}
use Rattle.hgn.specs.Meaning.{Node}
use Rattle.hgn.specs.Network.{from_order, from_step, Name, order, used, Waiting, enter, goal_at, no_goal, released, decomposed}
use Rattle.hgn.specs.Run.{Step, Move, Problem, Rules, Deed, stepped, taken}
use Rattle.hgn.specs.Definition1.{by_method}
use Rattle.hgn.proofs.Logic.Tests.{at_mem, at_of_lt, free_iff_none_listed}
use Rattle.hgn.proofs.Run.Steps.{Moved, by_release, by_action, Took, took}
use Rattle.hgn.proofs.Run.Steps as Steps
use Rattle.hgn.proofs.Network.Waiting.{stays, inserted_old}

-- One goal, with those that wait behind it.
pub data RootedGoal (Own : Waiting → Type 0) (q : Waiting) (rest : List Waiting) : Type 0 where
  of_order_law : q.source ≡ order → q.name.origin ≡ from_order → q.parent ≡ none → Own q → RootedGoal Own q rest
  brought : {k m : ℕ} {r : Waiting} → q.source ≡ used k m → q.name.origin ≡ from_step k → Memᴰ r rest → q.parent ≡ some r.name
      → RootedGoal Own q rest

abbrev pub Rooted : (Waiting → Type 0) → List Waiting → Type 0
Rooted Own [] = Unit {0}
Rooted Own (q ∷ rest) = RootedGoal Own q rest × Rooted Own rest

-- It stays so when a goal leaves that is the parent of none of the others.
rooted_released : (Own : Waiting → Type 0) (w : List Waiting) (p : ℕ) (t : Waiting) → At w p t → ((q : Waiting) → Memᴰ q w → q.parent ≡ some t.name → ⊥)
    → Rooted Own w → Rooted Own (released w p)
unfolding released
rooted_released Own (q ∷ w) zero t a h (f, u) = u
rooted_released Own (q ∷ w) (suc p) t (there a) h (f, u) = (keeps f, rooted_released Own w p t a (λ r m. h r (Memᴰ.tail m)) u)
  where
    keeps : RootedGoal Own q w → RootedGoal Own q (released w p)
    keeps (of_order_law s o e b) = of_order_law s o e b
    keeps (brought s o m e) =
        ⊎_elim
        (λ z. absurd (h q (Memᴰ.head refl) (e ∙ ap {B = Option Name} (λ (y : Waiting). some y.name) z)))
        (λ k. brought s o k e)
        (stays a m)
rooted_released Own [] p t a h _ = elim a [ ]

-- And when goals enter before their parent.
rooted_entered : (Own : Waiting → Type 0) (n k i : ℕ) (t : Waiting) (nodes : List Node) (w : List Waiting) → Memᴰ t w → Rooted Own w
    → Rooted Own (enter (used n k) (some t.name) i nodes ++ w)
unfolding enter
rooted_entered Own n k i t [] w m u = u
rooted_entered Own n k i t (x ∷ nodes) w m u =
    (brought refl refl (Memᴰ.append_right (enter (used n k) (some t.name) (suc i) nodes) m) refl, rooted_entered Own n k (suc i) t nodes w m u)

rooted_inserted : (Own : Waiting → Type 0) (n k : ℕ) (t : Waiting) (nodes : List Node) (w : List Waiting) (p : ℕ) → At w p t → Rooted Own w
    → Rooted Own (take p w ++ (enter (used n k) (some t.name) 0 nodes ++ drop p w))
rooted_inserted Own n k t nodes w zero a u = rooted_entered Own n k 0 t nodes w (at_mem a) u
rooted_inserted Own n k t nodes (q ∷ w) (suc p) (there a) (f, u) = (keeps f, rooted_inserted Own n k t nodes w p a u)
  where
    keeps : RootedGoal Own q w → RootedGoal Own q (take p w ++ (enter (used n k) (some t.name) 0 nodes ++ drop p w))
    keeps (of_order_law s o e b) = of_order_law s o e b
    keeps (brought s o m e) = brought s o (inserted_old (enter (used n k) (some t.name) 0 nodes) a m) e
rooted_inserted Own n k t nodes [] (suc p) a u = elim a [ ]

-- And through every step that is taken.
pub rooted_step : (Own : Waiting → Type 0) (r : Rules) (n : ℕ) (P : Problem) (x : Step) (deed : Deed) (P' : Problem)
    → Rooted Own P.waiting → stepped r n P x ≡ taken deed P' → Rooted Own P'.waiting
unfolding decomposed
rooted_step Own r n P x deed P' fr e = go t.by
  where
    t : Took r n P x deed P'
    t = took x deed P' e

    at : At P.waiting x.place (goal_at P.waiting x.place)
    at = at_of_lt P.waiting x.place no_goal t.inside

    go : {m : Move} {deed : Deed} {P' : Problem} → Moved r n P x.place m deed P' → Rooted Own P'.waiting
    go (by_release h) =
        rooted_released Own P.waiting x.place (goal_at P.waiting x.place) at
        (λ q m o. (free_iff_none_listed P.waiting (goal_at P.waiting x.place)).0 t.is_free q m (by_method o)) fr
    go (by_action h k) = fr
    go (Steps.by_method h k l) = rooted_inserted Own n _ (goal_at P.waiting x.place) _ P.waiting x.place at fr
