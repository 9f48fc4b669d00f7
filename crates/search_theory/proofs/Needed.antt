-- The ways in which a move is needed: a literal that must hold and does not at first takes its only maker, and an action that may be
-- taken for no goal at first takes the only method that brings in one for which it may. Where no action makes such a literal, no trace is
-- accepted. Assumes nothing.
use Prim.Native.Nat.{ℕ, suc, ◌<◌}
use native.Mathlib.Omega.{arith}
use mathlib.Core.Path.{◌≡◌, refl, ap, ◌∙◌, subst}
use mathlib.Core.Bool.{Bool, true, false}
use mathlib.Core.Logic.{⊎_elim}
use mathlib.Core.List.Memᴰ
use mathlib.Core.List.{List, [], ◌∷◌, Memᴰ}
use mathlib.Core.Option.{Option, some}
use lib.Dec.{eqb}
use lib.ListN.{length}
use borrow.Author.Tests.{eqb-true, eqb-false}
use Rattle.hgn.specs.Lists.{At}
use Rattle.hgn.specs.Meaning.{Literal, Node, no_node, network_of}
use Rattle.hgn.specs.State.{literal_holds, contains}
use Rattle.hgn.specs.Network.{Name, used, Waiting, enter, goal_at, no_goal, decomposed}
use Rattle.hgn.specs.Run.{Step, Move, act, use_method, move_of, action_at, method_at, Problem, Rules, Deed}
use Rattle.hgn.proofs.Logic.Tests.{not_true_false, false_not_true, at_mem, at_get_or, at_lt, at_of_lt, mem_at}
use Rattle.hgn.proofs.Run.Steps.{Moved, by_release, by_action, by_method, took}
use Rattle.hgn.proofs.Run.Moves.{method_known}
use Rattle.hgn.proofs.Network.Waiting.{released_mem, inserted_cases}
use Rattle.hgn.proofs.Search.Best.{Runs, runs_head}
use Rattle.search_theory.specs.Needed.{Makes, Needed, Hopeless, needs_of, OnlyAchiever, node_in, OnlyMethod, InEvery}
use Rattle.search_theory.proofs.Comes.{enter_formulas, action_known, makes_later, makes_cases, comes_made, goal_comes, move_comes, need_comes, node_comes}

module _ (r : Rules) where
  -- The action may be taken for none of the goals.
  abbrev NoneFor : ℕ → List Waiting → Type 0
  NoneFor k w = (g : Waiting) → Memᴰ g w → r.may_act (action_at r.domain k) g.formula ≡ false

  module _ (k m : ℕ) (o : OnlyMethod r k m) where
    -- Another method brings in no goal for which the action may be taken.
    none_entered : (j : ℕ) → j < length r.domain.methods → (j ≡ m → ⊥) → (n : ℕ) (parent : Option Name)
        → NoneFor k (enter (used n j) parent 0 (network_of (method_at r.domain j)))
    unfolding network_of
    none_entered j b h n parent g i = not_true_false _ λ e.
        let nodes = (method_at r.domain j).nodes in
        let f = Memᴰ.of_map (λ (v : Node). v.formula) nodes
        (subst (Memᴰ g.formula) (enter_formulas (used n j) parent 0 0 nodes) (Memᴰ.map (λ (q : Waiting). q.formula) i)) in
        let a = mem_at f.1 in
        h (o j a.0 b (at_lt a.1)
        (ap (λ (v : Node). r.may_act (action_at r.domain k) v.formula) (at_get_or no_node a.1)
        ∙ ap (r.may_act (action_at r.domain k)) f.2 ∙ e))

    -- The action is taken for a goal for which it may be, so a method used before brought that goal in.
    method_made : (n : ℕ) (P : Problem) (xs : List Step) → Runs r n P xs → NoneFor k P.waiting → Makes r.domain xs (act k)
        → Makes r.domain xs (use_method m)
    unfolding decomposed
    method_made n P [] e h c = absurd (Memᴰ.not-nil c.1)
    method_made n P (x ∷ xs) e h c =
        let f = runs_head r n P x xs e in
        let t = took x f.0 f.1 f.2 in
        let a = at_of_lt P.waiting x.place no_goal t.inside in
        ⊎_elim
        (λ q. absurd (not_yet a (subst (λ (j : Move). Moved r n P x.place j f.0 f.1) q t.by)))
        (λ q. go a refl t.by (λ v. makes_later r.domain (method_made (suc n) f.1 xs f.3 v q)))
        (makes_cases r.domain c)
      where
        not_yet : {p : ℕ} {deed : Deed} {P' : Problem} → At P.waiting p (goal_at P.waiting p) → Moved r n P p (act k) deed P' → ⊥
        not_yet {p} a (by_action b e) = false_not_true _ (h (goal_at P.waiting p) (at_mem a)) e

        go : {p : ℕ} {y : Move} {deed : Deed} {P' : Problem} → At P.waiting p (goal_at P.waiting p) → move_of r.domain x.move ≡ y
            → Moved r n P p y deed P' → (NoneFor k P'.waiting → Makes r.domain (x ∷ xs) (use_method m))
            → Makes r.domain (x ∷ xs) (use_method m)
        go a q (by_release b) ih = ih (λ g i. h g (released_mem a i))
        go a q (by_action b e) ih = ih h
        go {p} a q (by_method {m = j} b e l) ih = decide (eqb j m) refl
          where
            decide : (y : Bool) → eqb j m ≡ y → Makes r.domain (x ∷ xs) (use_method m)
            decide true y = (x, Memᴰ.head refl, q ∙ ap use_method (eqb-true j m y))
            decide false y =
                let parent = some (goal_at P.waiting p).name in
                ih λ g i.
                ⊎_elim (h g) (none_entered j (method_known r.domain x.move j q) (eqb-false j m y) n parent g)
                (inserted_cases (enter (used n j) parent 0 (network_of (method_at r.domain j))) a i)

  -- The ways in which a move is needed.

  module _ (P : Problem) where
    pub needed_by_goal : (g : Waiting) (l : Literal) (k : ℕ) → Memᴰ g P.waiting → InEvery l g.formula
        → literal_holds P.state l ≡ false → OnlyAchiever r.domain l k → Needed r P (act k)
    needed_by_goal g l k i v f o n xs deeds last e = comes_made r o f (goal_comes r v n P xs (deeds, last, e) i)

    pub needed_by_need : (m : Move) (l : Literal) (k : ℕ) → Needed r P m → contains (needs_of r.domain m) l ≡ true
        → literal_holds P.state l ≡ false → OnlyAchiever r.domain l k → Needed r P (act k)
    needed_by_need m l k h c f o n xs deeds last e =
        comes_made r o f (move_comes r (need_comes r c) n P xs (deeds, last, e) (h n xs deeds last e))

    pub needed_by_node : (m i : ℕ) (l : Literal) (k : ℕ) → Needed r P (use_method m) → i < length (method_at r.domain m).nodes
        → InEvery l (node_in r.domain m i).formula → literal_holds P.state l ≡ false → OnlyAchiever r.domain l k → Needed r P (act k)
    needed_by_node m i l k h b v f o n xs deeds last e =
        comes_made r o f
        (move_comes r (node_comes r (at_mem (at_of_lt (method_at r.domain m).nodes i no_node b)) v) n P xs (deeds, last, e) (h n xs deeds last e))

    pub needed_by_relevance : (k m : ℕ) → Needed r P (act k)
        → ((g : Waiting) → Memᴰ g P.waiting → r.may_act (action_at r.domain k) g.formula ≡ false)
        → OnlyMethod r k m → Needed r P (use_method m)
    needed_by_relevance k m h v o n xs deeds last e = method_made k m o n P xs (deeds, last, e) v (h n xs deeds last e)

    -- Where action 0 is needed no trace is accepted, since actions are counted from 1. It is the only maker of a literal that no action makes.
    pub none_makes : Needed r P (act 0) → Hopeless r P
    none_makes h n xs deeds last e = let m = h n xs deeds last e in omega (arith, (action_known r.domain m.0.move 0 m.2).0)
