-- What a waiting goal carries is true of every network that steps lead to, and its parent waits behind it. Assumes nothing.
use Prim.Native.Nat.{ℕ, suc, ◌+◌, ◌≤◌, ◌<◌}
use native.Mathlib.Omega.{arith}
use native.Mathlib.Nat.{add-zero, zero-add, lt_irrefl}
use mathlib.Core.Path.{◌≡◌, refl, sym, ap, ◌∙◌, subst, subst₂}
use mathlib.Core.Logic.{⊎_elim}
use mathlib.Core.List.Memᴰ
use mathlib.Core.List.{List, [], ◌∷◌, ◌++◌, Memᴰ}
use mathlib.Core.Option.{Option, none, some}
use lib.ListN.{length}
use lib.Seq.{take-append-le, take-append_seam}
use Rattle.hgn.specs.Lists.{At, here, there}
use Rattle.hgn.specs.Meaning.{Node, Order, network_of}
use Rattle.hgn.specs.State.{State}
use Rattle.hgn.specs.Network.{Name, Source, order, used, origin_of, Waiting, enter, goals_of, no_goal, goal_at, decomposed}
use Rattle.hgn.specs.Run.{Step, Move, move_of, method_at, no_method, Problem, problem_from, Rules, Deed, taken, stepped}
use Rattle.hgn.specs.Readings.{Reached, first, next}
use Rattle.hgn.specs.Demands.{IsNode, BroughtIn, OriginTrue, OriginsAreTrue}
use Rattle.hgn.proofs.Logic.Tests.{at_of_lt}
use Rattle.hgn.proofs.Run.Steps.{Moved, took}
use Rattle.hgn.proofs.Run.Moves.{method_known}
use Rattle.hgn.proofs.Run.Stopped.{at_middle}
use Rattle.hgn.proofs.Network.Waiting.{released_mem, inserted_cases}
use Rattle.hgn.proofs.Network.Places.{at_front}
use Rattle.hgn.proofs.Listing.Trees.{reached_tree}

module _ {k l m n : ℕ} (e : used k m ≡ used l n) where
  used_step : k ≡ l
  used_step = cc

  used_method : m ≡ n
  used_method = cc

pub order≢used : {k m : ℕ} → order ≡ used k m → ⊥
order≢used e = let z : ◌≡◌ {A = ℕ} 0 1 = cc in omega arith

-- A node as it enters.
record EnteredAs (source : Source) (parent : Option Name) (i : ℕ) (ns : List Node) (q : Waiting) : Type 0 where
  its_source : q.source ≡ source
  its_parent : q.parent ≡ parent
  k : ℕ
  node : Node
  listed : At ns k node
  number : q.name.number ≡ i + k
  formula : q.formula ≡ node.formula
  after : q.after ≡ node.after

entered_as : {q : Waiting} (source : Source) (parent : Option Name) (i : ℕ) (ns : List Node) → Memᴰ q (enter source parent i ns) → EnteredAs source parent i ns q
unfolding enter
entered_as source parent i [] m = absurd (Memᴰ.not-nil m)
entered_as {q} source parent i (n ∷ ns) m = ⊎_elim now (λ k. later (entered_as source parent (suc i) ns k)) (Memᴰ.cases_cons m)
  where
    now : q ≡ record { name = record { origin = origin_of source; number = i }; source = source; parent = parent; after = n.after; formula = n.formula }
        → EnteredAs source parent i (n ∷ ns) q
    now e = record {
      its_source = ap (λ (x : Waiting). x.source) e;
      its_parent = ap (λ (x : Waiting). x.parent) e;
      k = 0;
      node = n;
      listed = here;
      number = ap (λ (x : Waiting). x.name.number) e ∙ sym (add-zero i);
      formula = ap (λ (x : Waiting). x.formula) e;
      after = ap (λ (x : Waiting). x.after) e;
    }

    later : EnteredAs source parent (suc i) ns q → EnteredAs source parent i (n ∷ ns) q
    later r = record {
      its_source = r.its_source;
      its_parent = r.its_parent;
      k = suc r.k;
      node = r.node;
      listed = there r.listed;
      number = omega (arith, r.number);
      formula = r.formula;
      after = r.after;
    }

is_node : {source : Source} {parent : Option Name} {ns : List Node} {q : Waiting} → EnteredAs source parent 0 ns q → IsNode ns q
is_node {ns = ns} r = record {
  node = r.node;
  listed = subst (λ (j : ℕ). At ns j r.node) (sym (r.number ∙ zero-add r.k)) r.listed;
  formula = r.formula;
  after = r.after;
}

-- A goal that a step brought in, or one of the order's.
module _ (r : Rules) (s : State) (o : Order) where
  by_source : {xs : List Step} {q : Waiting} {k m : ℕ} → q.source ≡ used k m → BroughtIn r (problem_from s o) xs q k m → OriginTrue r s o xs q
  by_source {xs} {q} e b = record {
    by_step = λ k m h. subst₂ (BroughtIn r (problem_from s o) xs q) (used_step (sym e ∙ h)) (used_method (sym e ∙ h)) b;
    by_order = λ h. absurd (order≢used (sym h ∙ e));
  }

  -- What brought it in stays so when one step more is taken.
  brought_on : {xs : List Step} {q : Waiting} {k m : ℕ} (x : Step) → BroughtIn r (problem_from s o) xs q k m → BroughtIn r (problem_from s o) (xs ++ (x ∷ [])) q k m
  brought_on {xs} {k = k} x b = record {
    before = b.before;
    reached = subst (λ (l : List Step). Reached r (problem_from s o) l b.before) (sym (take-append-le k xs (x ∷ []) (at_within b.is_step))) b.reached;
    step = b.step;
    is_step = at_front (x ∷ []) b.is_step;
    parent = b.parent;
    parent_waits = b.parent_waits;
    behind = b.behind;
    uses_method = b.uses_method;
    new = b.new;
    entered = b.entered;
    parent_named = b.parent_named;
    method = b.method;
    is_method = b.is_method;
    is_node = b.is_node;
  }
    where
      at_within : {xs : List Step} {k : ℕ} {y : Step} → At xs k y → k ≤ length xs
      at_within here = omega arith
      at_within (there a) = let z = at_within a in omega arith

  true_on : {xs : List Step} {q : Waiting} (x : Step) → OriginTrue r s o xs q → OriginTrue r s o (xs ++ (x ∷ [])) q
  true_on x t = record { by_step = λ k m e. brought_on x (t.by_step k m e); by_order = t.by_order }

  module _ {xs : List Step} {P : Problem} (i : Reached r (problem_from s o) xs P) (before : (q : Waiting) → Memᴰ q P.waiting → OriginTrue r s o xs q)
      (x : Step) (l : x.place < length P.waiting) where
    moved_true : {mv : Move} {deed : Deed} {P' : Problem} → move_of r.domain x.move ≡ mv → Moved r (length xs) P x.place mv deed P'
        → stepped r (length xs) P x ≡ taken deed P' → (q : Waiting) → Memᴰ q P'.waiting → OriginTrue r s o (xs ++ (x ∷ [])) q
    unfolding decomposed
    moved_true mv (Moved.by_release a) e q k = true_on x (before q (released_mem (at_of_lt P.waiting x.place no_goal l) k))
    moved_true mv (Moved.by_action a b) e q k = true_on x (before q k)
    moved_true {P' = P'} mv (Moved.by_method {m = m} a b c) e q k =
        ⊎_elim (λ j. true_on x (before q j)) (λ j. new (entered_as (used (length xs) m) (some t.name) 0 nodes j)) (inserted_cases (enter (used (length xs) m) (some t.name) 0 nodes) at k)
      where
        t : Waiting
        t = goal_at P.waiting x.place

        at : At P.waiting x.place t
        at = at_of_lt P.waiting x.place no_goal l

        nodes : List Node
        nodes = network_of (method_at r.domain m)

        new : EnteredAs (used (length xs) m) (some t.name) 0 nodes q → OriginTrue r s o (xs ++ (x ∷ [])) q
        new h = by_source h.its_source (record {
          before = P;
          reached = subst (λ (ys : List Step). Reached r (problem_from s o) ys P) (sym (take-append_seam xs (x ∷ []))) i;
          step = x;
          is_step = at_middle xs x [];
          parent = t;
          parent_waits = at;
          behind = P';
          uses_method = e;
          new = λ l. lt_irrefl (length xs) (((reached_tree o i).named.fresh q l).by_source (length xs) (ap origin_of h.its_source));
          entered = k;
          parent_named = h.its_parent;
          method = method_at r.domain m;
          is_method = at_of_lt r.domain.methods m no_method (method_known r.domain x.move m mv);
          is_node = is_node h;
        })

pub origins_are_true : OriginsAreTrue
unfolding goals_of
origins_are_true r s o _ _ first = λ q m.
    let h = entered_as order none 0 o.goals m in
    record { by_step = λ k n e. absurd (order≢used (sym h.its_source ∙ e)); by_order = λ e. (h.its_parent, is_node h) }
origins_are_true r s o _ _ (next x i e) = let t = took x _ _ e in moved_true r s o i (origins_are_true r s o _ _ i) x t.inside refl t.by e
