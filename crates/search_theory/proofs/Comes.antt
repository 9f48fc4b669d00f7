-- A literal that does not hold at first and does at some moment of an accepted trace was made by an action before (`comes_made`); such
-- are those of a goal that waits, of a move's needs and of a method's nodes. Assumes nothing.
use Prim.Native.Nat.{ℕ, zero, suc, ◌≤◌}
use native.Mathlib.Omega.{arith}
use mathlib.Core.Path.{◌≡◌, refl, sym, ap, ◌∙◌, subst}
use mathlib.Core.Bool.{Bool, true, false, cond, beq, true≢false, false≢true}
use mathlib.Core.Logic.{◌⊎◌, inl, inr, ⊎_elim}
use mathlib.Core.List.Memᴰ
use mathlib.Core.List.{List, [], ◌∷◌, map, Memᴰ}
use mathlib.Core.Option.{Option, some}
use lib.ListN.{length, get_or, set}
use Rattle.hgn.specs.Lists.{all, At}
use Rattle.hgn.specs.Meaning.{Literal, Formula, Node, Domain, last_after_all, network_of}
use Rattle.hgn.specs.State.{State, assign, literal_holds, all_hold, formula_holds, atoms_of, γ, contains}
use Rattle.hgn.specs.Network.{Name, Source, used, Waiting, enter, goal_at, no_goal, decomposed}
use Rattle.hgn.specs.Run.{Step, Move, act, use_method, move_of, action_at, method_at, Problem, Rules, Deed, taken, stepped, run_by}
use Rattle.hgn.proofs.Logic.Tests.{beq_true, false_not_true, any_true, all_true, contains_iff, at_of_lt}
use Rattle.hgn.proofs.Run.Steps.{Moved, by_release, by_action, by_method, took}
use Rattle.hgn.proofs.Run.Moves.{Reads, as_action, reads}
use Rattle.hgn.proofs.Network.Waiting.{stays, inserted_old, inserted_new}
use Rattle.hgn.proofs.Run.Runs.{ended_empty}
use Rattle.hgn.proofs.Search.Best.{Runs, runs_head}
use Rattle.search_theory.specs.Needed.{Makes, needs_of, OnlyAchiever, InEvery}

-- An atom keeps its value where it is set to no other.
set_keeps : (s : State) (a p : ℕ) (b c : Bool) → (p ≡ a → b ≡ c) → get_or s p false ≡ c → get_or (set s a b) p false ≡ c
set_keeps [] a p b c h e = e
set_keeps (x ∷ s) zero zero b c h e = h refl
set_keeps (x ∷ s) zero (suc p) b c h e = e
set_keeps (x ∷ s) (suc a) zero b c h e = e
set_keeps (x ∷ s) (suc a) (suc p) b c h e = set_keeps s a p b c (λ q. h (ap suc q)) e

assign_keeps : (s : State) (p : ℕ) (b c : Bool) (ls : List Literal) → ((l : Literal) → Memᴰ l ls → l.sign ≡ b → p ≡ l.atom → b ≡ c)
    → get_or s p false ≡ c → get_or (assign b (atoms_of b ls) s) p false ≡ c
unfolding assign atoms_of
assign_keeps s p b c [] h e = e
assign_keeps s p b c (l ∷ ls) h e = go (beq l.sign b) refl (λ t. assign_keeps t p b c ls (λ k m. h k (Memᴰ.tail m)))
  where
    go : (x : Bool) → beq l.sign b ≡ x → ((t : State) → get_or t p false ≡ c → get_or (assign b (atoms_of b ls) t) p false ≡ c)
        → get_or (assign b (cond x (l.atom ∷ atoms_of b ls) (atoms_of b ls)) s) p false ≡ c
    go true q ih = ih (set s l.atom b) (set_keeps s l.atom p b c (h l (Memᴰ.head refl) (beq_true _ _ q)) e)
    go false q ih = ih s e

-- A value is one of two that differ.
either : (b v x : Bool) → beq v x ≡ false → (b ≡ x) ⊎ (b ≡ v)
either b true true e = absurd (true≢false e)
either true true false e = inr refl
either false true false e = inl refl
either true false true e = inl refl
either false false true e = inr refl
either b false false e = absurd (true≢false e)

-- A literal that does not hold and does after an action is among its effects.
made : (s : State) (effects : List Literal) (l : Literal) → literal_holds s l ≡ false → literal_holds (γ s effects) l ≡ true
    → contains effects l ≡ true
unfolding literal_holds γ
made s effects l f t = go (contains effects l) refl
  where
    v : Bool
    v = get_or s l.atom false

    go : (x : Bool) → contains effects l ≡ x → x ≡ true
    go true e = refl
    go false e = absurd (false≢true (sym f ∙ ap (λ (b : Bool). beq b l.sign) (sym same) ∙ t))
      where
        kept : (b : Bool) (k : Literal) → Memᴰ k effects → k.sign ≡ b → l.atom ≡ k.atom → b ≡ v
        kept b k m p q =
            ⊎_elim
            (λ o. absurd (false_not_true _ e ((contains_iff effects l).1 (Memᴰ.cast (λ i. record { sign = (sym o ∙ sym p) i; atom = q i }) m))))
            (λ o. o) (either b v l.sign f)

        same : get_or (γ s effects) l.atom false ≡ v
        same = assign_keeps _ l.atom true v effects (kept true) (assign_keeps s l.atom false v effects (kept false) refl)

-- A literal of every alternative holds where the formula does.
every_holds : (s : State) (f : Formula) (l : Literal) → InEvery l f → formula_holds s f ≡ true → literal_holds s l ≡ true
unfolding formula_holds all_hold
every_holds s f l h e =
    let c = any_true (all_hold s) f e in
    all_true (literal_holds s) c.0 c.2 ((contains_iff c.0 l).0 (h c.0 c.1))

-- The formulas of a method's nodes are those of the goals that enter.
pub enter_formulas : (o : Source) (parent : Option Name) (i j : ℕ) (ns : List Node)
    → map (λ (g : Waiting). g.formula) (enter o parent i (last_after_all j ns)) ≡ map (λ (n : Node). n.formula) ns
unfolding enter last_after_all
enter_formulas o parent i j [] = refl
enter_formulas o parent i j (n ∷ []) = refl
enter_formulas o parent i j (n ∷ m ∷ ns) = ap {B = List Formula} (λ fs. n.formula ∷ fs) (enter_formulas o parent (suc i) (suc j) (m ∷ ns))

module _ (d : Domain) where
  -- A move that reads as an action is one of the domain's.
  pub action_known : (k j : ℕ) → move_of d k ≡ act j → (1 ≤ j) × (j ≤ length d.actions)
  action_known k j e = known (subst (Reads d k) e (reads d k))
    where
      known : {k j : ℕ} → Reads d k (act j) → (1 ≤ j) × (j ≤ length d.actions)
      known (as_action h) = (omega arith, h)

  pub makes_later : {x : Step} {xs : List Step} {m : Move} → Makes d xs m → Makes d (x ∷ xs) m
  makes_later h = (h.0, Memᴰ.tail h.1, h.2)

  pub makes_cases : {x : Step} {xs : List Step} {m : Move} → Makes d (x ∷ xs) m → (move_of d x.move ≡ m) ⊎ Makes d xs m
  makes_cases {x} {xs} {m} h =
      ⊎_elim (λ p. inl (ap (λ (y : Step). move_of d y.move) (sym p) ∙ h.2)) (λ k. inr (h.0, k, h.2)) (Memᴰ.cases_cons h.1)

module _ (r : Rules) where
  -- The literal holds at some moment of the run.
  pub data Comes (l : Literal) : ℕ → Problem → List Step → Type 0 where
    now : {n : ℕ} {P : Problem} {xs : List Step} → literal_holds P.state l ≡ true → Comes l n P xs
    later : {n : ℕ} {P P' : Problem} {x : Step} {xs : List Step} {deed : Deed}
        → stepped r n P x ≡ taken deed P' → Comes l (suc n) P' xs → Comes l n P (x ∷ xs)

  -- Where it does not hold at first, an action before that moment made it.
  pub comes_made : {l : Literal} {k : ℕ} → OnlyAchiever r.domain l k → {n : ℕ} {P : Problem} {xs : List Step} → literal_holds P.state l ≡ false
      → Comes l n P xs → Makes r.domain xs (act k)
  comes_made o f (now e) = absurd (false_not_true _ f e)
  comes_made {l} {k} o {n} {P} f (later {x = x} {xs = xs} {deed = deed} e c) =
      go refl (took x deed _ e).by (λ g. makes_later r.domain (comes_made o g c))
    where
      go : {m : Move} {deed : Deed} {P' : Problem} → move_of r.domain x.move ≡ m → Moved r n P x.place m deed P'
          → (literal_holds P'.state l ≡ false → Makes r.domain (x ∷ xs) (act k)) → Makes r.domain (x ∷ xs) (act k)
      go q (by_release a) ih = ih f
      go q (by_method a b c) ih = ih f
      go q (by_action {k = j} a b) ih = decide (literal_holds (γ P.state (action_at r.domain j).effects) l) refl
        where
          decide : (y : Bool) → literal_holds (γ P.state (action_at r.domain j).effects) l ≡ y → Makes r.domain (x ∷ xs) (act k)
          decide false g = ih g
          decide true g =
              let i = action_known r.domain x.move j q in
              (x, Memᴰ.head refl, q ∙ ap act (o j i.0 i.1 (made P.state (action_at r.domain j).effects l f g)))

  -- A goal that waits is released, and holds then.
  pub goal_comes : {l : Literal} {g : Waiting} → InEvery l g.formula → (n : ℕ) (P : Problem) (xs : List Step) → Runs r n P xs
      → Memᴰ g P.waiting → Comes l n P xs
  unfolding run_by decomposed
  goal_comes {l} {g} v n P [] h m =
      absurd (Memᴰ.not-nil (subst (Memᴰ g) (ended_empty n P h.0 h.1 h.2).0 m))
  goal_comes {l} {g} v n P (x ∷ xs) h m =
      let f = runs_head r n P x xs h in
      let t = took x f.0 f.1 f.2 in
      go (at_of_lt P.waiting x.place no_goal t.inside) t.by (λ k. later f.2 (goal_comes v (suc n) f.1 xs f.3 k))
    where
      go : {p : ℕ} {m : Move} {deed : Deed} {P' : Problem} → At P.waiting p (goal_at P.waiting p) → Moved r n P p m deed P'
          → (Memᴰ g P'.waiting → Comes l n P (x ∷ xs)) → Comes l n P (x ∷ xs)
      go a (by_release h) ih =
          ⊎_elim (λ q. now (every_holds P.state g.formula l v (ap (λ (u : Waiting). formula_holds P.state u.formula) q ∙ h))) ih (stays a m)
      go a (by_action h b) ih = ih m
      go {p} a (by_method {m = j} h b c) ih =
          ih (inserted_old (enter (used n j) (some (goal_at P.waiting p).name) 0 (network_of (method_at r.domain j))) a m)

  -- The literal comes in every accepted run that begins with the move.
  abbrev pub ComesBy : Literal → Move → Type 0
  ComesBy l m = (n : ℕ) (P : Problem) (x : Step) (xs : List Step) → move_of r.domain x.move ≡ m → Runs r n P (x ∷ xs) → Comes l n P (x ∷ xs)

  -- What comes at the step that makes a move comes in the run.
  pub move_comes : {l : Literal} {m : Move} → ComesBy l m → (n : ℕ) (P : Problem) (xs : List Step) → Runs r n P xs → Makes r.domain xs m
      → Comes l n P xs
  move_comes h n P [] e k = absurd (Memᴰ.not-nil k.1)
  move_comes h n P (x ∷ xs) e k =
      let f = runs_head r n P x xs e in
      ⊎_elim (λ q. h n P x xs q e) (λ j. later f.2 (move_comes h (suc n) f.1 xs f.3 j)) (makes_cases r.domain k)

  -- The needs of a move hold where it is made.
  needs_hold : {n p : ℕ} {P P' : Problem} {m : Move} {deed : Deed} → Moved r n P p m deed P' → all_hold P.state (needs_of r.domain m) ≡ true
  unfolding all_hold all
  needs_hold (by_release a) = refl
  needs_hold (by_action a b) = a
  needs_hold (by_method a b c) = a

  pub need_comes : {l : Literal} {m : Move} → contains (needs_of r.domain m) l ≡ true → ComesBy l m
  unfolding all_hold
  need_comes {l} {m} c n P x xs e h =
      let f = runs_head r n P x xs h in
      let hold = needs_hold (took x f.0 f.1 f.2).by in
      now (all_true (literal_holds P.state) (needs_of r.domain m)
      (subst (λ (k : Move). all_hold P.state (needs_of r.domain k) ≡ true) e hold) ((contains_iff (needs_of r.domain m) l).0 c))

  -- A node of a method waits once the method is used.
  node_waits : {j : ℕ} {v : Node} → Memᴰ v (method_at r.domain j).nodes → {n p : ℕ} {P P' : Problem} {deed : Deed}
      → Moved r n P p (use_method j) deed P' → (g : Waiting) × Memᴰ g P'.waiting × (g.formula ≡ v.formula)
  unfolding decomposed network_of
  node_waits {j} {v} m {n} {p} {P} (by_method a b c) =
      let parent = some (goal_at P.waiting p).name in
      let nodes = (method_at r.domain j).nodes in
      let e = Memᴰ.of_map (λ (g : Waiting). g.formula) (enter (used n j) parent 0 (last_after_all 0 nodes))
      (subst (Memᴰ v.formula) (sym (enter_formulas (used n j) parent 0 0 nodes)) (Memᴰ.map (λ (k : Node). k.formula) m)) in
      (e.0, inserted_new P.waiting p e.1, e.2)

  pub node_comes : {l : Literal} {j : ℕ} {v : Node} → Memᴰ v (method_at r.domain j).nodes → InEvery l v.formula → ComesBy l (use_method j)
  node_comes {l} {j} {v} m i n P x xs e h =
      let f = runs_head r n P x xs h in
      let by = (took x f.0 f.1 f.2).by in
      let g = node_waits m (subst (λ (k : Move). Moved r n P x.place k f.0 f.1) e by) in
      later f.2 (goal_comes (subst (InEvery l) (sym g.2) i) (suc n) f.1 xs f.3 g.1)
