-- A move at the goal `g` of the list `a`, `g`, `c`: it puts a list in the goal's place and leaves the others. Assumes nothing.
use Prim.Native.Nat.{ℕ, suc, ◌+◌, ◌≤◌, ◌<◌}
use native.Mathlib.Omega.{arith}
use mathlib.Core.Path.{◌≡◌, refl, sym, ap, ap₂, ◌∙◌, subst, subst₂}
use mathlib.Core.Bool.{Bool, true, false, false≢true}
use mathlib.Core.List.{List, [], ◌∷◌, ◌++◌, append_assoc}
use mathlib.Core.Option.{some}
use lib.ListN.{length, drop, length-append}
use lib.Seq.{take-append_seam, drop-append_seam, drop-append-add, get_or-append_seam}
use Rattle.hgn.specs.Meaning.{Node, Domain, network_of}
use Rattle.hgn.specs.State.{State}
use Rattle.hgn.specs.Network.{Source, used, Waiting, free, enter, goal_at, no_goal, released, decomposed}
use Rattle.hgn.specs.Run.{Step, Move, release, act, use_method, unknown, move_of, action_at, method_at, Problem, Rules, moved, Deed, deed_of, taken, stepped}
use Rattle.hgn.proofs.Run.Steps.{Moved, by_release, by_action, by_method, takes}
use Rattle.search_theory.specs.Rules.{ready, state_after}

-- What a move asks of the goal's formula alone.
unfoldable pub suits : Rules → Waiting → Move → Bool
suits r g release = true
suits r g (act k) = r.may_act (action_at r.domain k) g.formula
suits r g (use_method m) = r.may_use (method_at r.domain m) g.formula
suits r g unknown = false

-- What stands in the goal's place after a move at step `n`.
unfoldable pub into : Domain → ℕ → Waiting → Move → List Waiting
into d n g release = []
into d n g (act k) = g ∷ []
into d n g (use_method m) = enter (used n m) (some g.name) 0 (network_of (method_at d m)) ++ (g ∷ [])
into d n g unknown = g ∷ []

abbrev pub problem : State → List Waiting → Problem
problem s w = record { state = s; waiting = w }

-- The problem that a move at `g` leaves.
abbrev pub after_move : Domain → ℕ → State → List Waiting → Waiting → List Waiting → Move → Problem
after_move d n s a g c m = problem (state_after d s m) (a ++ (into d n g m ++ c))

-- A move that was made suited its goal, and one that is ready and suits its goal may be made.
module _ {r : Rules} {n p : ℕ} {P : Problem} where
  suited_at : {m : Move} {deed : Deed} {P' : Problem} → Moved r n P p m deed P'
      → (suits r (goal_at P.waiting p) m ≡ true) × (P' ≡ moved r.domain n P p m)
  unfolding suits moved
  suited_at (by_release h) = (refl, refl)
  suited_at (by_action h q) = (q, refl)
  suited_at (by_method h q l) = (q, refl)

  moves_at : (m : Move) → ready r.domain P.state (goal_at P.waiting p) m ≡ true → suits r (goal_at P.waiting p) m ≡ true
      → length (moved r.domain n P p m).waiting ≤ r.limit → Moved r n P p m (deed_of P p m) (moved r.domain n P p m)
  unfolding ready suits moved deed_of
  moves_at release h q l = by_release h
  moves_at (act k) h q l = by_action h q
  moves_at (use_method m) h q l = by_method h q l
  moves_at unknown h q l = absurd (false≢true q)

module _ (a : List Waiting) (g : Waiting) (c : List Waiting) where
  pub goal_there : goal_at (a ++ (g ∷ c)) (length a) ≡ g
  goal_there = get_or-append_seam a g c no_goal

  released_there : released (a ++ (g ∷ c)) (length a) ≡ a ++ c
  unfolding released
  released_there =
      ap₂ {C = List Waiting} (λ u v. u ++ v) (take-append_seam a (g ∷ c))
      (ap (λ (k : ℕ). drop k (a ++ (g ∷ c))) past ∙ drop-append-add a (g ∷ c) 1)
    where
      past : suc (length a) ≡ length a + 1
      past = omega arith

  decomposed_there : (o : Source) (nodes : List Node)
      → decomposed (a ++ (g ∷ c)) (length a) o nodes ≡ a ++ ((enter o (some g.name) 0 nodes ++ (g ∷ [])) ++ c)
  unfolding decomposed
  decomposed_there o nodes =
      ap₂ {C = List Waiting} (λ u v. u ++ v) (take-append_seam a (g ∷ c))
      (ap₂ {C = List Waiting} (λ u v. u ++ v)
      (ap {B = List Waiting} (λ (q : Waiting). enter o (some q.name) 0 nodes) goal_there)
      (drop-append_seam a (g ∷ c))
      ∙ sym (append_assoc (enter o (some g.name) 0 nodes) (g ∷ []) c))

  moved_there : (d : Domain) (n : ℕ) (s : State) (m : Move) → moved d n (problem s (a ++ (g ∷ c))) (length a) m ≡ after_move d n s a g c m
  unfolding moved into state_after
  moved_there d n s release = ap (problem s) released_there
  moved_there d n s (act k) = refl
  moved_there d n s (use_method m) = ap (problem s) (decomposed_there (used n m) (network_of (method_at d m)))
  moved_there d n s unknown = refl

-- What a move at `g` made of the problem, and that the goal's formula suited it.
pub record Did (r : Rules) (n : ℕ) (s : State) (a : List Waiting) (g : Waiting) (c : List Waiting) (m : Move) (P' : Problem) : Type 0 where
  pub suited : suits r g m ≡ true
  pub leaves : P' ≡ after_move r.domain n s a g c m

module _ (a : List Waiting) (g : Waiting) (c : List Waiting) where
  -- What a step at the place of `g` did.
  pub did : {r : Rules} {n p : ℕ} {s : State} {P P' : Problem} {m : Move} {deed : Deed}
      → P ≡ problem s (a ++ (g ∷ c)) → p ≡ length a → Moved r n P p m deed P' → Did r n s a g c m P'
  did {r} {n} {p} {s} {P} {P'} {m} {deed} e q h =
      let k = suited_at (subst₂ (λ (Q : Problem) (i : ℕ). Moved r n Q i m deed P') e q h) in
      record {
        suited = subst (λ (v : Waiting). suits r v m ≡ true) (goal_there a g c) k.0;
        leaves = k.1 ∙ moved_there a g c r.domain n s m;
      }

  module _ (r : Rules) (n : ℕ) (s : State) (x : Step) where
    abbrev its : Move
    its = move_of r.domain x.move

    abbrev list : List Waiting
    list = a ++ (g ∷ c)

    -- And back: a step that may be taken at the place of `g`.
    pub does : x.place ≡ length a → free list g ≡ true → ready r.domain s g its ≡ true → suits r g its ≡ true
        → length (after_move r.domain n s a g c its).waiting ≤ r.limit
        → stepped r n (problem s list) x ≡ taken (deed_of (problem s list) x.place its) (after_move r.domain n s a g c its)
    does q f h k l =
        takes x (deed_of (problem s list) x.place its) _ (record {
          inside = subst (λ (i : ℕ). i < length list) (sym q) (simp length-append (omega arith));
          is_free = ap (free list) goal ∙ f;
          by =
              subst (Moved r n (problem s list) x.place its (deed_of (problem s list) x.place its)) after
              (moves_at its (ap (λ (v : Waiting). ready r.domain s v its) goal ∙ h) (ap (λ (v : Waiting). suits r v its) goal ∙ k)
              (subst (λ (Q : Problem). length Q.waiting ≤ r.limit) (sym after) l));
        })
      where
        goal : goal_at list x.place ≡ g
        goal = ap (goal_at list) q ∙ goal_there a g c

        after : moved r.domain n (problem s list) x.place its ≡ after_move r.domain n s a g c its
        after = ap (λ (i : ℕ). moved r.domain n (problem s list) i its) q ∙ moved_there a g c r.domain n s its
