-- A step that commutes with the last does not stand on the first of the shortest traces: with the two exchanged the trace is accepted
-- too, and earlier. The two lists of goals differ only in the names of the two steps. Assumes nothing.
use Prim.Native.Nat.{ℕ, suc, ◌≤◌, ◌<◌}
use native.Mathlib.Omega.{arith}
use mathlib.Core.Path.{◌≡◌, refl, sym, ap, ap₂, ◌∙◌, subst, subst₂}
use mathlib.Core.Bool.{Bool, true, false, cond, ◌&&◌, beq, false≢true}
use mathlib.Core.Logic.{⊎_elim, ◌≢◌}
use mathlib.Core.List.{List, [], ◌∷◌, ◌++◌, map, map-append, append_assoc}
use mathlib.Core.List.Memᴰ
use mathlib.Core.List.{Memᴰ}
use mathlib.Core.Option.{some}
use lib.Dec.{eqb, ltb}
use lib.ListN.{length, take, drop, length-append, length-take, length-map}
use lib.Seq.{split_at}
use borrow.Author.Tests.{eqb-true, eqb-false, eq-eqb, ne_eqb, ltb-true}
use Rattle.hgn.specs.Meaning.{Domain, network_of}
use Rattle.hgn.specs.State.{State}
use Rattle.hgn.specs.Network.{used, Waiting, free, enter, goal_at, no_goal}
use Rattle.hgn.specs.Run.{Step, Move, release, act, use_method, unknown, move_of, method_at, Problem, Rules, Deed, deed_of, taken, stepped, run}
use Rattle.hgn.specs.Search.{lower_place, lower_move}
use Rattle.hgn.specs.Definition1.{ComesAfter}
use Rattle.hgn.proofs.Logic.Tests.{and_true, or_true, beq_true, not_true_false, free_iff_none_listed}
use Rattle.hgn.proofs.Run.Steps.{Moved, by_release, by_action, by_method, Took, took, takes}
use Rattle.hgn.proofs.Network.Names.{Fresh, Distinct, Named, strangers}
use Rattle.hgn.proofs.Join.Embedding.{renamed_deed}
use Rattle.hgn.proofs.Join.Renaming.{Injective, rename, later, enter_renamed, run_renamed, rename_kept, list_kept}
use Rattle.hgn.proofs.Search.Waits.{waits_at_most}
use Rattle.hgn.proofs.Search.Best.{Runs, Best, runs_head, runs_cons, best_head}
use Rattle.search_theory.specs.Rules.{ready, state_after, same_state, commute, is_action, is_earlier, commutes_with_last}
use Rattle.search_theory.proofs.Places.{into, problem, Did, goal_there, did, does}

-- States.

same_state_law : (s t : State) → same_state s t ≡ true → s ≡ t
unfolding same_state
same_state_law [] [] e = refl
same_state_law [] (b ∷ t) e = absurd (false≢true e)
same_state_law (a ∷ s) [] e = absurd (false≢true e)
same_state_law (a ∷ s) (b ∷ t) e = let h = and_true (beq a b) (same_state s t) e in ap₂ {C = State} (λ x y. x ∷ y) (beq_true a b h.0) (same_state_law s t h.1)

either_way_law : (d : Domain) (s : State) (y x : Move) → commute d s y x ≡ true → state_after d (state_after d s x) y ≡ state_after d (state_after d s y) x
unfolding commute state_after
either_way_law d s (act j) (act k) e = same_state_law _ _ e
either_way_law d s (act j) release e = refl
either_way_law d s (act j) (use_method m) e = refl
either_way_law d s (act j) unknown e = refl
either_way_law d s release x e = refl
either_way_law d s (use_method m) x e = refl
either_way_law d s unknown x e = refl

-- Steps `n` and `n` + 1 exchange their names.
exchange : ℕ → ℕ → ℕ
exchange n k = cond (eqb k n) (suc n) (cond (eqb k (suc n)) n k)

module _ (n : ℕ) where
  exchange_first : exchange n n ≡ suc n
  unfolding exchange
  exchange_first = rw (eq-eqb n n refl)

  exchange_second : exchange n (suc n) ≡ n
  unfolding exchange
  exchange_second = rw (ne_eqb (suc n) n (λ e. omega arith), eq-eqb (suc n) (suc n) refl)

  exchange_other : (k : ℕ) → (k ≡ n → ⊥) → (k ≡ suc n → ⊥) → exchange n k ≡ k
  unfolding exchange
  exchange_other k h l = rw (ne_eqb k n h, ne_eqb k (suc n) l)

  exchange_back : (k : ℕ) → exchange n (exchange n k) ≡ k
  exchange_back k = go (eqb k n) refl (eqb k (suc n)) refl
    where
      go : (x : Bool) → eqb k n ≡ x → (y : Bool) → eqb k (suc n) ≡ y → exchange n (exchange n k) ≡ k
      go true h y l = ap (λ (j : ℕ). exchange n (exchange n j)) (eqb-true k n h) ∙ ap (exchange n) exchange_first ∙ exchange_second ∙ sym (eqb-true k n h)
      go false h true l =
          ap (λ (j : ℕ). exchange n (exchange n j)) (eqb-true k (suc n) l) ∙ ap (exchange n) exchange_second ∙ exchange_first ∙ sym (eqb-true k (suc n) l)
      go false h false l =
          let e = exchange_other k (eqb-false k n h) (eqb-false k (suc n) l) in
          ap (exchange n) e ∙ e

  exchange_injective : Injective (exchange n)
  exchange_injective a b e = sym (exchange_back a) ∙ ap (exchange n) e ∙ exchange_back b

  exchange_below : (k : ℕ) → k < n → exchange n k ≡ k
  exchange_below k h = exchange_other k (λ e. omega arith) (λ e. omega arith)

  exchange_above : (k : ℕ) → suc (suc n) ≤ k → exchange n k ≡ k
  exchange_above k h = exchange_other k (λ e. omega arith) (λ e. omega arith)

  -- What a move puts in a goal's place, under the exchanged names.
  into_exchanged : (d : Domain) (k : ℕ) (g : Waiting) (m : Move) → Fresh n g
      → map (rename 0 (exchange n)) (into d k g m) ≡ into d (exchange n k) g m
  unfolding into
  into_exchanged d k g release f = refl
  into_exchanged d k g (act j) f = ap {B = List Waiting} (λ q. q ∷ []) (rename_kept (exchange n) n exchange_below g f)
  into_exchanged d k g (use_method m) f =
      let e = rename_kept (exchange n) n exchange_below g f in
      map-append (rename 0 (exchange n)) (enter (used k m) (some g.name) 0 (network_of (method_at d m))) (g ∷ [])
      ∙ ap₂ {C = List Waiting} (λ u v. u ++ v)
      (enter_renamed 0 (exchange n) k m 0 g.name (network_of (method_at d m))
      ∙ ap {B = List Waiting} (λ (q : Waiting). enter (used (exchange n k) m) (some q.name) 0 (network_of (method_at d m))) e)
      (ap {B = List Waiting} (λ q. q ∷ []) e)
  into_exchanged d k g unknown f = ap {B = List Waiting} (λ q. q ∷ []) (rename_kept (exchange n) n exchange_below g f)

-- Of two goals that stand one after the other the names differ.
later_other : (a : List Waiting) (g : Waiting) (v : List Waiting) → Distinct (a ++ (g ∷ v)) → (p : Waiting) → Memᴰ p v → p.name ≢ g.name
later_other [] g v h p m = h.0 p m
later_other (q ∷ a) g v h p m = later_other a g v h.1 p m

-- A goal that is free stays so when a move is made at a goal before it.
still_free : (d : Domain) (n : ℕ) (a : List Waiting) (g : Waiting) (v : List Waiting) (h : Waiting) (m : Move) → Named n (a ++ (g ∷ v)) → Memᴰ h v
    → free (a ++ (g ∷ v)) h ≡ true → free (a ++ (into d n g m ++ v)) h ≡ true
unfolding into
still_free d n a g v h m named k f = (free_iff_none_listed _ h).1 none_listed
  where
    waits : Memᴰ h (a ++ (g ∷ v))
    waits = Memᴰ.append_right a (Memᴰ.tail k)

    before : (e : Waiting) → Memᴰ e (a ++ (g ∷ v)) → ¬ ComesAfter h e
    before = (free_iff_none_listed _ h).0 f

    at_g : (e : Waiting) → Memᴰ e (g ∷ []) → ¬ ComesAfter h e
    at_g e j = before e (Memᴰ.append_right a (Memᴰ.head (Memᴰ.eq_of_singleton j)))

    entered : (e : Waiting) (m : Move) → Memᴰ e (into d n g m) → ¬ ComesAfter h e
    entered e release j = absurd (Memᴰ.not-nil j)
    entered e (act i) j = at_g e j
    entered e (use_method i) j =
        ⊎_elim (λ new l. later_other a g v named.distinct h k ((strangers i (network_of (method_at d i)) named h e waits new).before_parent l)) (at_g e)
        (Memᴰ.append_cases (enter (used n i) (some g.name) 0 (network_of (method_at d i))) j)
    entered e unknown j = at_g e j

    none_listed : (e : Waiting) → Memᴰ e (a ++ (into d n g m ++ v)) → ¬ ComesAfter h e
    none_listed e j =
        ⊎_elim (λ i. before e (Memᴰ.append_left (g ∷ v) i))
        (λ i. ⊎_elim (entered e m) (λ o. before e (Memᴰ.append_right a (Memᴰ.tail o))) (Memᴰ.append_cases (into d n g m) i))
        (Memᴰ.append_cases a j)

-- What the test says, part by part.
record Commutes (d : Domain) (P : Problem) (y x : Step) : Type 0 where
  pub goes : is_earlier d y x ≡ true
  pub was_free : free P.waiting (goal_at P.waiting x.place) ≡ true
  pub ready_first : ready d P.state (goal_at P.waiting x.place) (move_of d x.move) ≡ true
  pub ready_then : ready d (state_after d P.state (move_of d x.move)) (goal_at P.waiting y.place) (move_of d y.move) ≡ true
  pub same : commute d P.state (move_of d y.move) (move_of d x.move) ≡ true

commutes : (d : Domain) (P : Problem) (y x : Step) → commutes_with_last d P y x ≡ true → Commutes d P y x
unfolding commutes_with_last
commutes d P y x e =
    let a = and_true _ _ e in
    let b = and_true _ _ a.1 in
    let c = and_true _ _ b.1 in
    let f = and_true _ _ c.1 in
    record { goes = a.0; was_free = b.0; ready_first = c.0; ready_then = f.0; same = f.1 }

-- At a lower place: `x` at the goal `g`, `y` at the goal `h`.
module _ (a : List Waiting) (g : Waiting) (b : List Waiting) (h : Waiting) (c : List Waiting)
    (r : Rules) (n : ℕ) (s : State) (y x : Step) (xs : List Step)
    (at_g : x.place ≡ length a) (at-h : y.place ≡ length (a ++ (g ∷ b))) where
  abbrev d : Domain
  d = r.domain

  abbrev w : List Waiting
  w = a ++ (g ∷ (b ++ (h ∷ c)))

  abbrev my : Move
  my = move_of d y.move

  abbrev mx : Move
  mx = move_of d x.move

  -- After `x`, and after `x` and `y`.
  abbrev w₁ : List Waiting
  w₁ = a ++ (into d n g mx ++ (b ++ (h ∷ c)))

  abbrev w₂ : List Waiting
  w₂ = a ++ (into d n g mx ++ (b ++ (into d (suc n) h my ++ c)))

  -- After `y` and `x`.
  abbrev v₂ : List Waiting
  v₂ = a ++ (into d (suc n) g mx ++ (b ++ (into d n h my ++ c)))

  exchanged : Named n w → map (rename 0 (exchange n)) v₂ ≡ w₂
  exchanged named =
      parts a _
      ∙ ap₂ {C = List Waiting} (λ u v. u ++ v) (kept a (λ q m. Memᴰ.append_left _ m))
      (parts (into d (suc n) g mx) _
      ∙ ap₂ {C = List Waiting} (λ u v. u ++ v)
      (into_exchanged n d (suc n) g mx (named.fresh g (Memᴰ.append_right a (Memᴰ.head refl)))
      ∙ ap (λ (k : ℕ). into d k g mx) (exchange_second n))
      (parts b _
      ∙ ap₂ {C = List Waiting} (λ u v. u ++ v) (kept b (λ q m. Memᴰ.append_right a (Memᴰ.tail (Memᴰ.append_left (h ∷ c) m))))
      (parts (into d n h my) c
      ∙ ap₂ {C = List Waiting} (λ u v. u ++ v)
      (into_exchanged n d n h my (named.fresh h (Memᴰ.append_right a (Memᴰ.tail (Memᴰ.append_right b (Memᴰ.head refl)))))
      ∙ ap (λ (k : ℕ). into d k h my) (exchange_first n))
      (kept c (λ q m. Memᴰ.append_right a (Memᴰ.tail (Memᴰ.append_right b (Memᴰ.tail m))))))))
    where
      parts : (u v : List Waiting) → map (rename 0 (exchange n)) (u ++ v) ≡ map (rename 0 (exchange n)) u ++ map (rename 0 (exchange n)) v
      parts u v = map-append (rename 0 (exchange n)) u v

      kept : (u : List Waiting) → ((q : Waiting) → Memᴰ q u → Memᴰ q (a ++ (g ∷ (b ++ (h ∷ c))))) → map (rename 0 (exchange n)) u ≡ u
      kept u m = list_kept (exchange n) n (exchange_below n) u (λ q i. named.fresh q (m q i))

  -- `y` at the place where its goal stands after `x`.
  abbrev moved_y : Step
  moved_y = record { move = y.move; place = length (a ++ (into d n g mx ++ b)) }

  regroup : (z : List Waiting) → (a ++ (into d n g mx ++ b)) ++ z ≡ a ++ (into d n g mx ++ (b ++ z))
  regroup z = append_assoc a (into d n g mx ++ b) z ∙ ap {B = List Waiting} (λ l. a ++ l) (append_assoc (into d n g mx) b z)

  lengths : length w₁ ≤ suc (length w₂)
  lengths = simp length-append (omega arith)

  run_exchanged : (t : State) → Named n w → Runs r (suc (suc n)) (problem t v₂) xs → Runs r (suc (suc n)) (problem t w₂) xs
  unfolding later
  run_exchanged t named e = (
    map (renamed_deed (rename 0 (exchange n))) e.0,
    e.1,
    ap₂ (λ (k : ℕ) (l : List Waiting). run r k (problem t l) xs) (sym (exchange_above n (suc (suc n)) (omega arith))) (sym (exchanged named))
        ∙ run_renamed 0 (exchange n) (exchange_injective n) r xs (suc (suc n))
        (λ k i. exchange_above n (suc k) (omega arith) ∙ ap suc (sym (exchange_above n k i))) (problem t v₂)
        ∙ ap (later (rename 0 (exchange n)) (exchange n)) e.2,
  )

  whole : w ≡ (a ++ (g ∷ b)) ++ (h ∷ c)
  whole = sym (append_assoc a (g ∷ b) (h ∷ c))

  goal_g : goal_at w x.place ≡ g
  goal_g = ap (goal_at w) at_g ∙ goal_there a g (b ++ (h ∷ c))

  goal_h : goal_at w y.place ≡ h
  goal_h = ap₂ (λ (l : List Waiting) (k : ℕ). goal_at l k) whole at-h ∙ goal_there (a ++ (g ∷ b)) h c

  module _ {P₁ P₂ : Problem} {deed₁ deed₂ : Deed} (by-y : Took r n (problem s w) y deed₁ P₁) (by-x : Took r (suc n) P₁ x deed₂ P₂)
      (rest : Runs r (suc (suc n)) P₂ xs) (named : Named n w) where
    did_y : Did r n s (a ++ (g ∷ b)) h c my P₁
    did_y = did (a ++ (g ∷ b)) h c (ap (problem s) whole) at-h by-y.by

    did_x : Did r (suc n) (state_after d s my) a g (b ++ (into d n h my ++ c)) mx P₂
    did_x =
        did a g (b ++ (into d n h my ++ c))
        (did_y.leaves ∙ ap (problem (state_after d s my)) (append_assoc a (g ∷ b) (into d n h my ++ c))) at_g by-x.by

    free_h : free w₁ h ≡ true
    free_h =
        still_free d n a g (b ++ (h ∷ c)) h mx named (Memᴰ.append_right b (Memᴰ.head refl))
        (sym (ap (free w) goal_h) ∙ by-y.is_free)

    short : length w₂ ≤ length xs
    short =
        let k = waits_at_most r (suc (suc n)) P₂ xs rest in
        let l : length P₂.waiting ≡ length v₂ = ap (λ (Q : Problem). length Q.waiting) did_x.leaves in
        let m : length w₂ ≡ length v₂ = ap length (sym (exchanged named)) ∙ length-map v₂ (rename 0 (exchange n)) in
        omega arith

    exchanged_runs : length xs < r.limit → free w g ≡ true → ready d s g mx ≡ true → ready d (state_after d s mx) h my ≡ true
        → commute d s my mx ≡ true → Runs r n (problem s w) (x ∷ moved_y ∷ xs)
    exchanged_runs few free-g ready-x ready-y same =
        runs_cons r n (problem s w) x (moved_y ∷ xs) first_x
        (runs_cons r (suc n) (problem (state_after d s mx) w₁) moved_y xs then_y
        (run_exchanged (state_after d (state_after d s mx) my) named
        (subst (λ (Q : Problem). Runs r (suc (suc n)) Q xs)
        (did_x.leaves ∙ ap (λ (t : State). problem t v₂) (sym (either_way_law d s my mx same))) rest)))
      where
        first_x : stepped r n (problem s w) x ≡ taken (deed_of (problem s w) x.place mx) (problem (state_after d s mx) w₁)
        first_x = does a g (b ++ (h ∷ c)) r n s x at_g free-g ready-x did_x.suited (omega (arith, lengths, short))

        deed_y : Deed
        deed_y = deed_of (problem (state_after d s mx) ((a ++ (into d n g mx ++ b)) ++ (h ∷ c))) moved_y.place my

        then_y : stepped r (suc n) (problem (state_after d s mx) w₁) moved_y ≡ taken deed_y (problem (state_after d (state_after d s mx) my) w₂)
        then_y =
            ap (λ (l : List Waiting). stepped r (suc n) (problem (state_after d s mx) l) moved_y) (sym (regroup (h ∷ c)))
            ∙ does (a ++ (into d n g mx ++ b)) h c r (suc n) (state_after d s mx) moved_y refl
            (ap (λ (l : List Waiting). free l h) (regroup (h ∷ c)) ∙ free_h) ready-y did_y.suited
            (subst (λ (l : List Waiting). length l ≤ r.limit) (sym (regroup (into d (suc n) h my ++ c))) (omega (arith, short)))
            ∙ ap (λ (l : List Waiting). taken deed_y (problem (state_after d (state_after d s mx) my) l)) (regroup (into d (suc n) h my ++ c))

  never_lower : Named n w → Best r n (problem s w) (y ∷ x ∷ xs) → length xs < r.limit → Commutes d (problem s w) y x → ⊥
  never_lower named best few k =
      let f = runs_head r n (problem s w) y (x ∷ xs) best.runs in
      let e = runs_head r (suc n) f.1 x xs f.3 in
      best.earliest (x ∷ moved_y ∷ xs)
      (exchanged_runs (took y f.0 f.1 f.2) (took x e.0 e.1 e.2) e.3 named few
      (sym (ap (free w) goal_g) ∙ k.was_free)
      (sym (ap (λ (q : Waiting). ready d s q mx) goal_g) ∙ k.ready_first)
      (sym (ap (λ (q : Waiting). ready d (state_after d s mx) q my) goal_h) ∙ k.ready_then)
      k.same)
      refl
      (lower_place (subst₂ (λ (i j : ℕ). i < j) (sym at_g) (sym at-h) (simp length-append (omega arith))))

-- Two actions, at whatever places: the list stays as it is.

-- What an action did, and that it may be done at another moment with this list where its needs hold.
record Again (r : Rules) (n₂ : ℕ) (s₂ : State) (P : Problem) (p : ℕ) (m : Move) (deed : Deed) (P' : Problem) : Type 0 where
  pub leaves : P' ≡ problem (state_after r.domain P.state m) P.waiting
  pub again : Moved r n₂ (problem s₂ P.waiting) p m deed (problem (state_after r.domain s₂ m) P.waiting)

act_again : {r : Rules} {n p : ℕ} {P P' : Problem} {m : Move} {deed : Deed} (n₂ : ℕ) (s₂ : State) (q : Waiting)
    → is_action m ≡ true → ready r.domain s₂ q m ≡ true → Moved r n P p m deed P' → Again r n₂ s₂ P p m deed P'
unfolding is_action ready state_after
act_again n₂ s₂ q i h (by_release a) = absurd (false≢true i)
act_again n₂ s₂ q i h (by_action a b) = record { leaves = refl; again = by_action h b }
act_again n₂ s₂ q i h (by_method a b c) = absurd (false≢true i)

module _ (r : Rules) (n : ℕ) (P : Problem) (y x : Step) (xs : List Step) where
  abbrev after_x : Problem
  after_x = problem (state_after r.domain P.state (move_of r.domain x.move)) P.waiting

  abbrev after_y : Problem
  after_y = problem (state_after r.domain P.state (move_of r.domain y.move)) P.waiting

  both_act : Runs r n P (y ∷ x ∷ xs) → is_action (move_of r.domain x.move) ≡ true → is_action (move_of r.domain y.move) ≡ true
      → Commutes r.domain P y x → Runs r n P (x ∷ y ∷ xs)
  both_act runs is_x is_y k =
      let f = runs_head r n P y (x ∷ xs) runs in
      let by-y = took y f.0 f.1 f.2 in
      let did_y = act_again (suc n) after_x.state _ is_y k.ready_then by-y.by in
      let e = runs_head r (suc n) after_y x xs (subst (λ (Q : Problem). Runs r (suc n) Q (x ∷ xs)) did_y.leaves f.3) in
      let by-x = took x e.0 e.1 e.2 in
      let did_x = act_again n P.state _ is_x k.ready_first by-x.by in
      runs_cons r n P x (y ∷ xs) (takes x e.0 _ (record { inside = by-x.inside; is_free = by-x.is_free; by = did_x.again }))
      (runs_cons r (suc n) after_x y xs (takes y f.0 _ (record { inside = by-y.inside; is_free = by-y.is_free; by = did_y.again }))
      (subst (λ (Q : Problem). Runs r (suc (suc n)) Q xs)
      (did_x.leaves ∙ ap (λ (t : State). problem t P.waiting) (sym (either_way_law r.domain P.state _ _ k.same))) e.3))

  module _ (named : Named n P.waiting) (best : Best r n P (y ∷ x ∷ xs)) (few : length xs < r.limit) (k : Commutes r.domain P y x) where
    at_lower : x.place < y.place → ⊥
    at_lower l =
        subst
        (λ (v : List Waiting).
        Named n v → Best r n (problem P.state v) (y ∷ x ∷ xs) → length xs < r.limit → Commutes r.domain (problem P.state v) y x → ⊥)
        (sym parts)
        (never_lower (take x.place u) (goal_at u x.place) (drop (suc x.place) u) (goal_at v y.place) (drop (suc y.place) v)
        r n P.state y x xs (omega (arith, length-take x.place u, up_to_y)) (sym up_to_y ∙ ap length front))
        named best few k
      where
        v : List Waiting
        v = P.waiting

        inside : y.place < length v
        inside = let f = best_head best in (took y f.0 f.1 f.2).inside

        u : List Waiting
        u = take y.place v

        up_to_y : length u ≡ y.place
        up_to_y = omega (arith, length-take y.place v, inside)

        front : u ≡ take x.place u ++ (goal_at u x.place ∷ drop (suc x.place) u)
        front = split_at u x.place no_goal (omega (arith, up_to_y))

        parts : v ≡ take x.place u ++ (goal_at u x.place ∷ (drop (suc x.place) u ++ (goal_at v y.place ∷ drop (suc y.place) v)))
        parts =
            split_at v y.place no_goal inside
            ∙ ap {B = List Waiting} (λ l. l ++ (goal_at v y.place ∷ drop (suc y.place) v)) front
            ∙ append_assoc (take x.place u) (goal_at u x.place ∷ drop (suc x.place) u) (goal_at v y.place ∷ drop (suc y.place) v)

    at_one : (eqb x.place y.place
        && (ltb x.move y.move && (is_action (move_of r.domain x.move) && is_action (move_of r.domain y.move)))) ≡ true → ⊥
    at_one e =
        let p = and_true (eqb x.place y.place) _ e in
        let m = and_true (ltb x.move y.move) _ p.1 in
        let i = and_true (is_action (move_of r.domain x.move)) _ m.1 in
        best.earliest (x ∷ y ∷ xs) (both_act best.runs i.0 i.1 k) refl (lower_move (eqb-true _ _ p.0) (ltb-true _ _ m.0))

-- The limit of the waiting list is asked of a method that goes first: the list then is at most one longer than the steps left after both.
pub first_best : (r : Rules) (n : ℕ) (P : Problem) (y x : Step) (xs : List Step) → Named n P.waiting → Best r n P (y ∷ x ∷ xs)
    → length xs < r.limit → commutes_with_last r.domain P y x ≡ false
unfolding is_earlier
first_best r n P y x xs named best few = not_true_false _ (λ e. never (commutes r.domain P y x e))
  where
    never : Commutes r.domain P y x → ⊥
    never k =
        ⊎_elim (λ l. at_lower r n P y x xs named best few k (ltb-true _ _ l)) (at_one r n P y x xs named best few k)
        (or_true (ltb x.place y.place) _ k.goes)
