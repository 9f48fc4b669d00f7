-- A step is the same on a network that is renamed and stands in front of other goals: `map f w ++ v` in place of `w`.
-- Two uses: the first order's goals in front of the second's (no renaming), and the second order's own run under the join's names
-- (nothing behind it). Assumes nothing.
use Prim.Native.Nat.{ℕ, zero, suc, ◌+◌, ◌<◌}
use native.Mathlib.Omega.{arith}
use native.Mathlib.Nat.{not-suc-le-zero, le_of_suc-le-suc}
use mathlib.Core.Path.{◌≡◌, refl, sym, ap, ap₂, ◌∙◌}
use mathlib.Core.Bool.{Bool, true, false, not, ◌||◌, or-false}
use mathlib.Core.List.{List, [], ◌∷◌, ◌++◌, map, map-append, append_assoc, Memᴰ}
use mathlib.Core.Option.{some}
use lib.Dec.{leb}
use lib.ListN.{length, get_or, take, drop, length-append, length-map, get_or-map, get_or-append}
use lib.Seq.{take-append-le, drop-append-le}
use borrow.Author.Tests.{lt-ltb, le-leb, lt-leb, leb-true, leb-false}
use Rattle.hgn.specs.Lists.{any}
use Rattle.hgn.specs.Questions.{Question, ◌asks◌, ◌naming◌, Verdict, passed, first_no}
use Rattle.hgn.specs.Questions as Questions
use Rattle.hgn.specs.Meaning.{Node, network_of}
use Rattle.hgn.specs.State.{formula_holds, unmet_goal}
use Rattle.hgn.specs.Network.{Waiting, used, comes_after, free, any_free, enter, goal_at, no_goal, goals_above, released, decomposed}
use Rattle.hgn.specs.Run.{Step, Move, release, act, use_method, unknown, move_of, action_at, method_at, Problem, Rules, limited}
use Rattle.hgn.specs.Run.{moved, own_questions, step_questions, Leaving, leaving, Deed, releases, takes, uses, deed_of, Stepped, refused, taken, stepped}
use Rattle.hgn.proofs.Logic.Tests.{any_append, at_mem, at_of_lt}
use Rattle.hgn.proofs.Run.Steps.{step_refused, step_passed}

-- Lists.

module _ {A B : Type 0} where
  pub any_map : (test : B → Bool) (f : A → B) (xs : List A) → any test (map f xs) ≡ any (λ x. test (f x)) xs
  unfolding any
  any_map test f [] = refl
  any_map test f (x ∷ xs) = ap (λ (b : Bool). test (f x) || b) (any_map test f xs)

  pub take_map : (f : A → B) (p : ℕ) (xs : List A) → take p (map f xs) ≡ map f (take p xs)
  take_map f zero xs = refl
  take_map f (suc p) [] = refl
  take_map f (suc p) (x ∷ xs) = ap {B = List B} (λ l. f x ∷ l) (take_map f p xs)

  pub drop_map : (f : A → B) (p : ℕ) (xs : List A) → drop p (map f xs) ≡ map f (drop p xs)
  drop_map f zero xs = refl
  drop_map f (suc p) [] = refl
  drop_map f (suc p) (x ∷ xs) = drop_map f p xs

module _ {A : Type 0} where
  -- Two tests that agree on the members agree on the list.
  pub any_cong : (t u : A → Bool) (xs : List A) → ((x : A) → Memᴰ x xs → t x ≡ u x) → any t xs ≡ any u xs
  unfolding any
  any_cong t u [] h = refl
  any_cong t u (x ∷ xs) h = ap₂ (λ (a b : Bool). a || b) (h x (Memᴰ.head refl)) (any_cong t u xs (λ y m. h y (Memᴰ.tail m)))

  pub any_none : (t : A → Bool) (xs : List A) → ((x : A) → Memᴰ x xs → t x ≡ false) → any t xs ≡ false
  unfolding any
  any_none t [] h = refl
  any_none t (x ∷ xs) h = ap₂ (λ (a b : Bool). a || b) (h x (Memᴰ.head refl)) (any_none t xs (λ y m. h y (Memᴰ.tail m)))

  -- The default of a look-up inside the list does not matter.
  pub get_d_default : (xs : List A) (i : ℕ) (c d : A) → i < length xs → get_or xs i c ≡ get_or xs i d
  get_d_default [] i c d h = absurd (not-suc-le-zero h)
  get_d_default (x ∷ xs) zero c d h = refl
  get_d_default (x ∷ xs) (suc i) c d h = get_d_default xs i c d (le_of_suc-le-suc h)

-- An embedding of the network `w` at step `n` into `map f w ++ v` at step `n'`.
pub record Embeds (f : Waiting → Waiting) (w v : List Waiting) (n n' : ℕ) : Type 0 where
  pub formula : (q : Waiting) → (f q).formula ≡ q.formula
  pub after : (q p : Waiting) → comes_after (f q) (f p) ≡ comes_after q p
  -- Goals that enter at step `n` are renamed to those that enter at step `n'`.
  pub enters : (q : Waiting) (m : ℕ) (nodes : List Node)
      → map f (enter (used n m) (some q.name) 0 nodes) ≡ enter (used n' m) (some (f q).name) 0 nodes
  -- As many goals stand above each.
  pub above : (q : Waiting) → Memᴰ q w → goals_above (map f w ++ v) (f q) ≡ goals_above w q
  -- No goal of `w` comes after one of `v`, and no goal of `v` is free.
  pub apart : (q g : Waiting) → Memᴰ q w → Memᴰ g v → comes_after (f q) g ≡ false
  pub blocked : (g : Waiting) → Memᴰ g v → free (map f w ++ v) g ≡ false

abbrev pub renamed_leaving : (Waiting → Waiting) → Leaving → Leaving
renamed_leaving f g = record { goal = f g.goal; above = g.above }

-- What a step did, renamed.
unfoldable pub renamed_deed : (Waiting → Waiting) → Deed → Deed
renamed_deed f (releases gs) = releases (map (renamed_leaving f) gs)
renamed_deed f (takes k) = takes k
renamed_deed f (uses m g) = uses m (f g)

-- A problem, renamed and in front of `v`.
abbrev pub embedded : (Waiting → Waiting) → List Waiting → Problem → Problem
embedded f v P = record { state = P.state; waiting = map f P.waiting ++ v }

-- What a step comes to, renamed and in front of `v`.
unfoldable pub carried : (Waiting → Waiting) → List Waiting → Stepped → Stepped
carried f v (refused q) = refused q
carried f v (taken deed P) = taken (renamed_deed f deed) (embedded f v P)

-- Two questions with equal answers, before equal questions.
same_question : (number : ℕ) {a : ℕ} {b c : Bool} {qs rs : List Question} → b ≡ c → qs ≡ rs → (number asks b naming a ∷ qs) ≡ (number asks c naming a ∷ rs)
same_question number {a} e h = ap₂ {C = List Question} (λ b qs. number asks b naming a ∷ qs) e h

-- The limit counts the goals behind.
leb_behind : (a b c : ℕ) → leb (a + c) (b + c) ≡ leb a b
leb_behind a b c = go (leb a b) refl
  where
    go : (t : Bool) → leb a b ≡ t → leb (a + c) (b + c) ≡ leb a b
    go true e = le-leb (a + c) (b + c) (omega (arith, leb-true a b e)) ∙ sym e
    go false e = lt-leb (a + c) (b + c) (omega (arith, leb-false a b e)) ∙ sym e

module _ (f : Waiting → Waiting) (w v : List Waiting) (n n' : ℕ) (em : Embeds f w v n n') where
  free_carried : (q : Waiting) → Memᴰ q w → free (map f w ++ v) (f q) ≡ free w q
  unfolding free
  free_carried q m =
      ap not
      (any_append (comes_after (f q)) (map f w) v
      ∙ ap₂ (λ (a b : Bool). a || b)
      (any_map (comes_after (f q)) f w ∙ any_cong _ _ w (λ p k. em.after q p))
      (any_none (comes_after (f q)) v (λ g k. em.apart q g m k))
      ∙ or-false (any (comes_after q) w))

  any_free_carried : any_free (map f w ++ v) ≡ any_free w
  unfolding any_free
  any_free_carried =
      any_append (free (map f w ++ v)) (map f w) v
      ∙ ap₂ (λ (a b : Bool). a || b)
      (any_map (free (map f w ++ v)) f w ∙ any_cong _ _ w (λ q m. free_carried q m))
      (any_none (free (map f w ++ v)) v (λ g m. em.blocked g m))
      ∙ or-false (any (free w) w)

  module _ (p : ℕ) (h : p < length w) where
    inside_map : p < length (map f w)
    inside_map = rw length-map h

    goal_carried : goal_at (map f w ++ v) p ≡ f (goal_at w p)
    goal_carried =
        get_or-append (map f w) v no_goal p inside_map
        ∙ get_d_default (map f w) p no_goal (f no_goal) inside_map
        ∙ get_or-map f w p no_goal

    formula_carried : (goal_at (map f w ++ v) p).formula ≡ (goal_at w p).formula
    formula_carried = ap (λ (g : Waiting). g.formula) goal_carried ∙ em.formula (goal_at w p)

    released_carried : released (map f w ++ v) p ≡ map f (released w p) ++ v
    unfolding released
    released_carried =
        ap₂ {C = List Waiting} (λ a b. a ++ b)
        (take-append-le p (map f w) v (omega (arith, inside_map)) ∙ take_map f p w)
        (drop-append-le (suc p) (map f w) v inside_map ∙ ap {B = List Waiting} (λ l. l ++ v) (drop_map f (suc p) w))
        ∙ sym (append_assoc (map f (take p w)) (map f (drop (suc p) w)) v)
        ∙ ap {B = List Waiting} (λ l. l ++ v) (sym (map-append f (take p w) (drop (suc p) w)))

    decomposed_carried : (m : ℕ) (nodes : List Node) → decomposed (map f w ++ v) p (used n' m) nodes ≡ map f (decomposed w p (used n m) nodes) ++ v
    unfolding decomposed
    decomposed_carried m nodes =
        ap₂ {C = List Waiting} (λ a b. a ++ b)
        (take-append-le p (map f w) v (omega (arith, inside_map)) ∙ take_map f p w)
        (ap₂ {C = List Waiting} (λ a b. a ++ b)
        (ap {B = List Waiting} (λ g. enter (used n' m) (some g.name) 0 nodes) goal_carried ∙ sym (em.enters (goal_at w p) m nodes))
        (drop-append-le p (map f w) v (omega (arith, inside_map)) ∙ ap {B = List Waiting} (λ l. l ++ v) (drop_map f p w))
        ∙ sym (append_assoc (map f new) (map f (drop p w)) v)
        ∙ ap {B = List Waiting} (λ l. l ++ v) (sym (map-append f new (drop p w))))
        ∙ sym (append_assoc (map f (take p w)) (map f (new ++ drop p w)) v)
        ∙ ap {B = List Waiting} (λ l. l ++ v) (sym (map-append f (take p w) (new ++ drop p w)))
      where
        new : List Waiting
        new = enter (used n m) (some (goal_at w p).name) 0 nodes

module _ (f : Waiting → Waiting) (v : List Waiting) (n n' : ℕ) (P : Problem) (em : Embeds f P.waiting v n n') (r : Rules) where
  -- The rules with a limit that counts the goals behind.
  abbrev wide : Rules
  wide = limited (r.limit + length v) r

  module _ (p : ℕ) (h : p < length P.waiting) where
    abbrev same_formula : (goal_at (map f P.waiting ++ v) p).formula ≡ (goal_at P.waiting p).formula
    same_formula = formula_carried f P.waiting v n n' em p h

    own_carried : (m : Move) → own_questions wide n' (embedded f v P) p m ≡ own_questions r n P p m
    unfolding own_questions moved
    own_carried release = ap {B = List Question} (λ g. 29 asks formula_holds P.state g naming unmet_goal P.state g ∷ []) same_formula
    own_carried (act k) = same_question 30 refl (same_question 31 (ap (r.may_act (action_at r.domain k)) same_formula) refl)
    own_carried (use_method m) =
        same_question 30 refl
        (same_question 31 (ap (r.may_use (method_at r.domain m)) same_formula) (same_question 32 (room (network_of (method_at r.domain m))) refl))
      where
        room : (nodes : List Node)
            → leb (length (decomposed (map f P.waiting ++ v) p (used n' m) nodes)) (r.limit + length v) ≡ leb (length (decomposed P.waiting p (used n m) nodes)) r.limit
        room nodes =
            let w = decomposed P.waiting p (used n m) nodes in
            ap (λ (l : List Waiting). leb (length l) (r.limit + length v)) (decomposed_carried f P.waiting v n n' em p h m nodes)
            ∙ ap (λ (k : ℕ). leb k (r.limit + length v)) (length-append (map f w) v ∙ ap (λ (k : ℕ). k + length v) (length-map w f))
            ∙ leb_behind (length w) r.limit (length v)
    own_carried unknown = refl

    moved_carried : (m : Move) → moved r.domain n' (embedded f v P) p m ≡ embedded f v (moved r.domain n P p m)
    unfolding moved
    moved_carried release = ap {B = Problem} (λ w. record { state = P.state; waiting = w }) (released_carried f P.waiting v n n' em p h)
    moved_carried (act k) = refl
    moved_carried (use_method m) =
        ap {B = Problem} (λ w. record { state = P.state; waiting = w }) (decomposed_carried f P.waiting v n n' em p h m (network_of (method_at r.domain m)))
    moved_carried unknown = refl

    deed_carried : (m : Move) → deed_of (embedded f v P) p m ≡ renamed_deed f (deed_of P p m)
    unfolding deed_of renamed_deed
    deed_carried release =
        let q = goal_at P.waiting p in
        ap (λ (g : Waiting). releases (leaving (map f P.waiting ++ v) g ∷ [])) (goal_carried f P.waiting v n n' em p h)
        ∙ ap (λ (a : ℕ). releases (record { goal = f q; above = a } ∷ [])) (em.above q (at_mem (at_of_lt P.waiting p no_goal h)))
    deed_carried (act k) = refl
    deed_carried (use_method m) = ap (uses m) (goal_carried f P.waiting v n n' em p h)
    deed_carried unknown = refl

  -- A step at a place of the network asks the same questions of the embedded one.
  questions_carried : (x : Step) → x.place < length P.waiting → step_questions wide n' (embedded f v P) x ≡ step_questions r n P x
  unfolding step_questions
  questions_carried x h =
      same_question 25 (lt-ltb _ _ longer ∙ sym (lt-ltb _ _ h))
      (same_question 26 refl
      (same_question 27 (any_free_carried f P.waiting v n n' em)
      (same_question 28 (ap (free (map f P.waiting ++ v)) (goal_carried f P.waiting v n n' em x.place h) ∙ is_free) (own_carried x.place h (move_of r.domain x.move)))))
    where
      longer : x.place < length (map f P.waiting ++ v)
      longer = rw (length-append, length-map) (omega arith)

      is_free : free (map f P.waiting ++ v) (f (goal_at P.waiting x.place)) ≡ free P.waiting (goal_at P.waiting x.place)
      is_free = free_carried f P.waiting v n n' em (goal_at P.waiting x.place) (at_mem (at_of_lt P.waiting x.place no_goal h))

  -- The step on the embedded network is the step on the network, carried over, refusals included.
  pub step_carried : (x : Step) → x.place < length P.waiting → stepped wide n' (embedded f v P) x ≡ carried f v (stepped r n P x)
  unfolding carried
  step_carried x h = go (first_no (step_questions r n P x)) refl
    where
      same : first_no (step_questions wide n' (embedded f v P) x) ≡ first_no (step_questions r n P x)
      same = ap first_no (questions_carried x h)

      go : (o : Verdict) → first_no (step_questions r n P x) ≡ o → stepped wide n' (embedded f v P) x ≡ carried f v (stepped r n P x)
      go (Questions.refused q) e = step_refused wide n' (embedded f v P) x q (same ∙ e) ∙ sym (ap (carried f v) (step_refused r n P x q e))
      go passed e =
          step_passed wide n' (embedded f v P) x (same ∙ e)
          ∙ ap₂ taken (deed_carried x.place h (move_of r.domain x.move)) (moved_carried x.place h (move_of r.domain x.move))
          ∙ sym (ap (carried f v) (step_passed r n P x e))
