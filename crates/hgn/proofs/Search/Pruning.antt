-- A search that leaves out the steps a rule names finds the best steps where none of them is left out. Assumes nothing.
use Prim.Native.Nat.{ℕ, zero, suc, ◌≤◌}
use mathlib.Core.Path.{◌≡◌, refl, sym, ap, ◌∙◌, subst}
use mathlib.Core.Bool.{Bool, true, false, cond}
use mathlib.Core.Logic.{inl, inr}
use mathlib.Core.List.{List, [], ◌∷◌, Memᴰ}
use mathlib.Core.Option.{Option, none, some, map, map-eq-none_iff, map-eq-some_iff, some-injective, none-ne-some, some-ne-none}
use lib.ListN.{length}
use Rattle.hgn.specs.Lists.{first_some}
use Rattle.hgn.specs.Network.{Waiting}
use Rattle.hgn.specs.Run.{Step, Problem, Rules, Deed, Stepped, refused, taken, stepped, run_by}
use Rattle.hgn.specs.Search.{Earlier, lower_place, lower_move, same_step, candidates, no_steps}
use Rattle.hgn.proofs.Run.Runs.{stopped≢accepted, ended_nothing, ended_waiting}
use Rattle.hgn.proofs.Search.Candidates.{Before, first_member, none_all, is_candidate, first_candidate}
use Rattle.hgn.proofs.Search.Best.{Runs, Best, runs_tail, runs_cons, none_earlier}

-- Whether a step is left out, by: the steps left after it, the problem before the last step, the last step, the problem before this step,
-- this step, the problem after it.
abbrev pub Rule : Type 0
Rule = ℕ → Problem → Step → Problem → Step → Problem → Bool

-- What is found behind a step: nothing where it is refused or left out. `next` searches on from the problem it leaves.
unfoldable pub behind : Rule → ℕ → Problem → Step → Problem → (Problem → Option (List Step)) → Step → Stepped → Option (List Step)
behind rule left P₀ y P next x (refused q) = none
behind rule left P₀ y P next x (taken deed P') = cond (rule left P₀ y P x P') none (map (λ xs. x ∷ xs) (next P'))

-- The first trace of exactly so many steps, none left out, from step `n` and a problem. The step before was `y`, from `P₀`.
unfoldable pub kept_of : Rule → ℕ → Rules → Problem → Step → ℕ → Problem → Option (List Step)
kept_of rule zero r P₀ y n P = no_steps P.waiting
kept_of rule (suc k) r P₀ y n P =
    first_some
    (λ x. behind rule k P₀ y P (λ P'. kept_of rule k r P x (suc n) P') x (stepped r n P x))
    (candidates r.domain P.waiting)

-- Along the run of the steps none is left out.
pub data Kept (rule : Rule) (r : Rules) : Problem → Step → ℕ → Problem → List Step → Type 0 where
  kept_end : {P₀ P : Problem} {y : Step} {n : ℕ} → Kept rule r P₀ y n P []
  kept_step : {P₀ P P' : Problem} {y x : Step} {n : ℕ} {xs : List Step} {deed : Deed}
      → stepped r n P x ≡ taken deed P' → rule (length xs) P₀ y P x P' ≡ false
      → Kept rule r P x (suc n) P' xs → Kept rule r P₀ y n P (x ∷ xs)

-- The trace of no steps is found exactly where it is accepted.
none_left : (r : Rules) (n : ℕ) (P : Problem) (xs : List Step) → no_steps P.waiting ≡ some xs → Runs r n P xs × (length xs ≡ 0)
unfolding no_steps run_by
none_left r n P xs = go P.waiting
  where
    go : (w : List Waiting) → no_steps w ≡ some xs → Runs r n (record { state = P.state; waiting = w }) xs × (length xs ≡ 0)
    go [] e =
        subst (λ (xs : List Step). Runs r n (record { state = P.state; waiting = [] }) xs × (length xs ≡ 0)) (some-injective [] xs e)
        (([], P.state, ended_nothing n P.state), refl)
    go (g ∷ w) e = absurd (none-ne-some xs e)

left_none : (r : Rules) (n : ℕ) (P : Problem) → Runs r n P [] → no_steps P.waiting ≡ none → ⊥
unfolding no_steps run_by
left_none r n P h = go P.waiting h
  where
    go : (w : List Waiting) → Runs r n (record { state = P.state; waiting = w }) [] → no_steps w ≡ none → ⊥
    go [] h e = some-ne-none [] e
    go (g ∷ w) h e = stopped≢accepted (sym (ended_waiting n P.state g w) ∙ h.2)

module _ (rule : Rule) (r : Rules) where
  -- One step of the search.

  module _ (k : ℕ) (P₀ : Problem) (y : Step) (n : ℕ) (P : Problem) where
    abbrev tried : Step → Option (List Step)
    tried x = behind rule k P₀ y P (λ P'. kept_of rule k r P x (suc n) P') x (stepped r n P x)

    -- A step that is taken and not left out is searched behind.
    module _ (x : Step) {deed : Deed} {P' : Problem} (e : stepped r n P x ≡ taken deed P') (f : rule k P₀ y P x P' ≡ false) where
      tried_taken : tried x ≡ map (λ xs. x ∷ xs) (kept_of rule k r P x (suc n) P')
      unfolding behind
      tried_taken =
          ap (behind rule k P₀ y P (λ P'. kept_of rule k r P x (suc n) P') x) e
          ∙ ap (λ (b : Bool). cond b none (map (λ xs. x ∷ xs) (kept_of rule k r P x (suc n) P'))) f

      taken_none : tried x ≡ none → kept_of rule k r P x (suc n) P' ≡ none
      taken_none q = (map-eq-none_iff (λ (xs : List Step). x ∷ xs) (kept_of rule k r P x (suc n) P')).0 (sym tried_taken ∙ q)

      taken_some : (xs : List Step) → tried x ≡ some (x ∷ xs) → kept_of rule k r P x (suc n) P' ≡ some xs
      taken_some xs q =
          let t = (map-eq-some_iff (λ (xs : List Step). x ∷ xs) (kept_of rule k r P x (suc n) P')).0 (sym tried_taken ∙ q) in
          let v : t.0 ≡ xs = cc in
          t.1 ∙ ap {B = Option (List Step)} some v

    -- What is found by a step is found behind it.
    tried_some : (x : Step) (xs : List Step) → tried x ≡ some xs
        → (deed : Deed) × (P' : Problem) × (ys : List Step)
        × (stepped r n P x ≡ taken deed P') × (kept_of rule k r P x (suc n) P' ≡ some ys) × ((x ∷ ys) ≡ xs)
    unfolding behind
    tried_some x xs e = go (stepped r n P x) refl e
      where
        next : Problem → Option (List Step)
        next P' = kept_of rule k r P x (suc n) P'

        Found : Type 0
        Found =
            (deed : Deed) × (P' : Problem) × (ys : List Step)
            × (stepped r n P x ≡ taken deed P') × (next P' ≡ some ys) × ((x ∷ ys) ≡ xs)

        unless : (b : Bool) (deed : Deed) (P' : Problem) → stepped r n P x ≡ taken deed P'
            → cond b none (map (λ xs. x ∷ xs) (next P')) ≡ some xs → Found
        unless true deed P' q f = absurd (none-ne-some xs f)
        unless false deed P' q f =
            let t = (map-eq-some_iff (λ (xs : List Step). x ∷ xs) (next P')).0 f in
            (deed, P', t.0, q, t.1, t.2)

        go : (o : Stepped) → stepped r n P x ≡ o → behind rule k P₀ y P next x o ≡ some xs → Found
        go (refused q) h f = absurd (none-ne-some xs f)
        go (taken deed P') h f = unless (rule k P₀ y P x P') deed P' h f

    -- The first step found is tried with success, and each before it without.
    first_tried : length r.domain.actions ≤ 255 → (x : Step) (xs : List Step) → kept_of rule (suc k) r P₀ y n P ≡ some (x ∷ xs)
        → (tried x ≡ some (x ∷ xs)) × ((z : Step) → Memᴰ z (candidates r.domain P.waiting) → Before z x → tried z ≡ none)
    unfolding kept_of
    first_tried b x xs e =
        let c = first_candidate r.domain tried b P.waiting (x ∷ xs) e in
        let t = tried_some c.0 (x ∷ xs) c.2 in
        let q : c.0 ≡ x = cc in
        subst (λ (z : Step). (tried z ≡ some (x ∷ xs)) × ((t : Step) → Memᴰ t (candidates r.domain P.waiting) → Before t z → tried t ≡ none)) q (c.2, c.3)

  -- What is found is accepted, and as long as asked.
  pub kept_sound : (k : ℕ) (P₀ : Problem) (y : Step) (n : ℕ) (P : Problem) (xs : List Step)
      → kept_of rule k r P₀ y n P ≡ some xs → Runs r n P xs × (length xs ≡ k)
  unfolding kept_of
  kept_sound zero P₀ y n P xs e = none_left r n P xs e
  kept_sound (suc k) P₀ y n P xs e =
      let c = first_member (tried k P₀ y n P) (candidates r.domain P.waiting) xs e in
      let t = tried_some k P₀ y n P c.0 xs c.2 in
      let i = kept_sound k P c.0 (suc n) t.1 t.2 t.4 in
      subst (λ (xs : List Step). Runs r n P xs × (length xs ≡ suc k)) t.5 (runs_cons r n P c.0 t.2 t.3 i.0, ap suc i.1)

  -- Where steps are accepted and none is left out, something of their length is found.
  pub kept_found : (P₀ : Problem) (y : Step) (n : ℕ) (P : Problem) (xs : List Step)
      → Kept rule r P₀ y n P xs → Runs r n P xs → kept_of rule (length xs) r P₀ y n P ≡ none → ⊥
  unfolding kept_of
  kept_found P₀ y n P [] h t e = left_none r n P t e
  kept_found P₀ y n P (x ∷ xs) (kept_step {P' = P'} {deed = deed} p q h) t e =
      kept_found P x (suc n) P' xs h (runs_tail r n P x xs p t)
      (taken_none (length xs) P₀ y n P x p q
      (none_all (tried (length xs) P₀ y n P) (candidates r.domain P.waiting) e x (is_candidate r n P x deed P' p)))

  module _ (b : length r.domain.actions ≤ 255) where
    not_before : (P₀ : Problem) (y : Step) (n : ℕ) (P : Problem) (x z : Step) (xs ys : List Step) → Before x z
        → Kept rule r P₀ y n P (x ∷ xs) → Runs r n P (x ∷ xs) → kept_of rule (suc (length xs)) r P₀ y n P ≡ some (z ∷ ys) → ⊥
    not_before P₀ y n P x z xs ys l (kept_step {P' = P'} {deed = deed} p q h) t e =
        kept_found P x (suc n) P' xs h (runs_tail r n P x xs p t)
        (taken_none (length xs) P₀ y n P x p q
        ((first_tried (length xs) P₀ y n P b z ys e).1 x (is_candidate r n P x deed P' p) l))

    -- Accepted steps of which none is left out are not earlier than what is found of their length.
    pub kept_earliest : (P₀ : Problem) (y : Step) (n : ℕ) (P : Problem) {xs ys : List Step} → Earlier ys xs
        → Kept rule r P₀ y n P ys → Runs r n P ys → kept_of rule (length ys) r P₀ y n P ≡ some xs → ⊥
    kept_earliest P₀ y n P (lower_place {x} {y = z} {xs} {ys} l) h t e = not_before P₀ y n P x z xs ys (inl l) h t e
    kept_earliest P₀ y n P (lower_move {x} {y = z} {xs} {ys} o l) h t e = not_before P₀ y n P x z xs ys (inr (o, l)) h t e
    kept_earliest P₀ y n P (same_step {x} {xs} {ys} l) (kept_step {P' = P'} p q h) t e =
        kept_earliest P x (suc n) P' l h (runs_tail r n P x xs p t)
        (taken_some (length xs) P₀ y n P x p q ys (first_tried (length xs) P₀ y n P b x ys e).0)

    -- The best steps are found where none of them is left out.
    pub kept_best : (P₀ : Problem) (y : Step) (n : ℕ) (P : Problem) (xs : List Step) → Best r n P xs
        → Kept rule r P₀ y n P xs → kept_of rule (length xs) r P₀ y n P ≡ some xs
    kept_best P₀ y n P xs best h = go (kept_of rule (length xs) r P₀ y n P) refl
      where
        go : (o : Option (List Step)) → kept_of rule (length xs) r P₀ y n P ≡ o → kept_of rule (length xs) r P₀ y n P ≡ some xs
        go none e = absurd (kept_found P₀ y n P xs h best.runs e)
        go (some ys) e =
            let t = kept_sound (length xs) P₀ y n P ys e in
            e ∙ ap {B = Option (List Step)} some
            (none_earlier ys xs t.1 (best.earliest ys t.0 t.1) (λ l. kept_earliest P₀ y n P l h best.runs e))
