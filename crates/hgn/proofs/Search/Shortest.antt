-- The search finds the best steps within its depth, and so does one that leaves out none of them. Assumes nothing.
use Prim.Native.Nat.{ℕ, zero, suc, ◌≤◌, ◌<◌}
use native.Mathlib.Omega.{arith}
use native.Mathlib.Nat.{lt_of_not-le, le_of_suc-le-suc}
use mathlib.Core.Path.{◌≡◌, refl, sym, ap, ◌∙◌}
use mathlib.Core.Bool.{false}
use mathlib.Core.Logic.{◌≢◌}
use mathlib.Core.List.{List, [], ◌∷◌}
use mathlib.Core.Option.{Option, none, some, map}
use lib.ListN.{length}
use Rattle.hgn.specs.Lists.{range, first_some}
use Rattle.hgn.specs.Run.{Step, Problem, Rules, Stepped, refused, taken, stepped}
use Rattle.hgn.specs.Trace.{step}
use Rattle.hgn.specs.Search.{candidates, first_of, first_shortest}
use Rattle.hgn.proofs.Logic.Ranges.{range_within, within_range}
use Rattle.hgn.proofs.Search.Candidates.{no_value, none_all, all_none, first_cong, first_rising, found_rising, range_rising}
use Rattle.hgn.proofs.Search.Best.{Runs, Best, runs_head}
use Rattle.hgn.proofs.Search.Pruning.{Rule, behind, kept_of, Kept, kept_end, kept_step, kept_sound, kept_found, kept_earliest, kept_best}

-- The rule that leaves out no step: the search with it is the plain one.

-- Stands for the step before the first, which this rule does not look at.
abbrev no_step : Step
no_step = step 0 0

unfoldable pub never : Rule
never left P₀ y P x P' = false

pub plain_is_kept : (k : ℕ) (r : Rules) (P₀ : Problem) (y : Step) (n : ℕ) (P : Problem)
    → first_of k r n P ≡ kept_of never k r P₀ y n P
unfolding first_of kept_of behind never
plain_is_kept zero r P₀ y n P = refl
plain_is_kept (suc k) r P₀ y n P =
    first_cong _ _ (candidates r.domain P.waiting) (λ x. same x (λ P'. plain_is_kept k r P x (suc n) P') (stepped r n P x))
  where
    same : (x : Step) → ((P' : Problem) → first_of k r (suc n) P' ≡ kept_of never k r P x (suc n) P') → (o : Stepped)
        → elim o [
          | refused q ↦ none
          | taken deed P' ↦ map (λ xs. x ∷ xs) (first_of k r (suc n) P')
        ] ≡ behind never k P₀ y P (λ P'. kept_of never k r P x (suc n) P') x o
    same x ih (refused q) = refl
    same x ih (taken deed P') = ap (map (λ xs. x ∷ xs)) (ih P')

pub never_kept : (r : Rules) (P₀ : Problem) (y : Step) (n : ℕ) (P : Problem) (xs : List Step)
    → Runs r n P xs → Kept never r P₀ y n P xs
unfolding never
never_kept r P₀ y n P [] t = kept_end
never_kept r P₀ y n P (x ∷ xs) t =
    let f = runs_head r n P x xs t in
    kept_step f.2 refl (never_kept r P x (suc n) f.1 xs f.3)

-- Where steps are accepted, the plain search of their length finds some.
pub runs_found : (r : Rules) (n : ℕ) (P : Problem) (xs : List Step) → Runs r n P xs → first_of (length xs) r n P ≢ none
runs_found r n P xs t e =
    kept_found never r P no_step n P xs (never_kept r P no_step n P xs t) t (sym (plain_is_kept (length xs) r P no_step n P) ∙ e)

-- What the plain search of one length finds is accepted, of that length.
pub first_sound : (k : ℕ) (r : Rules) (n : ℕ) (P : Problem) (xs : List Step) → first_of k r n P ≡ some xs
    → Runs r n P xs × (length xs ≡ k)
first_sound k r n P xs e = kept_sound never r k P no_step n P xs (sym (plain_is_kept k r P no_step n P) ∙ e)

-- The first found, where nothing shorter is, is best.
pub first_best : (r : Rules) → length r.domain.actions ≤ 255 → (n : ℕ) (P : Problem) (k : ℕ) (xs : List Step)
    → first_of k r n P ≡ some xs → ((j : ℕ) → j < k → first_of j r n P ≡ none) → Best r n P xs
first_best r b n P k xs e h =
    let t = first_sound k r n P xs e in
    record {
      runs = t.0;
      shortest = λ ys u.
          le_of_suc-le-suc (lt_of_not-le (λ (l : length ys < length xs). runs_found r n P ys u (h (length ys) (omega (arith, t.1)))));
      earliest = λ ys u l early.
          kept_earliest never r b P no_step n P early (never_kept r P no_step n P ys u) u
          (sym (plain_is_kept (length ys) r P no_step n P) ∙ ap (λ (k : ℕ). first_of k r n P) (l ∙ t.1) ∙ e);
    }

module _ (depth : ℕ) (r : Rules) (P : Problem) where
  -- Nothing is found where no steps within the depth are accepted, whatever is left out.
  pub none_shortest : (rule : Rule) (y : Step) → ((xs : List Step) → length xs ≤ depth → ¬ Runs r 0 P xs)
      → first_some (λ k. kept_of rule k r P y 0 P) (range 0 (suc depth)) ≡ none
  none_shortest rule y h =
      all_none (λ k. kept_of rule k r P y 0 P) (range 0 (suc depth))
      (λ k m. no_value (kept_of rule k r P y 0 P)
      (λ xs e.
      let t = kept_sound rule r k P y 0 P xs e in
      h xs (omega (arith, t.1, (range_within 0 (suc depth) k m).1)) t.0))

  -- And back, where nothing is left out.
  pub shortest_none : first_shortest depth r P ≡ none → (xs : List Step) → length xs ≤ depth → ¬ Runs r 0 P xs
  unfolding first_shortest
  shortest_none e xs l t =
      runs_found r 0 P xs t
      (none_all (λ k. first_of k r 0 P) (range 0 (suc depth)) e (length xs) (within_range 0 (suc depth) (length xs) (omega arith) (omega arith)))

  -- The plain search leaves out nothing.
  plain_shortest : (y : Step) → first_shortest depth r P ≡ first_some (λ k. kept_of never k r P y 0 P) (range 0 (suc depth))
  unfolding first_shortest
  plain_shortest y = first_cong (λ k. first_of k r 0 P) (λ k. kept_of never k r P y 0 P) (range 0 (suc depth)) (λ k. plain_is_kept k r P y 0 P)

  module _ (b : length r.domain.actions ≤ 255) where
    -- What is found is best.
    pub shortest_best : (xs : List Step) → first_shortest depth r P ≡ some xs → Best r 0 P xs × (length xs ≤ depth)
    unfolding first_shortest
    shortest_best xs e =
        let f = first_rising ◌<◌ (λ k. first_of k r 0 P) (λ i j p q. omega arith) (range 0 (suc depth)) (range_rising 0 (suc depth)) xs e in
        let i = range_within 0 (suc depth) f.0 f.1 in (
          first_best r b 0 P f.0 xs f.2 (λ j l. f.3 j (within_range 0 (suc depth) j (omega arith) (omega (arith, l, i.1))) l),
          omega (arith, i.1, (first_sound f.0 r 0 P xs f.2).1),
        )

    -- The best steps within the depth are found where none of them is left out.
    pub kept_shortest : (rule : Rule) (y : Step) (xs : List Step) → Best r 0 P xs → Kept rule r P y 0 P xs → length xs ≤ depth
        → first_some (λ k. kept_of rule k r P y 0 P) (range 0 (suc depth)) ≡ some xs
    kept_shortest rule y xs best h l =
        found_rising ◌<◌ (λ k. kept_of rule k r P y 0 P) (range 0 (suc depth)) (range_rising 0 (suc depth)) xs (length xs)
        (within_range 0 (suc depth) (length xs) (omega arith) (omega arith))
        (kept_best rule r b P y 0 P xs best h)
        (λ k m p. no_value (kept_of rule k r P y 0 P)
        (λ ys e.
        let t = kept_sound rule r k P y 0 P ys e in
        omega (arith, p, best.shortest ys t.0, t.1)))

    pub best_found : (xs : List Step) → Best r 0 P xs → length xs ≤ depth → first_shortest depth r P ≡ some xs
    best_found xs best l = plain_shortest no_step ∙ kept_shortest never no_step xs best (never_kept r P no_step 0 P xs best.runs) l

    -- A search that leaves out no step of the best is the plain one.
    pub pruned_is_plain : (rule : Rule) (y : Step) → ((xs : List Step) → Best r 0 P xs → length xs ≤ depth → Kept rule r P y 0 P xs)
        → first_some (λ k. kept_of rule k r P y 0 P) (range 0 (suc depth)) ≡ first_shortest depth r P
    pruned_is_plain rule y h = go (first_shortest depth r P) refl
      where
        go : (o : Option (List Step)) → first_shortest depth r P ≡ o
            → first_some (λ k. kept_of rule k r P y 0 P) (range 0 (suc depth)) ≡ first_shortest depth r P
        go none e = none_shortest rule y (shortest_none e) ∙ sym e
        go (some xs) e = let t = shortest_best xs e in kept_shortest rule y xs t.0 (h xs t.0 t.1) t.1 ∙ sym e
