-- The search by depth: what is found first, from one depth on. Assumes nothing.
use Prim.Native.Nat.{ℕ, zero, suc, ◌+◌, ◌-◌, ◌<◌, ◌≤◌}
use native.Mathlib.Omega.{arith}
use mathlib.Core.Path.{◌≡◌, refl, sym, ap, ◌∙◌}
use mathlib.Core.Bool.{Bool, true, false}
use mathlib.Core.List.{List}
use mathlib.Core.Option.{Option, none, some}
use lib.Dec.{leb}
use borrow.Author.Tests.{leb-true, leb-false}
use Rattle.hgn.specs.Lists.{range, first_some}
use Rattle.hgn.specs.Run.{Step, Problem, Rules}
use Rattle.search_theory.specs.Pruned.{pruned_of, no_step, pruned_shortest}

module _ {B : Type 0} (f : ℕ → Option B) (i k : ℕ) where
  some_here : (y : B) → f i ≡ some y → first_some f (range i (suc k)) ≡ some y
  unfolding range first_some
  some_here y e = rw (e, first_some)

  none_here : f i ≡ none → first_some f (range i (suc k)) ≡ first_some f (range (suc i) k)
  unfolding range first_some
  none_here e = rw (e, first_some)

module _ (depth : ℕ) (r : Rules) (P : Problem) where
  -- The first trace of so many steps.
  abbrev pub at_depth : ℕ → Option (List Step)
  at_depth k = pruned_of k r P no_step 0 P

  -- No trace of fewer than `i` steps is found.
  abbrev pub NoneBelow : ℕ → Type 0
  NoneBelow i = pruned_shortest depth r P ≡ first_some at_depth (range i (suc depth - i))

  none_below : NoneBelow 0
  unfolding pruned_shortest
  none_below = let q : suc depth ≡ suc depth - 0 = omega arith in ap {B = Option (List Step)} (λ (k : ℕ). first_some at_depth (range 0 k)) q

  pub found_first : (i : ℕ) → i ≤ depth → NoneBelow i → (xs : List Step) → at_depth i ≡ some xs → some xs ≡ pruned_shortest depth r P
  found_first i h below xs e =
      let q : suc depth - i ≡ suc (depth - i) = omega arith in
      sym (some_here at_depth i (depth - i) xs e)
      ∙ sym (below ∙ ap {B = Option (List Step)} (λ (k : ℕ). first_some at_depth (range i k)) q)

  pub none_next : (i : ℕ) → NoneBelow i → at_depth i ≡ none → NoneBelow (suc i)
  unfolding range first_some
  none_next i below e = go (leb i depth) refl
    where
      go : (b : Bool) → leb i depth ≡ b → NoneBelow (suc i)
      go true h =
          let p : i ≤ depth = leb-true i depth h in
          let q : suc depth - i ≡ suc (suc depth - suc i) = omega arith in
          below ∙ ap {B = Option (List Step)} (λ (k : ℕ). first_some at_depth (range i k)) q ∙ none_here at_depth i (suc depth - suc i) e
      go false h =
          let p : depth < i = leb-false i depth h in
          let q : suc depth - i ≡ 0 = omega arith in
          let z : 0 ≡ suc depth - suc i = omega arith in
          below ∙ ap {B = Option (List Step)} (λ (k : ℕ). first_some at_depth (range i k)) q
          ∙ ap {B = Option (List Step)} (λ (k : ℕ). first_some at_depth (range (suc i) k)) z

  -- Where none of fewer than `i` steps is found, the search may begin there.
  pub none_from : (i : ℕ) → ((k : ℕ) → k < i → at_depth k ≡ none) → NoneBelow i
  none_from zero h = none_below
  none_from (suc i) h = none_next i (none_from i (λ k l. h k (omega arith))) (h i (omega arith))

  -- None at all.
  pub none_found : (i : ℕ) → depth < i → NoneBelow i → none ≡ pruned_shortest depth r P
  unfolding range first_some
  none_found i h below =
      let q : suc depth - i ≡ 0 = omega arith in
      sym (below ∙ ap {B = Option (List Step)} (λ (k : ℕ). first_some at_depth (range i k)) q)

  -- None of this length and of every longer one.
  pub none_longer : (m i : ℕ) → depth < i + m → NoneBelow i → ((k : ℕ) → i ≤ k → at_depth k ≡ none) → none ≡ pruned_shortest depth r P
  none_longer zero i h below none-at = none_found i (omega arith) below
  none_longer (suc m) i h below none-at =
      none_longer m (suc i) (omega arith) (none_next i below (none-at i (omega arith))) (λ k l. none-at k (omega arith))
