-- The search that leaves steps out finds what the plain one finds: `pruned_searched`. Assumes nothing.
use Prim.Native.Nat.{ℕ, zero, suc, ◌≤◌}
use native.Mathlib.Omega.{arith}
use mathlib.Core.Path.{◌≡◌, refl, ap, ◌∙◌}
use mathlib.Core.Bool.{Bool, true, false, cond, ◌&&◌}
use mathlib.Core.List.{List, [], ◌∷◌}
use mathlib.Core.Option.{Option, none, map}
use lib.Dec.{eqb}
use lib.ListN.{length}
use borrow.Author.Tests.{le-ltb}
use Rattle.hgn.specs.Lists.{range}
use Rattle.hgn.specs.Meaning.{Domain}
use Rattle.hgn.specs.Questions.{passed}
use Rattle.hgn.specs.Run.{Step, Problem, problem_of, Rules, Stepped, refused, taken, stepped}
use Rattle.hgn.specs.Order.{order, check_order}
use Rattle.hgn.specs.Replay.{rules_of}
use Rattle.hgn.specs.Search.{candidates, first_shortest, searched, most_depth}
use Rattle.hgn.proofs.Logic.Tests.{false_or}
use Rattle.hgn.proofs.Sheets.Checked.{shop_of_order, shop_actions}
use Rattle.hgn.proofs.Network.Names.{Named, named_goals, named_next}
use Rattle.hgn.proofs.Search.Best.{Best, best_head, best_tail}
use Rattle.hgn.proofs.Search.Candidates.{first_cong}
use Rattle.hgn.proofs.Search.Pruning as Pruning
use Rattle.hgn.proofs.Search.Pruning.{kept_of, Kept, kept_end, kept_step}
use Rattle.hgn.proofs.Search.Shortest.{pruned_is_plain}
use Rattle.search_theory.specs.Rules.{is_earlier, commutes_with_last, left_out}
use Rattle.search_theory.specs.Pruned.{behind, pruned_of, no_step, pruned_shortest}
use Rattle.search_theory.proofs.TooFew.{few_best}
use Rattle.search_theory.proofs.Lower.{lower_best}
use Rattle.search_theory.proofs.NoEffect.{no_effect_best}
use Rattle.search_theory.proofs.Swaps.{first_best}

-- The search is the general one with the rule `left_out r`.
pub pruned_is_kept : (k : ℕ) (r : Rules) (P₀ : Problem) (y : Step) (n : ℕ) (P : Problem)
    → pruned_of k r P₀ y n P ≡ kept_of (left_out r) k r P₀ y n P
unfolding pruned_of kept_of behind Pruning.behind
pruned_is_kept zero r P₀ y n P = refl
pruned_is_kept (suc k) r P₀ y n P =
    first_cong _ _ (candidates r.domain P.waiting) (λ x. same x (λ P'. pruned_is_kept k r P x (suc n) P') (stepped r n P x))
  where
    same : (x : Step) → ((P' : Problem) → pruned_of k r P x (suc n) P' ≡ kept_of (left_out r) k r P x (suc n) P')
        → (o : Stepped) → behind r k P₀ y P (λ P'. pruned_of k r P x (suc n) P') x o
        ≡ Pruning.behind (left_out r) k P₀ y P (λ P'. kept_of (left_out r) k r P x (suc n) P') x o
    same x ih (refused q) = refl
    same x ih (taken deed P') = ap {B = Option (List Step)} (λ o. cond (left_out r k P₀ y P x P') none (map (λ xs. x ∷ xs) o)) (ih P')

-- The first of the steps, if there is one, could not have gone before `y`.
abbrev Follows : Domain → Problem → Step → List Step → Type 0
Follows d P₀ y [] = Unit {0}
Follows d P₀ y (x ∷ xs) = commutes_with_last d P₀ y x ≡ false

-- Nothing goes before a release at place 0.
none_first : (d : Domain) (x : Step) → is_earlier d no_step x ≡ false
unfolding is_earlier
none_first d x = rw (le-ltb x.place 0 (omega arith), le-ltb x.move 0 (omega arith)) (go (eqb x.place 0))
  where
    go : (b : Bool) → (b && false) ≡ false
    go true = refl
    go false = refl

follows_none : (d : Domain) (P : Problem) (xs : List Step) → Follows d P no_step xs
unfolding commutes_with_last
follows_none d P [] = tt
follows_none d P (x ∷ xs) = rw (none_first d x) refl

-- No step of the best trace could have gone before the one ahead of it.
best_follows : (r : Rules) (n : ℕ) (P : Problem) (y : Step) (xs : List Step) → Named n P.waiting → length xs ≤ r.limit
    → Best r n P (y ∷ xs) → Follows r.domain P y xs
best_follows r n P y [] h l b = tt
best_follows r n P y (x ∷ xs) h l b = first_best r n P y x xs h b l

-- No step of the best trace is left out.
best_kept : (r : Rules) (P₀ : Problem) (y : Step) (n : ℕ) (P : Problem) (xs : List Step) → Named n P.waiting → length xs ≤ r.limit
    → Best r n P xs → Follows r.domain P₀ y xs → Kept (left_out r) r P₀ y n P xs
unfolding left_out
best_kept r P₀ y n P [] h l b f = kept_end
best_kept r P₀ y n P (x ∷ xs) h l b f =
    let t = best_head b in
    let rest = best_tail b t.2 in
    kept_step t.2
    (false_or _ _ (no_effect_best r n P x xs h b)
    (false_or _ _ (lower_best r n P x xs b)
    (false_or _ _ (few_best r (suc n) t.1 xs rest.runs) f)))
    (best_kept r P x (suc n) t.1 xs (named_next r n P x t.0 t.1 h t.2) (omega arith) rest
    (best_follows r n P x xs h (omega arith) b))

-- Under any rules, of a search that goes no deeper than the limit on waiting goals.
pub pruned_shortest_law : (depth : ℕ) (r : Rules) (P : Problem) → length r.domain.actions ≤ 255 → depth ≤ r.limit → Named 0 P.waiting
    → pruned_shortest depth r P ≡ first_shortest depth r P
unfolding pruned_shortest
pruned_shortest_law depth r P b m h =
    first_cong _ _ (range 0 (suc depth)) (λ k. pruned_is_kept k r P no_step 0 P)
    ∙ pruned_is_plain depth r P b (left_out r) no_step
    (λ xs best l. best_kept r P no_step 0 P xs h (omega arith) best (follows_none r.domain P xs))

-- On sheets that pass.
pub pruned_searched : (shop sheet : List ℕ) (depth : ℕ) → check_order shop sheet ≡ passed → depth ≤ most_depth
    → pruned_shortest depth (rules_of shop) (problem_of (order sheet)) ≡ searched shop sheet depth
unfolding searched
pruned_searched shop sheet depth e m =
    pruned_shortest_law depth (rules_of shop) (problem_of (order sheet)) (shop_actions shop (shop_of_order shop sheet e)) (omega arith)
    (named_goals (order sheet))
