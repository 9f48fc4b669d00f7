-- The steps of an accepted trace, counted by their moves; so moves that are needed are a least number of steps, below which a search finds
-- nothing. Assumes nothing.
use Prim.Native.Nat.{ℕ, suc, ◌+◌, ◌≤◌, ◌<◌}
use native.Mathlib.Omega.{arith}
use mathlib.Core.Path.{◌≡◌, refl, sym, ap, ◌∙◌}
use mathlib.Core.Bool.{true, false≢true}
use mathlib.Core.Logic.{◌≢◌, ⊎_elim}
use mathlib.Core.List.Memᴰ
use mathlib.Core.List.{List, [], ◌∷◌, map, Memᴰ}
use mathlib.Core.Option.{Option, none, some}
use lib.ListN.{length, take, drop, length-append, length-take, length-drop}
use lib.Seq.{split_at}
use Rattle.hgn.specs.Meaning.{Domain, network_of}
use Rattle.hgn.specs.State.{State}
use Rattle.hgn.specs.Network.{Waiting, goal_at, no_goal}
use Rattle.hgn.specs.Run.{Step, Move, release, act, use_method, unknown, move_of, Problem, Rules, Deed, stepped, accepted, run_by, run}
use Rattle.hgn.proofs.Sheets.Checked.{length_last_after_all}
use Rattle.hgn.proofs.Run.Steps.{Moved, took}
use Rattle.hgn.proofs.Network.Waiting.{length_enter}
use Rattle.hgn.proofs.Run.Runs.{ended_empty, resumes}
use Rattle.hgn.proofs.Search.Pruning.{kept_sound}
use Rattle.search_theory.specs.Rules.{left_out}
use Rattle.search_theory.specs.Pruned.{pruned_of}
use Rattle.search_theory.specs.Needed.{Needed, Hopeless, steps_of_move, steps_of_moves, Different}
use Rattle.search_theory.proofs.Places.{suits, into, problem, did}
use Rattle.search_theory.proofs.Pruned.{pruned_is_kept}

-- As many goals stand in a goal's place after a move as the move weighs.
length_into : (r : Rules) (n : ℕ) (g : Waiting) (m : Move) → suits r g m ≡ true → length (into r.domain n g m) ≡ steps_of_move r.domain m
unfolding suits into steps_of_move network_of
length_into r n g release e = refl
length_into r n g (act k) e = refl
length_into r n g (use_method m) e = simp (length-append, length_enter, length_last_after_all) (omega arith)
length_into r n g unknown e = absurd (false≢true e)

-- A step takes its goal off and puts those in.
weighs : {r : Rules} {n p : ℕ} {P P' : Problem} {m : Move} {deed : Deed} → p < length P.waiting
    → Moved r n P p m deed P' → suc (length P'.waiting) ≡ length P.waiting + steps_of_move r.domain m
weighs {r} {n} {p} {P} {P'} {m} h b =
    let w = P.waiting in
    let up_to : p ≡ length (take p w) = omega (arith, length-take p w) in
    let f = did (take p w) (goal_at w p) (drop (suc p) w) (ap (problem P.state) (split_at w p no_goal h)) up_to b in
    rw (f.leaves, length-append, length-append, length_into r n (goal_at w p) m f.suited, length-drop) (omega (arith, up_to))

pub steps_counted : (r : Rules) (n : ℕ) (P : Problem) (xs : List Step) (deeds : List Deed) (last : State)
    → run r n P xs ≡ accepted deeds last → length xs ≡ length P.waiting + steps_of_moves r.domain (map (λ x. move_of r.domain x.move) xs)
unfolding run_by steps_of_moves
steps_counted r n P [] deeds last e = omega (arith, ap {B = ℕ} length (ended_empty n P deeds last e).0)
steps_counted r n P (x ∷ xs) deeds last e =
    let f = resumes (stepped r) n P x xs deeds last e in
    let t = took x f.deed f.left f.first in
    omega (arith, weighs t.inside t.by, steps_counted r (suc n) f.left xs f.rest last f.goes_on)

module _ (d : Domain) where
  -- A list without one of its members: it weighs that much less, and every other member stays.
  without : {m : Move} (ys : List Move) → Memᴰ m ys
      → (zs : List Move) × (steps_of_moves d ys ≡ steps_of_move d m + steps_of_moves d zs) × ((x : Move) → Memᴰ x ys → x ≢ m → Memᴰ x zs)
  unfolding steps_of_moves
  without (y ∷ ys) (Memᴰ.head e) = (
    ys,
    ap (λ (k : Move). steps_of_move d k + steps_of_moves d ys) (sym e),
    λ x i o. ⊎_elim (λ q. absurd (o (q ∙ sym e))) (λ j. j) (Memᴰ.cases_cons i),
  )
  without (y ∷ ys) (Memᴰ.tail i) =
      let r = without ys i in (
        y ∷ r.0,
        omega (arith, r.1),
        λ x i o. ⊎_elim (λ q. Memᴰ.head q) (λ j. Memᴰ.tail (r.2 x j o)) (Memᴰ.cases_cons i),
      )
  without {m = m} [] x' = elim x' [ ]

  -- Different moves weigh at most as much as a list that has them all.
  steps_at_most : (ms ys : List Move) → Different ms → ((m : Move) → Memᴰ m ms → Memᴰ m ys) → steps_of_moves d ms ≤ steps_of_moves d ys
  unfolding steps_of_moves
  steps_at_most [] ys h c = omega arith
  steps_at_most (m ∷ ms) ys h c =
      let r = without ys (c m (Memᴰ.head refl)) in
      let rest = steps_at_most ms r.0 h.1 (λ x i. r.2 x (c x (Memᴰ.tail i)) (h.0 x i)) in
      omega (arith, r.1, rest)

-- A search of so many steps finds nothing where no list of so many is accepted: what it finds would be one.
none_found : (r : Rules) (P : Problem) (k : ℕ)
    → ((n : ℕ) (xs : List Step) (deeds : List Deed) (last : State) → run r n P xs ≡ accepted deeds last → length xs ≡ k → ⊥)
    → (P₀ : Problem) (y : Step) (n : ℕ) → pruned_of k r P₀ y n P ≡ none
none_found r P k h P₀ y n = go (pruned_of k r P₀ y n P) refl
  where
    go : (o : Option (List Step)) → pruned_of k r P₀ y n P ≡ o → o ≡ none
    go none e = refl
    go (some xs) e =
        let f = kept_sound (left_out r) r k P₀ y n P xs (sym (pruned_is_kept k r P₀ y n P) ∙ e) in
        absurd (h n xs f.0.0 f.0.1 f.0.2 f.1)

-- A search finds nothing where no list of steps is accepted.
pub none_hopeless : (r : Rules) (P : Problem) → Hopeless r P → (k : ℕ) (P₀ : Problem) (y : Step) (n : ℕ) → pruned_of k r P₀ y n P ≡ none
none_hopeless r P h k = none_found r P k (λ n xs deeds last e q. h n xs deeds last e)

module _ (r : Rules) (P : Problem) (ms : List Move) (h : Different ms) (c : (m : Move) → Memᴰ m ms → Needed r P m) where
  pub at_least : (n : ℕ) (xs : List Step) (deeds : List Deed) (last : State) → run r n P xs ≡ accepted deeds last
      → length P.waiting + steps_of_moves r.domain ms ≤ length xs
  at_least n xs deeds last e = omega (arith, steps_counted r n P xs deeds last e, steps_at_most r.domain ms _ h made)
    where
      made : (m : Move) → Memᴰ m ms → Memᴰ m (map (λ x. move_of r.domain x.move) xs)
      made m i = let f = c m i n xs deeds last e in Memᴰ.cast (sym f.2) (Memᴰ.map (λ x. move_of r.domain x.move) f.1)

  -- A search of fewer steps finds nothing.
  pub none_shorter : (k : ℕ) → k < length P.waiting + steps_of_moves r.domain ms → (P₀ : Problem) (y : Step) (n : ℕ) → pruned_of k r P₀ y n P ≡ none
  none_shorter k l = none_found r P k (λ n xs deeds last e q. omega (arith, at_least n xs deeds last e))
