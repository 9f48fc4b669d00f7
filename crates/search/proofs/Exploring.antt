-- The loops over places and moves, step by step. Assumes nothing.
use Prim.Native.Nat.{ℕ, suc, ◌+◌, ◌-◌, ◌<◌, ◌≤◌, max}
use Rattle.std.specs.Prelude.{Ok, Err}
use native.Mathlib.Omega.{arith}
use native.Mathlib.Numerals.{add-one}
use mathlib.Core.Path.{◌≡◌, refl, ap, sym, subst, ◌∙◌}
use mathlib.Core.Bool.{Bool, true, false, not, cond}
use mathlib.Core.Logic.{inl, inr, ⊎_elim}
use mathlib.Core.List.{List, [], ◌∷◌}
use mathlib.Core.Option.{Option, none, some, map, or_else}
use lib.Dec.{eqb, leb}
use lib.ListN.{length}
use borrow.Author.Tests.{eqb-true, eqb-false, leb-true, leb-false}
use Rattle.hgn.specs.Meaning.{Domain}
use Rattle.hgn.specs.Network.{Waiting, free, goal_at}
use Rattle.hgn.specs.Run.{Step, first_method, Problem, Rules, moved}
use Rattle.hgn.specs.Questions.{passed}
use Rattle.hgn.specs.Shop.{domain, action_count, method_count, check_shop}
use Rattle.hgn.specs.Trace.{step}
use Rattle.hgn.specs.Replay.{rules_of}
use Rattle.hgn.specs.Search.{moves_of, no_steps}
use Rattle.hgn.proofs.Logic.Tests.{false_not_true}
use Rattle.hgn.proofs.Sheets.Checked.{shop_counts}
use Rattle.step.specs.Moves.{Known, known_of}
use Rattle.sheet_index.specs.Tables.{Indexed}
use Rattle.step.specs.declared.moves.Move.{Move}
use Rattle.step.specs.declared.moves.Move.TheVariants.{Release, Act, Use}
use Rattle.step.specs.declared.moves.Choice.{Choice}
use Rattle.sheet_index.proofs.Tables.{shop_passes}
use Rattle.search_theory.specs.Rules.{too_few_left}
use Rattle.search_theory.specs.Pruned.{pruned_of, move_at, moves_from, places_from}
use Rattle.search_theory.proofs.Loops.{moves_count, moves_next, moves_end, places_next, not_free_none, pruned_places}
use Rattle.search.specs.Founds.{steps_from, Covers, Finds}
use Rattle.search_pruning.specs.Tests.{nth_move, move_number, step_of, crowded}
use Rattle.search.specs.Trials.{tried, Suffices, Open}
use Rattle.search.specs.declared.explore.Node.{Node}
use Rattle.search.specs.declared.found.Steps.{Steps}
use Rattle.search.specs.declared.found.Exhausted.{Exhausted}
use Rattle.search.proofs.Trying.{crowded_out, open_few, open_kept, open_none}

-- Which lengths are covered.
module _ {left k : ℕ} where
  pub covers_long : (exhausted : ℕ) → Covers exhausted left k → left ≤ k
  covers_long exhausted = ⊎_elim (λ e. omega arith) (λ h. h.1)

  -- Where a branch ran out of steps, only its own.
  pub covers_own : {exhausted : ℕ} → 0 < exhausted → Covers exhausted left k → k ≡ left
  covers_own e = ⊎_elim (λ h. h) (λ h. let z = h.0 in absurd (omega arith))

  covers_left : (a b : ℕ) → Covers (max a b) left k → Covers a left k
  covers_left a b = ⊎_elim (λ h. inl h) (λ h. let z = h.0 in inr (omega arith, h.1))

  covers_right : (a b : ℕ) → Covers (max a b) left k → Covers b left k
  covers_right a b = ⊎_elim (λ h. inl h) (λ h. let z = h.0 in inr (omega arith, h.1))

  -- After a turn of a loop each covered length was covered before, and nothing is found with it: where a search told of more branches,
  pub covers_more : {B : Type 0} {found : ℕ → Option B} {before after others m : Exhausted} → after ≡ m → m.0 ≡ max before.0 others.0
      → ((k : ℕ) → Covers others.0 left k → found k ≡ none) → Covers after.0 left k → Covers before.0 left k × (found k ≡ none)
  covers_more e is none_with v =
      let u = subst (λ (n : ℕ). Covers n left k) (ap (λ (x : Exhausted). x.0) e ∙ is) v in
      (covers_left _ _ u, none_with k (covers_right _ _ u))

  -- and where their number stays.
  pub covers_same : {B : Type 0} {found : Option B} {before after : Exhausted} → after ≡ before → (Covers before.0 left k → found ≡ none)
      → Covers after.0 left k → Covers before.0 left k × (found ≡ none)
  covers_same e none_with v =
      let u = subst (λ (x : Exhausted). Covers x.0 left k) e v in
      (u, none_with u)

-- A test that was denied.
pub not_so : (b : Bool) → not b ≡ true → b ≡ false
not_so true e = sym e
not_so false e = refl

pub so : (b : Bool) → not b ≡ false → b ≡ true
so true e = refl
so false e = sym e

-- A move can tell nothing where a branch ran out of steps before and the move is crowded.
pub cannot_tell : (b c : Bool) {r : Bool} → r ≡ cond b (not c) true → r ≡ false → (b ≡ true) × (c ≡ true)
cannot_tell true true e f = (refl, refl)
cannot_tell true false e f = absurd (false_not_true _ f e)
cannot_tell false c e f = absurd (false_not_true _ f e)

-- What is found with a step from `P`, where `k` steps may be taken in all. The step before was `node`'s last, from `P₀`.
abbrev pub found_by : List ℕ → Problem → Problem → Node → ℕ → Step → Option (List Step)
found_by shop P₀ P node k = tried (k - 1) (rules_of shop) P₀ (step_of node.last) node.number P

module _ (f : Step → Option (List Step)) (d : Domain) where
  -- Past a move by which nothing is found.
  pub move_past : (p i : ℕ) → i < length (moves_of d) → f (step (move_at d i) p) ≡ none → moves_from f d p i ≡ moves_from f d p (suc i)
  unfolding or_else
  move_past p i h e = moves_next f d p i h ∙ ap (λ (o : Option (List Step)). or_else o (moves_from f d p (suc i))) e

  pub move_found : (p i : ℕ) → i < length (moves_of d) → {xs : List Step} → f (step (move_at d i) p) ≡ some xs → moves_from f d p i ≡ some xs
  unfolding or_else
  move_found p i h e = moves_next f d p i h ∙ ap (λ (o : Option (List Step)). or_else o (moves_from f d p (suc i))) e

  -- Past a place where nothing is found.
  pub place_past : (w : List Waiting) (p : ℕ) → p < length w → moves_from f d p 0 ≡ none → places_from f d w p ≡ places_from f d w (p + 1)
  unfolding or_else
  place_past w p h e =
      places_next f d w p h ∙ ap (λ (o : Option (List Step)). or_else o (places_from f d w (suc p))) e
      ∙ ap {B = Option (List Step)} (places_from f d w) (sym (add-one p))

  pub place_found : (w : List Waiting) (p : ℕ) → p < length w → {xs : List Step} → moves_from f d p 0 ≡ some xs → places_from f d w p ≡ some xs
  unfolding or_else
  place_found w p h e = places_next f d w p h ∙ ap (λ (o : Option (List Step)). or_else o (places_from f d w (suc p))) e

-- Move `i` of the known moves.
module _ {shop order table : List ℕ} (ix : Indexed shop order table) {i actions all : ℕ} (a : actions ≡ action_count shop)
    (e : all ≡ action_count shop + method_count shop) (h : i ≤ all) {m : Move} (is : m ≡ nth_move i actions) where
  nth_is : m ≡ nth_move i (action_count shop)
  nth_is = is ∙ ap (nth_move i) a

  pub nth_known : Known (action_count shop) (method_count shop) m
  nth_known = subst (Known (action_count shop) (method_count shop)) (sym nth_is) (go (eqb i 0) (leb i (action_count shop)) refl refl)
    where
      go : (z b : Bool) → eqb i 0 ≡ z → leb i (action_count shop) ≡ b
          → Known (action_count shop) (method_count shop) (cond z Release (cond b (Act i) (Use (i - action_count shop - 1))))
      go true b p q = tt
      go false true p q = (omega (arith, eqb-false i 0 p), leb-true i (action_count shop) q)
      go false false p q = omega (arith, leb-false i (action_count shop) q)

  nth_number : move_number m ≡ move_at (domain shop) i
  unfolding move_at
  nth_number = ap move_number nth_is ∙ rw (shop_counts shop (shop_passes ix)).0 (go (eqb i 0) (leb i (action_count shop)) refl refl)
    where
      go : (z b : Bool) → eqb i 0 ≡ z → leb i (action_count shop) ≡ b
          → move_number (cond z Release (cond b (Act i) (Use (i - action_count shop - 1)))) ≡ cond b i (first_method + (i - suc (action_count shop)))
      go true true p q = sym (eqb-true i 0 p)
      go true false p q = absurd (omega (arith, eqb-true i 0 p, leb-false i (action_count shop) q))
      go false true p q = refl
      go false false p q = omega arith

  nth_inside : i < length (moves_of (domain shop))
  nth_inside = omega (arith, moves_count (domain shop), (shop_counts shop (shop_passes ix)).0, (shop_counts shop (shop_passes ix)).1)

  -- At a place, by what is found with that move.
  module _ (f : Step → Option (List Step)) (p : ℕ) where
    pub nth_past : f (step (move_number m) p) ≡ none → moves_from f (domain shop) p i ≡ moves_from f (domain shop) p (i + 1)
    nth_past q =
        move_past f (domain shop) p i nth_inside (ap (λ (k : ℕ). f (step k p)) (sym nth_number) ∙ q)
        ∙ ap (moves_from f (domain shop) p) (sym (add-one i))

    pub nth_found : {xs : List Step} → f (step (move_number m) p) ≡ some xs → moves_from f (domain shop) p i ≡ some xs
    nth_found q = move_found f (domain shop) p i nth_inside (ap (λ (k : ℕ). f (step k p)) (sym nth_number) ∙ q)

pub moves_done : (shop : List ℕ) (passes : check_shop shop ≡ passed) (f : Step → Option (List Step)) (p i all : ℕ) → all ≡ action_count shop + method_count shop → all < i
    → moves_from f (domain shop) p i ≡ none
moves_done shop passes f p i all e h =
    moves_end f (domain shop) p i (omega (arith, moves_count (domain shop), (shop_counts shop passes).0, (shop_counts shop passes).1))

-- The place routine's ends: with no step left, a trace is found where nothing waits.
pub ends_found : (r : Rules) (P₀ : Problem) (y : Step) (n : ℕ) (P : Problem) (f : Steps) → length P.waiting ≡ 0
    → pruned_of 0 r P₀ y n P ≡ some (steps_from n 0 f)
unfolding pruned_of no_steps steps_from
ends_found r P₀ y n P f e = go P.waiting e
  where
    go : (w : List Waiting) → length w ≡ 0 → no_steps w ≡ some []
    go [] e = refl
    go (g ∷ w) e = absurd (omega arith)

pub ends_none : (r : Rules) (P₀ : Problem) (y : Step) (n : ℕ) (P : Problem) → (length P.waiting ≡ 0 → ⊥) → pruned_of 0 r P₀ y n P ≡ none
unfolding pruned_of no_steps
ends_none r P₀ y n P e = go P.waiting e
  where
    go : (w : List Waiting) → (length w ≡ 0 → ⊥) → no_steps w ≡ none
    go [] e = absurd (e refl)
    go (g ∷ w) e = refl

-- What is found with an open step, by what is found from the problem that it leaves.
module _ {shop order table : List ℕ} (ix : Indexed shop order table) {P₀ : Problem} {y : Step} {P : Problem} (x : Choice)
    (o : Open shop P₀ y P x) (n left : ℕ) (h : 1 ≤ left) where
  abbrev by_step : ℕ → Option (List Step)
  by_step k = tried (k - 1) (rules_of shop) P₀ y n P (step_of x)

  abbrev P' : Problem
  P' = moved (domain shop) n P x.place.0 (known_of x.mv)

  abbrev onward : ℕ → Option (List Step)
  onward k = pruned_of k (rules_of shop) P (step_of x) (n + 1) P'

  on_number : (k : ℕ) → onward k ≡ pruned_of k (rules_of shop) P (step_of x) (suc n) P'
  on_number k = ap {B = Option (List Step)} (λ (i : ℕ). pruned_of k (rules_of shop) P (step_of x) i P') (add-one n)

  pub follow_crowded : crowded (left - 1) (length P.waiting) (known_of x.mv) ≡ true → (e : Exhausted) → 0 < e.0 → Finds by_step n left (Err e)
  follow_crowded c e few k v =
      let z = covers_own few v in
      ap {B = Option (List Step)} by_step z ∙ crowded_out ix P₀ y P x o.taken.taking.known (left - 1) n c

  pub follow_short : Suffices shop P' (left - 1) false → (e : Exhausted) → 0 < e.0 → Finds by_step n left (Err e)
  follow_short s e few k v =
      let z = covers_own few v in
      ap {B = Option (List Step)} by_step z
      ∙ ⊎_elim (λ short. open_few ix P₀ y P x o.taken.taking.known o (left - 1) n short)
      (λ none_here. open_none ix P₀ y P x o.taken.taking.known o (left - 1) n (none_here P (step_of x) (suc n))) s

  pub follow_none : (e : Exhausted) → Finds onward (n + 1) (left - 1) (Err e) → Finds by_step n left (Err e)
  follow_none e nothing k v =
      open_none ix P₀ y P x o.taken.taking.known o (k - 1) n (sym (on_number (k - 1)) ∙ nothing (k - 1) (down k v))
    where
      down : (k : ℕ) → Covers e.0 left k → Covers e.0 (left - 1) (k - 1)
      down k = ⊎_elim (λ q. inl (omega arith)) (λ v. inr (v.0, let w = v.1 in omega arith))

  pub follow_some : (s : Steps) → Finds onward (n + 1) (left - 1) (Ok s) → too_few_left (left - 1) P' ≡ false → (w : Steps) {move : ℕ} → move ≡ move_number x.mv
      → ((k : ℕ) → steps_from n (suc k) w ≡ step move x.place.0 ∷ steps_from (n + 1) k s) → Finds by_step n left (Ok w)
  follow_some s found few w e is =
      let z : suc (left - 1) ≡ left = omega arith in
      open_kept ix P₀ y P x o.taken.taking.known o (left - 1) n few
      ∙ ap {B = Option (List Step)} (map (λ xs. step_of x ∷ xs)) (sym (on_number (left - 1)) ∙ found)
      ∙ ap {B = Option (List Step)} (λ (j : ℕ). some (step j x.place.0 ∷ steps_from (n + 1) (left - 1) s)) (sym e)
      ∙ ap {B = Option (List Step)} some (sym (is (left - 1)) ∙ ap (λ (j : ℕ). steps_from n j w) z)

-- The place routine, with `left` steps to go.
module _ (r : Rules) (P₀ : Problem) (y : Step) (left n : ℕ) (P : Problem) where
  -- Nothing is found at a goal that is not free.
  pub held_none : (p : ℕ) → free P.waiting (goal_at P.waiting p) ≡ false → moves_from (tried left r P₀ y n P) r.domain p 0 ≡ none
  held_none p e = not_free_none r left P₀ y n P (λ x. pruned_of left r P x (suc n)) p 0 e

  -- The search of so many steps is the loop over all places.
  pub all_places : 1 ≤ left → pruned_of left r P₀ y n P ≡ places_from (tried (left - 1) r P₀ y n P) r.domain P.waiting 0
  all_places h =
      let z : suc (left - 1) ≡ left = omega arith in
      ap {B = Option (List Step)} (λ (j : ℕ). pruned_of j r P₀ y n P) (sym z) ∙ pruned_places (left - 1) r P₀ y n P
