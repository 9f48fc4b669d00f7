-- The first of the shortest accepted lists of steps, under any rules, from any step number and problem, one step at a time. Assumes nothing.
use Prim.Native.Nat.{ℕ, suc, ◌≤◌, ◌<◌}
use native.Mathlib.Omega.{arith}
use native.Mathlib.Nat.{le_of_suc-le-suc}
use mathlib.Core.Path.{◌≡◌, refl, sym, ap, ◌∙◌, subst, subst₂}
use mathlib.Core.Bool.{Bool, true, false}
use mathlib.Core.Logic.{◌⊎◌, inl, inr, ⊎_elim}
use mathlib.Core.List.{List, [], ◌∷◌, ◌++◌}
use lib.Dec.{ltb}
use lib.ListN.{length}
use borrow.Author.Tests.{ltb-true, ltb-false}
use Rattle.hgn.specs.State.{State}
use Rattle.hgn.specs.Run.{Step, Problem, Rules, Deed, taken, stepped, run, accepted}
use Rattle.hgn.specs.Search.{Earlier, lower_place, lower_move, same_step}
use Rattle.hgn.specs.Readings.{FirstDiffers, EarlierIs01s}
use Rattle.hgn.proofs.Run.Steps.{taken_problem}
use Rattle.hgn.proofs.Run.Runs.{resumes, resumed_accepts}

-- The steps are accepted, numbered from `n`.
abbrev pub Runs : Rules → ℕ → Problem → List Step → Type 0
Runs r n P xs = (deeds : List Deed) × (last : State) × (run r n P xs ≡ accepted deeds last)

pub record Best (r : Rules) (n : ℕ) (P : Problem) (xs : List Step) : Type 0 where
  pub runs : Runs r n P xs
  pub shortest : (ys : List Step) → Runs r n P ys → length xs ≤ length ys
  pub earliest : (ys : List Step) → Runs r n P ys → length ys ≡ length xs → ¬ Earlier ys xs

module _ (r : Rules) (n : ℕ) (P : Problem) (x : Step) (xs : List Step) where
  -- The first of accepted steps is taken, and the rest are accepted from there.
  pub runs_head : Runs r n P (x ∷ xs) → (deed : Deed) × (P' : Problem) × (stepped r n P x ≡ taken deed P') × Runs r (suc n) P' xs
  runs_head h =
      let f = resumes (stepped r) n P x xs h.0 h.1 h.2 in
      (f.deed, f.left, f.first, (f.rest, h.1, f.goes_on))

  module _ {deed : Deed} {P' : Problem} (e : stepped r n P x ≡ taken deed P') where
    pub runs_tail : Runs r n P (x ∷ xs) → Runs r (suc n) P' xs
    runs_tail h =
        let f = runs_head h in
        subst (λ (Q : Problem). Runs r (suc n) Q xs) (taken_problem (sym f.2 ∙ e)) f.3

    -- And back.
    pub runs_cons : Runs r (suc n) P' xs → Runs r n P (x ∷ xs)
    runs_cons h = (_, h.1, resumed_accepts (stepped r) n P x xs deed P' h.0 h.1 e h.2)

module _ {r : Rules} {n : ℕ} {P : Problem} {x : Step} {xs : List Step} (b : Best r n P (x ∷ xs)) where
  pub best_head : (deed : Deed) × (P' : Problem) × (stepped r n P x ≡ taken deed P')
  best_head = let f = runs_head r n P x xs b.runs in (f.0, f.1, f.2)

  -- The rest of the best steps are the best from there: others, put behind the first step, would be better from the start too.
  pub best_tail : {deed : Deed} {P' : Problem} → stepped r n P x ≡ taken deed P' → Best r (suc n) P' xs
  best_tail e = record {
    runs = runs_tail r n P x xs e b.runs;
    shortest = λ ys h. le_of_suc-le-suc (b.shortest (x ∷ ys) (runs_cons r n P x ys e h));
    earliest = λ ys h l k. b.earliest (x ∷ ys) (runs_cons r n P x ys e h) (ap suc l) (same_step k);
  }

-- Of two lists of one length, either they are equal or one is earlier.

abbrev pub Compared : {A : Type 0} → (A → A → Type 0) → A → A → Type 0
Compared R x y = (x ≡ y) ⊎ (R x y ⊎ R y x)

pub either_lower : (a b : ℕ) → Compared ◌<◌ a b
either_lower a b = go (ltb a b) refl (ltb b a) refl
  where
    go : (t : Bool) → ltb a b ≡ t → (u : Bool) → ltb b a ≡ u → Compared ◌<◌ a b
    go true p u q = inr (inl (ltb-true a b p))
    go false p true q = inr (inr (ltb-true b a q))
    go false p false q = inl (omega (arith, ltb-false a b p, ltb-false b a q))

pub either_earlier : (xs ys : List Step) → length xs ≡ length ys → Compared Earlier xs ys
either_earlier [] [] l = inl refl
either_earlier [] (y ∷ ys) l = absurd (omega arith)
either_earlier (x ∷ xs) [] l = absurd (omega arith)
either_earlier (x ∷ xs) (y ∷ ys) l = places (either_earlier xs ys (omega arith)) (either_lower x.place y.place)
  where
    rest : Compared Earlier xs ys → Compared Earlier (x ∷ xs) (x ∷ ys)
    rest (inl e) = inl (ap (λ (zs : List Step). x ∷ zs) e)
    rest (inr (inl e)) = inr (inl (same_step e))
    rest (inr (inr e)) = inr (inr (same_step e))

    same : x.place ≡ y.place → x.move ≡ y.move → x ≡ y
    same p m = λ i. record { move = m i; place = p i }

    moves : Compared Earlier xs ys → x.place ≡ y.place → Compared ◌<◌ x.move y.move → Compared Earlier (x ∷ xs) (y ∷ ys)
    moves ih p (inl m) = subst (λ (z : Step). Compared Earlier (x ∷ xs) (z ∷ ys)) (same p m) (rest ih)
    moves ih p (inr (inl m)) = inr (inl (lower_move p m))
    moves ih p (inr (inr m)) = inr (inr (lower_move (sym p) m))

    places : Compared Earlier xs ys → Compared ◌<◌ x.place y.place → Compared Earlier (x ∷ xs) (y ∷ ys)
    places ih (inl p) = moves ih p (either_lower x.move y.move)
    places ih (inr (inl p)) = inr (inl (lower_place p))
    places ih (inr (inr p)) = inr (inr (lower_place p))

-- Lists of one length, neither earlier, are equal.
pub none_earlier : (xs ys : List Step) → length xs ≡ length ys → ¬ Earlier xs ys → ¬ Earlier ys xs → xs ≡ ys
none_earlier xs ys l h k = ⊎_elim (λ e. e) (λ e. absurd (⊎_elim h k e)) (either_earlier xs ys l)

-- The first differing step, and back.
pub earlier_is_01s : EarlierIs01s
earlier_is_01s xs ys = (to, λ d. subst₂ Earlier (sym d.first_is) (sym d.second_is) (from d.zs d.x d.y d.us d.vs d.lower))
  where
    to : {xs ys : List Step} → Earlier xs ys → FirstDiffers xs ys
    to (lower_place l) = record { zs = []; x = _; y = _; us = _; vs = _; first_is = refl; second_is = refl; lower = inl l }
    to (lower_move e l) = record { zs = []; x = _; y = _; us = _; vs = _; first_is = refl; second_is = refl; lower = inr (e, l) }
    to (same_step {x = s} h) =
        let d = to h in
        record {
          zs = s ∷ d.zs;
          x = d.x;
          y = d.y;
          us = d.us;
          vs = d.vs;
          first_is = ap {B = List Step} (◌∷◌ s) d.first_is;
          second_is = ap {B = List Step} (◌∷◌ s) d.second_is;
          lower = d.lower;
        }

    from : (zs : List Step) (x y : Step) (us vs : List Step) → (x.place < y.place) ⊎ ((x.place ≡ y.place) × (x.move < y.move))
        → Earlier (zs ++ (x ∷ us)) (zs ++ (y ∷ vs))
    from [] x y us vs (inl l) = lower_place l
    from [] x y us vs (inr l) = lower_move l.0 l.1
    from (z ∷ zs) x y us vs l = same_step (from zs x y us vs l)
