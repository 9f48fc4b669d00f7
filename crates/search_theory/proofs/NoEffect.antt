-- An action whose effects hold already does not stand on a shortest trace: without it the rest is accepted too. Assumes nothing.
use Prim.Native.Nat.{ℕ, zero, suc, ◌≤◌, ◌<◌}
use native.Mathlib.Nat.{lt_irrefl}
use native.Mathlib.Omega.{arith}
use mathlib.Core.Path.{◌≡◌, refl, sym, ap, ap₂, ◌∙◌, subst}
use mathlib.Core.Bool.{Bool, true, false, cond, beq, false≢true}
use mathlib.Core.List.{List, [], ◌∷◌}
use lib.Dec.{ltb}
use lib.ListN.{length, get_or, set}
use borrow.Author.Tests.{ltb-true, ltb-false, lt-ltb, le-ltb}
use Rattle.hgn.specs.Lists.{all}
use Rattle.hgn.specs.Meaning.{Literal}
use Rattle.hgn.specs.State.{State, assign, literal_holds, all_hold, atoms_of, γ}
use Rattle.hgn.specs.Network.{Waiting}
use Rattle.hgn.specs.Run.{Step, Move, move_of, Problem, Rules, Deed, accepted, run}
use Rattle.hgn.proofs.Logic.Tests.{and_true, beq_true, not_true_false}
use Rattle.hgn.proofs.Run.Steps.{Moved, by_release, by_action, by_method, took}
use Rattle.hgn.proofs.Network.Names.{Named}
use Rattle.hgn.proofs.Join.Renaming.{Injective, rename, later, later_accepted, run_renamed, list_kept}
use Rattle.hgn.proofs.Search.Best.{Runs, Best, runs_head}
use Rattle.search_theory.specs.Rules.{has_no_effect}

-- Setting an atom to the value it has changes nothing; an atom outside the state reads as false and can't be set.
set_same : (s : State) (a : ℕ) (b : Bool) → get_or s a false ≡ b → set s a b ≡ s
set_same [] a b e = refl
set_same (c ∷ s) zero b e = ap {B = State} (λ x. x ∷ s) (sym e)
set_same (c ∷ s) (suc a) b e = ap {B = State} (λ x. c ∷ x) (set_same s a b e)

assign_same : (s : State) (b : Bool) (ls : List Literal) → all_hold s ls ≡ true → assign b (atoms_of b ls) s ≡ s
unfolding all_hold all assign atoms_of literal_holds
assign_same s b [] e = refl
assign_same s b (l ∷ ls) e =
    let h = and_true (beq (get_or s l.atom false) l.sign) (all (literal_holds s) ls) e in
    go (beq l.sign b) refl (beq_true _ _ h.0) (assign_same s b ls h.1)
  where
    go : (x : Bool) → beq l.sign b ≡ x → get_or s l.atom false ≡ l.sign → assign b (atoms_of b ls) s ≡ s
        → assign b (cond x (l.atom ∷ atoms_of b ls) (atoms_of b ls)) s ≡ s
    go true q k ih = ap (assign b (atoms_of b ls)) (set_same s l.atom b (k ∙ beq_true l.sign b q)) ∙ ih
    go false q k ih = ih

pub effects_hold : (s : State) (ls : List Literal) → all_hold s ls ≡ true → γ s ls ≡ s
unfolding γ
effects_hold s ls e = ap (assign true (atoms_of true ls)) (assign_same s false ls e) ∙ assign_same s true ls e

-- The steps from `n` on are called one higher.
up : ℕ → ℕ → ℕ
up n k = cond (ltb k n) k (suc k)

module _ (n : ℕ) where
  up_below : (k : ℕ) → k < n → up n k ≡ k
  unfolding up
  up_below k h = rw (lt-ltb k n h)

  up_from : (k : ℕ) → n ≤ k → up n k ≡ suc k
  unfolding up
  up_from k h = rw (le-ltb k n h)

  up_injective : Injective (up n)
  up_injective a b e = go (ltb a n) refl (ltb b n) refl
    where
      go : (x : Bool) → ltb a n ≡ x → (y : Bool) → ltb b n ≡ y → a ≡ b
      go true h true k = sym (up_below a (ltb-true a n h)) ∙ e ∙ up_below b (ltb-true b n k)
      go true h false k =
          omega (arith, ltb-true a n h, ltb-false b n k, sym (up_below a (ltb-true a n h)) ∙ e ∙ up_from b (ltb-false b n k))
      go false h true k =
          omega (arith, ltb-false a n h, ltb-true b n k, sym (up_from a (ltb-false a n h)) ∙ e ∙ up_below b (ltb-true b n k))
      go false h false k = omega (arith, sym (up_from a (ltb-false a n h)) ∙ e ∙ up_from b (ltb-false b n k))

-- What is accepted from step `n` + 1 is accepted from step `n`: step numbers are only names.
pub one_lower : (r : Rules) (n : ℕ) (P : Problem) (xs : List Step) → Named n P.waiting → Runs r (suc n) P xs → Runs r n P xs
one_lower r n P xs h e = let own = later_accepted (rename 0 (up n)) (up n) _ e.0 e.1 renamed in (own.0, e.1, own.1)
  where
    renamed : later (rename 0 (up n)) (up n) (run r n P xs) ≡ accepted e.0 e.1
    renamed =
        sym (run_renamed 0 (up n) (up_injective n) r xs n (λ k l. up_from n (suc k) (omega arith) ∙ ap suc (sym (up_from n k l))) P)
        ∙ ap₂ (λ (k : ℕ) (l : List Waiting). run r k (record { state = P.state; waiting = l }) xs)
        (up_from n n (omega arith)) (list_kept (up n) n (up_below n) P.waiting h.fresh)
        ∙ e.2

no_effect_stays : {r : Rules} {n p : ℕ} {P P' : Problem} {deed : Deed} {m : Move}
    → Moved r n P p m deed P' → has_no_effect r.domain P.state m ≡ true → P' ≡ P
unfolding has_no_effect
no_effect_stays (by_release a) e = absurd (false≢true e)
no_effect_stays {P = P} (by_action a b) e = ap {B = Problem} (λ s. record { state = s; waiting = P.waiting }) (effects_hold P.state _ e)
no_effect_stays (by_method a b c) e = absurd (false≢true e)

pub no_effect_best : (r : Rules) (n : ℕ) (P : Problem) (x : Step) (xs : List Step) → Named n P.waiting → Best r n P (x ∷ xs)
    → has_no_effect r.domain P.state (move_of r.domain x.move) ≡ false
no_effect_best r n P x xs h b = not_true_false _ λ e.
    let f = runs_head r n P x xs b.runs in
    let stays = no_effect_stays (took x f.0 f.1 f.2).by e in
    lt_irrefl (length xs) (b.shortest xs (one_lower r n P xs h (subst (λ (Q : Problem). Runs r (suc n) Q xs) stays f.3)))
