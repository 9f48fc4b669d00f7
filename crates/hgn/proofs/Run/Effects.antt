-- γ is that of 000, atom by atom, and states are sets of atoms. Assumes nothing.
use Prim.Native.Nat.{ℕ, ◌<◌}
use mathlib.Core.Path.{◌≡◌, refl, sym, ap, ◌∙◌}
use mathlib.Core.Bool.{Bool, true, false, cond, ◌&&◌, ◌||◌, or-true, beq, false≢true}
use mathlib.Core.Logic.{◌↔◌, inl, inr, ⊎_elim}
use mathlib.Core.List.{List, [], ◌∷◌, Memᴰ}
use lib.Dec.{eqb}
use lib.ListN.{length, get_or, set, replicate, length-set, length-replicate}
use lib.Seq.{get_or-set_same, get_or-set_other}
use borrow.Author.Tests.{eqb-true, eqb-false, eq-eqb}
use Rattle.hgn.specs.Lists.{any, elem}
use Rattle.hgn.specs.Meaning.{Literal, Order}
use Rattle.hgn.specs.State.{State, most_atoms, empty_state, assign, atoms_of, γ}
use Rattle.hgn.specs.Run.{Step, Move, Problem, start_of, Rules, Deed}
use Rattle.hgn.specs.Readings.{EffectsAreGamma, In, InEffect, Reached, first, next, StatesAreSetsOfAtoms}
use Rattle.hgn.proofs.Logic.Tests.{beq_true, eq_beq, replicate_default, elem_true, true_elem}
use Rattle.hgn.proofs.Run.Steps.{Moved, by_release, by_action, by_method, took}

pub length_assign : (b : Bool) (atoms : List ℕ) (s : State) → length (assign b atoms s) ≡ length s
unfolding assign
length_assign b [] s = refl
length_assign b (a ∷ atoms) s = length_assign b atoms (set s a b) ∙ length-set s a b

-- An atom after some were put in or taken out.
get_d_assign : (b : Bool) (atoms : List ℕ) (s : State) (p : ℕ) → p < length s
    → get_or (assign b atoms s) p false ≡ cond (elem p atoms) b (get_or s p false)
unfolding assign elem any
get_d_assign b [] s p h = refl
get_d_assign b (a ∷ atoms) s p h = get_d_assign b atoms (set s a b) p (rw length-set h) ∙ go (eqb p a) refl (elem p atoms)
  where
    go : (x : Bool) → eqb p a ≡ x → (y : Bool) → cond y b (get_or (set s a b) p false) ≡ cond (x || y) b (get_or s p false)
    go true e true = refl
    go true e false = rw (← eqb-true p a e) (get_or-set_same s p b false h)
    go false e true = refl
    go false e false = get_or-set_other s a p b false (eqb-false p a e)

elem_atoms : (b : Bool) (p : ℕ) (l : Literal) (ls : List Literal)
    → elem p (atoms_of b (l ∷ ls)) ≡ (beq l.sign b && eqb p l.atom) || elem p (atoms_of b ls)
unfolding atoms_of elem any
elem_atoms b p l ls = go (beq l.sign b)
  where
    go : (x : Bool) → elem p (cond x (l.atom ∷ atoms_of b ls) (atoms_of b ls)) ≡ (x && eqb p l.atom) || elem p (atoms_of b ls)
    go true = refl
    go false = refl

-- An atom stands among those of a sign exactly when its literal stands in the list.
elem_mem : (b : Bool) (p : ℕ) (ls : List Literal) → elem p (atoms_of b ls) ≡ true → Memᴰ (record { sign = b; atom = p }) ls
unfolding atoms_of elem any
elem_mem b p [] h = absurd (false≢true h)
elem_mem b p (l ∷ ls) h = go (beq l.sign b) (eqb p l.atom) refl refl (elem_mem b p ls) (rw elem_atoms at h)
  where
    go : (x y : Bool) → beq l.sign b ≡ x → eqb p l.atom ≡ y → (elem p (atoms_of b ls) ≡ true → Memᴰ (record { sign = b; atom = p }) ls)
        → (x && y) || elem p (atoms_of b ls) ≡ true → Memᴰ (record { sign = b; atom = p }) (l ∷ ls)
    go true true e f ih h = Memᴰ.head λ i. record { sign = sym (beq_true l.sign b e) i; atom = eqb-true p l.atom f i }
    go true false e f ih h = Memᴰ.tail (ih h)
    go false y e f ih h = Memᴰ.tail (ih h)

mem_elem : {b : Bool} {p : ℕ} {ls : List Literal} → Memᴰ (record { sign = b; atom = p }) ls → elem p (atoms_of b ls) ≡ true
mem_elem {b} {p} (Memᴰ.head {x = l} e) = rw (elem_atoms, eq_beq l.sign b (sym (ap (λ l. l.sign) e)), eq-eqb p l.atom (ap (λ l. l.atom) e))
mem_elem {b} {p} (Memᴰ.tail {x = l} m) = rw (elem_atoms, mem_elem m, or-true)

-- γ of the literals is the set (s - eff⁻) ∪ eff⁺.
γ_set : (s : State) (ls : List Literal) (p : ℕ) → p < length s → In (γ s ls) p ↔ InEffect s ls p
unfolding γ
γ_set s ls p h =
    rw (get_d_assign true (atoms_of true ls) (assign false (atoms_of false ls) s) p (rw length_assign h), get_d_assign false (atoms_of false ls) s p h)
    (go (elem p (atoms_of true ls)) (elem p (atoms_of false ls)) refl refl)
  where
    go : (x y : Bool) → elem p (atoms_of true ls) ≡ x → elem p (atoms_of false ls) ≡ y
        → (cond x true (cond y false (get_or s p false)) ≡ true) ↔ InEffect s ls p
    go true y e f = (λ k. inr (elem_mem true p ls e), λ k. refl)
    go false true e f =
        (λ k. absurd (false≢true k), ⊎_elim (λ k. absurd (k.1 (elem_mem false p ls f))) (λ m. sym e ∙ mem_elem m))
    go false false e f =
        (λ k. inl (k, λ m. false≢true (sym f ∙ mem_elem m)), ⊎_elim (λ k. k.0) (λ m. absurd (false≢true (sym e ∙ mem_elem m))))

pub effects_are_gamma : EffectsAreGamma
effects_are_gamma = γ_set

-- At first the state is the atoms of the 12 rows.
start_rows : (o : Order) (p : ℕ) → p < most_atoms → In (start_of o) p ↔ Memᴰ p o.start
unfolding start_of empty_state
start_rows o p h =
    rw (get_d_assign true o.start (replicate most_atoms false) p (rw length-replicate h), replicate_default most_atoms p false)
    (λ e. elem_true p o.start (go (elem p o.start) e), λ m. rw (true_elem p o.start m) refl)
  where
    go : (b : Bool) → cond b true false ≡ true → b ≡ true
    go true e = refl
    go false e = e

moved_length : {r : Rules} {n : ℕ} {P : Problem} {p : ℕ} {m : Move} {deed : Deed} {P' : Problem}
    → Moved r n P p m deed P' → length P'.state ≡ length P.state
unfolding γ
moved_length (by_release h) = refl
moved_length {P = P} (by_action h k) = length_assign true _ _ ∙ length_assign false _ P.state
moved_length (by_method h k l) = refl

reached_whole : {r : Rules} {P Q : Problem} {xs : List Step} → Reached r P xs Q → length Q.state ≡ length P.state
reached_whole first = refl
reached_whole (next {deed = deed} x i e) = moved_length (took x deed _ e).by ∙ reached_whole i

pub states_are_sets : StatesAreSetsOfAtoms
unfolding start_of empty_state
states_are_sets = record {
  at_first = start_rows;
  first_whole = λ o. length_assign true o.start (replicate most_atoms false) ∙ length-replicate most_atoms false;
  whole = λ r P Q xs i. reached_whole i;
}
