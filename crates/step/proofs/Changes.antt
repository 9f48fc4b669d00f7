-- The effects of an action, set one after the other, are γ's change: their atoms rise, so none stands twice. Assumes nothing.
use Prim.Native.Nat.{ℕ, suc, ◌≤◌}
use native.Mathlib.Omega.{arith}
use mathlib.Core.Path.{◌≡◌, refl, sym, ap, ◌∙◌}
use mathlib.Core.Bool.{Bool, true, false, cond, beq}
use mathlib.Core.List.Memᴰ
use mathlib.Core.List.{List, [], ◌∷◌, Memᴰ}
use lib.ListN.{set}
use lib.Seq.{set_comm}
use Rattle.hgn.specs.Meaning.{Literal}
use Rattle.hgn.specs.State.{State, assign, atoms_of, γ}
use Rattle.hgn.specs.Written.{ConjunctRules}
use Rattle.hgn.proofs.Sheets.Rules.{Rise, atoms, rise}
use Rattle.state.specs.Effects.{set_each}

-- An atom that is none of those assigned may be set before them.
set_before : (b : Bool) (xs : List ℕ) (s : State) (a : ℕ) (v : Bool) → ((x : ℕ) → Memᴰ x xs → x ≡ a → ⊥) → set (assign b xs s) a v ≡ assign b xs (set s a v)
unfolding assign
set_before b [] s a v apart = refl
set_before b (x ∷ xs) s a v apart =
    set_before b xs (set s x b) a v (λ y m. apart y (Memᴰ.tail m)) ∙ ap (assign b xs) (set_comm s x a b v (apart x (Memᴰ.head refl)))

-- The atoms of rising literals are none of those before them.
module _ (top : ℕ) where
  later : (l : ℕ) (ls : List Literal) (b : Bool) → Rise top l (atoms ls) → (x : ℕ) → Memᴰ x (atoms_of b ls) → l ≤ x
  unfolding atoms_of
  later l [] b r x m = absurd (Memᴰ.not-nil m)
  later l (k ∷ ls) b r x m = go (beq k.sign b) (λ n. let h = later (suc k.atom) ls b r.2 x n in omega (arith, r.0)) m
    where
      go : (y : Bool) → (Memᴰ x (atoms_of b ls) → l ≤ x) → Memᴰ x (cond y (k.atom ∷ atoms_of b ls) (atoms_of b ls)) → l ≤ x
      go true ih (Memᴰ.head e) = omega (arith, e, r.0)
      go true ih (Memᴰ.tail n) = ih n
      go false ih n = ih n

  each_changes : (l : ℕ) (ls : List Literal) → Rise top l (atoms ls) → (s : State) → set_each ls s ≡ γ s ls
  unfolding set_each γ atoms_of assign
  each_changes l [] r s = refl
  each_changes l (k ∷ ls) r s = each_changes (suc k.atom) ls r.2 (set s k.atom k.sign) ∙ go k.sign refl
    where
      go : (y : Bool) → k.sign ≡ y → γ (set s k.atom k.sign) ls
          ≡ assign true (cond (beq k.sign true) (k.atom ∷ atoms_of true ls) (atoms_of true ls))
          (assign false (cond (beq k.sign false) (k.atom ∷ atoms_of false ls) (atoms_of false ls)) s)
      go true e =
          rw e (ap (assign true (atoms_of true ls)) (sym (set_before false (atoms_of false ls) s k.atom true (λ x m q.
          let h = later (suc k.atom) ls false r.2 x m in omega arith))))
      go false e = rw e

pub changes : {top : ℕ} (ls : List Literal) → ConjunctRules top ls → (s : State) → set_each ls s ≡ γ s ls
changes {top} ls h = each_changes top 0 ls (rise h)
