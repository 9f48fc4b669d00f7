-- What effects do to wanted literals, one effect's row at a time. Assumes nothing.
use Prim.Native.Nat.{ℕ}
use native.Mathlib.Omega.{arith}
use mathlib.Core.Path.{◌≡◌, refl, sym, ap, ◌∙◌}
use mathlib.Core.Bool.{Bool, true, false, true≢false, cond, ◌||◌, or-false, beq}
use mathlib.Core.List.{List, [], ◌∷◌}
use borrow.Author.Tests.{eq-eqb, ne_eqb}
use Rattle.hgn.specs.Lists.{any}
use Rattle.hgn.specs.Rows.{Row}
use Rattle.hgn.specs.Meaning.{Literal, literals}
use Rattle.hgn.specs.State.{opposite, contains}
use Rattle.hgn.proofs.Logic.Tests.{any_append}
use Rattle.state.specs.Effects.{met_of}
use Rattle.state.specs.declared.literals.Met.{Met}
use Rattle.state.specs.declared.literals.Met.TheVariants.{Opposite, Same, Neither}
use Rattle.state.proofs.ByRow.{first_row_law}

-- What is told says which literals are contained.
module _ (effects ls : List Literal) where
  abbrev opposes : Bool
  opposes = any (λ l. contains effects (opposite l)) ls

  abbrev helps : Bool
  helps = any (contains effects) ls

  cases : {P : Type 0} → (opposes ≡ true → met_of effects ls ≡ Opposite → P) → (opposes ≡ false → helps ≡ true → met_of effects ls ≡ Same → P)
      → (opposes ≡ false → helps ≡ false → met_of effects ls ≡ Neither → P) → P
  unfolding met_of
  cases {P} a b c = go opposes helps refl refl
    where
      go : (x y : Bool) → opposes ≡ x → helps ≡ y → P
      go true y e f = a e (rw e)
      go false true e f = b e f (rw (e, f))
      go false false e f = c e f (rw (e, f))

  pub opposed : met_of effects ls ≡ Opposite → opposes ≡ true
  opposed m =
      cases (λ e n. e) (λ e f n. let z : ◌≡◌ {A = ℕ} 0 1 = cc in absurd (omega arith)) (λ e f n. let z : ◌≡◌ {A = ℕ} 0 1 = cc in absurd (omega arith))

  pub helped : met_of effects ls ≡ Same → (opposes ≡ false) × (helps ≡ true)
  helped m =
      cases (λ e n. let z : ◌≡◌ {A = ℕ} 0 1 = cc in absurd (omega arith)) (λ e f n. (e, f)) (λ e f n. let z : ◌≡◌ {A = ℕ} 0 1 = cc in absurd (omega arith))

  pub untouched : met_of effects ls ≡ Neither → (opposes ≡ false) × (helps ≡ false)
  untouched m =
      cases (λ e n. let z : ◌≡◌ {A = ℕ} 0 1 = cc in absurd (omega arith)) (λ e f n. let z : ◌≡◌ {A = ℕ} 0 1 = cc in absurd (omega arith)) (λ e f n. (e, f))

-- An effect on another atom does nothing to a literal.
pub other_atom : (own sign : Bool) {v w : ℕ} → (v ≡ w → ⊥) → Neither ≡ met_of (record { sign = own; atom = v } ∷ []) (record { sign = sign; atom = w } ∷ [])
unfolding met_of contains any
other_atom true true d = rw (ne_eqb _ _ d)
other_atom true false d = rw (ne_eqb _ _ d)
other_atom false true d = rw (ne_eqb _ _ d)
other_atom false false d = rw (ne_eqb _ _ d)

-- One on its atom is the literal or its opposite, as the signs are the same or not.
module _ {v w : ℕ} where
  pub same_sign : (own sign : Bool) → v ≡ w → beq own sign ≡ true → Same ≡ met_of (record { sign = own; atom = v } ∷ []) (record { sign = sign; atom = w } ∷ [])
  unfolding met_of contains any
  same_sign true true e h = rw (eq-eqb _ _ e)
  same_sign true false e h = absurd (true≢false (sym h))
  same_sign false true e h = absurd (true≢false (sym h))
  same_sign false false e h = rw (eq-eqb _ _ e)

  pub other_sign : (own sign : Bool) → v ≡ w → beq own sign ≡ false → Opposite ≡ met_of (record { sign = own; atom = v } ∷ []) (record { sign = sign; atom = w } ∷ [])
  unfolding met_of contains any
  other_sign true true e h = absurd (true≢false h)
  other_sign true false e h = rw (eq-eqb _ _ e)
  other_sign false true e h = rw (eq-eqb _ _ e)
  other_sign false false e h = absurd (true≢false h)

-- What was met before the effects at hand, if they do nothing.
pub met_from : Met → List Literal → Literal → Met
met_from before effects l = cond (contains effects (opposite l)) Opposite (cond (contains effects l) Same before)

abbrev pub met_in : Literal → ℕ → ℕ → Met → List Row → Met
met_in l t f before rs = met_from before (literals t f rs) l

module _ (l : Literal) where
  pub met_from_law : (effects : List Literal) → met_of effects (l ∷ []) ≡ met_from Neither effects l
  unfolding met_of met_from any
  met_from_law effects = rw (or-false (contains effects (opposite l)), or-false (contains effects l))

  pub met_so_far : (before : Met) → met_from before [] l ≡ before
  unfolding met_from contains any
  met_so_far before = refl

  module _ (t f : ℕ) (r : Row) (rs : List Row) (before : Met) where
    abbrev own : List Literal
    own = literals t f (r ∷ [])

    either : (k : Literal) → contains (literals t f (r ∷ rs)) k ≡ (contains own k || contains (literals t f rs) k)
    unfolding contains
    either k = ap (λ (ls : List Literal). contains ls k) (first_row_law t f r rs) ∙ any_append _ own (literals t f rs)

    one : {v : Bool} (test : Literal → Bool) → any test (l ∷ []) ≡ v → test l ≡ v
    unfolding any
    one test e = sym (or-false (test l)) ∙ e

    pub first_opposed : met_of own (l ∷ []) ≡ Opposite → met_in l t f before (r ∷ rs) ≡ Opposite
    unfolding met_from
    first_opposed m = rw (either (opposite l), one (λ k. contains own (opposite k)) (opposed own (l ∷ []) m))

    pub first_helped : met_of own (l ∷ []) ≡ Same → met_in l t f before (r ∷ rs) ≡ met_in l t f Same rs
    unfolding met_from
    first_helped m =
        let h = helped own (l ∷ []) m in
        rw (either (opposite l), one (λ k. contains own (opposite k)) h.0, either l, one (contains own) h.1)
        (go (contains (literals t f rs) (opposite l)) (contains (literals t f rs) l))
      where
        go : (x y : Bool) → cond x Opposite Same ≡ cond x Opposite (cond y Same Same)
        go x true = refl
        go x false = refl

    pub first_untouched : met_of own (l ∷ []) ≡ Neither → met_in l t f before (r ∷ rs) ≡ met_in l t f before rs
    unfolding met_from
    first_untouched m =
        let h = untouched own (l ∷ []) m in
        rw (either (opposite l), one (λ k. contains own (opposite k)) h.0, either l, one (contains own) h.1)
