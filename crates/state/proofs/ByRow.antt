-- The literals of the rows with two tags, and the values of those with one, row by row. Assumes nothing.
use Prim.Native.Nat.{ℕ, ◌≤◌}
use mathlib.Core.Path.{◌≡◌, refl, sym, ap, ◌∙◌}
use mathlib.Core.Bool.{Bool, true, false, cond, ◌&&◌, and-true}
use mathlib.Core.List.{List, [], ◌∷◌, ◌++◌}
use lib.ListN.{length, set}
use lib.Seq.{set_out}
use borrow.Author.Tests.{eq-eqb, ne_eqb}
use Rattle.hgn.specs.Lists.{all}
use Rattle.hgn.specs.Rows.{Row, row, has, values_tagged}
use Rattle.hgn.specs.Meaning.{Literal, literals}
use Rattle.hgn.specs.State.{State, assign, literal_holds, all_hold, unmet}
use Rattle.hgn.proofs.Logic.Tests.{all_append}
use Rattle.state.specs.Effects.{set_each}

abbrev pub all_hold_in : State → ℕ → ℕ → List Row → Bool
all_hold_in s t f rs = all_hold s (literals t f rs)

-- Whether they hold, and the first atom that is not as wanted.
abbrev pub told_in : State → ℕ → ℕ → List Row → Bool × ℕ
told_in s t f rs = (all_hold_in s t f rs, unmet s (literals t f rs))

abbrev pub assigned_in : Bool → ℕ → State → List Row → State
assigned_in b t s rs = assign b (values_tagged t rs) s

module _ (t f : ℕ) where
  -- A row's literal is a true one, a false one, or none.
  module _ {tag : ℕ} (value : ℕ) (rs : List Row) where
    pub true_row : tag ≡ t → literals t f (row tag value ∷ rs) ≡ record { sign = true; atom = value } ∷ literals t f rs
    unfolding literals
    true_row e = rw (eq-eqb tag t e)

    pub false_row : (tag ≡ t → ⊥) → tag ≡ f → literals t f (row tag value ∷ rs) ≡ record { sign = false; atom = value } ∷ literals t f rs
    unfolding literals
    false_row d e = rw (ne_eqb tag t d, eq-eqb tag f e)

    pub no_row : (tag ≡ t → ⊥) → (tag ≡ f → ⊥) → literals t f (row tag value ∷ rs) ≡ literals t f rs
    unfolding literals
    no_row d e = rw (ne_eqb tag t d, ne_eqb tag f e)

  -- A row's literal stands before those of the rows after it.
  pub first_row_law : (r : Row) (rs : List Row) → literals t f (r ∷ rs) ≡ literals t f (r ∷ []) ++ literals t f rs
  unfolding literals
  first_row_law r rs = go (has t r) (has f r)
    where
      go : (a b : Bool) → cond a (record { sign = true; atom = r.value } ∷ literals t f rs) (cond b (record { sign = false; atom = r.value } ∷ literals t f rs) (literals t f rs))
          ≡ cond a (record { sign = true; atom = r.value } ∷ []) (cond b (record { sign = false; atom = r.value } ∷ []) []) ++ literals t f rs
      go true b = refl
      go false true = refl
      go false false = refl

  -- The row's own literals are these, one or none.
  pub row_literals : (r : Row) (rs : List Row) {ls : List Literal} → ls ≡ literals t f (r ∷ []) → literals t f (r ∷ rs) ≡ ls ++ literals t f rs
  row_literals r rs e = first_row_law r rs ∙ ap (λ (own : List Literal). own ++ literals t f rs) (sym e)

  -- What is told of a row decides of it and the rows after it, or leaves it to those.
  module _ {told : Bool} (r : Row) (rs : List Row) where
    module _ (s : State) (e : told ≡ all_hold_in s t f (r ∷ [])) where
      pub all_first : all_hold_in s t f (r ∷ rs) ≡ (told && all_hold_in s t f rs)
      unfolding all_hold
      all_first = ap (all_hold s) (first_row_law r rs) ∙ all_append (literal_holds s) (literals t f (r ∷ [])) (literals t f rs) ∙ rw (← e)

      pub unmet_first : unmet s (literals t f (r ∷ rs)) ≡ cond told (unmet s (literals t f rs)) r.value
      unfolding all_hold all unmet literals
      unmet_first = go (has t r) (has f r) e
        where
          go : (a b : Bool) → told ≡ all (literal_holds s) (cond a (record { sign = true; atom = r.value } ∷ []) (cond b (record { sign = false; atom = r.value } ∷ []) []))
              → unmet s (cond a (record { sign = true; atom = r.value } ∷ literals t f rs)
              (cond b (record { sign = false; atom = r.value } ∷ literals t f rs) (literals t f rs)))
              ≡ cond told (unmet s (literals t f rs)) r.value
          go true b e = rw (e, and-true)
          go false true e = rw (e, and-true)
          go false false e = rw e

      pub told_holds : told ≡ true → told_in s t f (r ∷ rs) ≡ told_in s t f rs
      told_holds h = rw (all_first, unmet_first, h)

      pub told_fails : told ≡ false → told_in s t f (r ∷ rs) ≡ (false, r.value)
      told_fails h = rw (all_first, unmet_first, h)

-- A row's value is assigned before those of the rows after it, or it has another tag, or it is no atom.
module _ (b : Bool) (tag : ℕ) (s : State) (t v : ℕ) (rs : List Row) where
  pub assigned_first : t ≡ tag → assigned_in b tag s (row t v ∷ rs) ≡ assigned_in b tag (set s v b) rs
  unfolding values_tagged assign
  assigned_first e = rw (eq-eqb t tag e)

  pub assigned_other : (t ≡ tag → ⊥) → assigned_in b tag s (row t v ∷ rs) ≡ assigned_in b tag s rs
  unfolding values_tagged
  assigned_other d = rw (ne_eqb t tag d)

  pub assigned_none : t ≡ tag → length s ≤ v → assigned_in b tag s (row t v ∷ rs) ≡ assigned_in b tag s rs
  assigned_none e h = assigned_first e ∙ ap (assign b (values_tagged tag rs)) (set_out s v b h)

-- A row's literal is set before those of the rows after it, or it has none, or its atom is none of the state's.
abbrev pub set_in : ℕ → ℕ → State → List Row → State
set_in t f s rs = set_each (literals t f rs) s

module _ (t f : ℕ) (s : State) (r : Row) (rs : List Row) where
  pub set_row : (l : Literal) → l ∷ [] ≡ literals t f (r ∷ []) → set_in t f s (r ∷ rs) ≡ set_in t f (set s l.atom l.sign) rs
  unfolding set_each
  set_row l e = rw (row_literals t f r rs e)

  pub set_no_row : [] ≡ literals t f (r ∷ []) → set_in t f s (r ∷ rs) ≡ set_in t f s rs
  set_no_row e = rw (row_literals t f r rs e)

  pub set_no_atom : (l : Literal) → l ∷ [] ≡ literals t f (r ∷ []) → length s ≤ l.atom → set_in t f s (r ∷ rs) ≡ set_in t f s rs
  set_no_atom l e h = set_row l e ∙ ap (set_each (literals t f rs)) (set_out s l.atom l.sign h)
