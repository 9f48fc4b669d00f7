-- The formula of a node's rows, one row at a time: does it hold, which atom is not as wanted, are effects relevant to it? Assumes nothing.
use Prim.Native.Nat.{ℕ}
use mathlib.Core.Path.{◌≡◌, refl, sym, ap, ◌∙◌}
use Rattle.std.proofs.Common.{Option, Some, None}
use Rattle.std.specs.Prelude.{unwrap_or}
use Rattle.std.specs.Option.{option_or}
use mathlib.Core.Bool.{Bool, true, false, cond, not, ◌&&◌, ◌||◌, and-false, or-true}
use mathlib.Core.List.{List, [], ◌∷◌, ◌++◌, head_d, map, flatten, append_assoc}
use borrow.Author.Tests.{eqb-true, ne_eqb}
use Rattle.hgn.specs.Lists.{any, all, take_until, split_at_each}
use Rattle.hgn.specs.Rows.{Row, row, has}
use Rattle.hgn.specs.Tag.{alternative, wanted_true, wanted_false}
use Rattle.hgn.specs.Meaning.{Literal, literals, node_of}
use Rattle.hgn.specs.State.{State, no_atom, all_hold, formula_holds, unmet, unmet_goal, opposite, contains, relevant}
use Rattle.hgn.proofs.Logic.Tests.{any_append}
use Rattle.sheet_rows.specs.declared.position.Atom.{Atom}
use Rattle.state.specs.Effects.{met_of}
use Rattle.state.specs.declared.literals.Met.{Met}
use Rattle.state.specs.declared.literals.Met.TheVariants.{Opposite, Same, Neither}
use Rattle.state.proofs.ByRow.{first_row_law, all_first, unmet_first}
use Rattle.state.proofs.Tests.{goal_told}
use Rattle.state.proofs.Meetings as Meetings
use Rattle.state.proofs.Meetings.{opposed, untouched}

wanted : List Row → List Literal
wanted rs = literals wanted_true wanted_false rs

-- The alternative at hand holds so far and does in these rows, or one that begins in them holds.
holds_from : State → Bool → List Row → Bool
holds_from s so_far rs = (so_far && all_hold s (wanted (take_until (has alternative) rs))) || formula_holds s (node_of rs).formula

-- What these rows have of the first alternative, where no row before them failed: it is the one at hand, or has not begun.
first_from : Bool → List Row → List Literal
unfolding head_d
first_from so_far rs = cond so_far (wanted (take_until (has alternative) rs)) (head_d (node_of rs).formula [])

-- The first atom that is not as wanted: one that was before, or else this.
abbrev pub first_unmet : Option Atom → ℕ → ℕ
first_unmet before a = (unwrap_or before (record { 0 = a })).0

-- What a formula tells (`goal_told`), from these rows on, where `before` is the atom of the first row that was not as wanted.
pub told_from : State → Bool → Option Atom → List Row → Bool × ℕ
told_from s so_far before rs = (holds_from s so_far rs, cond (holds_from s so_far rs) no_atom (first_unmet before (unmet s (first_from so_far rs))))

module _ (s : State) where
  pub told_from_law : (rs : List Row) → goal_told s (node_of rs).formula ≡ told_from s false None rs
  unfolding told_from holds_from first_from unmet_goal head_d
  told_from_law rs = refl

  -- Past the last row the alternative at hand holds, or the first atom is told.
  module _ {so_far : Bool} (before : Option Atom) where
    pub end_holds : so_far ≡ true → told_from s so_far before [] ≡ (true, no_atom)
    unfolding told_from holds_from wanted take_until literals all_hold all
    end_holds e = rw e

    pub end_fails : so_far ≡ false → told_from s so_far before [] ≡ (false, first_unmet before no_atom)
    unfolding told_from holds_from first_from head_d node_of split_at_each formula_holds any unmet
    end_fails e = rw e

  module _ (before : Option Atom) (t v : ℕ) (rs : List Row) where
    pub told_held : t ≡ alternative → told_from s true before (row t v ∷ rs) ≡ (true, no_atom)
    unfolding told_from holds_from wanted take_until literals all_hold all
    told_held e = rw e

    pub told_begun : t ≡ alternative → told_from s false before (row t v ∷ rs) ≡ told_from s true before rs
    unfolding told_from holds_from first_from head_d wanted node_of split_at_each literals formula_holds any
    told_begun e = rw e

    pub told_still_none : (t ≡ alternative → ⊥) → told_from s false before (row t v ∷ rs) ≡ told_from s false before rs
    unfolding told_from holds_from first_from head_d node_of split_at_each
    told_still_none d = rw (ne_eqb t alternative d)

    -- What is told of a row of the alternative at hand.
    module _ (d : t ≡ alternative → ⊥) {told : Bool} (e : told ≡ all_hold s (literals wanted_true wanted_false (row t v ∷ []))) where
      gone_on : holds_from s true (row t v ∷ rs) ≡ holds_from s told rs
      unfolding holds_from wanted node_of split_at_each take_until
      gone_on =
          rw (ne_eqb t alternative d)
          (ap (λ (b : Bool). b || formula_holds s (node_of rs).formula) (all_first wanted_true wanted_false (row t v) (take_until (has alternative) rs) s e))

      first_of : unmet s (first_from true (row t v ∷ rs)) ≡ cond told (unmet s (first_from true rs)) v
      unfolding first_from wanted take_until
      first_of = rw (ne_eqb t alternative d) (unmet_first wanted_true wanted_false (row t v) (take_until (has alternative) rs) s e)

      pub told_on : told ≡ true → told_from s true before (row t v ∷ rs) ≡ told_from s true before rs
      unfolding told_from
      told_on h = rw (gone_on, first_of, h)

      pub told_unmet : told ≡ false → told_from s true before (row t v ∷ rs) ≡ told_from s false (option_or before (Some (record { 0 = v }))) rs
      unfolding told_from
      told_unmet h =
          rw (gone_on, first_of, h)
          (ap (λ (a : ℕ). (holds_from s false rs, cond (holds_from s false rs) no_atom a)) (go before (unmet s (first_from false rs))))
        where
          go : (o : Option Atom) (n : ℕ) → first_unmet o v ≡ first_unmet (option_or o (Some (record { 0 = v }))) n
          go None n = refl
          go (Some a) n = refl

-- The literals of the formula in these rows: from the first 8 on, or all where an alternative is at hand.
wanted_from : Bool → List Row → List Literal
wanted_from inside rs = cond inside (wanted rs) (flatten (node_of rs).formula)

-- Those of the alternative at hand and those of the formula after it are all.
all_wanted : (rs : List Row) → wanted (take_until (has alternative) rs) ++ flatten (node_of rs).formula ≡ wanted rs
unfolding wanted take_until split_at_each literals node_of flatten
all_wanted [] = refl
all_wanted (r ∷ rs) = go (has alternative r) refl (all_wanted rs)
  where
    go : (b : Bool) → has alternative r ≡ b → wanted (take_until (has alternative) rs) ++ flatten (node_of rs).formula ≡ wanted rs
        → wanted (cond b [] (r ∷ take_until (has alternative) rs))
        ++ flatten (map wanted (cond b ((r ∷ take_until (has alternative) rs) ∷ split_at_each (has alternative) rs) (split_at_each (has alternative) rs)))
        ≡ wanted (r ∷ rs)
    go true e ih = rw (eqb-true r.tag alternative e) ih
    go false e ih =
        ap (λ (ls : List Literal). ls ++ flatten (node_of rs).formula) (first_row_law wanted_true wanted_false r (take_until (has alternative) rs))
        ∙ append_assoc (wanted (r ∷ [])) _ _
        ∙ ap (λ (ls : List Literal). wanted (r ∷ []) ++ ls) ih
        ∙ sym (first_row_law wanted_true wanted_false r rs)

-- The effects contain a literal of these rows or did one before them (`helped`), and the opposite of none of these rows.
pub relevant_from : List Literal → Bool → Bool → List Row → Bool
relevant_from effects inside helped rs =
    (helped || any (contains effects) (wanted_from inside rs)) && not (any (λ l. contains effects (opposite l)) (wanted_from inside rs))

module _ (effects : List Literal) where
  pub relevant_from_law : (rs : List Row) → relevant effects (node_of rs).formula ≡ relevant_from effects false false rs
  unfolding relevant_from wanted_from relevant
  relevant_from_law rs = refl

  pub helped_so_far : (inside helped : Bool) → relevant_from effects inside helped [] ≡ helped
  unfolding relevant_from wanted_from wanted any literals node_of split_at_each flatten
  helped_so_far true true = refl
  helped_so_far true false = refl
  helped_so_far false true = refl
  helped_so_far false false = refl

  module _ (t v : ℕ) (rs : List Row) where
    pub entered : (inside helped : Bool) → t ≡ alternative → relevant_from effects inside helped (row t v ∷ rs) ≡ relevant_from effects true helped rs
    unfolding relevant_from wanted_from wanted node_of split_at_each literals flatten
    entered true helped e = rw e
    entered false helped e = rw (e, all_wanted rs)

    pub still_outside : (helped : Bool) → (t ≡ alternative → ⊥) → relevant_from effects false helped (row t v ∷ rs) ≡ relevant_from effects false helped rs
    unfolding relevant_from wanted_from node_of split_at_each
    still_outside helped d = rw (ne_eqb t alternative d)

    any_wanted : (test : Literal → Bool) → any test (wanted (row t v ∷ rs)) ≡ (any test (literals wanted_true wanted_false (row t v ∷ [])) || any test (wanted rs))
    unfolding wanted
    any_wanted test = ap (any test) (first_row_law wanted_true wanted_false (row t v) rs) ∙ any_append test _ _

    -- What the effects do to the row's literal.
    module _ (helped : Bool) {told : Met} (e : told ≡ met_of effects (literals wanted_true wanted_false (row t v ∷ []))) where
      pub blocked : told ≡ Opposite → relevant_from effects true helped (row t v ∷ rs) ≡ false
      unfolding relevant_from wanted_from
      blocked h =
          rw (any_wanted (λ l. contains effects (opposite l)), opposed effects (literals wanted_true wanted_false (row t v ∷ [])) (sym e ∙ h))
          (and-false (helped || any (contains effects) (wanted (row t v ∷ rs))))

      pub met_same : told ≡ Same → relevant_from effects true helped (row t v ∷ rs) ≡ relevant_from effects true true rs
      unfolding relevant_from wanted_from
      met_same h =
          let m = Meetings.helped effects (literals wanted_true wanted_false (row t v ∷ [])) (sym e ∙ h) in
          rw (any_wanted (λ l. contains effects (opposite l)), m.0, any_wanted (contains effects), m.1, or-true)

      pub met_neither : told ≡ Neither → relevant_from effects true helped (row t v ∷ rs) ≡ relevant_from effects true helped rs
      unfolding relevant_from wanted_from
      met_neither h =
          let m = untouched effects (literals wanted_true wanted_false (row t v ∷ [])) (sym e ∙ h) in
          rw (any_wanted (λ l. contains effects (opposite l)), m.0, any_wanted (contains effects), m.1)
