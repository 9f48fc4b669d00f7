-- What effects do, one after the other and by how their atoms are wanted; and what rows want, row by row, by marks, and from the first 8 on.
-- Assumes nothing.
use Prim.Native.Nat.{ℕ, ◌<◌, ◌≤◌}
use native.Mathlib.Omega.{arith}
use mathlib.Core.Path.{◌≡◌, refl, sym, ap, ap₂, ◌∙◌}
use mathlib.Core.Bool.{Bool, true, false, true≢false, cond, ◌&&◌, ◌||◌, or_assoc, or-true, or-false, and-true, and-false, beq}
use mathlib.Core.List.{List, [], ◌∷◌, ◌++◌, map, flatten, append_assoc}
use mathlib.Core.Option.{Option, none, some}
use lib.Dec.{eqb}
use lib.ListN.{length, get_or, set, length-set, drop, replicate, length-replicate, get_or-replicate}
use lib.Seq.{lt-length-set, get_or-set_same, get_or-set_other}
use borrow.Author.Tests.{eqb-true, eqb-false, eq-eqb, ne_eqb}
use Rattle.hgn.specs.Lists.{any, find, take_until, drop_until, split_at_each}
use Rattle.hgn.specs.Rows.{Row, row, has, values_tagged}
use Rattle.hgn.specs.Tag.{alternative, wanted_true, wanted_false}
use Rattle.hgn.specs.Meaning.{Literal, literals, node_of}
use Rattle.hgn.specs.State.{State, most_atoms, empty_state, assign, opposite, literal_holds, contains}
use Rattle.hgn.specs.Relevance.{Relevance, blocked, helping, neither, relevance}
use Rattle.hgn.proofs.Logic.Relevance.{told}
use Rattle.state.specs.declared.literals.LiteralTags.{LiteralTags}
use Rattle.state.specs.Relevances.{followed, effect_met_by, wanted_in, effects_in, Marked}
use Rattle.sheet_index.proofs.Columns.{by_rows}
use Rattle.state.proofs.ByRow.{no_row, first_row_law, assigned_in, assigned_first, assigned_other, assigned_none}

abbrev literal : Bool → ℕ → Literal
literal b a = record { sign = b; atom = a }

-- The effects in turn.

followed_none : (r : Relevance) → followed r neither ≡ r
unfolding followed
followed_none (blocked e) = refl
followed_none (helping e) = refl
followed_none neither = refl

followed_again : (r s t : Relevance) → followed r (followed s t) ≡ followed (followed r s) t
unfolding followed
followed_again (blocked e) s t = refl
followed_again (helping e) (blocked f) t = refl
followed_again (helping e) (helping f) (blocked g) = refl
followed_again (helping e) (helping f) (helping g) = refl
followed_again (helping e) (helping f) neither = refl
followed_again (helping e) neither t = refl
followed_again neither s t = refl

module _ (wanted : List Literal) where
  -- An effect, then those after it.
  pub effect_first : (e : Literal) (es : List Literal) → relevance (e ∷ es) wanted ≡ followed (relevance (e ∷ []) wanted) (relevance es wanted)
  unfolding relevance find followed
  effect_first e es =
      go (contains wanted (opposite e)) (contains wanted e) (find (λ k. contains wanted (opposite k)) es) (find (contains wanted) es)
    where
      go : (b s : Bool) (o p : Option Literal) → told (cond b (some e) o) (cond s (some e) p) ≡ followed (told (cond b (some e) none) (cond s (some e) none)) (told o p)
      go true s o p = refl
      go false true (some d) p = refl
      go false true none (some d) = refl
      go false true none none = refl
      go false false o p = refl

  -- An effect by how its atom is wanted.
  pub met_by : (e : Literal) → relevance (e ∷ []) wanted
      ≡ effect_met_by e (contains wanted (literal true e.atom)) (contains wanted (literal false e.atom))
  unfolding relevance find
  met_by e = go e.sign e.atom
    where
      one : (k : Literal) (b s : Bool) → told (cond b (some k) none) (cond s (some k) none) ≡ cond b (blocked k) (cond s (helping k) neither)
      one k true s = refl
      one k false true = refl
      one k false false = refl

      go : (b : Bool) (a : ℕ) → told (cond (contains wanted (opposite (literal b a))) (some (literal b a)) none) (cond (contains wanted (literal b a)) (some (literal b a)) none)
          ≡ effect_met_by (literal b a) (contains wanted (literal true a)) (contains wanted (literal false a))
      go true a = one (literal true a) (contains wanted (literal false a)) (contains wanted (literal true a))
      go false a = one (literal false a) (contains wanted (literal true a)) (contains wanted (literal false a))

  pub none_meet : {ls : List Literal} → ls ≡ [] → neither ≡ relevance ls wanted
  unfolding relevance find
  none_meet e = rw e

  -- The effects are these two, one after the other.
  pub two_alone : {ls rest later : List Literal} {d f : Literal} → ls ≡ d ∷ rest → rest ≡ f ∷ later → later ≡ [] → relevance (d ∷ f ∷ []) wanted ≡ relevance ls wanted
  two_alone first second end = ap (λ (k : List Literal). relevance k wanted) (sym (first ∙ rw (second, end)))

  -- The effect of a row, if it has one, then those of the rows after it.
  effects_row : (signs : LiteralTags) (r : Row) (rs : List Row)
      → relevance (effects_in signs (r ∷ rs)) wanted ≡ followed (relevance (effects_in signs (r ∷ [])) wanted) (relevance (effects_in signs rs) wanted)
  unfolding literals followed
  effects_row signs r rs = go (has signs.positive r) (has signs.negative r)
    where
      go : (x y : Bool) → relevance (cond x (literal true r.value ∷ effects_in signs rs) (cond y (literal false r.value ∷ effects_in signs rs) (effects_in signs rs))) wanted
          ≡ followed (relevance (cond x (literal true r.value ∷ []) (cond y (literal false r.value ∷ []) [])) wanted) (relevance (effects_in signs rs) wanted)
      go true y = effect_first (literal true r.value) (effects_in signs rs)
      go false true = effect_first (literal false r.value) (effects_in signs rs)
      go false false = ap (λ (t : Relevance). followed t (relevance (effects_in signs rs) wanted)) (none_meet refl)

  -- A walk has told of the effects of the rows before these.
  abbrev pub told_from : LiteralTags → Relevance → List Row → Relevance
  told_from signs so_far rs = followed so_far (relevance (effects_in signs rs) wanted)

  pub told_first : (signs : LiteralTags) (rs : List Row) → relevance (effects_in signs rs) wanted ≡ told_from signs neither rs
  unfolding followed
  told_first signs rs = refl

  module _ (signs : LiteralTags) (so_far : Relevance) (r : Row) (rs : List Row) {here next : Relevance}
      (e : here ≡ relevance (effects_in signs (r ∷ [])) wanted) (f : next ≡ followed so_far here) where
    pub told_on : told_from signs so_far (r ∷ rs) ≡ told_from signs next rs
    told_on = ap (followed so_far) (effects_row signs r rs) ∙ followed_again so_far (relevance (effects_in signs (r ∷ [])) wanted) (relevance (effects_in signs rs) wanted) ∙ rw (f, e)

    pub told_blocked : {d : Literal} → next ≡ blocked d → told_from signs so_far (r ∷ rs) ≡ blocked d
    unfolding followed
    told_blocked h = told_on ∙ rw h

  pub told_all : (signs : LiteralTags) (so_far : Relevance) → told_from signs so_far [] ≡ so_far
  unfolding literals
  told_all signs so_far = ap (followed so_far) (sym (none_meet refl)) ∙ followed_none so_far

-- What rows want.

-- The tag of a row that wants an atom true, or false.
abbrev pub wanted_tag : Bool → ℕ
wanted_tag true = wanted_true
wanted_tag false = wanted_false

-- A row wants a literal where its tag and its atom are the literal's.
contains_row : (b : Bool) (a t v : ℕ) (rs : List Row)
    → contains (wanted_in (row t v ∷ rs)) (literal b a) ≡ ((eqb v a && eqb t (wanted_tag b)) || contains (wanted_in rs) (literal b a))
unfolding contains any literals
contains_row true a t v rs = go (eqb t wanted_true) (eqb t wanted_false)
  where
    go : (x y : Bool) → contains (cond x (literal true v ∷ wanted_in rs) (cond y (literal false v ∷ wanted_in rs) (wanted_in rs))) (literal true a)
        ≡ ((eqb v a && x) || contains (wanted_in rs) (literal true a))
    go true y = rw (and-true (eqb v a))
    go false true = rw (and-false (eqb v a))
    go false false = rw (and-false (eqb v a))
contains_row false a t v rs = go (eqb t wanted_true) (eqb t wanted_false) (λ e. ap (λ (n : ℕ). eqb n wanted_false) (eqb-true t wanted_true e))
  where
    go : (x y : Bool) → (x ≡ true → y ≡ false) → contains (cond x (literal true v ∷ wanted_in rs) (cond y (literal false v ∷ wanted_in rs) (wanted_in rs))) (literal false a)
        ≡ ((eqb v a && y) || contains (wanted_in rs) (literal false a))
    go true y h = rw (h refl, and-false (eqb v a))
    go false true h = rw (and-true (eqb v a))
    go false false h = rw (and-false (eqb v a))

-- Whether a literal is wanted: by a row before these, or by these.
abbrev pub wanted_from : Bool → ℕ → Bool → List Row → Bool
wanted_from b a so_far rs = so_far || contains (wanted_in rs) (literal b a)

module _ (b : Bool) (a : ℕ) where
  wanted_on : (so_far : Bool) (t v : ℕ) (rs : List Row) {here : Bool} → here ≡ (eqb v a && eqb t (wanted_tag b))
      → wanted_from b a so_far (row t v ∷ rs) ≡ wanted_from b a (so_far || here) rs
  wanted_on so_far t v rs e = rw (contains_row b a t v rs, ← e) (sym (or_assoc so_far _ _))

  wanted_none : (so_far : Bool) → wanted_from b a so_far [] ≡ so_far
  unfolding contains any literals
  wanted_none so_far = or-false so_far

-- A walk over rows knows how those before the rest want an atom.
pub record Seen (rows : List Row) (a : ℕ) (positive negative : Bool) (rest : List Row) : Type 0 where
  pub wanted_true_marked : contains (wanted_in rows) (literal true a) ≡ wanted_from true a positive rest
  pub wanted_false_marked : contains (wanted_in rows) (literal false a) ≡ wanted_from false a negative rest

module _ {rows rest : List Row} {a : ℕ} {positive negative : Bool} (seen : Seen rows a positive negative rest) where
  -- The next row is compared with the atom.
  pub seen_row : (t v : ℕ) {rs : List Row} → rest ≡ row t v ∷ rs → {here other : Bool} → here ≡ (eqb v a && eqb t wanted_true) → other ≡ (eqb v a && eqb t wanted_false)
      → Seen rows a (positive || here) (negative || other) rs
  seen_row t v {rs} next e f = record {
    wanted_true_marked = by_rows (wanted_from true a positive) seen.wanted_true_marked next (wanted_on true a positive t v rs e);
    wanted_false_marked = by_rows (wanted_from false a negative) seen.wanted_false_marked next (wanted_on false a negative t v rs f);
  }

  -- Past the last row it is known how the atom of an effect is wanted.
  pub seen_all : rest ≡ [] → (e : Literal) → e.atom ≡ a → effect_met_by e positive negative ≡ relevance (e ∷ []) (wanted_in rows)
  seen_all end e is =
      ap₂ (effect_met_by e)
      (sym (by_rows (wanted_from true a positive) seen.wanted_true_marked end (wanted_none true a positive)))
      (sym (by_rows (wanted_from false a negative) seen.wanted_false_marked end (wanted_none false a negative)))
      ∙ rw (← is) (sym (met_by (wanted_in rows) e))

-- An effect whose atom is wanted neither true nor false meets nothing.
pub nothing_met : (e : Literal) (positive negative : Bool) → (positive || negative) ≡ false → effect_met_by e positive negative ≡ neither
nothing_met e true negative h = absurd (true≢false h)
nothing_met e false true h = absurd (true≢false h)
nothing_met e false false h = go e.sign
  where
    go : (s : Bool) → cond (cond s false false) (blocked e) (cond (cond s false false) (helping e) neither) ≡ neither
    go true = refl
    go false = refl

pub neither_twice : followed neither neither ≡ neither
unfolding followed
neither_twice = refl

-- Of four tests none is true.
pub none_of_four : (a b c d : Bool) → (((a || b) || c) || d) ≡ false → ((a || b) ≡ false) × ((c || d) ≡ false)
none_of_four true b c d h = absurd (true≢false h)
none_of_four false true c d h = absurd (true≢false h)
none_of_four false false c d h = (refl, h)

module _ (b : Bool) (a : ℕ) where
  set_one : (s : State) (v : ℕ) (rest : Bool) → a < length s → (rest || get_or (set s v true) a false) ≡ (eqb v a || rest || get_or s a false)
  set_one s v rest h = go (eqb v a) refl
    where
      go : (x : Bool) → eqb v a ≡ x → (rest || get_or (set s v true) a false) ≡ (x || rest || get_or s a false)
      go true e = rw (eqb-true v a e, get_or-set_same s a true false h, or-true rest)
      go false e = rw (get_or-set_other s v a true false (λ z. eqb-false v a e (sym z)))

  -- The marks of rows, put into a set.
  marked_in : (rs : List Row) (s : State) → a < length s
      → get_or (assign true (values_tagged (wanted_tag b) rs) s) a false ≡ (contains (wanted_in rs) (literal b a) || get_or s a false)
  unfolding assign values_tagged contains any literals
  marked_in [] s h = refl
  marked_in (r ∷ rs) s h = rw (contains_row b a r.tag r.value rs) (go (has (wanted_tag b) r) (λ s' h'. marked_in rs s' h'))
    where
      go : (x : Bool) → ((s : State) → a < length s → get_or (assign true (values_tagged (wanted_tag b) rs) s) a false ≡ (contains (wanted_in rs) (literal b a) || get_or s a false))
          → get_or (assign true (cond x (r.value ∷ values_tagged (wanted_tag b) rs) (values_tagged (wanted_tag b) rs)) s) a false
          ≡ (((eqb r.value a && x) || contains (wanted_in rs) (literal b a)) || get_or s a false)
      go true ih = ih (set s r.value true) (lt-length-set s r.value true h) ∙ rw (and-true (eqb r.value a)) (set_one s r.value _ h)
      go false ih = ih s h ∙ rw (and-false (eqb r.value a))

  -- The rows' own set has an atom where they want the literal.
  mark_read : (rs : List Row) {s : State} → s ≡ assign true (values_tagged (wanted_tag b) rs) empty_state → a < most_atoms
      → literal_holds s (literal true a) ≡ contains (wanted_in rs) (literal b a)
  unfolding literal_holds empty_state
  mark_read rs e h =
      rw (e, marked_in rs (replicate most_atoms false) (rw (length-replicate most_atoms false) h), get_or-replicate most_atoms a false false h) (held (contains (wanted_in rs) (literal b a)))
    where
      held : (x : Bool) → beq (x || false) true ≡ x
      held true = refl
      held false = refl

-- The marks of rows tell what an effect does.
pub marks_tell : (rs : List Row) {positive negative : State} → Marked rs positive negative → (e : Literal) → e.atom < most_atoms
    → {p n : Bool} → p ≡ literal_holds positive (literal true e.atom) → n ≡ literal_holds negative (literal true e.atom)
    → effect_met_by e p n ≡ relevance (e ∷ []) (wanted_in rs)
marks_tell rs m e h t f =
    ap₂ (effect_met_by e) (t ∙ mark_read true e.atom rs m.wanted_true_marked h) (f ∙ mark_read false e.atom rs m.wanted_false_marked h)
    ∙ sym (met_by (wanted_in rs) e)

-- The marks of rows while they are put in.

pub record Marking (rows : List Row) (positive₀ negative₀ positive negative : State) (rest : List Row) : Type 0 where
  pub wanted_true_marked : assigned_in true wanted_true positive₀ rows ≡ assigned_in true wanted_true positive rest
  pub wanted_false_marked : assigned_in true wanted_false negative₀ rows ≡ assigned_in true wanted_false negative rest
  pub positive_length : length positive ≡ length positive₀
  pub negative_length : length negative ≡ length negative₀

module _ {rows rest : List Row} {positive₀ negative₀ positive negative : State} (m : Marking rows positive₀ negative₀ positive negative rest) where
  module _ (t v : ℕ) {rs : List Row} (next : rest ≡ row t v ∷ rs) where
    -- The next row leaves these sets to the rows after it.
    next_marks : {positive' negative' : State}
        → assigned_in true wanted_true positive (row t v ∷ rs) ≡ assigned_in true wanted_true positive' rs
        → assigned_in true wanted_false negative (row t v ∷ rs) ≡ assigned_in true wanted_false negative' rs
        → length positive' ≡ length positive → length negative' ≡ length negative
        → Marking rows positive₀ negative₀ positive' negative' rs
    next_marks e f h k = record {
      wanted_true_marked = by_rows (assigned_in true wanted_true positive) m.wanted_true_marked next e;
      wanted_false_marked = by_rows (assigned_in true wanted_false negative) m.wanted_false_marked next f;
      positive_length = h ∙ m.positive_length;
      negative_length = k ∙ m.negative_length;
    }

    module _ (e : t ≡ wanted_true) where
      pub mark_true : Marking rows positive₀ negative₀ (set positive v true) negative rs
      mark_true = next_marks (assigned_first _ _ _ _ _ _ e) (assigned_other _ _ _ _ _ _ (λ z. omega arith)) (length-set positive v true) refl

      pub mark_no_true : length positive ≤ v → Marking rows positive₀ negative₀ positive negative rs
      mark_no_true h = next_marks (assigned_none _ _ _ _ _ _ e h) (assigned_other _ _ _ _ _ _ (λ z. omega arith)) refl refl

    module _ (d : t ≡ wanted_true → ⊥) where
      module _ (e : t ≡ wanted_false) where
        pub mark_false : Marking rows positive₀ negative₀ positive (set negative v true) rs
        mark_false = next_marks (assigned_other _ _ _ _ _ _ d) (assigned_first _ _ _ _ _ _ e) refl (length-set negative v true)

        pub mark_no_false : length negative ≤ v → Marking rows positive₀ negative₀ positive negative rs
        mark_no_false h = next_marks (assigned_other _ _ _ _ _ _ d) (assigned_none _ _ _ _ _ _ e h) refl refl

      pub mark_none : (t ≡ wanted_false → ⊥) → Marking rows positive₀ negative₀ positive negative rs
      mark_none e = next_marks (assigned_other _ _ _ _ _ _ d) (assigned_other _ _ _ _ _ _ e) refl refl

  -- Past the last row the marks are there.
  module _ (end : rest ≡ []) where
    pub marked_true : positive ≡ assigned_in true wanted_true positive₀ rows
    unfolding assign values_tagged
    marked_true = sym (by_rows (assigned_in true wanted_true positive) m.wanted_true_marked end refl)

    pub marked_false : negative ≡ assigned_in true wanted_false negative₀ rows
    unfolding assign values_tagged
    marked_false = sym (by_rows (assigned_in true wanted_false negative) m.wanted_false_marked end refl)

-- What all alternatives of a node want is what its rows want from the first 8 on.

-- Those of the alternative at hand and those of the formula after it are all.
all_wanted : (rs : List Row) → wanted_in (take_until (has alternative) rs) ++ flatten (node_of rs).formula ≡ wanted_in rs
unfolding take_until split_at_each literals node_of flatten
all_wanted [] = refl
all_wanted (r ∷ rs) = go (has alternative r) refl (all_wanted rs)
  where
    go : (b : Bool) → has alternative r ≡ b → wanted_in (take_until (has alternative) rs) ++ flatten (node_of rs).formula ≡ wanted_in rs
        → wanted_in (cond b [] (r ∷ take_until (has alternative) rs))
        ++ flatten (map wanted_in (cond b ((r ∷ take_until (has alternative) rs) ∷ split_at_each (has alternative) rs) (split_at_each (has alternative) rs)))
        ≡ wanted_in (r ∷ rs)
    go true e ih = rw (eqb-true r.tag alternative e) ih
    go false e ih =
        ap (λ (ls : List Literal). ls ++ flatten (node_of rs).formula) (first_row_law wanted_true wanted_false r (take_until (has alternative) rs))
        ∙ append_assoc (wanted_in (r ∷ [])) _ _
        ∙ ap (λ (ls : List Literal). wanted_in (r ∷ []) ++ ls) ih
        ∙ sym (first_row_law wanted_true wanted_false r rs)

node_wants : (rs : List Row) → flatten (node_of rs).formula ≡ wanted_in (drop_until (has alternative) rs)
unfolding drop_until take_until split_at_each literals node_of flatten
node_wants [] = refl
node_wants (r ∷ rs) = go (has alternative r) refl (node_wants rs)
  where
    go : (b : Bool) → has alternative r ≡ b → flatten (node_of rs).formula ≡ wanted_in (drop_until (has alternative) rs)
        → flatten (map wanted_in (cond b ((r ∷ take_until (has alternative) rs) ∷ split_at_each (has alternative) rs) (split_at_each (has alternative) rs)))
        ≡ wanted_in (cond b (r ∷ rs) (drop_until (has alternative) rs))
    go true e ih = rw (eqb-true r.tag alternative e) (all_wanted rs)
    go false e ih = ih

-- The first 8 has no literal of its own.
behind_first : (rs : List Row) → wanted_in (drop 1 (drop_until (has alternative) rs)) ≡ wanted_in (drop_until (has alternative) rs)
unfolding drop_until
behind_first [] = refl
behind_first (r ∷ rs) = by (has alternative r) refl (behind_first rs)
  where
    by : (b : Bool) → has alternative r ≡ b → wanted_in (drop 1 (drop_until (has alternative) rs)) ≡ wanted_in (drop_until (has alternative) rs)
        → wanted_in (drop 1 (cond b (r ∷ rs) (drop_until (has alternative) rs))) ≡ wanted_in (cond b (r ∷ rs) (drop_until (has alternative) rs))
    by true e ih =
        let is : r.tag ≡ alternative = eqb-true r.tag alternative e in
        sym (no_row wanted_true wanted_false r.value rs (λ (z : r.tag ≡ wanted_true). omega arith) (λ (z : r.tag ≡ wanted_false). omega arith))
    by false e ih = ih

pub behind_wants : (rs : List Row) → wanted_in (drop 1 (drop_until (has alternative) rs)) ≡ flatten (node_of rs).formula
behind_wants rs = behind_first rs ∙ sym (node_wants rs)

-- The rows behind the first 8, where that is the next, comes later, or is none of those that are left.
module _ (rows : List Row) {rest : List Row} (known : drop_until (has alternative) rows ≡ drop_until (has alternative) rest) where
  module _ (t v : ℕ) {rs : List Row} (next : rest ≡ row t v ∷ rs) where
    pub cut_here : t ≡ alternative → drop 1 (drop_until (has alternative) rows) ≡ rs
    unfolding drop_until
    cut_here e =
        let k : drop_until (has alternative) rows ≡ row t v ∷ rs = by_rows (drop_until (has alternative)) known next (rw (eq-eqb _ _ e)) in
        rw k

    pub cut_later : (t ≡ alternative → ⊥) → drop_until (has alternative) rows ≡ drop_until (has alternative) rs
    unfolding drop_until
    cut_later d = by_rows (drop_until (has alternative)) known next (rw (ne_eqb _ _ d))

  pub cut_none : rest ≡ [] → drop 1 (drop_until (has alternative) rows) ≡ []
  unfolding drop_until
  cut_none end =
      let k : drop_until (has alternative) rows ≡ [] = by_rows (drop_until (has alternative)) known end refl in
      rw k
