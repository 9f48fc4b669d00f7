-- The table of only achievers, literal by literal and action by action. Assumes nothing.
use Prim.Native.Nat.{ℕ, suc, ◌+◌, ◌*◌, ◌<◌, ◌≤◌}
use native.Mathlib.Omega.{arith}
use native.Mathlib.Numerals.{add-one}
use mathlib.Core.Path.{◌≡◌, refl, sym, ap, ap₂, subst, ◌∙◌}
use mathlib.Core.Logic.{◌≢◌, ⊎_elim}
use mathlib.Core.Bool.{Bool, true, false, cond}
use mathlib.Core.List.Memᴰ
use mathlib.Core.List.{List, [], ◌∷◌, ◌++◌, Memᴰ}
use lib.Dec.{eqb, ltb}
use lib.ListN.{length, get_or, set, length-set}
use lib.Seq.{get_or-set_same, get_or-set_other}
use borrow.Author.Tests.{eqb-true, eqb-false, lt-ltb, le-ltb}
use Rattle.hgn.specs.Rows.{Row}
use Rattle.hgn.specs.Meaning.{Literal, Domain, literals}
use Rattle.hgn.specs.State.{contains, most_atoms}
use Rattle.hgn.specs.Run.{action_at}
use Rattle.hgn.specs.Shop.{domain, action_count}
use Rattle.hgn.proofs.Logic.Tests.{contains_iff}
use Rattle.hgn.proofs.Sheets.Checked.{shop_counts}
use Rattle.sheet_index.specs.Index.{rows_in}
use Rattle.sheet_index.specs.declared.rows.Rows.{Rows}
use Rattle.sheet_index.specs.Tables.{Indexed, ActionIn}
use Rattle.state.proofs.ByRow.{first_row_law}
use Rattle.sheet_index.proofs.Tables.{shop_passes}
use Rattle.search_bound.specs.declared.achievers.Achievers.{Achievers}
use Rattle.search_bound.specs.declared.achievers.Achievers.TheVariants.{None, Only, Many}
use Rattle.search_bound.specs.Tables.{entries, index_of, entry_at, Achieved, OnlyAchievers, with_achiever, noted}

pub index_fits : (l : Literal) → l.atom < most_atoms → index_of l < entries
index_fits l h = go l.sign
  where
    go : (b : Bool) → 2 * l.atom + cond b 1 0 < entries
    go true = omega arith
    go false = omega arith

-- The table with an operator noted at one literal.
abbrev pub one : ℕ → Literal → List Achievers → List Achievers
one o l t = cond (ltb l.atom most_atoms) (set t (index_of l) (with_achiever o (entry_at t l))) t

module _ (o : ℕ) where
  noted_append : (ls ms : List Literal) (t : List Achievers) → noted o (ls ++ ms) t ≡ noted o ms (noted o ls t)
  unfolding noted
  noted_append [] ms t = refl
  noted_append (l ∷ ls) ms t = noted_append ls ms (one o l t)

  one_length : (l : Literal) (t : List Achievers) → length (one o l t) ≡ length t
  one_length l t = go (ltb l.atom most_atoms)
    where
      go : (b : Bool) → length (cond b (set t (index_of l) (with_achiever o (entry_at t l))) t) ≡ length t
      go true = simp length-set
      go false = refl

  pub noted_length : (ls : List Literal) (t : List Achievers) → length (noted o ls t) ≡ length t
  unfolding noted
  noted_length [] t = refl
  noted_length (l ∷ ls) t = noted_length ls (one o l t) ∙ one_length l t

  -- The table with an operator noted at each literal of these rows.
  abbrev pub noted_in : List Achievers → List Row → List Achievers
  noted_in t rs = noted o (literals 5 6 rs) t

  -- A row is noted before those after it.
  pub noted_first : (t : List Achievers) (r : Row) (rs : List Row) {next : List Achievers} → next ≡ noted o (literals 5 6 (r ∷ [])) t
      → noted o (literals 5 6 (r ∷ rs)) t ≡ noted o (literals 5 6 rs) next
  noted_first t r rs e =
      ap (λ (ls : List Literal). noted o ls t) (first_row_law 5 6 r rs)
      ∙ noted_append (literals 5 6 (r ∷ [])) (literals 5 6 rs) t
      ∙ ap (noted o (literals 5 6 rs)) (sym e)

  -- A literal by what the table has there.
  module _ (l : Literal) (t : List Achievers) where
    pub one_noted : l.atom < most_atoms → {at : ℕ} → at ≡ index_of l → {e : Achievers} → e ≡ with_achiever o (get_or t at None)
        → set t at e ≡ noted o (l ∷ []) t
    unfolding noted
    one_noted h p q =
        rw (lt-ltb l.atom most_atoms h) (ap₂ (set t) p (q ∙ ap (λ (i : ℕ). with_achiever o (get_or t i None)) p))

    pub past_noted : most_atoms ≤ l.atom → t ≡ noted o (l ∷ []) t
    unfolding noted
    past_noted h = rw (le-ltb l.atom most_atoms h) refl

  pub none_noted : (t : List Achievers) → noted o [] t ≡ t
  unfolding noted
  none_noted t = refl

pub first_alone : (o : ℕ) (e : Achievers) → e ≡ None → Only o ≡ with_achiever o e
first_alone o e p = rw p

pub then_many : (o : ℕ) (e : Achievers) → (e ≡ None → ⊥) → Many ≡ with_achiever o e
then_many o None n = absurd (n refl)
then_many o (Only k) n = refl
then_many o Many n = refl

-- The entry leaves room for action `k` as an achiever: it names no other action alone.
abbrev pub Allows : ℕ → Achievers → Type 0
Allows k None = ⊥
Allows k (Only o) = k ≡ suc o
Allows k Many = Unit {0}

still_allows : (k o : ℕ) (a : Achievers) → Allows k a → Allows k (with_achiever o a)
still_allows k o None h = absurd h
still_allows k o (Only p) h = tt
still_allows k o Many h = tt

now_allows : (o : ℕ) (a : Achievers) → Allows (suc o) (with_achiever o a)
now_allows o None = refl
now_allows o (Only p) = tt
now_allows o Many = tt

module _ (o : ℕ) (l : Literal) (small : l.atom < most_atoms) where
  one_same : (t : List Achievers) → length t ≡ entries → entry_at (one o l t) l ≡ with_achiever o (entry_at t l)
  one_same t n = rw (lt-ltb l.atom most_atoms small) (get_or-set_same t (index_of l) (with_achiever o (entry_at t l)) None (omega (arith, index_fits l small)))

  one_kept : (k : ℕ) (x : Literal) (t : List Achievers) → length t ≡ entries → Allows k (entry_at t l) → Allows k (entry_at (one o x t) l)
  one_kept k x t n h = go (ltb x.atom most_atoms) (eqb (index_of x) (index_of l)) refl
    where
      next : List Achievers
      next = set t (index_of x) (with_achiever o (entry_at t x))

      go : (a b : Bool) → eqb (index_of x) (index_of l) ≡ b → Allows k (entry_at (cond a next t) l)
      go false b e = h
      go true true e =
          let q : index_of x ≡ index_of l = eqb-true (index_of x) (index_of l) e in
          let is : entry_at next l ≡ with_achiever o (entry_at t l) =
          ap (λ (i : ℕ). get_or (set t i (with_achiever o (get_or t i None))) (index_of l) None) q
          ∙ get_or-set_same t (index_of l) (with_achiever o (entry_at t l)) None (omega (arith, index_fits l small)) in
          subst (Allows k) (sym is) (still_allows k o (entry_at t l) h)
      go true false e =
          subst (Allows k)
          (sym (get_or-set_other t (index_of x) (index_of l) (with_achiever o (entry_at t x)) None (λ y. eqb-false _ _ e (sym y)))) h

  noted_kept : (k : ℕ) (ls : List Literal) (t : List Achievers) → length t ≡ entries → Allows k (entry_at t l) → Allows k (entry_at (noted o ls t) l)
  unfolding noted
  noted_kept k [] t n h = h
  noted_kept k (x ∷ ls) t n h = noted_kept k ls (one o x t) (one_length o x t ∙ n) (one_kept k x t n h)

  noted_achieved : (ls : List Literal) (t : List Achievers) → length t ≡ entries → Memᴰ l ls → Allows (suc o) (entry_at (noted o ls t) l)
  unfolding noted
  noted_achieved [] t n m = absurd (Memᴰ.not-nil m)
  noted_achieved (x ∷ ls) t n m =
      ⊎_elim
      (λ e. noted_kept (suc o) ls (one o x t) (one_length o x t ∙ n)
      (subst (λ (y : Literal). Allows (suc o) (entry_at (one o y t) l)) e (subst (Allows (suc o)) (sym (one_same t n)) (now_allows o (entry_at t l)))))
      (λ q. noted_achieved ls (one o x t) (one_length o x t ∙ n) q)
      (Memᴰ.cases_cons m)

-- Each literal's entry allows those of the first `n` actions that achieve it.
pub record AchievedTo (d : Domain) (n : ℕ) (t : List Achievers) : Type 0 where
  pub long : length t ≡ entries
  pub only : (l : Literal) (k : ℕ) → l.atom < most_atoms → 1 ≤ k → k ≤ n → contains (action_at d k).effects l ≡ true → Allows k (entry_at t l)

module _ (d : Domain) where
  pub achieved_none : {t : List Achievers} → length t ≡ entries → AchievedTo d 0 t
  achieved_none n = record { long = n; only = λ l k s p h. absurd (omega arith) }

  -- One action more.
  module _ {n : ℕ} {t : List Achievers} (m : AchievedTo d n t) where
    abbrev effects : List Literal
    effects = (action_at d (suc n)).effects

    achieved_here : (l : Literal) (k : ℕ) → l.atom < most_atoms → 1 ≤ k → k ≤ suc n → contains (action_at d k).effects l ≡ true
        → (b : Bool) → eqb k (suc n) ≡ b → Allows k (entry_at (noted n effects t) l)
    achieved_here l k s p h c true y =
        let q : k ≡ suc n = eqb-true _ _ y in
        rw q (noted_achieved n l s effects t m.long ((contains_iff effects l).0 (rw q at c)))
    achieved_here l k s p h c false y =
        let x : k ≢ suc n = eqb-false k (suc n) y in
        noted_kept n l s k effects t m.long (m.only l k s p (omega arith) c)

    achieved_more : {next : List Achievers} → next ≡ noted n effects t → AchievedTo d (suc n) next
    achieved_more e = subst (AchievedTo d (suc n)) (sym e) (record {
      long = noted_length n effects t ∙ m.long;
      only = λ l k s p h c. achieved_here l k s p h c (eqb k (suc n)) refl;
    })

module _ {shop order tables : List ℕ} (ix : Indexed shop order tables) {n : ℕ} {t : List Achievers} (m : AchievedTo (domain shop) n t) where
  -- The next action, by its rows.
  pub achievers_next : {rows : Rows} → ActionIn shop (n + 1) rows → {next : List Achievers} → next ≡ noted n (literals 5 6 (rows_in rows)) t
      → AchievedTo (domain shop) (n + 1) next
  achievers_next {rows} a e =
      let z : n + 1 ≡ suc n = add-one n in
      let f : (action_at (domain shop) (suc n)).effects ≡ literals 5 6 (rows_in rows) = rw z at (sym a.effects) in
      rw z (achieved_more (domain shop) m (e ∙ ap (λ (ls : List Literal). noted n ls t) (sym f)))

  pub achievers_all : action_count shop ≤ n → OnlyAchievers (domain shop) (record { entries = t })
  achievers_all h l s = go (entry_at t l) (λ j a b c. m.only l j s a (omega (arith, (shop_counts shop (shop_passes ix)).0)) c)
    where
      go : (e : Achievers) → ((j : ℕ) → 1 ≤ j → j ≤ length (domain shop).actions → contains (action_at (domain shop) j).effects l ≡ true → Allows j e)
          → Achieved (domain shop) l e
      go None f = λ j a b c. absurd (f j a b c)
      go (Only o) f = λ known. f
      go Many f = tt
