-- One pass over the rows: what is known before row `i`, and how a row leads on, is refused, or ends the pass. Assumes nothing.
use Prim.Native.Nat.{ℕ, suc, ◌+◌, ◌<◌, ◌≤◌}
use native.Mathlib.Omega.{arith}
use native.Mathlib.Numerals.{add-one}
use mathlib.Core.Path.{◌≡◌, sym, ap, ap₂, ◌∙◌, subst}
use mathlib.Core.Bool.{Bool, true, false, cond}
use mathlib.Core.List.{List, ◌∷◌}
use lib.Dec.{eqb}
use lib.ListN.{length, get_or, drop, drop_of_length-le}
use lib.Seq.{drop-cons}
use Rattle.hgn.specs.Lists.{elem}
use Rattle.hgn.specs.Rows.{Row, row, rows_of}
use Rattle.hgn.specs.RowQuestions.{row_questions, position_after}
use Rattle.hgn.specs.Tag as Tag
use Rattle.hgn.specs.Questions as Questions
use Rattle.hgn.specs.Questions.{◌asks◌, ◌askedAt◌, first_no}
use Rattle.sheet_rows.specs.Reading.{follow_of, first_question_of, position_of, next, refused, row_reading}
use Rattle.sheet_check.specs.PartCounts.{nothing, counted, counted_rows, Within}
use Rattle.sheet_check.specs.Scanned.{Passed, questions_of}
use Rattle.sheet_rows.specs.declared.position.Sheet.{Sheet}
use Rattle.sheet_rows.specs.declared.position.Position.{Position}
use Rattle.sheet_check.specs.declared.part_counts.PartCounts.{PartCounts}
use Rattle.sheet_check.proofs.Counts.{within_nothing, within_counted}
use Rattle.sheet_check.proofs.Lookup.{rows_length, rows_at}

-- What the three questions of a row come to is what the questions of the rows from there on begin with.
module _ (follow : Tag.Context → List ℕ) (q F i : ℕ) (p : Tag.Position) (t v : ℕ) (rest : List Row) where
  -- The rest where these three answers are yes, else the first no.
  row_first : Bool → Bool → Bool → Questions.Verdict
  row_first a b c =
      cond a
      (cond b
      (cond c (first_no (row_questions follow q F (suc i) (Tag.advance p t v) rest)) (Questions.refused ((q + 2) asks false askedAt i).failure))
      (Questions.refused ((q + 1) asks false askedAt i).failure))
      (Questions.refused (q asks false askedAt i).failure)

  pub row_next : (p' : Tag.Position) → next p' ≡ row_reading follow q F p t v
      → (first_no (row_questions follow q F i p (row t v ∷ rest)) ≡ first_no (row_questions follow q F (suc i) p' rest)) × (p' ≡ Tag.advance p t v)
  unfolding row_questions first_no row_reading row_first
  row_next p' = go (elem t (follow p.context)) (Tag.in_range F p t v) (Tag.rises p t v)
    where
      go : (a b c : Bool) → next p' ≡ cond a (cond b (cond c (next (Tag.advance p t v)) (refused (q + 2))) (refused (q + 1))) (refused q)
          → (row_first a b c ≡ first_no (row_questions follow q F (suc i) p' rest)) × (p' ≡ Tag.advance p t v)
      go true true true e =
          let z : p' ≡ Tag.advance p t v = cc in (ap (λ (x : Tag.Position). first_no (row_questions follow q F (suc i) x rest)) (sym z), z)
      go true true false e = let z : ◌≡◌ {A = ℕ} 0 1 = cc in absurd (omega arith)
      go true false c e = let z : ◌≡◌ {A = ℕ} 0 1 = cc in absurd (omega arith)
      go false b c e = let z : ◌≡◌ {A = ℕ} 0 1 = cc in absurd (omega arith)

  pub row_refused : (number : ℕ) → refused number ≡ row_reading follow q F p t v
      → first_no (row_questions follow q F i p (row t v ∷ rest)) ≡ Questions.refused (number asks false askedAt i).failure
  unfolding row_questions first_no row_reading row_first
  row_refused number = go (elem t (follow p.context)) (Tag.in_range F p t v) (Tag.rises p t v)
    where
      by : {k : ℕ} → number ≡ k → Questions.refused (k asks false askedAt i).failure ≡ Questions.refused (number asks false askedAt i).failure
      by z = ap (λ (k : ℕ). Questions.refused (k asks false askedAt i).failure) (sym z)

      go : (a b c : Bool) → refused number ≡ cond a (cond b (cond c (next (Tag.advance p t v)) (refused (q + 2))) (refused (q + 1))) (refused q)
          → row_first a b c ≡ Questions.refused (number asks false askedAt i).failure
      go true true true e = let z : ◌≡◌ {A = ℕ} 0 1 = cc in absurd (omega arith)
      go true true false e = let z : number ≡ q + 2 = cc in by z
      go true false c e = let z : number ≡ q + 1 = cc in by z
      go false b c e = let z : number ≡ q = cc in by z

-- A row adds at most one node.
nodes_advance : (p : Tag.Position) (t v : ℕ) → (Tag.advance p t v).nodes ≤ suc p.nodes
unfolding Tag.advance
nodes_advance p t v = go (eqb t Tag.method) (eqb t Tag.node)
  where
    go : (a b : Bool) → cond a 0 (cond b (suc p.nodes) p.nodes) ≤ suc p.nodes
    go true b = omega arith
    go false true = omega arith
    go false false = omega arith

-- Rows 0 to `i` less 1 have passed and led to this position and these counts.
pub record Going (sheet : Sheet) (F : ℕ) (rs : List Row) (i : ℕ) (p : Position) (t : PartCounts) : Type 0 where
  pub inside : i ≤ length rs
  pub questions : first_no (questions_of sheet F rs) ≡ first_no (row_questions (follow_of sheet) (first_question_of sheet) F i (position_of p) (drop i rs))
  pub position : position_after Tag.opening rs ≡ position_after (position_of p) (drop i rs)
  pub led : counted_rows nothing rs ≡ counted_rows t (drop i rs)
  pub nodes : p.nodes ≤ i
  pub counts : Within i t

module _ (sheet : Sheet) (F : ℕ) (rs : List Row) where
  pub going_start : (p : Position) (t : PartCounts) → position_of p ≡ Tag.opening → t ≡ nothing → Going sheet F rs 0 p t
  going_start p t e d = record {
    inside = omega arith;
    questions = ap (λ (x : Tag.Position). first_no (row_questions (follow_of sheet) (first_question_of sheet) F 0 x rs)) (sym e);
    position = ap (λ (x : Tag.Position). position_after x rs) (sym e);
    led = ap (λ (x : PartCounts). counted_rows x rs) (sym d);
    nodes = omega (arith, ap (λ (x : Tag.Position). x.nodes) e);
    counts = subst (Within 0) (sym d) within_nothing;
  }

  module _ (i : ℕ) (p : Position) (t : PartCounts) (g : Going sheet F rs i p t) (h : i < length rs) (tag value : ℕ) (at : get_or rs i (row 0 0) ≡ row tag value) where
    rest : drop i rs ≡ row tag value ∷ drop (i + 1) rs
    rest = drop-cons rs i (row 0 0) h ∙ ap₂ {C = List Row} (λ r k. r ∷ drop k rs) at (sym (add-one i))

    going_next : (p' : Position) (t' : PartCounts) → next (position_of p') ≡ row_reading (follow_of sheet) (first_question_of sheet) F (position_of p) tag value
        → t' ≡ counted t tag → Going sheet F rs (i + 1) p' t'
    unfolding position_after counted_rows
    going_next p' t' e d =
        let r = row_next (follow_of sheet) (first_question_of sheet) F i (position_of p) tag value (drop (i + 1) rs) (position_of p') e in
        record {
          inside = omega arith;
          questions =
              g.questions
              ∙ ap (λ (l : List Row). first_no (row_questions (follow_of sheet) (first_question_of sheet) F i (position_of p) l)) rest
              ∙ r.0
              ∙ ap (λ (k : ℕ). first_no (row_questions (follow_of sheet) (first_question_of sheet) F k (position_of p') (drop (i + 1) rs))) (sym (add-one i));
          position =
              g.position
              ∙ ap (position_after (position_of p)) rest
              ∙ ap (λ (x : Tag.Position). position_after x (drop (i + 1) rs)) (sym r.1);
          led = g.led ∙ ap (counted_rows t) rest ∙ ap (λ (x : PartCounts). counted_rows x (drop (i + 1) rs)) (sym d);
          nodes =
              omega (arith, nodes_advance (position_of p) tag value, ap (λ (x : Tag.Position). x.nodes) r.1, g.nodes);
          counts = subst (λ (k : ℕ). Within k t') (sym (add-one i)) (subst (Within (suc i)) (sym d) (within_counted i t tag g.counts));
        }

    going_refused : (number : ℕ) → refused number ≡ row_reading (follow_of sheet) (first_question_of sheet) F (position_of p) tag value
        → first_no (questions_of sheet F rs) ≡ Questions.refused (number asks false askedAt i).failure
    going_refused number e =
        g.questions
        ∙ ap (λ (l : List Row). first_no (row_questions (follow_of sheet) (first_question_of sheet) F i (position_of p) l)) rest
        ∙ row_refused (follow_of sheet) (first_question_of sheet) F i (position_of p) tag value (drop (i + 1) rs) number e

  going_end : (i : ℕ) (p : Position) (t : PartCounts) → Going sheet F rs i p t → length rs ≤ i
      → Passed sheet F rs (record { position = p; counts = t })
  unfolding row_questions first_no position_after counted_rows
  going_end i p t g h =
      let e = drop_of_length-le rs h in
      record {
        questions =
            g.questions ∙ ap (λ (l : List Row). first_no (row_questions (follow_of sheet) (first_question_of sheet) F i (position_of p) l)) e;
        position = sym (g.position ∙ ap (position_after (position_of p)) e);
        counts = sym (g.led ∙ ap (counted_rows t) e);
      }

-- The pass over the rows that stand in a sheet's words.
module _ (sheet : Sheet) (F sizes n : ℕ) (words : List ℕ) (fits : sizes + (n + n) ≤ length words) where
  abbrev rows : List Row
  rows = rows_of sizes n words

  module _ {i : ℕ} {p : Position} {t : PartCounts} (g : Going sheet F rows i p t) (h : i < n)
      {tag value : ℕ} (is-tag : tag ≡ get_or words (sizes + i) 0) (is-value : value ≡ get_or words (sizes + n + i) 0) where
    inside : i < length rows
    inside = rw (rows_length sizes n words fits) h

    read : get_or rows i (row 0 0) ≡ row tag value
    read = rows_at sizes n words fits i h ∙ ap₂ row (sym is-tag) (sym is-value)

    pub read_next : {p' : Position} {t' : PartCounts}
        → next (position_of p') ≡ row_reading (follow_of sheet) (first_question_of sheet) F (position_of p) tag value → t' ≡ counted t tag
        → Going sheet F rows (i + 1) p' t'
    read_next {p'} {t'} = going_next sheet F rows i p t g inside tag value read p' t'

    pub read_refused : (number : ℕ) → refused number ≡ row_reading (follow_of sheet) (first_question_of sheet) F (position_of p) tag value
        → first_no (questions_of sheet F rows) ≡ Questions.refused (number asks false askedAt i).failure
    read_refused = going_refused sheet F rows i p t g inside tag value read

  pub read_end : {i : ℕ} {p : Position} {t : PartCounts} → Going sheet F rows i p t → n ≤ i
      → Passed sheet F rows (record { position = p; counts = t })
  read_end {i} {p} {t} g h = going_end sheet F rows i p t g (rw (rows_length sizes n words fits) h)
