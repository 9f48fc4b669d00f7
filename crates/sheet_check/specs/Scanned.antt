-- What one pass over a sheet's rows answers. Document 01, "Questions".
use Rattle.std.specs.Prelude.{ℕ, ◌≡◌, List, Result, Ok, Err}
use Rattle.hgn.specs.Questions.{Question, without_atom, passed, refused, first_no}
use Rattle.hgn.specs.Rows.{Row}
use Rattle.hgn.specs.RowQuestions.{row_questions, position_after}
use Rattle.hgn.specs.Tag.{opening}
use Rattle.sheet_rows.specs.Reading.{follow_of, first_question_of, position_of}
use Rattle.sheet_rows.specs.Refusals.{refusal_of}
use Rattle.sheet_check.specs.PartCounts.{nothing, counted_rows}
use Rattle.sheet_rows.specs.declared.position.Sheet.{Sheet}
use Rattle.sheet_rows.specs.declared.refusal.Refusal.{Refusal}
use Rattle.sheet_check.specs.declared.rows.Scan.{Scan}

-- The questions of these rows.
abbrev pub questions_of : Sheet → ℕ → List Row → List Question
questions_of sheet atoms rows = row_questions (follow_of sheet) (first_question_of sheet) atoms 0 opening rows

-- Every row passes, and leads to this position and these counts.
pub record Passed (sheet : Sheet) (atoms : ℕ) (rows : List Row) (s : Scan) : Type 0 where
  pub questions : first_no (questions_of sheet atoms rows) ≡ passed
  pub position : position_of s.position ≡ position_after opening rows
  pub counts : s.counts ≡ counted_rows nothing rows

-- What one pass answers: where each row passes what it comes to, and else the first no.
abbrev pub Scanned : Sheet → ℕ → List Row → Result Scan Refusal → Type 0
Scanned sheet atoms rows (Ok s) = Passed sheet atoms rows s
Scanned sheet atoms rows (Err r) = first_no (questions_of sheet atoms rows) ≡ refused (without_atom (refusal_of r))
