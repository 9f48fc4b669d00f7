-- The code's failure and verdict as the definitions have them, and what a verdict tells. Document 01, "Questions"; document 02, Req 01.
use Rattle.std.specs.Prelude.{ℕ, Option, Some, None, Result, Ok, Err}
use Rattle.hgn.specs.Questions as Questions
use Rattle.hgn.specs.Questions.{no_refusal, without_atom, Verdict, passed, refused}
use Rattle.hgn.specs.State.{no_atom}
use Rattle.sheet_rows.specs.Refusals.{refusal_of}
use Rattle.sheet_rows.specs.declared.position.Atom.{Atom}
use Rattle.step.specs.declared.failure.Failure.{Failure}

-- The atom that is named: 256 where none is.
abbrev pub atom_of : Option Atom → ℕ
atom_of None = no_atom
atom_of (Some a) = a.0

abbrev pub failure_of : Failure → Questions.Failure
failure_of f = record { refusal = refusal_of f.refusal; atom = atom_of f.atom }

-- The verdict on questions that were asked: they passed, or the first that is answered no tells this.
abbrev pub verdict_of : {A : Type 0} → Result A Failure → Verdict
verdict_of (Ok x) = passed
verdict_of (Err f) = refused (failure_of f)

-- What a verdict tells: no refusal and no atom where it passed.
abbrev pub told : Verdict → Questions.Failure
told passed = without_atom no_refusal
told (refused f) = f

-- What an answer tells: the failure, and of a step that is taken no refusal and no atom.
abbrev pub told_of : {A : Type 0} → Result A Failure → Questions.Failure
told_of (Ok _) = without_atom no_refusal
told_of (Err f) = failure_of f
