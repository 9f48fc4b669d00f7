-- Questions that are answered yes or no, and the first no of a list of them: what every call and every step answers.
-- Document 01, "Questions, and the number when the answer is no"; document 02, Req 01.
use Rattle.std.specs.Prelude.{ℕ, ◌≡◌, Bool, true, false, cond, List, [], ◌∷◌, map}
use Rattle.hgn.specs.State.{no_atom}

-- A refusal: the number of the question that is answered no, and its place. What a check of sheets and a search answer.
pub record Refusal : Type 0 where
  pub number : ℕ
  pub place : ℕ  -- what "at" says, 0 where it is not said

-- What is answered where no question is answered no.
abbrev pub no_refusal : Refusal
no_refusal = record { number = 0; place = 0 }

-- What is told of a question that is answered no: the refusal, and the atom that is not as wanted. Only 29 and 30 name one.
pub record Failure : Type 0 where
  pub refusal : Refusal
  pub atom : ℕ

-- A refusal that names no atom.
abbrev pub without_atom : Refusal → Failure
without_atom r = record { refusal = r; atom = no_atom }

pub record Question : Type 0 where
  pub failure : Failure  -- what is told where the answer is no
  pub answer : Bool  -- true is yes

infixl 68 ◌asks◌ ◌naming◌ ◌askedAt◌
-- The question of this number, with no place of its own, that names no atom.
abbrev pub ◌asks◌ : ℕ → Bool → Question
number asks answer = record { failure = without_atom (record { number = number; place = 0 }); answer = answer }

-- A question keeps its number, its place and its answer and names this atom.
abbrev pub ◌naming◌ : Question → ℕ → Question
q naming atom = record { failure = record { refusal = q.failure.refusal; atom = atom }; answer = q.answer }

-- A refusal keeps its number and gets a place: a row, a method, a step.
abbrev pub placed : ℕ → Refusal → Refusal
placed place r = record { number = r.number; place = place }

-- What is told keeps its number and its atom and gets a place.
abbrev pub failed_at : ℕ → Failure → Failure
failed_at place f = record { refusal = placed place f.refusal; atom = f.atom }

-- A question keeps its number, its atom and its answer and gets a place.
abbrev pub ◌askedAt◌ : Question → ℕ → Question
q askedAt place = record { failure = failed_at place q.failure; answer = q.answer }

-- These questions, all at one place.
unfoldable pub all_at : ℕ → List Question → List Question
all_at place qs = map (λ q. q askedAt place) qs

-- What a list of questions comes to.
pub data Verdict : Type 0 where
  passed : Verdict
  refused : Failure → Verdict

-- "stops at the first no".
unfoldable pub first_no : List Question → Verdict
first_no [] = passed
first_no (q ∷ qs) = cond q.answer (first_no qs) (refused q.failure)

-- A verdict as a check of sheets answers it: "0 and 0 when passed".
abbrev pub answered : Verdict → Refusal
answered passed = no_refusal
answered (refused f) = f.refusal

-- What is told of the first question of the list with the answer no, number, place and atom: `first_no` as a proposition.
pub data FirstNo : List Question → Failure → Type 0 where
  here : {q : Question} {qs : List Question} → q.answer ≡ false → FirstNo (q ∷ qs) q.failure
  later : {q : Question} {qs : List Question} {f : Failure} → q.answer ≡ true → FirstNo qs f → FirstNo (q ∷ qs) f

-- Every question of the list has the answer yes.
pub data AllYes : List Question → Type 0 where
  none : AllYes []
  more : {q : Question} {qs : List Question} → q.answer ≡ true → AllYes qs → AllYes (q ∷ qs)
