-- What answers say of tests, tags and readings, for the crates above. Assumes nothing.
use Prim.Native.Nat.{ℕ}
use native.Mathlib.Omega.{arith}
use mathlib.Core.Logic.{◌≢◌}
use mathlib.Core.Path.{◌≡◌, sym, ap, ◌∙◌}
use mathlib.Core.Bool.{Bool, true, false, ◌&&◌, or-false}
use mathlib.Core.List.{[], ◌∷◌}
use Rattle.std.specs.Prelude.{Result, IsErrAnd}
use Rattle.std.proofs.lemmas.Result.{err_from_is_err_and}
use lib.Dec.{eqb}
use borrow.Author.Tests.{eq-eqb, ne_eqb, le-leb, lt-leb}
use Rattle.hgn.specs.Lists.{elem, any}
use Rattle.hgn.specs.Tag.{Position}
use Rattle.sheet_rows.specs.Reading.{RowReading, next}
use Rattle.sheet_rows.specs.Refusals.{number_of, refusal_of, answer_of}
use Rattle.sheet_rows.specs.declared.refusal.Question.{Question}
use Rattle.sheet_rows.specs.declared.refusal.Refusal.{Refusal}

-- What a call ensures of its answer, and what a branch on that answer tells.
pub told : {r b v : Bool} → r ≡ b → r ≡ v → b ≡ v
told e t = sym e ∙ t

-- A test decides an `and`.
module _ {b : Bool} where
  pub and_first : (y : Bool) → b ≡ false → false ≡ (b && y)
  and_first y e = rw e

  pub and_second : {y z : Bool} → b ≡ true → z ≡ y → z ≡ (b && y)
  and_second e p = rw e p

-- A tag is in a list of one where it is that one.
pub elem_one : (t a : ℕ) → eqb t a ≡ elem t (a ∷ [])
unfolding elem any
elem_one t a = sym (or-false (eqb t a))

-- Readings are the same where their positions are.
pub same_next : {p q : Position} → p ≡ q → next p ≡ next q
same_next e = ap {B = RowReading} next e

-- No question has the number 0, which is told where every question was answered yes.
pub numbered : (q : Question) → number_of q ≢ 0
numbered Question.ShopTooShort = omega arith
numbered Question.ShopSizes = omega arith
numbered Question.ShopLength = omega arith
numbered Question.ShopTag = omega arith
numbered Question.ShopValue = omega arith
numbered Question.ShopNotRising = omega arith
numbered Question.ShopEnd = omega arith
numbered Question.ShopCounts = omega arith
numbered Question.MethodNodes = omega arith
numbered Question.OrderTooShort = omega arith
numbered Question.OrderSizes = omega arith
numbered Question.OrderLength = omega arith
numbered Question.OrderTag = omega arith
numbered Question.OrderValue = omega arith
numbered Question.OrderNotRising = omega arith
numbered Question.OrderEnd = omega arith
numbered Question.OrderCounts = omega arith
numbered Question.TraceTooShort = omega arith
numbered Question.TraceSteps = omega arith
numbered Question.TraceLength = omega arith
numbered Question.PlanRoom = omega arith
numbered Question.NoGoalThere = omega arith
numbered Question.UnknownMove = omega arith
numbered Question.NothingFree = omega arith
numbered Question.GoalNotFree = omega arith
numbered Question.GoalUnmet = omega arith
numbered Question.NeedsUnmet = omega arith
numbered Question.Irrelevant = omega arith
numbered Question.TooManyWaiting = omega arith
numbered Question.GoalsLeft = omega arith
numbered Question.DepthTooLarge = omega arith
numbered Question.SearchRoom = omega arith
numbered Question.NoTrace = omega arith
numbered Question.TooManyGoals = omega arith
numbered Question.TooManyRows = omega arith
numbered Question.JoinRoom = omega arith

-- What a `?` hands on is what the call was refused by.
pub handed_on : {A : Type 0} (r : Result A Refusal) (e : Refusal) → IsErrAnd r (λ x. x ≡ e) → answer_of r ≡ refusal_of e
handed_on r e h = let p = err_from_is_err_and r h in rw (p.1, p.2)

-- Limits, all kept to or one not.
pub ruleset within = (and_first, and_second, eq-eqb, ne_eqb, le-leb, lt-leb)
