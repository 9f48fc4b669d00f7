-- The code's questions, refusals and answers, and an answer with a lent room at exit, as the definitions have them. Document 01, "Questions".
use Rattle.std.specs.Prelude.{ℕ, ◌≡◌, ◌≢◌, Option, Some, None, Result, Ok, Err}
use Rattle.hgn.specs.Questions as Questions
use Rattle.hgn.specs.Questions.{no_refusal, placed}
use Rattle.hgn.specs.Lent.{Lent}
use Rattle.sheet_rows.specs.declared.refusal.Question.{Question}
use Rattle.sheet_rows.specs.declared.refusal.Refusal.{Refusal}

-- The number of a question.
abbrev pub number_of : Question → ℕ
number_of Question.ShopTooShort = 1
number_of Question.ShopSizes = 2
number_of Question.ShopLength = 3
number_of Question.ShopTag = 4
number_of Question.ShopValue = 5
number_of Question.ShopNotRising = 6
number_of Question.ShopEnd = 7
number_of Question.ShopCounts = 8
number_of Question.MethodNodes = 9
number_of Question.OrderTooShort = 11
number_of Question.OrderSizes = 12
number_of Question.OrderLength = 13
number_of Question.OrderTag = 14
number_of Question.OrderValue = 15
number_of Question.OrderNotRising = 16
number_of Question.OrderEnd = 17
number_of Question.OrderCounts = 18
number_of Question.TraceTooShort = 21
number_of Question.TraceSteps = 22
number_of Question.TraceLength = 23
number_of Question.PlanRoom = 24
number_of Question.NoGoalThere = 25
number_of Question.UnknownMove = 26
number_of Question.NothingFree = 27
number_of Question.GoalNotFree = 28
number_of Question.GoalUnmet = 29
number_of Question.NeedsUnmet = 30
number_of Question.Irrelevant = 31
number_of Question.TooManyWaiting = 32
number_of Question.GoalsLeft = 33
number_of Question.DepthTooLarge = 41
number_of Question.SearchRoom = 42
number_of Question.NoTrace = 43
number_of Question.TooManyGoals = 81
number_of Question.TooManyRows = 82
number_of Question.JoinRoom = 83

-- The question of a number; none where no question has it.
abbrev pub IsQuestionOf : ℕ → Option Question → Type 0
IsQuestionOf n (Some q) = number_of q ≡ n
IsQuestionOf n None = (q : Question) → number_of q ≢ n

abbrev pub refusal_of : Refusal → Questions.Refusal
refusal_of r = record { number = number_of r.question; place = r.place }

-- What is answered: the refusal, or 0 and 0 where every question was answered yes.
abbrev pub answer_of : {A : Type 0} → Result A Refusal → Questions.Refusal
answer_of (Ok _) = no_refusal
answer_of (Err r) = refusal_of r

-- The same of an answer that has a place where every question was answered yes: 0 and that place.
abbrev pub found_of : Result ℕ Refusal → Questions.Refusal
found_of (Ok place) = placed place no_refusal
found_of (Err r) = refusal_of r

-- An answer, and a lent room at exit.
abbrev pub lent_of : {A Room : Type 0} → Result A Refusal → Room → Lent Room
lent_of r exit = record { refusal = answer_of r; room = exit }
