-- What the replay program prints. Document 01, "One core of sixty centimetres"; document 02, Req 01.
use Rattle.std.specs.Prelude.{ℕ, ◌+◌, ◌*◌, ◌≡◌, List, [], ◌∷◌, ◌++◌, take, replicate}
use Rattle.hgn.specs.Trace.{most_steps}
use Rattle.hgn.specs.Questions.{Failure}
use Rattle.hgn.specs.Replay.{Replayed, refusal, replay}
use Rattle.sheet_files.specs.Words.{shop_words, order_words, trace_words}
use Rattle.sheet_files.specs.Texts.{ended, blank, newline, heading_of, number_bytes, heading_bytes}

-- One action number a line.
unfoldable pub lines : List ℕ → List ℕ
lines [] = []
lines (k ∷ plan) = ended newline k ++ lines plan

-- The most bytes of the whole text: a plan has no more actions than a trace has steps.
abbrev pub most_bytes : ℕ
most_bytes = heading_bytes + number_bytes * most_steps

unfoldable pub text_of : Replayed → List ℕ
text_of r = heading_of r ++ lines (take r.answer.count r.room)

-- The text for the bytes of three files, with a word of plan room lent for each of the most steps, 4,096.
unfoldable pub printed : List ℕ → List ℕ → List ℕ → List ℕ
printed shop order trace = text_of (replay (shop_words shop) (order_words order) (trace_words trace) (replicate most_steps 0))

-- A refusal is printed as one line: number and place, 0 and 0, and last the unmet atom, as `30 7 0 0 2`.
abbrev pub RefusalIsOneLine : Type 0
RefusalIsOneLine = (room : List ℕ) (f : Failure)
    → text_of (refusal room f)
    ≡ ended blank f.refusal.number ++ ended blank f.refusal.place ++ ended blank 0 ++ ended blank 0 ++ ended newline f.atom
