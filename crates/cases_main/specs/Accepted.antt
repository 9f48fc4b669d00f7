-- A trace that a replay accepts.
use Rattle.std.specs.Prelude.{ℕ, ◌≡◌, List}
use Rattle.hgn.specs.Replay.{replay}

-- With some room its answer has the number 0.
abbrev pub IsAccepted : List ℕ → List ℕ → List ℕ → Type 0
IsAccepted shop order trace = (room : List ℕ) × ((replay shop order trace room).answer.refusal.number ≡ 0)
