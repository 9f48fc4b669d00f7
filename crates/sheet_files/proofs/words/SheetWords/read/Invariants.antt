-- The room's front holds the words so far. Assumes nothing.
use Rattle.std.proofs.Common.{◌≡◌, take}
use Rattle.sheet_files.specs.Words.{words_of}
use Rattle.sheet_files.proofs.words.SheetWords.read.Given as goal

abbrev pub invariant-loop-i : goal.invariant-loop-i
invariant-loop-i g l = take l.i l.word-items ≡ take l.i (words_of l.bytes)
