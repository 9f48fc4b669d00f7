-- The room begins with the bytes of the words so far, and ends as it did behind those of all. Assumes nothing.
use Rattle.std.proofs.Common.{◌≡◌, ◌*◌, take, drop, length}
use Rattle.sheet_files.specs.Words.{bytes_of}
use Rattle.sheet_files.proofs.words.bytes_of.Given as goal

abbrev pub invariant-loop-i : goal.invariant-loop-i
invariant-loop-i l =
    (take (2 * l.i) l.room ≡ bytes_of (take l.i l.words)) × (drop (2 * length l.words) l.room ≡ drop (2 * length l.words) l.initial.room)
