-- Each turn puts in a word, and the words in front are those of the first bytes. Assumes nothing.
use Rattle.std.proofs.Common.{ℕ, arith}
use Rattle.std.proofs.lemmas.List.{length-take, length-replicate}
use Rattle.sheet_files.proofs.ByIndex.{words_more, words_whole}
use Rattle.sheet_files.proofs.words.SheetWords.read.Goals as goal

pub loop-i-preserved : goal.loop-i-preserved
loop-i-preserved g c =
    words_more _ c.args.bytes.now _ _ (omega arith) (omega (arith, length-take {A = ℕ}, length-replicate {A = ℕ})) c.loop-i.invariant (omega arith)

pub returns : goal.returns
returns g c =
    let room = c.loop-i.word-items in
    words_whole room _ c.args.bytes.now _ _ _ (omega (arith, length-take {A = ℕ}, length-replicate {A = ℕ})) c.min-count.ensures
    (omega (arith, length-take {A = ℕ}, length-replicate {A = ℕ})) c.loop-i.invariant
