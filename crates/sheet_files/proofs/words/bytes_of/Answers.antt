-- Each turn puts in the two bytes of a word, and the rest stays. Assumes nothing.
use Rattle.std.proofs.Common.{◌≡◌, ◌+◌, ◌-◌, ◌*◌, ◌∙◌, ap, arith, refl, length}
use Rattle.std.proofs.lemmas.Slice.{drop-put_mid}
use Rattle.sheet_files.specs.Words.{bytes_of}
use Rattle.sheet_files.proofs.ByIndex.{bytes_more, bytes_whole}
use Rattle.sheet_files.proofs.words.bytes_of.Goals as goal

pub loop-i-init : goal.loop-i-init
unfolding bytes_of
loop-i-init c = (refl, refl)

pub loop-i-preserved : goal.loop-i-preserved
loop-i-preserved c =
    let i = c.loop-i.i in
    let bytes = c.copy_from_slice.ensures.after ∙ c.to_le_bytes.ensures in
    let long : length c.copy_from_slice.new.self ≡ 2 = ap length bytes in (
      bytes_more c.args.words.now _ _ _ _ (omega arith) (omega arith) (omega (arith, c.type_inv.words i)) c.loop-i.invariant.0 (omega arith) bytes,
      drop-put_mid (2 * i) (2 * i + 2 - 2 * i) c.loop-i.room _ (2 * length c.args.words.now) (omega arith) (omega arith) (omega (arith, long))
          ∙ c.loop-i.invariant.1,
    )

pub returns : goal.returns
returns c = bytes_whole c.args.words.now _ _ _ (omega arith) c.loop-i.invariant.0 c.loop-i.invariant.1
