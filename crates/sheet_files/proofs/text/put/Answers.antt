-- The digits are copied behind the first bytes, then the byte that ends the number. Assumes nothing.
use Rattle.std.proofs.Common.{◌+◌, List, ℕ, length, take, set, refl, ap, ◌∙◌, arith, rules}
use Rattle.std.proofs.lemmas.Slice.{put_mid-paste}
use Rattle.sheet_files.proofs.Texts.{put_is}
use Rattle.sheet_files.proofs.text.put.Goals as goal

pub returns-clause-text : goal.returns-clause-text
returns-clause-text c =
    let s = c.as_bytes-digits.result.now in
    ap {B = List ℕ} (λ (t : List ℕ). take (c.args.at + length s + 1) (set t (c.args.at + length s) c.args.end))
    (put_mid-paste c.args.at _ c.args.text.now _ s (length s) c.copy_from_slice.ensures.after (omega arith) refl)
    ∙ put_is c.args.text.now s c.args.at c.args.number c.args.end (omega arith) (omega arith) (search rules)
