-- The facts that the loop leaves. Assumes nothing.
use Rattle.std.proofs.Common.{get_or, sym, ◌∙◌, arith}
use Rattle.std.proofs.lemmas.Bool.Decides.{nat_tests}
use Rattle.search_main.proofs.Depths.{digit_is, read_more, read_stop, read_all, empty_is_none}
use Rattle.search_main.proofs.depth.depth_of.Goals as goal

pub returns-then-is_empty : goal.returns-then-is_empty
returns-then-is_empty c = empty_is_none _ (grind (arith, nat_tests))

pub loop-byte-preserved : goal.loop-byte-preserved
loop-byte-preserved c =
    let byte = get_or c.args.text.now c.loop-byte.byte-index 0 in
    read_more _ c.loop-byte.invariant (omega arith) (digit_is byte ∙ sym c.is_ascii_digit.ensures.value ∙ c.if-not-is_ascii_digit.false)
    c.behind-depth.ensures

pub returns-then-not-is_ascii_digit : goal.returns-then-not-is_ascii_digit
returns-then-not-is_ascii_digit c =
    let byte = get_or c.args.text.now c.loop-byte.byte-index 0 in
    read_stop _ c.loop-byte.invariant (omega arith) (digit_is byte ∙ sym c.is_ascii_digit.ensures.value ∙ c.if-not-is_ascii_digit.true)

pub returns : goal.returns
returns c = read_all _ c.loop-byte.invariant (omega arith) (grind (arith, nat_tests))
