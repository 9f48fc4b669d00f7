-- The first record stands for the order's problem, the whole trace is ahead of it, and what the turns from it on write out is the text. Assumes nothing.
use borrow.Author.Rules.{rules}
use Rattle.listing_main.proofs.Judging.{order_passes}
use Rattle.listing_main.proofs.FirstAhead.{ahead_first}
use Rattle.listing_main.proofs.TurnLaws.{turns_are_whole}
use Rattle.listing_main.proofs.answer.write_tree.Goals as goal

pub prepared-problem-requires : goal.prepared-problem-requires
prepared-problem-requires g c = record { order_value = order_passes _ _ _ c.requires.trace_value; most_methods_in_bounds = search rules }

pub write_steps-requires : goal.write_steps-requires
write_steps-requires g c =
    let f = c.prepared-problem.ensures in
    (f.indexed, record { ahead = ahead_first _ _ _ c.requires.trace_value f; roomy = c.requires.piece_bytes_in_bounds })

pub returns : goal.returns
returns g c all =
    let t = c.write_steps.ensures all in
    let f = c.prepared-problem in
    (f.result, t.0, t.1, turns_are_whole _ _ _ _ f.result c.requires.trace_value f.ensures t.0 t.1)
