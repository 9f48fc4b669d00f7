-- The line that was told, or nothing. Assumes nothing.
use lib.ListN.{take}
use Rattle.listing_main.proofs.Pieces.{piece_line, piece_none}
use Rattle.listing_main.proofs.piece.put_piece.Goals as goal

pub returns-in-Some-clause-text : goal.returns-in-Some-clause-text
returns-in-Some-clause-text c = piece_line _ (take c.args.at c.args.text.now) c.in-Some.is c.put_line.ensures.text

pub returns-in-None-clause-text : goal.returns-in-None-clause-text
returns-in-None-clause-text c = piece_none (take c.args.at c.args.text.now) c.in-None.is
