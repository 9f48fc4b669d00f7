-- The rows in the two rooms are those of the words, and the tags are the definition's. Assumes nothing.
use native.Mathlib.Omega.{arith}
use mathlib.Core.Path.{◌∙◌}
use Rattle.cases_main.proofs.relevances.told_of.Goals as goal

pub relevance_in-relevance-requires : goal.relevance_in-relevance-requires
relevance_in-relevance-requires c = (omega (arith, c.write_rows.auto.room), omega (arith, c.write_rows-2.auto.room))

pub returns : goal.returns
returns c =
    record {
      tags = c.signs_of-signs.ensures;
      tells = c.relevance_in-relevance.ensures ∙ rw (c.signs_of-signs.ensures, c.write_rows.ensures, c.write_rows-2.ensures);
    }
