-- Each byte passes the test, or one does not. Assumes nothing.
use Rattle.std.proofs.Common.{◌∙◌, rules}
use Rattle.std.proofs.lemmas.Iterator.{YieldsList-from_slice}
use Rattle.std.proofs.lemmas.Iterator.Search.{all_from_yields_List}
use Rattle.cases_main.specs.Plain.{plain_byte}
use Rattle.cases_main.proofs.Plains.{all_listed}
use Rattle.cases_main.proofs.sheet.is_plain.Goals as goal

pub returns : goal.returns
returns c =
    all_from_yields_List plain_byte _ _ _ c.all.ensures.ran (YieldsList-from_slice c.args.text.now (search rules)) (λ x b q k. search rules)
    ∙ all_listed c.args.text.now
