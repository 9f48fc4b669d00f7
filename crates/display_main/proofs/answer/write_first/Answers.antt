-- The moment's text is what goes out, and no more. Assumes nothing.
use Rattle.display_main.proofs.ShownTexts.{first_written}
use Rattle.display_main.proofs.answer.write_first.Goals as goal

pub returns : goal.returns
returns g c =
    let w = first_written _ c.write_out.result _ _ c.front.ensures c.put_moment-end.ensures.few c.write_out.ensures c.put_moment-end.ensures.text in
    record { few = w.0; text = w.1 }
