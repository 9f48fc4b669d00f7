-- The room is the one that the call answers with; writing the answer only reads it. Assumes nothing.
use Prim.Native.Nat.{ℕ}
use mathlib.Core.Path.{ap, ◌∙◌}
use mathlib.Core.List.{List}
use Rattle.hgn.specs.Search as Search
use Rattle.cases_main.proofs.searched.write.Goals as goal

pub returns : goal.returns
returns g c = let args = c.args in
    ap (λ (r : Search.Searched). r.room) c.search-answer.ensures
    ∙ ap {B = List ℕ} (λ (depth : ℕ). (Search.search args.shop.now args.order.now depth args.room.now).room) (c.from.ensures ∙ c.word.ensures)
