-- Assumes nothing.
use mathlib.Core.Path.{◌≡◌, refl, sym, ◌∙◌}
use mathlib.Core.Bool.{cond}
use Rattle.hgn.specs.Network.{is_parent}
use Rattle.sheet_index.proofs.Spans.{by_test}
use Rattle.network.specs.Entries.{name_in, name_of, waiting_of}
use Rattle.network.specs.Pending.{by_network}
use Rattle.network.proofs.Afters.{listed_there, listed_not_there, same_but_none, in_other_network}
use Rattle.network.proofs.listed.times_listed.Goals as goal
use Rattle.network.proofs.listed.times_listed.Goals.{then-eq+else-times-ne0, else-eq}

pub returns-then-times-ne0 : goal.returns-then-times-ne0
returns-then-times-ne0 c =
    listed_there _ _ c.args.goal c.args.other _ (sym (rw (c.name-name.ensures, c.name.ensures) at c.eq.ensures) ∙ c.if-eq.true) c.after_node-times.ensures c.if-times-ne0.true

pub returns : goal.returns
returns c =
    let a = c.args in
    let e = rw (c.name-name.ensures, c.name.ensures) at c.eq.ensures in
    let apart : by_network (waiting_of a.shop.now a.order.now a.goal) (waiting_of a.shop.now a.order.now a.other) ≡ 0 = elim c.if-eq.branch [
      | then-eq+else-times-ne0 w ↦ same_but_none _ _ a.goal a.other (sym e ∙ w.if-eq.true) w.after_node-times.result w.after_node-times.ensures w.if-times-ne0.false
      | else-eq w ↦ in_other_network _ _ a.goal a.other (sym e ∙ w.if-eq.false)
    ] in
    let parent : c.is_under.result ≡ is_parent (name_of (name_in a.goal)) (waiting_of a.shop.now a.order.now a.other).parent = rw c.name-name.ensures at c.is_under.ensures a.shop.now a.order.now in
    let once : c.from.result ≡ cond (is_parent (name_of (name_in a.goal)) (waiting_of a.shop.now a.order.now a.other).parent) 1 0 =
    rw (← parent) (by_test c.is_under.result (λ t. rw t at c.from.ensures ∙ rw t refl) (λ t. rw t at c.from.ensures ∙ rw t refl)) in
    listed_not_there _ _ a.goal a.other _ once apart
