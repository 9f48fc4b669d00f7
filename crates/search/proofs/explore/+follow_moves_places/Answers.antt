-- What the cycle of calls {follow, moves, places} asks and tells. Assumes nothing.
use Rattle.std.proofs.Common.{◌≡◌, ℕ, ◌+◌, ◌-◌, ◌<◌, ◌≤◌, Bool, true, List, refl, sym, ap, ap₂, ◌∙◌, arith}
use mathlib.Core.Path.{subst}
use mathlib.Core.Logic.{inl}
use mathlib.Core.Option.{Option, none, some}
use lib.Dec.{eqb, ltb}
use lib.ListN.{length}
use borrow.Author.Tests.{ltb-true}
use Rattle.std.specs.Prelude.{Result, Ok, Err}
use Rattle.std.proofs.lemmas.Result.{err_from_is_err_and}
use Rattle.hgn.specs.Network.{free, goal_at}
use Rattle.hgn.specs.Run.{Step, Problem}
use Rattle.hgn.specs.Shop.{domain, action_count, method_count}
use Rattle.hgn.specs.Trace.{step}
use Rattle.hgn.specs.Replay.{rules_of}
use Rattle.hgn.proofs.Sheets.Checked.{shop_actions, shop_methods, shop_counts}
use Rattle.sheet_rows.proofs.Laws.{told}
use Rattle.sheet_index.specs.Tables.{Indexed}
use Rattle.sheet_index.proofs.Tables.{shop_passes}
use Rattle.network.specs.Goals.{count_in, list_in, pending_in}
use Rattle.network.specs.declared.goals.Goals.{Goals}
use Rattle.network.specs.declared.waiting.Place.{Place}
use Rattle.network.proofs.WaitingGoals.{list_length, free_at}
use Rattle.step.specs.Moves.{Known, known_of}
use Rattle.step.specs.Taking.{problem_with, ValidGoals}
use Rattle.step.specs.declared.moves.Move.{Move}
use Rattle.step.proofs.TakenSteps.{taking_may, taken_by, going_next}
use Rattle.search_theory.specs.Pruned.{moves_from, places_from, pruned_of}
use Rattle.search_theory.proofs.Loops.{places_end}
use Rattle.search_pruning.specs.Tests.{nth_move, move_number, step_of, crowded}
use Rattle.search_pruning.proofs.Reading.{number_fits}
use Rattle.search.specs.Founds.{steps_from, Covers, Finds}
use Rattle.search.specs.Trials.{Suffices}
use Rattle.search.specs.declared.explore.Node.{Node}
use Rattle.search.specs.declared.found.Steps.{Steps}
use Rattle.search.specs.declared.found.Exhausted.{Exhausted}
use Rattle.search.proofs.Trying.{crowded_out}
use Rattle.search.proofs.Exploring.{found_by, covers_long, covers_more, covers_same, covers_own, nth_known, nth_past, nth_found, moves_done, place_past, place_found}
use Rattle.search.proofs.Exploring.{cannot_tell, ends_found, ends_none, follow_crowded, follow_short, follow_none, follow_some, held_none, all_places}
use Rattle.search.proofs.explore.+follow_moves_places.Goals as goal
use Rattle.search.proofs.explore.+follow_moves_places.Goals.{moves-then-can_tell+then-is_open+in-Err, moves-else-can_tell, moves-else-can_tell-via-then-can_tell+else-is_open}
use Rattle.search.proofs.explore.+follow_moves_places.Goals.{moves-else-can_tell-via-else-can_tell, places-then-is_free+in-Err, places-else-is_free}

-- What follows a step.

-- Whether the steps left may suffice, of the problem that the step leaves.
suffices_is : (shop : List ℕ) (left : ℕ) {Q Q' : Problem} {r v : Bool} → Q ≡ Q' → Suffices shop Q left r → r ≡ v → Suffices shop Q' left v
suffices_is shop left {Q} {Q'} {r} e s f =
    subst (λ (b : Bool). Suffices shop Q' left b) f (subst (λ (X : Problem). Suffices shop X left r) e s)

-- What the search from there told.
told_onward : (shop : List ℕ) (P : Problem) (x : Step) (n left : ℕ) {Q Q' : Problem} (r : Result Steps Exhausted) → Q ≡ Q'
    → Finds (λ k. pruned_of k (rules_of shop) P x n Q) n left r → Finds (λ k. pruned_of k (rules_of shop) P x n Q') n left r
told_onward shop P x n left r e = subst (λ (X : Problem). Finds (λ k. pruned_of k (rules_of shop) P x n X) n left r) e

pub follow-returns-then-crowded : goal.follow-returns-then-crowded
follow-returns-then-crowded t c P₀ y o =
    follow_crowded c.args.given.now.lent.indexed c.args.choice o c.args.node.number c.args.node.left c.requires.going.1
    (ap (λ (n : ℕ). crowded (c.args.node.left - 1) n (known_of c.args.choice.mv))
    (list_length c.args.given.now.shop.now c.args.given.now.order.now c.args.here.goals.now ∙ sym c.len.ensures)
    ∙ told c.crowded.ensures c.if-crowded.true)
    c.one_more.result c.one_more.ensures

pub follow-apply-requires-clause-may_apply : goal.follow-apply-requires-clause-may_apply
follow-apply-requires-clause-may_apply t c = taking_may _ _ c.args.node.number c.args.here.atoms.now _ c.args.choice c.requires.fact.2.taken.taking

pub follow-returns-then-not-may_suffice : goal.follow-returns-then-not-may_suffice
follow-returns-then-not-may_suffice t c P₀ y o =
    follow_short c.args.given.now.lent.indexed c.args.choice o c.args.node.number c.args.node.left c.requires.going.1
    (suffices_is c.args.given.now.shop.now (c.args.node.left - 1) c.apply.ensures.leaves c.may_suffice.ensures c.if-not-may_suffice.true)
    c.one_more-then-not-may_suffice.result c.one_more-then-not-may_suffice.ensures

pub follow-places-requires : goal.follow-places-requires
follow-places-requires t c =
    let o = c.requires.fact.2.taken.taking in
    let going = c.requires.going.0 in (
      omega (arith, c.decreases, c.requires.going.1),
      record {
        going = going_next (omega arith) going (taken_by _ _ _ _ _ c.args.choice o c.apply.ensures);
        before = going.valid;
        last_inside = λ h. omega (arith, o.inside, list_length c.args.given.now.shop.now c.args.given.now.order.now c.args.here.goals.now);
        last_known = o.known;
        fits = omega (arith, c.requires.going.1, c.requires.going.2);
      },
    )

pub follow-number_of-requires : goal.follow-number_of-requires
follow-number_of-requires t c = number_fits c.args.given.now.lent.indexed c.args.choice.mv c.requires.fact.2.taken.taking.known

pub follow-returns-in_err-places : goal.follow-returns-in_err-places
follow-returns-in_err-places t c P₀ y o =
    let p = err_from_is_err_and c.from_residual.result c.from_residual.ensures.1 in
    rw (p.1, p.2)
    (follow_none c.args.given.now.lent.indexed c.args.choice o c.args.node.number c.args.node.left c.requires.going.1 c.in_err-places.field-0.0
    (told_onward c.args.given.now.shop.now _ _ _ _ (Err c.in_err-places.field-0.0) c.apply.ensures.leaves c.in_err-places.ensures))

pub follow-returns : goal.follow-returns
follow-returns t c P₀ y o =
    follow_some c.args.given.now.lent.indexed c.args.choice o c.args.node.number c.args.node.left c.requires.going.1 c.places.new.found
    (told_onward c.args.given.now.shop.now _ _ _ _ (Ok c.places.new.found) c.apply.ensures.leaves c.in_ok-places.ensures)
    (suffices_is c.args.given.now.shop.now (c.args.node.left - 1) c.apply.ensures.leaves c.may_suffice.ensures c.if-not-may_suffice.false)
    c.put.new.self c.number_of.ensures c.put.ensures

-- The move routine.

-- A shop sheet's counts are small.
few_moves : {shop order tables : List ℕ} → Indexed shop order tables → (action_count shop ≤ 255) × (method_count shop ≤ 255)
few_moves {shop} ix =
    let p = shop_passes ix in
    let n = shop_counts shop p in
    (omega (arith, n, shop_actions shop p), omega (arith, n, shop_methods shop p))

-- A turn of its loop, once the move is read: nothing is found with that move, or this is.
module _ {shop order tables : List ℕ} (ix : Indexed shop order tables) {actions methods i : ℕ} {mv : Move} (a : actions ≡ action_count shop)
    (m : methods ≡ method_count shop) (b : i ≤ actions + methods) (e : mv ≡ nth_move i actions) where
  all_are : actions + methods ≡ action_count shop + method_count shop
  all_are = ap₂ (λ (x y : ℕ). x + y) a m

  read_known : Known (action_count shop) (method_count shop) mv
  read_known = nth_known ix a all_are b e

  module _ (f : Step → Option (List Step)) (p : ℕ) where
    read_past : moves_from f (domain shop) p 0 ≡ moves_from f (domain shop) p i → f (step (move_number mv) p) ≡ none
        → moves_from f (domain shop) p 0 ≡ moves_from f (domain shop) p (i + 1)
    read_past h q = h ∙ nth_past ix a all_are b e f p q

    read_found : {xs : List Step} → moves_from f (domain shop) p 0 ≡ moves_from f (domain shop) p i → f (step (move_number mv) p) ≡ some xs
        → moves_from f (domain shop) p 0 ≡ some xs
    read_found h q = h ∙ nth_found ix a all_are b e f p q

  -- It can tell nothing where a branch ran out of steps before, and more goals wait after it than steps are left.
  tells_nothing : (P₀ P : Problem) (node : Node) (place : Place) {exhausted count k : ℕ} → length P.waiting ≡ count
      → (ltb 0 exhausted ≡ true) × (crowded (node.left - 1) count (known_of mv) ≡ true) → Covers exhausted node.left k
      → found_by shop P₀ P node k (step (move_number mv) place.0) ≡ none
  tells_nothing P₀ P node place q e v =
      ap {B = Option (List Step)} (λ (j : ℕ). found_by shop P₀ P node j (step (move_number mv) place.0)) (covers_own (ltb-true _ _ e.0) v)
      ∙ crowded_out ix P₀ (step_of node.last) P (record { mv = mv; place = place }) read_known (node.left - 1) node.number
      (ap (λ (j : ℕ). crowded (node.left - 1) j (known_of mv)) q ∙ e.1)

pub moves-overflow_add-all : goal.moves-overflow_add-all
moves-overflow_add-all t c = omega (arith, c.of-sizes.ensures.actions, c.of-sizes.ensures.methods, few_moves c.args.given.now.lent.indexed)

pub moves-overflow_step-i : goal.moves-overflow_step-i
moves-overflow_step-i t c = omega (arith, c.of-sizes.ensures.actions, c.of-sizes.ensures.methods, few_moves c.args.given.now.lent.indexed)

-- A trace was found with the move.
pub moves-returns-in-Ok : goal.moves-returns-in-Ok
moves-returns-in-Ok t c =
    read_found c.args.given.now.lent.indexed c.of-sizes.ensures.actions c.of-sizes.ensures.methods c.loop-i-test.true c.nth-mv.ensures _ _
    (c.loop-i.invariant c.args.node.left (inl refl)) (c.in-Ok.ensures _ _ c.if-is_open.ensures)

-- None was, after a turn of the loop.
pub moves-loop-i-preserved : goal.moves-loop-i-preserved
moves-loop-i-preserved t c k v =
    let P₀ : Problem = problem_with c.args.given.now.shop.now c.args.given.now.order.now c.args.before.atoms.now c.args.before.goals.now in
    let P : Problem = problem_with c.args.given.now.shop.now c.args.given.now.order.now c.args.here.atoms.now c.args.here.goals.now in
    let turn : Covers c.loop-i.exhausted.0 c.args.node.left k
    × (found_by c.args.given.now.shop.now P₀ P c.args.node k (step (move_number c.nth-mv.result) c.args.place.0) ≡ none) = elim c.if-can_tell.branch [
      | moves-then-can_tell+then-is_open+in-Err w ↦ covers_more w.exhausted-is w.max-exhausted.ensures (w.in-Err.ensures _ _ w.if-is_open.ensures) v
      | moves-else-can_tell w ↦
          elim w.else-can_tell.branch [
            | moves-else-can_tell-via-then-can_tell+else-is_open w' ↦ covers_same w.exhausted-is (λ u. w'.if-is_open.ensures (k - 1) c.args.node.number) v
            | moves-else-can_tell-via-else-can_tell w' ↦
                covers_same w.exhausted-is
                (tells_nothing c.args.given.now.lent.indexed c.of-sizes.ensures.actions c.of-sizes.ensures.methods c.loop-i-test.true c.nth-mv.ensures P₀ P c.args.node
                c.args.place (list_length c.args.given.now.shop.now c.args.given.now.order.now c.args.here.goals.now ∙ sym c.len-count.ensures)
                (cannot_tell _ _ c.can_tell.ensures w'.if-can_tell.false))
                v
          ]
    ] in
    read_past c.args.given.now.lent.indexed c.of-sizes.ensures.actions c.of-sizes.ensures.methods c.loop-i-test.true c.nth-mv.ensures _ _
    (c.loop-i.invariant k turn.0) turn.1

-- None was found with any move, once the last is tried.
pub moves-returns-after-can_tell : goal.moves-returns-after-can_tell
moves-returns-after-can_tell t c k v =
    let P₀ : Problem = problem_with c.args.given.now.shop.now c.args.given.now.order.now c.args.before.atoms.now c.args.before.goals.now in
    let P : Problem = problem_with c.args.given.now.shop.now c.args.given.now.order.now c.args.here.atoms.now c.args.here.goals.now in
    let turn : Covers c.loop-i.exhausted.0 c.args.node.left k
    × (found_by c.args.given.now.shop.now P₀ P c.args.node k (step (move_number c.nth-mv.result) c.args.place.0) ≡ none) = elim c.if-can_tell.branch [
      | moves-then-can_tell+then-is_open+in-Err w ↦ covers_more w.exhausted-is w.max-exhausted.ensures (w.in-Err.ensures _ _ w.if-is_open.ensures) v
      | moves-else-can_tell w ↦
          elim w.else-can_tell.branch [
            | moves-else-can_tell-via-then-can_tell+else-is_open w' ↦ covers_same w.exhausted-is (λ u. w'.if-is_open.ensures (k - 1) c.args.node.number) v
            | moves-else-can_tell-via-else-can_tell w' ↦
                covers_same w.exhausted-is
                (tells_nothing c.args.given.now.lent.indexed c.of-sizes.ensures.actions c.of-sizes.ensures.methods c.loop-i-test.true c.nth-mv.ensures P₀ P c.args.node
                c.args.place (list_length c.args.given.now.shop.now c.args.given.now.order.now c.args.here.goals.now ∙ sym c.len-count.ensures)
                (cannot_tell _ _ c.can_tell.ensures w'.if-can_tell.false))
                v
          ]
    ] in
    read_past c.args.given.now.lent.indexed c.of-sizes.ensures.actions c.of-sizes.ensures.methods c.loop-i-test.true c.nth-mv.ensures _ _
    (c.loop-i.invariant k turn.0) turn.1
    ∙ moves_done c.args.given.now.shop.now (shop_passes c.args.given.now.lent.indexed) _ c.args.place.0 _ _
    (ap₂ (λ (x y : ℕ). x + y) c.of-sizes.ensures.actions c.of-sizes.ensures.methods) (omega arith)

-- The place routine.

-- Whether the goal of a turn's place is free.
free_is : (shop order : List ℕ) (ws : Goals) (i : ℕ) {count : ℕ} → ValidGoals shop order ws → count ≡ count_in ws → i < count
    → {r v : Bool} → r ≡ eqb (pending_in ws i) 0 → r ≡ v → free (list_in shop order ws) (goal_at (list_in shop order ws) i) ≡ v
free_is shop order ws i h e b p q = sym (free_at shop order ws h.counted i (omega arith)) ∙ told p q

-- The search of a covered length is what is found from the place of this turn on.
from_here : (shop : List ℕ) (P₀ P : Problem) (node : Node) (i exhausted k : ℕ) → 1 ≤ node.left → Covers exhausted node.left k
    → places_from (found_by shop P₀ P node k) (domain shop) P.waiting 0 ≡ places_from (found_by shop P₀ P node k) (domain shop) P.waiting i
    → pruned_of k (rules_of shop) P₀ (step_of node.last) node.number P ≡ places_from (found_by shop P₀ P node k) (domain shop) P.waiting i
from_here shop P₀ P node i exhausted k m v h =
    all_places (rules_of shop) P₀ (step_of node.last) k node.number P (omega (arith, m, covers_long _ v)) ∙ h

-- Past a place.
place_done : (shop order : List ℕ) (ws : Goals) (f : Step → Option (List Step)) (i : ℕ) {count : ℕ} → count ≡ count_in ws → i < count
    → places_from f (domain shop) (list_in shop order ws) 0 ≡ places_from f (domain shop) (list_in shop order ws) i
    → moves_from f (domain shop) i 0 ≡ none
    → places_from f (domain shop) (list_in shop order ws) 0 ≡ places_from f (domain shop) (list_in shop order ws) (i + 1)
place_done shop order ws f i e b h q =
    h ∙ place_past f (domain shop) (list_in shop order ws) i (omega (arith, list_length shop order ws)) q

-- No step is left, and nothing waits.
pub places-returns-then-count-eq0 : goal.places-returns-then-count-eq0
places-returns-then-count-eq0 t c =
    let P₀ : Problem = problem_with c.args.given.now.shop.now c.args.given.now.order.now c.args.before.atoms.now c.args.before.goals.now in
    let P : Problem = problem_with c.args.given.now.shop.now c.args.given.now.order.now c.args.here.atoms.now c.args.here.goals.now in
    let y : Step = step_of c.args.node.last in
    subst (λ (j : ℕ). pruned_of j (rules_of c.args.given.now.shop.now) P₀ y c.args.node.number P ≡ some (steps_from c.args.node.number j c.args.found.now))
    (sym c.if-node-eq0.true)
    (ends_found (rules_of c.args.given.now.shop.now) P₀ y c.args.node.number P c.args.found.now
    (list_length c.args.given.now.shop.now c.args.given.now.order.now c.args.here.goals.now ∙ sym c.len-count.ensures ∙ c.if-count-eq0.true))

-- No step is left, and something waits.
pub places-returns-then-node-eq0 : goal.places-returns-then-node-eq0
places-returns-then-node-eq0 t c k v =
    let P₀ : Problem = problem_with c.args.given.now.shop.now c.args.given.now.order.now c.args.before.atoms.now c.args.before.goals.now in
    let P : Problem = problem_with c.args.given.now.shop.now c.args.given.now.order.now c.args.here.atoms.now c.args.here.goals.now in
    let y : Step = step_of c.args.node.last in
    ap {B = Option (List Step)} (λ (j : ℕ). pruned_of j (rules_of c.args.given.now.shop.now) P₀ y c.args.node.number P)
    (covers_own c.one_more.ensures v ∙ c.if-node-eq0.true)
    ∙ ends_none (rules_of c.args.given.now.shop.now) P₀ y c.args.node.number P
    (λ e. c.if-count-eq0.false (c.len-count.ensures ∙ sym (list_length c.args.given.now.shop.now c.args.given.now.order.now c.args.here.goals.now) ∙ e))

pub places-moves-requires : goal.places-moves-requires
places-moves-requires t c =
    let p = c.requires in (
      omega (arith, c.decreases),
      (
        (
          record { going = p.going; before = p.before; last_inside = p.last_inside; last_known = p.last_known; fits = p.fits },
          omega (arith, c.if-node-eq0.false),
        ),
        (
          omega (arith, c.loop-i-test.true, c.len-count.ensures),
          free_is _ _ _ _ p.going.valid c.len-count.ensures c.loop-i-test.true c.is_free.ensures c.if-is_free.true,
        ),
      ),
    )

-- A trace was found at the place.
pub places-returns-in-Ok : goal.places-returns-in-Ok
places-returns-in-Ok t c =
    from_here c.args.given.now.shop.now _ _ c.args.node c.loop-i.i c.loop-i.exhausted.0 c.args.node.left (omega (arith, c.if-node-eq0.false)) (inl refl)
    (c.loop-i.invariant c.args.node.left (inl refl))
    ∙ place_found _ (domain c.args.given.now.shop.now) _ c.loop-i.i
    (omega (arith, c.loop-i-test.true, c.len-count.ensures, list_length c.args.given.now.shop.now c.args.given.now.order.now c.args.here.goals.now))
    c.in-Ok.ensures

-- None was, or the goal is not free.
pub places-loop-i-preserved : goal.places-loop-i-preserved
places-loop-i-preserved t c k v =
    let P₀ : Problem = problem_with c.args.given.now.shop.now c.args.given.now.order.now c.args.before.atoms.now c.args.before.goals.now in
    let P : Problem = problem_with c.args.given.now.shop.now c.args.given.now.order.now c.args.here.atoms.now c.args.here.goals.now in
    let turn : Covers c.loop-i.exhausted.0 c.args.node.left k
    × (moves_from (found_by c.args.given.now.shop.now P₀ P c.args.node k) (domain c.args.given.now.shop.now) c.loop-i.i 0 ≡ none) = elim c.if-is_free.branch [
      | places-then-is_free+in-Err w ↦ covers_more w.exhausted-is w.max-exhausted.ensures w.in-Err.ensures v
      | places-else-is_free w ↦
          covers_same w.exhausted-is
          (λ u.
          held_none (rules_of c.args.given.now.shop.now) P₀ (step_of c.args.node.last) (k - 1) c.args.node.number P c.loop-i.i
          (free_is _ _ _ _ c.requires.going.valid c.len-count.ensures c.loop-i-test.true c.is_free.ensures w.if-is_free.false))
          v
    ] in
    place_done c.args.given.now.shop.now c.args.given.now.order.now c.args.here.goals.now _ c.loop-i.i c.len-count.ensures c.loop-i-test.true (c.loop-i.invariant k turn.0) turn.1

-- None was found at any place.
pub places-returns : goal.places-returns
places-returns t c k v =
    let P₀ : Problem = problem_with c.args.given.now.shop.now c.args.given.now.order.now c.args.before.atoms.now c.args.before.goals.now in
    let P : Problem = problem_with c.args.given.now.shop.now c.args.given.now.order.now c.args.here.atoms.now c.args.here.goals.now in
    from_here c.args.given.now.shop.now P₀ P c.args.node c.loop-i.i c.loop-i.exhausted.0 k (omega (arith, c.if-node-eq0.false)) v (c.loop-i.invariant k v)
    ∙ places_end (found_by c.args.given.now.shop.now P₀ P c.args.node k) (domain c.args.given.now.shop.now) P.waiting c.loop-i.i
    (omega (arith, list_length c.args.given.now.shop.now c.args.given.now.order.now c.args.here.goals.now, c.loop-i-test.false, c.len-count.ensures))
