-- The counts stay those of the waiting goals, as goals enter and leave. Assumes nothing.
use Prim.Native.Nat.{ℕ, zero, suc, ◌+◌, ◌-◌, ◌<◌, ◌≤◌}
use native.Mathlib.Nat.{not-suc-le-zero, le_of_suc-le-suc}
use native.Mathlib.Omega.{arith}
use mathlib.Core.Path.{◌≡◌, refl, sym, ap, subst, ◌∙◌}
use mathlib.Core.Bool.{Bool, true, false}
use mathlib.Core.Logic.{◌≢◌}
use mathlib.Core.List.{List, [], ◌∷◌, ◌++◌}
use mathlib.Core.Option.{none, some, none-ne-some}
use lib.Dec.{eqb, ltb}
use lib.ListN.{length, take, drop, get_or, length-append, length-take, length-drop, get_or-append}
use lib.Seq.{length-take-le, get_or-take, get_or-drop, get_or-append-add}
use borrow.Author.Tests.{eqb-true, eqb-false, ltb-true, ltb-false}
use Rattle.hgn.specs.Meaning.{Node, Order, network_of}
use Rattle.hgn.specs.Run.{method_at, no_method}
use Rattle.hgn.specs.Shop.{domain, method_count}
use Rattle.hgn.specs.Order as OrderSheet
use Rattle.hgn.specs.Order.{check_order}
use Rattle.hgn.specs.Questions.{passed}
use Rattle.hgn.specs.Network.{order, used, Waiting, free, enter, goals_of, goal_at, no_goal, released, decomposed}
use Rattle.hgn.specs.Definition1.{ComesAfter}
use Rattle.hgn.proofs.Logic.Tests.{at_mem, at_of_lt}
use Rattle.hgn.proofs.Network.Waiting.{length_enter, goal_mem}
use Rattle.hgn.proofs.Sheets.Checked.{Numbered, shop_of_order, shop_counts, order_numbered, method_numbered}
use Rattle.hgn.proofs.Network.Names.{Named, Distinct}
use Rattle.hgn.proofs.Network.Reached.{Ordered}
use Rattle.sheet_index.specs.Tables.{Indexed}
use Rattle.network.proofs.Gaps.{behind_gap}
use Rattle.network.specs.Pending.{times_listed, pending, PendingCounts}
use Rattle.network.proofs.Counts.{Entered, Released}
use Rattle.network.proofs.Pending.{none_pending, listed_none, pending_released, pending_inserted, pending_entered, pending_parent, pending_other, pending_waiting, pending_new}

-- A goal is free exactly where its count is 0.
pub counted_free : (w : List Waiting) (c : List ℕ) → PendingCounts w c → (k : ℕ) → k < length w → eqb (get_or c k 0) 0 ≡ free w (goal_at w k)
counted_free w c v k h = ap (λ (n : ℕ). eqb n 0) (v k h) ∙ none_pending w (goal_at w k)

-- Goals at two places have two names.
other_names : (w : List Waiting) → Distinct w → (i j : ℕ) → i < j → j < length w → (goal_at w j).name ≢ (goal_at w i).name
other_names [] d i j a b = absurd (not-suc-le-zero b)
other_names (q ∷ w) d i zero a b = absurd (not-suc-le-zero a)
other_names (q ∷ w) d zero (suc j) a b = d.0 (goal_at w j) (goal_mem w j (le_of_suc-le-suc b))
other_names (q ∷ w) d (suc i) (suc j) a b = other_names w d.1 i j (le_of_suc-le-suc a) (le_of_suc-le-suc b)

-- A goal is not listed before one at a lower place.
listed_lower : (w : List Waiting) → Ordered w → (i j : ℕ) → i ≤ j → j < length w → ¬ ComesAfter (goal_at w i) (goal_at w j)
listed_lower [] o i j a b = absurd (not-suc-le-zero b)
listed_lower (q ∷ w) o zero j a b = o.0 (goal_at (q ∷ w) j) (goal_mem (q ∷ w) j b)
listed_lower (q ∷ w) o (suc i) zero a b = absurd (not-suc-le-zero a)
listed_lower (q ∷ w) o (suc i) (suc j) a b = listed_lower w o.1 i j (le_of_suc-le-suc a) (le_of_suc-le-suc b)

-- The order's goals at the start: each counts the goals that it is listed after.
pub counted_start : (o : Order) → Numbered 0 o.goals → (c : List ℕ) → ((k : ℕ) → k < length (goals_of o) → get_or c k 0 ≡ length (goal_at (goals_of o) k).after)
    → PendingCounts (goals_of o) c
unfolding goals_of
counted_start o h c f k b =
    f k b ∙ sym (pending_entered order none o.goals h (λ a z. absurd (none-ne-some a z)) (goal_at (goals_of o) k) (goal_mem (goals_of o) k b))

-- A release.
module _ (w : List Waiting) (p : ℕ) (h : p < length w) where
  before_released : (k : ℕ) → k < p → goal_at (released w p) k ≡ goal_at w k
  unfolding released
  before_released k b =
      get_or-append (take p w) (drop (suc p) w) no_goal k (simp length-take (omega arith)) ∙ get_or-take p w k no_goal b

  behind_released : (k : ℕ) → p ≤ k → goal_at (released w p) k ≡ goal_at w (suc k)
  unfolding released
  behind_released k b = behind_gap w p k no_goal b h

  one_less : suc (length (released w p)) ≡ length w
  unfolding released
  one_less = simp (length-append, length-take, length-drop) (omega arith)

  -- What a goal behind counted of the one that leaves.
  pub counted_enough : (c : List ℕ) → PendingCounts w c → (k : ℕ) → k < length w → times_listed (goal_at w k) (goal_at w p) ≤ get_or c k 0
  counted_enough c v k b = omega (arith, v k b, pending_released (goal_at w k) w p h)

  counted_released : Ordered w → (c r : List ℕ) → PendingCounts w c → Released w p c r → PendingCounts (released w p) r
  counted_released o c r v e k b = go (ltb k p) refl
    where
      go : (t : Bool) → ltb k p ≡ t → get_or r k 0 ≡ pending (released w p) (goal_at (released w p) k)
      go true z =
          let y = ltb-true k p z in
          let x = pending_released (goal_at w k) w p h in
          let u = listed_none (goal_at w k) (goal_at w p) (listed_lower w o k p (omega arith) h) in
          e.before k y ∙ v k (omega arith) ∙ omega (arith, x, u) ∙ ap (pending (released w p)) (sym (before_released k y))
      go false z =
          let y = ltb-false k p z in
          let d = e.behind k (omega arith) (omega (arith, one_less)) in
          let x = pending_released (goal_at w (suc k)) w p h in
          let u : get_or r k 0 ≡ pending (released w p) (goal_at w (suc k)) = omega (arith, d, x, v (suc k) (omega (arith, one_less))) in
          u ∙ ap (pending (released w p)) (sym (behind_released k (omega arith)))

  -- The counts that a release leaves are right of any list that equals the one without the goal.
  pub counted_left : {w' : List Waiting} → w' ≡ released w p → Ordered w → (c r : List ℕ) → PendingCounts w c → Released w p c r → PendingCounts w' r
  counted_left e o c r v s = subst (λ (l : List Waiting). PendingCounts l r) (sym e) (counted_released o c r v s)

-- Method `i`.
module _ (w : List Waiting) (p n i : ℕ) (ns : List Node) (h : p < length w) where
  abbrev new : List Waiting
  new = enter (used n i) (some (goal_at w p).name) 0 ns

  abbrev grown : List Waiting
  grown = take p w ++ (new ++ drop p w)

  before_new : (k : ℕ) → k < p → goal_at grown k ≡ goal_at w k
  before_new k b = get_or-append (take p w) (new ++ drop p w) no_goal k (simp length-take (omega arith)) ∙ get_or-take p w k no_goal b

  from_new : (k : ℕ) → goal_at grown (p + k) ≡ goal_at (new ++ drop p w) k
  from_new k =
      let l = length-take-le p w (omega arith) in
      let e : p + k ≡ length (take p w) + k = omega (arith, l) in
      ap (λ (j : ℕ). get_or grown j no_goal) e ∙ get_or-append-add (take p w) (new ++ drop p w) k no_goal

  in_new : (k : ℕ) → k < length ns → goal_at grown (p + k) ≡ goal_at new k
  in_new k b = from_new k ∙ get_or-append new (drop p w) no_goal k (omega (arith, length_enter (used n i) (some (goal_at w p).name) 0 ns))

  behind_new : (k : ℕ) → p ≤ k → goal_at grown (k + length ns) ≡ goal_at w k
  behind_new k b =
      let l = length_enter (used n i) (some (goal_at w p).name) 0 ns in
      let e : k + length ns ≡ p + (length new + (k - p)) = omega (arith, l) in
      let m : p + (k - p) ≡ k = omega arith in
      ap (goal_at grown) e ∙ from_new (length new + (k - p)) ∙ get_or-append-add new (drop p w) (k - p) no_goal ∙ get_or-drop p w (k - p) no_goal ∙ ap (goal_at w) m

  grown_length : length grown ≡ length w + length ns
  grown_length = simp (length-append, length-take, length-drop) (omega (arith, length_enter (used n i) (some (goal_at w p).name) 0 ns))

  module _ (v : Named n w) (c r : List ℕ) (counted : PendingCounts w c) where
    -- A waiting goal but the one that they enter at counts what it counted.
    still : (k : ℕ) → k < length w → (goal_at w k).name ≢ (goal_at w p).name → get_or c k 0 ≡ pending grown (goal_at w k)
    still k b d = omega (arith, counted k b, pending_inserted (goal_at w k) w new p, pending_other v i ns (goal_at w p) (goal_mem w p h) (goal_at w k) (goal_mem w k b) d)

    counted_decomposed : Numbered 0 ns → free w (goal_at w p) ≡ true → Entered grown p (length ns) c r → PendingCounts grown r
    counted_decomposed numbered fr e k b = go (ltb k p) refl (ltb k (p + length ns)) refl (eqb k (p + length ns)) refl
      where
        here : get_or r (p + length ns) 0 ≡ pending grown (goal_at w p)
        here =
            let z = eqb-true (pending w (goal_at w p)) 0 (none_pending w (goal_at w p) ∙ fr) in
            omega (arith, e.goal, z, pending_inserted (goal_at w p) w new p, pending_parent v i ns (goal_at w p) (goal_mem w p h))

        inside : (j : ℕ) → j < length ns → get_or r (p + j) 0 ≡ pending grown (goal_at grown (p + j))
        inside j a =
            let m = goal_mem new j (omega (arith, length_enter (used n i) (some (goal_at w p).name) 0 ns)) in
            let x = pending_waiting v i ns (goal_at w p) (goal_mem w p h) (goal_at new j) m in
            let y = pending_new v i ns (goal_at w p) (goal_mem w p h) numbered (goal_at new j) m in
            let g = in_new j a in
            e.nodes j a ∙ ap (λ (q : Waiting). length q.after) g ∙ omega (arith, x, y, pending_inserted (goal_at new j) w new p) ∙ ap (pending grown) (sym g)

        go : (s : Bool) → ltb k p ≡ s → (t : Bool) → ltb k (p + length ns) ≡ t → (u : Bool) → eqb k (p + length ns) ≡ u
            → get_or r k 0 ≡ pending grown (goal_at grown k)
        go true z t y u x =
            let a = ltb-true k p z in
            e.before k a ∙ still k (omega arith) (λ d. other_names w v.distinct k p a h (sym d)) ∙ ap (pending grown) (sym (before_new k a))
        go false z true y u x =
            let a = ltb-false k p z in
            let a₂ = ltb-true k (p + length ns) y in
            let m : p + (k - p) ≡ k = omega arith in
            subst (λ (j : ℕ). get_or r j 0 ≡ pending grown (goal_at grown j)) m (inside (k - p) (omega arith))
        go false z false y true x =
            let m : k ≡ p + length ns = eqb-true k (p + length ns) x in
            ap (λ (j : ℕ). get_or r j 0) m ∙ here ∙ ap (pending grown) (sym (ap (goal_at grown) m ∙ behind_new p (omega arith)))
        go false z false y false x =
            let a = ltb-false k (p + length ns) y in
            let d = eqb-false k (p + length ns) x in
            let m : (k - length ns) + length ns ≡ k = omega arith in
            let more : p < k - length ns = omega (arith, d) in
            let less : k - length ns < length w = omega (arith, grown_length) in
            ap (λ (j : ℕ). get_or r j 0) (sym m)
            ∙ e.behind (k - length ns) more (omega arith)
            ∙ still (k - length ns) less (other_names w v.distinct p (k - length ns) more less)
            ∙ ap (pending grown) (sym (ap (goal_at grown) (sym m) ∙ behind_new (k - length ns) (omega arith)))

-- A method's nodes on sheets that passed.
module _ {shop sheet table : List ℕ} (i : Indexed shop sheet table) (m : ℕ) (h : m < method_count shop) where
  nodes_numbered : Numbered 0 (network_of (method_at (domain shop) m))
  nodes_numbered =
      let passes = shop_of_order shop sheet i.checked in
      method_numbered shop passes _ (at_mem (at_of_lt (domain shop).methods m no_method (omega (arith, (shop_counts shop passes).1))))

  module _ (w : List Waiting) (p n : ℕ) (inside : p < length w) {w' : List Waiting} (e : w' ≡ decomposed w p (used n m) (network_of (method_at (domain shop) m))) where
    pub length_decomposed : length w' ≡ length w + length (network_of (method_at (domain shop) m))
    unfolding decomposed
    length_decomposed = ap length e ∙ grown_length w p n m _ inside

    -- Their counts, read of the list that they entered.
    pub counted_grown : (more : ℕ) → more ≡ length (network_of (method_at (domain shop) m)) → Named n w → free w (goal_at w p) ≡ true → (c r : List ℕ) → PendingCounts w c
        → Entered w' p more c r → PendingCounts w' r
    unfolding decomposed
    counted_grown more z v fr c r counted s =
        subst (λ (l : List Waiting). PendingCounts l r) (sym e)
        (counted_decomposed w p n m _ inside v c r counted nodes_numbered fr
        (subst (λ (l : List Waiting). Entered l p (length (network_of (method_at (domain shop) m))) c r) e (subst (λ (k : ℕ). Entered w' p k c r) z s)))

-- The counts of an order's goals, read of the list that they are.
pub counted_first : (shop sheet : List ℕ) → check_order shop sheet ≡ passed → {w : List Waiting} → w ≡ goals_of (OrderSheet.order sheet)
    → (c : List ℕ) → ((k : ℕ) → k < length w → get_or c k 0 ≡ length (goal_at w k).after) → PendingCounts w c
counted_first shop sheet passes {w} e c f =
    let o = OrderSheet.order sheet in
    let g = subst (λ (l : List Waiting). (k : ℕ) → k < length l → get_or c k 0 ≡ length (goal_at l k).after) e f in
    subst (λ (l : List Waiting). PendingCounts l c) (sym e) (counted_start o (order_numbered shop sheet passes) c g)
