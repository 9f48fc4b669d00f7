-- The list that the waiting goals are, and what becomes of it as goals leave and enter. Assumes nothing.
use Prim.Native.Nat.{ℕ, suc, ◌+◌, ◌-◌, ◌<◌, ◌≤◌}
use native.Mathlib.Omega.{arith}
use mathlib.Core.Path.{◌≡◌, refl, sym, ap, ap₂, ◌∙◌}
use mathlib.Core.Bool.{Bool, true, false}
use mathlib.Core.List.{List, [], ◌∷◌, ◌++◌, map, map-append}
use mathlib.Core.Option.{some}
use lib.Dec.{eqb, ltb}
use lib.ListN.{length, take, drop, get_or, length-map, length-append, length-take, length-drop, get_or-map, get_or-append}
use lib.Seq.{length-take-le, get_or-take}
use borrow.Author.Tests.{ltb-true, ltb-false, eq-eqb, ne_eqb}
use Rattle.std.specs.Prelude.{Option, Some, IsTrue, ◌↔◌}
use Rattle.hgn.specs.Meaning.{Node, network_of, last_after_all}
use Rattle.hgn.specs.Network as Network
use Rattle.hgn.specs.Network.{most_waiting, goal_at, no_goal, released, enter, decomposed, free, used}
use Rattle.hgn.specs.Run.{method_at}
use Rattle.hgn.specs.Shop.{domain, method_count}
use Rattle.hgn.specs.Questions.{passed}
use Rattle.hgn.specs.Order.{check_order}
use Rattle.hgn.specs.Lists.{any}
use Rattle.hgn.proofs.Logic.Tests.{true_any}
use Rattle.hgn.proofs.Network.Waiting.{goal_mem}
use Rattle.hgn.proofs.Join.Embedding.{get_d_default, take_map, drop_map}
use Rattle.sheet_index.specs.Tables.{Indexed, Bounds, MethodAt}
use Rattle.sheet_index.specs.declared.operators.MethodRows.{MethodRows}
use Rattle.sheet_index.proofs.OperatorRows.{method_size}
use Rattle.sheet_index.proofs.Spans.{by_test}
use Rattle.network.specs.Entries.{name_of, name_in, waiting_of, without}
use Rattle.network.specs.Entering.{node_entries, entering}
use Rattle.network.specs.declared.waiting.Used.{Used}
use Rattle.network.specs.declared.waiting.Entry.{Entry}
use Rattle.network.specs.declared.waiting.Waiting as Code
use Rattle.network.specs.declared.goals.Goals.{Goals}
use Rattle.network.proofs.Gaps.{same_lists, behind_gap, at_before, at_new, grown_length, at_behind, list_released}
use Rattle.network.proofs.Entered.{method_enters, length_entries}
use Rattle.network.specs.Pending.{times_listed, lowered, PendingCounts}
use Rattle.network.specs.Goals.{count_in, nothing, at_place, entry_in, pending_in, goals_in, list_in, counts_in, Left, Decomposed, Begun}
use Rattle.network.specs.Reaching.{ListReached}
use Rattle.network.proofs.Counts.{Entered, Released}
use Rattle.network.proofs.PendingCounts.{counted_free, counted_enough, counted_left, counted_grown}
use Rattle.network.proofs.Reaching.{reached_sound}

any_none : (test : Network.Waiting → Bool) (l : List Network.Waiting) → ((k : ℕ) → k < length l → test (goal_at l k) ≡ false) → any test l ≡ false
unfolding any
any_none test [] none = refl
any_none test (x ∷ l) none = rw (none 0 (omega arith)) (any_none test l (λ k h. none (suc k) (omega arith)))

-- The goals that wait.
module _ (g : Goals) where
  pub goals_length : length (goals_in g) ≡ count_in g
  goals_length =
      length-map (take (count_in g) g.entries) (λ (w : Code.Waiting). w.goal) ∙ length-take-le (count_in g) g.entries (omega (arith, g.few, g.whole))

  pub goals_at : (k : ℕ) → k < count_in g → get_or (goals_in g) k nothing.goal ≡ entry_in g k
  goals_at k h =
      get_or-map (λ (w : Code.Waiting). w.goal) (take (count_in g) g.entries) k nothing
      ∙ ap (λ (w : Code.Waiting). w.goal) (get_or-take (count_in g) g.entries k nothing h)

  pub count_at : (k : ℕ) → get_or (counts_in g) k 0 ≡ pending_in g k
  count_at k = get_or-map (λ (w : Code.Waiting). w.pending) g.entries k nothing

module _ (shop order : List ℕ) (g : Goals) where
  pub list_length : length (list_in shop order g) ≡ count_in g
  list_length = length-map (goals_in g) (waiting_of shop order) ∙ goals_length g

  pub list_at : (k : ℕ) → k < count_in g → goal_at (list_in shop order g) k ≡ waiting_of shop order (entry_in g k)
  list_at k h =
      get_d_default (list_in shop order g) k no_goal (waiting_of shop order nothing.goal) (omega (arith, list_length))
      ∙ get_or-map (waiting_of shop order) (goals_in g) k nothing.goal
      ∙ ap (waiting_of shop order) (goals_at g k h)

  -- A goal is free where its count is 0.
  module _ (counted : PendingCounts (list_in shop order g) (counts_in g)) where
    pub free_at : (k : ℕ) → k < count_in g → eqb (pending_in g k) 0 ≡ free (list_in shop order g) (goal_at (list_in shop order g) k)
    free_at k h = ap (λ (n : ℕ). eqb n 0) (sym (count_at g k)) ∙ counted_free (list_in shop order g) (counts_in g) counted k (omega (arith, list_length))

    pub some_free : (k : ℕ) → k < count_in g → eqb (pending_in g k) 0 ≡ true → true ≡ Network.any_free (list_in shop order g)
    unfolding Network.any_free
    some_free k h e =
        let l = list_in shop order g in
        sym (true_any (free l) l (goal_mem l k (omega (arith, list_length))) (sym (free_at k h) ∙ e))

    pub none_free : ((k : ℕ) → k < count_in g → eqb (pending_in g k) 0 ≡ false) → false ≡ Network.any_free (list_in shop order g)
    unfolding Network.any_free
    none_free none =
        let l = list_in shop order g in
        sym (any_none (free l) l (λ k h. sym (free_at k (omega (arith, list_length))) ∙ none k (omega (arith, list_length))))

    -- Told by whether a count of 0 is found.
    pub found_free : (b : Bool) → IsTrue b ↔ ((k : ℕ) × (k < count_in g) × (pending_in g k ≡ 0)) → b ≡ Network.any_free (list_in shop order g)
    found_free true found = let some = found.0 refl in some_free some.0 some.1 (eq-eqb _ _ some.2)
    found_free false found = none_free (λ k h. ne_eqb (pending_in g k) 0 (λ z. cc (found.1 (k, h, z))))

-- The goal at place `p` leaves.
module _ (shop order : List ℕ) (g : Goals) (p : ℕ) (inside : p < count_in g) (counted : PendingCounts (list_in shop order g) (counts_in g)) where
  -- Those behind it count what they are listed after it.
  pub counts_leaving : (k : ℕ) → p < k → k < count_in g
      → times_listed (waiting_of shop order (entry_in g k)) (waiting_of shop order (entry_in g p)) ≤ pending_in g k
  counts_leaving k a b =
      let l = list_in shop order g in
      let e : times_listed (goal_at l k) (goal_at l p) ≡ times_listed (waiting_of shop order (entry_in g k)) (waiting_of shop order (entry_in g p)) =
      ap₂ {C = ℕ} times_listed (list_at shop order g k b) (list_at shop order g p inside) in
      omega (arith, e, count_at g k, counted_enough l p (omega (arith, list_length shop order g)) (counts_in g) counted k (omega (arith, list_length shop order g)))

  module _ (g' : Goals) (less : count_in g' + 1 ≡ count_in g) (before : (k : ℕ) → k < p → at_place g' k ≡ at_place g k)
      (behind : (k : ℕ) → p ≤ k → suc k < count_in g → at_place g' k ≡ lowered shop order (entry_in g p) (at_place g (suc k))) where
    goals_left : goals_in g' ≡ without (goals_in g) p
    goals_left =
        let l = goals_in g in
        let n = goals_length g in
        let m = goals_length g' in
        same_lists (goals_in g') (without l p) nothing.goal (simp (length-append, length-take, length-drop) (omega arith))
        (λ k h. by_test (ltb k p)
        (λ t.
        let b = ltb-true k p t in
        goals_at g' k (omega (arith, m)) ∙ ap (λ (w : Code.Waiting). w.goal) (before k b) ∙ sym (goals_at g k (omega (arith, inside))) ∙ sym (get_or-take p l k nothing.goal b)
        ∙ sym (get_or-append (take p l) (drop (suc p) l) nothing.goal k (simp length-take (omega arith))))
        (λ t.
        let b = ltb-false k p t in
        goals_at g' k (omega (arith, m)) ∙ ap (λ (w : Code.Waiting). w.goal) (behind k (omega arith) (omega (arith, m, less))) ∙ sym (goals_at g (suc k) (omega (arith, m, less)))
        ∙ sym (behind_gap l p k nothing.goal (omega arith) (omega (arith, n, inside)))))

    list_left : list_in shop order g' ≡ released (list_in shop order g) p
    list_left = list_released shop order (goals_in g) p goals_left

    released_counts : Released (list_in shop order g) p (counts_in g) (counts_in g')
    released_counts = record {
      before = λ k h. count_at g' k ∙ ap (λ (w : Code.Waiting). w.pending) (before k h) ∙ sym (count_at g k);
      behind = λ k h l.
          let b : suc k < count_in g = omega (arith, list_length shop order g) in
          let w = list_in shop order g in
          let e : times_listed (goal_at w (suc k)) (goal_at w p) ≡ times_listed (waiting_of shop order (entry_in g (suc k))) (waiting_of shop order (entry_in g p)) =
          ap₂ {C = ℕ} times_listed (list_at shop order g (suc k) b) (list_at shop order g p inside) in
          omega (arith, e, count_at g' k, count_at g (suc k), ap (λ (x : Code.Waiting). x.pending) (behind k h b), counts_leaving (suc k) (omega arith) b);
    }

    pub goal_left : {n : ℕ} → ListReached shop order n (list_in shop order g) → check_order shop order ≡ passed → Left shop order p g g'
    goal_left reached passes = record {
      one_less = less;
      list = list_left;
      counted =
          counted_left (list_in shop order g) p (omega (arith, list_length shop order g)) list_left (reached_sound passes reached.1).ordered (counts_in g) (counts_in g') counted
          released_counts;
    }

-- Nodes enter before place `p`.
module _ (g g' : Goals) (p : ℕ) (news : List Entry) (inside : p ≤ count_in g) (more : count_in g' ≡ count_in g + length news)
    (before : (k : ℕ) → k < p → entry_in g' k ≡ entry_in g k)
    (nodes : (k : ℕ) → k < length news → entry_in g' (p + k) ≡ get_or news k nothing.goal)
    (behind : (k : ℕ) → p ≤ k → k < count_in g → entry_in g' (k + length news) ≡ entry_in g k) where
  pub goals_entered : goals_in g' ≡ take p (goals_in g) ++ (news ++ drop p (goals_in g))
  goals_entered =
      let l = goals_in g in
      let n = goals_length g in
      let m = goals_length g' in
      let i : p ≤ length l = omega (arith, n, inside) in
      same_lists (goals_in g') (take p l ++ (news ++ drop p l)) nothing.goal (omega (arith, n, m, more, grown_length l news p nothing.goal i))
      (λ k h. by_test (ltb k p)
      (λ t.
      let b = ltb-true k p t in
      goals_at g' k (omega (arith, m)) ∙ before k b ∙ sym (goals_at g k (omega (arith, inside))) ∙ sym (at_before l news (drop p l) p nothing.goal i k b))
      (λ t.
      let b = ltb-false k p t in
      by_test (ltb k (p + length news))
      (λ u.
      let c = ltb-true k (p + length news) u in
      let e : k ≡ p + (k - p) = omega arith in
      goals_at g' k (omega (arith, m)) ∙ ap (entry_in g') e ∙ nodes (k - p) (omega arith)
      ∙ sym (ap (λ (j : ℕ). get_or (take p l ++ (news ++ drop p l)) j nothing.goal) e ∙ at_new l news (drop p l) p nothing.goal i (k - p) (omega arith)))
      (λ u.
      let c = ltb-false k (p + length news) u in
      let e : k ≡ (k - length news) + length news = omega arith in
      goals_at g' k (omega (arith, m)) ∙ ap (entry_in g') e ∙ behind (k - length news) (omega arith) (omega (arith, m, more)) ∙ sym (goals_at g (k - length news) (omega (arith, m, more)))
      ∙ sym (at_behind l news p nothing.goal i k c))))

-- The nodes of a network, as they enter.
module _ (shop order : List ℕ) (source : Option Used) (e : ℕ) (bs : List Bounds) where
  abbrev news : List Entry
  news = node_entries source e bs

  news_length : length news ≡ length bs
  news_length = length_entries source e 0 bs

  pub written_length : length (map (entering shop order) news) ≡ length bs
  written_length = length-map news (entering shop order) ∙ news_length

  pub written_at : (k : ℕ) → k < length bs → get_or (map (entering shop order) news) k nothing ≡ entering shop order (get_or news k nothing.goal)
  written_at k h =
      get_d_default (map (entering shop order) news) k nothing (entering shop order nothing.goal) (omega (arith, written_length))
      ∙ get_or-map (entering shop order) news k nothing.goal

  -- They are all that waits.
  pub nodes_begun : (g : Goals) → count_in g ≡ length bs → ((k : ℕ) → k < length bs → at_place g k ≡ get_or (map (entering shop order) news) k nothing) → Begun shop order source e bs g
  nodes_begun g count written = record {
    count = count;
    goals =
        same_lists (goals_in g) news nothing.goal (omega (arith, goals_length g, news_length))
        (λ k h. let b : k < length bs = omega (arith, goals_length g) in goals_at g k (omega (arith, count)) ∙ ap (λ (w : Code.Waiting). w.goal) (written k b ∙ written_at k b));
    counts = λ k h.
        ap (λ (w : Code.Waiting). w.pending) (written k h ∙ written_at k h)
        ∙ ap (λ (x : Entry). length (waiting_of shop order x).after) (sym (ap (λ (w : Code.Waiting). w.goal) (written k h ∙ written_at k h)));
  }

-- A method used at the goal of place `p`.
module _ {shop order tables : List ℕ} (ix : Indexed shop order tables) {m : ℕ} (known : m < method_count shop) {rows : MethodRows} (at : MethodAt shop order tables m rows)
    (u : Used) (p : ℕ) (g g' : Goals) (inside : p < count_in g) (method : u.method ≡ m) (parent : u.parent ≡ name_in (entry_in g p))
    (more : ℕ) (number : more ≡ length at.bs) (count : count_in g' ≡ count_in g + more)
    (before : (k : ℕ) → k < p → at_place g' k ≡ at_place g k)
    (nodes : (k : ℕ) → k < more → at_place g' (p + k) ≡ get_or (map (entering shop order) (node_entries (Some u) rows.end.0 at.bs)) k nothing)
    (entry : entry_in g' (p + more) ≡ entry_in g p)
    (pending : pending_in g' (p + more) ≡ more)
    (behind : (k : ℕ) → p < k → k < count_in g → at_place g' (k + more) ≡ at_place g k) where
  abbrev these : List Entry
  these = node_entries (Some u) rows.end.0 at.bs

  these_long : length these ≡ more
  these_long = length_entries (Some u) rows.end.0 0 at.bs ∙ sym number

  node_written : (k : ℕ) → k < more → at_place g' (p + k) ≡ entering shop order (get_or these k nothing.goal)
  node_written k h = nodes k h ∙ written_at shop order (Some u) rows.end.0 at.bs k (omega (arith, number))

  entry_behind : (k : ℕ) → p ≤ k → k < count_in g → entry_in g' (k + more) ≡ entry_in g k
  entry_behind k a b =
      by_test (ltb p k) (λ t. ap (λ (w : Code.Waiting). w.goal) (behind k (ltb-true p k t) b))
      (λ t. let e : k ≡ p = (let f = ltb-false p k t in omega arith) in ap (λ (j : ℕ). entry_in g' (j + more)) e ∙ entry ∙ ap (entry_in g) (sym e))

  list_grown : list_in shop order g' ≡ decomposed (list_in shop order g) p (used u.step m) (network_of (method_at (domain shop) m))
  unfolding decomposed network_of waiting_of
  list_grown =
      let l = goals_in g in
      let name : name_of u.parent ≡ (goal_at (list_in shop order g) p).name =
      ap name_of parent ∙ sym (ap (λ (x : Network.Waiting). x.name) (list_at shop order g p inside)) in
      ap (map (waiting_of shop order))
      (goals_entered g g' p these (omega arith) (omega (arith, count, these_long)) (λ k h. ap (λ (w : Code.Waiting). w.goal) (before k h))
      (λ k h. ap (λ (w : Code.Waiting). w.goal) (node_written k (omega (arith, these_long))))
      (λ k a b. ap (λ (n : ℕ). entry_in g' (k + n)) these_long ∙ entry_behind k a b))
      ∙ map-append (waiting_of shop order) (take p l) (these ++ drop p l)
      ∙ ap₂ {C = List Network.Waiting} (λ x y. x ++ y) (sym (take_map (waiting_of shop order) p l))
      (map-append (waiting_of shop order) these (drop p l)
      ∙ ap₂ {C = List Network.Waiting} (λ x y. x ++ y)
      (method_enters shop order u 0 at.walk
      ∙ ap₂ {C = List Network.Waiting} (λ (k : ℕ) (ns : List Node). enter (used u.step k) (some (name_of u.parent)) 0 (last_after_all 0 ns)) method at.nodes
      ∙ ap {B = List Network.Waiting} (λ (q : Network.Name). enter (used u.step m) (some q) 0 (last_after_all 0 (method_at (domain shop) m).nodes)) name)
      (sym (drop_map (waiting_of shop order) p l)))

  size_grown : length (list_in shop order g') ≡ count_in g + more
  size_grown = list_length shop order g' ∙ count

  counts_entered : Entered (list_in shop order g') p more (counts_in g) (counts_in g')
  counts_entered = record {
    before = λ k h. count_at g' k ∙ ap (λ (w : Code.Waiting). w.pending) (before k h) ∙ sym (count_at g k);
    nodes = λ k h.
        count_at g' (p + k) ∙ ap (λ (w : Code.Waiting). w.pending) (node_written k h)
        ∙ ap (λ (x : Network.Waiting). length x.after)
        (sym (list_at shop order g' (p + k) (omega (arith, count)) ∙ ap (waiting_of shop order) (ap (λ (w : Code.Waiting). w.goal) (node_written k h))));
    goal = count_at g' (p + more) ∙ pending;
    behind = λ k h l. count_at g' (k + more) ∙ ap (λ (w : Code.Waiting). w.pending) (behind k h (omega (arith, size_grown))) ∙ sym (count_at g k);
  }

  pub goals_decomposed : ListReached shop order u.step (list_in shop order g) → PendingCounts (list_in shop order g) (counts_in g)
      → free (list_in shop order g) (goal_at (list_in shop order g) p) ≡ true → Decomposed shop order p u.step m g g'
  goals_decomposed reached counted is_free = record {
    list = list_grown;
    counted =
        counted_grown ix m known (list_in shop order g) p u.step (omega (arith, list_length shop order g)) list_grown more (number ∙ sym (method_size at))
        (reached_sound ix.checked reached.1).named is_free
        (counts_in g) (counts_in g') counted counts_entered;
  }
