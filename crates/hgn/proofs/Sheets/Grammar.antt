-- The rows of a sheet that pass their questions, as document 01 lists what may follow: from each place in a sheet, the rows with their
-- ranges and groups as propositions. Rows pass exactly when they are such rows (`rows_of`, `passes`); such rows are the written parts of a
-- meaning that keeps the rules, and the other way round. Assumes nothing.
use Prim.Native.Nat.{ℕ, suc, ◌-◌, ◌≤◌, ◌<◌}
use native.Mathlib.Omega.{arith}
use mathlib.Core.Path.{◌≡◌, refl, sym, subst}
use mathlib.Core.Bool.{Bool, true, false, cond, ◌||◌, false≢true}
use mathlib.Core.List.Memᴰ
use mathlib.Core.List.{List, [], ◌∷◌, ◌++◌, map, flat_map, append-nil, append_assoc, Memᴰ}
use lib.Dec.{eqb}
use lib.ListN.{length}
use borrow.Author.Tests.{eqb-true, leb-true, ltb-true, le-leb, lt-ltb}
use Rattle.hgn.specs.Lists.{any, elem}
use Rattle.hgn.specs.Tag.{Context, at_start, in_action, in_effects, in_method, in_node, in_alternative, Position, opening, shop_follow, order_follow}
use Rattle.hgn.specs.Tag.{may_end, context_after, begins, least_here, advance, in_range, rises}
use Rattle.hgn.specs.Rows.{Row, row}
use Rattle.hgn.specs.RowQuestions.{position_after}
use Rattle.hgn.specs.Meaning.{Literal, Formula, Node, Action, Method, Domain, Order}
use Rattle.hgn.specs.Written.{conjunct_rows, alternative_rows, node_rows, action_rows, method_rows, domain_rows, order_rows}
use Rattle.hgn.specs.Written.{RisingBelow, ConjunctRules, NodeRules, NetworkRules, ActionRules, MethodRules}
use Rattle.hgn.proofs.Sheets.Passed.{Checked, end, next}
use Rattle.hgn.proofs.Sheets.Rules.{atoms, Rise, rise, rising, Network, network_rules, rules_network}

infixr 30 ◌&◌
abbrev pos : Context → ℕ → ℕ → Position
pos c l n = record { context = c; least = l; nodes = n }

data Kind : Type 0 where
  shop : Kind
  order : Kind

abbrev follow : Kind → Context → List ℕ
follow shop = shop_follow
follow order = order_follow

-- Where an action may begin, a method, a node and an alternative, and where 3 and 4 rows stand.
data Outside : Context → Type 0 where
  at_start_law : Outside at_start
  in_action_law : Outside in_action
  in_effects_law : Outside in_effects

data Between : Context → Type 0 where
  outside : {c : Context} → Outside c → Between c
  past_goal : Between in_alternative

data BeforeNode : Kind → Context → Type 0 where
  at_order : BeforeNode order at_start
  past_needs : BeforeNode shop in_method
  past_node : {k : Kind} → BeforeNode k in_alternative

data InGoal : Context → Type 0 where
  past_afters : InGoal in_node
  past_wanted : InGoal in_alternative

data InHead : Context → Type 0 where
  of_action : InHead in_action
  of_method : InHead in_method

-- The rows from a context on, with least value `l` of the group and `n` nodes so far.
data Rows (F : ℕ) : Kind → Context → ℕ → ℕ → List Row → Type 0 where
  done : {k : Kind} {c : Context} {l n : ℕ} → may_end c ≡ true → Rows F k c l n []
  action : {c : Context} {l n v : ℕ} {rs : List Row} → Outside c → v ≤ 65535 → Rows F shop in_action 0 n rs
      → Rows F shop c l n (row 1 v ∷ rs)
  method : {c : Context} {l n : ℕ} {rs : List Row} → Between c → Rows F shop in_method 0 0 rs → Rows F shop c l n (row 2 0 ∷ rs)
  need : {c : Context} {l n v : ℕ} {rs : List Row} → InHead c → (b : Bool) → l ≤ v → v < F → Rows F shop c (suc v) n rs
      → Rows F shop c l n (row (cond b 3 4) v ∷ rs)
  first_effect : {l n v : ℕ} {rs : List Row} (b : Bool) → v < F → Rows F shop in_effects (suc v) n rs
      → Rows F shop in_action l n (row (cond b 5 6) v ∷ rs)
  effect : {l n v : ℕ} {rs : List Row} (b : Bool) → l ≤ v → v < F → Rows F shop in_effects (suc v) n rs
      → Rows F shop in_effects l n (row (cond b 5 6) v ∷ rs)
  node : {k : Kind} {c : Context} {l n : ℕ} {rs : List Row} → BeforeNode k c → Rows F k in_node 0 (suc n) rs → Rows F k c l n (row 7 0 ∷ rs)
  after : {k : Kind} {l n v : ℕ} {rs : List Row} → l ≤ v → suc v < n → Rows F k in_node (suc v) n rs → Rows F k in_node l n (row 11 v ∷ rs)
  alternative : {k : Kind} {c : Context} {l n : ℕ} {rs : List Row} → InGoal c → Rows F k in_alternative 0 n rs → Rows F k c l n (row 8 0 ∷ rs)
  wanted : {k : Kind} {l n v : ℕ} {rs : List Row} (b : Bool) → l ≤ v → v < F → Rows F k in_alternative (suc v) n rs
      → Rows F k in_alternative l n (row (cond b 9 10) v ∷ rs)
  start : {l n v : ℕ} {rs : List Row} → l ≤ v → v < F → Rows F order at_start (suc v) n rs → Rows F order at_start l n (row 12 v ∷ rs)

-- Every element of a list.
data Each {A : Type 0} (P : A → Type 0) : List A → Type 0 where
  nil : Each P []
  ◌&◌ : {x : A} {xs : List A} → P x → Each P xs → Each P (x ∷ xs)

each_elem : (P : ℕ → Type 0) (t : ℕ) {ts : List ℕ} → Each P ts → elem t ts ≡ true → P t
unfolding elem any
each_elem P t nil e = absurd (false≢true e)
each_elem P t (◌&◌ {x = u} {xs = us} h k) e = go (eqb t u) refl (each_elem P t k) e
  where
    go : (b : Bool) → eqb t u ≡ b → (any (eqb t) us ≡ true → P t) → (b || any (eqb t) us) ≡ true → P t
    go true q ih e = rw (eqb-true t u q) h
    go false q ih e = ih e

-- A row with this tag that passes its questions is one of the rows above.
abbrev Read : ℕ → Kind → Context → ℕ → Type 0
Read F k c t = (l n v : ℕ) (rs : List Row) → in_range F (pos c l n) t v ≡ true → rises (pos c l n) t v ≡ true
    → (let p = advance (pos c l n) t v in Rows F k p.context p.least p.nodes rs) → Rows F k c l n (row t v ∷ rs)

zero_value : {F : ℕ} {k : Kind} {c : Context} {l n t : ℕ} (v : ℕ) {rs : List Row} → eqb v 0 ≡ true
    → Rows F k c l n (row t 0 ∷ rs) → Rows F k c l n (row t v ∷ rs)
zero_value v e h = rw (eqb-true v 0 e) h

shop_rows_law : (F : ℕ) (c : Context) → Each (Read F shop c) (shop_follow c)
unfolding shop_follow advance context_after begins least_here in_range rises elem any
shop_rows_law F at_start =
    (λ l n v rs g h k. action at_start_law (leb-true v 65535 g) k)
    & (λ l n v rs g h k. zero_value v g (method (outside at_start_law) k))
    & nil
shop_rows_law F in_action =
    (λ l n v rs g h k. need of_action true (leb-true l v h) (ltb-true v F g) k)
    & (λ l n v rs g h k. need of_action false (leb-true l v h) (ltb-true v F g) k)
    & (λ l n v rs g h k. first_effect true (ltb-true v F g) k)
    & (λ l n v rs g h k. first_effect false (ltb-true v F g) k)
    & (λ l n v rs g h k. action in_action_law (leb-true v 65535 g) k)
    & (λ l n v rs g h k. zero_value v g (method (outside in_action_law) k))
    & nil
shop_rows_law F in_effects =
    (λ l n v rs g h k. effect true (leb-true l v h) (ltb-true v F g) k)
    & (λ l n v rs g h k. effect false (leb-true l v h) (ltb-true v F g) k)
    & (λ l n v rs g h k. action in_effects_law (leb-true v 65535 g) k)
    & (λ l n v rs g h k. zero_value v g (method (outside in_effects_law) k))
    & nil
shop_rows_law F in_method =
    (λ l n v rs g h k. need of_method true (leb-true l v h) (ltb-true v F g) k)
    & (λ l n v rs g h k. need of_method false (leb-true l v h) (ltb-true v F g) k)
    & (λ l n v rs g h k. zero_value v g (node past_needs k))
    & nil
shop_rows_law F in_node =
    (λ l n v rs g h k. after (leb-true l v h) (ltb-true (suc v) n g) k)
    & (λ l n v rs g h k. zero_value v g (alternative past_afters k))
    & nil
shop_rows_law F in_alternative =
    (λ l n v rs g h k. wanted true (leb-true l v h) (ltb-true v F g) k)
    & (λ l n v rs g h k. wanted false (leb-true l v h) (ltb-true v F g) k)
    & (λ l n v rs g h k. zero_value v g (alternative past_wanted k))
    & (λ l n v rs g h k. zero_value v g (node past_node k))
    & (λ l n v rs g h k. zero_value v g (method past_goal k))
    & nil

order_rows_law : (F : ℕ) (c : Context) → Each (Read F order c) (order_follow c)
unfolding order_follow advance context_after begins least_here in_range rises elem any
order_rows_law F at_start =
    (λ l n v rs g h k. start (leb-true l v h) (ltb-true v F g) k)
    & (λ l n v rs g h k. zero_value v g (node at_order k))
    & nil
order_rows_law F in_action = nil
order_rows_law F in_effects = nil
order_rows_law F in_method = nil
order_rows_law F in_node =
    (λ l n v rs g h k. after (leb-true l v h) (ltb-true (suc v) n g) k)
    & (λ l n v rs g h k. zero_value v g (alternative past_afters k))
    & nil
order_rows_law F in_alternative =
    (λ l n v rs g h k. wanted true (leb-true l v h) (ltb-true v F g) k)
    & (λ l n v rs g h k. wanted false (leb-true l v h) (ltb-true v F g) k)
    & (λ l n v rs g h k. zero_value v g (alternative past_wanted k))
    & (λ l n v rs g h k. zero_value v g (node past_node k))
    & nil

kind_rows : (F : ℕ) (k : Kind) (c : Context) → Each (Read F k c) (follow k c)
kind_rows F shop c = shop_rows_law F c
kind_rows F order c = order_rows_law F c

-- Rows that pass their questions and end where a sheet may end.
rows_of : {F : ℕ} (k : Kind) {p : Position} {rs : List Row} → Checked (follow k) F p rs → may_end (position_after p rs).context ≡ true
    → Rows F k p.context p.least p.nodes rs
unfolding position_after
rows_of k end e = done e
rows_of {F} k (next {p} {r} {rs} allowed range rise c) e =
    each_elem (Read F k p.context) r.tag (kind_rows F k p.context) allowed
    p.least p.nodes r.value rs range rise (rows_of k c e)

-- The other way round.
pub record Passes (follow : Context → List ℕ) (F : ℕ) (p : Position) (rs : List Row) : Type 0 where
  pub rows : Checked follow F p rs
  pub ends : may_end (position_after p rs).context ≡ true

passes_next : {follow : Context → List ℕ} {F : ℕ} (p : Position) (t v : ℕ) {rs : List Row} → elem t (follow p.context) ≡ true
    → in_range F p t v ≡ true → rises p t v ≡ true → Passes follow F (advance p t v) rs → Passes follow F p (row t v ∷ rs)
unfolding position_after
passes_next p t v a g h k = record { rows = next a g h k.rows; ends = k.ends }

follows_action : {c : Context} → Outside c → elem 1 (shop_follow c) ≡ true
unfolding shop_follow elem any
follows_action at_start_law = refl
follows_action in_action_law = refl
follows_action in_effects_law = refl

follows_method : {c : Context} → Between c → elem 2 (shop_follow c) ≡ true
unfolding shop_follow elem any
follows_method (outside at_start_law) = refl
follows_method (outside in_action_law) = refl
follows_method (outside in_effects_law) = refl
follows_method past_goal = refl

follows_node : {k : Kind} {c : Context} → BeforeNode k c → elem 7 (follow k c) ≡ true
unfolding shop_follow order_follow elem any
follows_node at_order = refl
follows_node past_needs = refl
follows_node (past_node {k = shop}) = refl
follows_node (past_node {k = order}) = refl

follows_after : (k : Kind) → elem 11 (follow k in_node) ≡ true
unfolding shop_follow order_follow elem any
follows_after shop = refl
follows_after order = refl

follows_alternative : (k : Kind) {c : Context} → InGoal c → elem 8 (follow k c) ≡ true
unfolding shop_follow order_follow elem any
follows_alternative shop past_afters = refl
follows_alternative shop past_wanted = refl
follows_alternative order past_afters = refl
follows_alternative order past_wanted = refl

follows_wanted : (k : Kind) (b : Bool) → elem (cond b 9 10) (follow k in_alternative) ≡ true
unfolding shop_follow order_follow elem any
follows_wanted shop true = refl
follows_wanted shop false = refl
follows_wanted order true = refl
follows_wanted order false = refl

passes : {F : ℕ} {k : Kind} {c : Context} {l n : ℕ} {rs : List Row} → Rows F k c l n rs → Passes (follow k) F (pos c l n) rs
unfolding position_after shop_follow order_follow advance context_after begins least_here in_range rises elem any
passes (done e) = record { rows = end; ends = e }
passes (action o h k) = passes_next _ 1 _ (follows_action o) (le-leb _ 65535 h) refl (passes k)
passes (method o k) = passes_next _ 2 0 (follows_method o) refl refl (passes k)
passes (need of_action true g h k) = passes_next _ 3 _ refl (lt-ltb _ _ h) (le-leb _ _ g) (passes k)
passes (need of_action false g h k) = passes_next _ 4 _ refl (lt-ltb _ _ h) (le-leb _ _ g) (passes k)
passes (need of_method true g h k) = passes_next _ 3 _ refl (lt-ltb _ _ h) (le-leb _ _ g) (passes k)
passes (need of_method false g h k) = passes_next _ 4 _ refl (lt-ltb _ _ h) (le-leb _ _ g) (passes k)
passes (first_effect {v = v} true h k) = passes_next _ 5 v refl (lt-ltb v _ h) (le-leb 0 v (omega arith)) (passes k)
passes (first_effect {v = v} false h k) = passes_next _ 6 v refl (lt-ltb v _ h) (le-leb 0 v (omega arith)) (passes k)
passes (effect true g h k) = passes_next _ 5 _ refl (lt-ltb _ _ h) (le-leb _ _ g) (passes k)
passes (effect false g h k) = passes_next _ 6 _ refl (lt-ltb _ _ h) (le-leb _ _ g) (passes k)
passes (node o k) = passes_next _ 7 0 (follows_node o) refl refl (passes k)
passes (after {k} g h r) = passes_next _ 11 _ (follows_after k) (lt-ltb _ _ h) (le-leb _ _ g) (passes r)
passes (alternative {k} o r) = passes_next _ 8 0 (follows_alternative k o) refl refl (passes r)
passes (wanted {k} true g h r) = passes_next _ 9 _ (follows_wanted k true) (lt-ltb _ _ h) (le-leb _ _ g) (passes r)
passes (wanted {k} false g h r) = passes_next _ 10 _ (follows_wanted k false) (lt-ltb _ _ h) (le-leb _ _ g) (passes r)
passes (start g h k) = passes_next _ 12 _ refl (lt-ltb _ _ h) (le-leb _ _ g) (passes k)

-- Lists of which every element keeps a rule.
each_mem : {A : Type 0} {P : A → Type 0} {xs : List A} → Each P xs → (x : A) → Memᴰ x xs → P x
each_mem nil x m = absurd (Memᴰ.not-nil m)
each_mem {P = P} (h & k) x (Memᴰ.head e) = subst P (sym e) h
each_mem (h & k) x (Memᴰ.tail m) = each_mem k x m

mem_each : {A : Type 0} {P : A → Type 0} (xs : List A) → ((x : A) → Memᴰ x xs → P x) → Each P xs
mem_each [] h = nil
mem_each (x ∷ xs) h = h x (Memᴰ.head refl) & mem_each xs (λ y m. h y (Memᴰ.tail m))

-- What the rows from a context on are: the end of the part that the sheet stands in, and whole parts.

-- What a method's rows say of it. How many nodes it has, and what its last node has, is asked apart.
record MethodRead (F : ℕ) (m : Method) : Type 0 where
  needs : ConjunctRules F m.needs
  nodes : Network F 0 m.nodes

-- Methods stand in a shop sheet only.
abbrev Only : Kind → List Method → Type 0
Only shop ms = Unit {0}
Only order ms = ms ≡ []

data Rest (F : ℕ) : Kind → Context → ℕ → ℕ → List Row → Type 0 where
  rest_shop : {l n : ℕ} (acts : List Action) (ms : List Method) → Each (ActionRules F) acts → Each (MethodRead F) ms
      → Rest F shop at_start l n (flat_map action_rows acts ++ flat_map method_rows ms)
  rest_order : {l n : ℕ} (ks : List ℕ) (ns : List Node) → Rise F l ks → Network F n ns
      → Rest F order at_start l n (map (row 12) ks ++ flat_map node_rows ns)
  rest_action : {k : Kind} {l n : ℕ} (c e : List Literal) (acts : List Action) (ms : List Method)
      → Rise F l (atoms c) → Rise F 0 (atoms e) → Each (ActionRules F) acts → Each (MethodRead F) ms
      → Rest F k in_action l n (conjunct_rows 3 4 c ++ conjunct_rows 5 6 e ++ flat_map action_rows acts ++ flat_map method_rows ms)
  rest_effects : {k : Kind} {l n : ℕ} (e : List Literal) (acts : List Action) (ms : List Method)
      → Rise F l (atoms e) → Each (ActionRules F) acts → Each (MethodRead F) ms
      → Rest F k in_effects l n (conjunct_rows 5 6 e ++ flat_map action_rows acts ++ flat_map method_rows ms)
  rest_method : {k : Kind} {l n : ℕ} (c : List Literal) (ns : List Node) (ms : List Method)
      → Rise F l (atoms c) → Network F n ns → Each (MethodRead F) ms
      → Rest F k in_method l n (conjunct_rows 3 4 c ++ flat_map node_rows ns ++ flat_map method_rows ms)
  rest_node : {k : Kind} {l n : ℕ} (ks : List ℕ) (f : Formula) (ns : List Node) (ms : List Method)
      → Rise (n - 1) l ks → 1 ≤ length f → Each (ConjunctRules F) f → Network F n ns → Each (MethodRead F) ms → Only k ms
      → Rest F k in_node l n (map (row 11) ks ++ flat_map alternative_rows f ++ flat_map node_rows ns ++ flat_map method_rows ms)
  rest_alternative : {k : Kind} {l n : ℕ} (c : List Literal) (f : Formula) (ns : List Node) (ms : List Method)
      → Rise F l (atoms c) → Each (ConjunctRules F) f → Network F n ns → Each (MethodRead F) ms → Only k ms
      → Rest F k in_alternative l n (conjunct_rows 9 10 c ++ flat_map alternative_rows f ++ flat_map node_rows ns ++ flat_map method_rows ms)

none_more : (k : Kind) → Only k []
none_more shop = tt
none_more order = refl

ended : {F : ℕ} (k : Kind) (c : Context) {l n : ℕ} → may_end c ≡ true → Rest F k c l n []
unfolding conjunct_rows flat_map
ended shop at_start e = rest_shop [] [] nil nil
ended order at_start e = rest_order [] [] tt tt
ended k in_action e = rest_action [] [] [] [] tt tt nil nil
ended k in_effects e = rest_effects [] [] [] tt nil nil
ended k in_method e = absurd (false≢true e)
ended k in_node e = absurd (false≢true e)
ended k in_alternative e = rest_alternative [] [] [] [] tt nil tt nil (none_more k)

-- An action's rows and what follows it, from where an action may begin; so for a method and a node.
module _ {F : ℕ} where
  regroup : {k : Kind} {c : Context} {l n : ℕ} {rs qs : List Row} → Rest F k c l n rs → rs ≡ qs → Rest F k c l n qs
  regroup {k} {c} {l} {n} h e = subst (Rest F k c l n) e h

  before_action : {c : Context} {l n : ℕ} → Outside c → (acts : List Action) (ms : List Method) → Each (ActionRules F) acts → Each (MethodRead F) ms
      → Rest F shop c l n (flat_map action_rows acts ++ flat_map method_rows ms)
  unfolding conjunct_rows
  before_action at_start_law acts ms h k = rest_shop acts ms h k
  before_action in_action_law acts ms h k = rest_action [] [] acts ms tt tt h k
  before_action in_effects_law acts ms h k = rest_effects [] acts ms tt h k

  rest_of_action : {c : Context} {l n v : ℕ} {rs : List Row} → Outside c → v ≤ 65535 → Rest F shop in_action 0 n rs
      → Rest F shop c l n (row 1 v ∷ rs)
  unfolding action_rows flat_map
  rest_of_action {v = v} o h (rest_action c e acts ms p q x y) =
      regroup
      (before_action o (record { cost = v; needs = c; effects = e } ∷ acts) ms
      (record { cost = h; needs = rising 0 (atoms c) p; effects = rising 0 (atoms e) q } & x) y)
      (simp append_assoc)

  before_method : {c : Context} {l n : ℕ} → Between c → (ms : List Method) → Each (MethodRead F) ms → Rest F shop c l n (flat_map method_rows ms)
  unfolding conjunct_rows flat_map
  before_method (outside o) ms h = before_action o [] ms nil h
  before_method past_goal ms h = rest_alternative [] [] [] ms tt nil tt h tt

  rest_of_method : {c : Context} {l n : ℕ} {rs : List Row} → Between c → Rest F shop in_method 0 0 rs → Rest F shop c l n (row 2 0 ∷ rs)
  unfolding method_rows flat_map
  rest_of_method o (rest_method c ns ms p q x) =
      regroup (before_method o (record { needs = c; nodes = ns } ∷ ms) (record { needs = rising 0 (atoms c) p; nodes = q } & x)) (simp append_assoc)

  before_node : {k : Kind} {c : Context} {l n : ℕ} → BeforeNode k c → (ns : List Node) (ms : List Method) → Network F n ns → Each (MethodRead F) ms
      → Only k ms → Rest F k c l n (flat_map node_rows ns ++ flat_map method_rows ms)
  unfolding conjunct_rows flat_map
  before_node {n = n} at_order ns ms h x e = rw (e, flat_map, append-nil) (rest_order [] ns tt h)
  before_node past_needs ns ms h x e = rest_method [] ns ms tt h x
  before_node past_node ns ms h x e = rest_alternative [] [] ns ms tt nil h x e

  rest_of_node : {k : Kind} {c : Context} {l n : ℕ} {rs : List Row} → BeforeNode k c → Rest F k in_node 0 (suc n) rs
      → Rest F k c l n (row 7 0 ∷ rs)
  unfolding node_rows flat_map
  rest_of_node {n = n} o (rest_node ks f ns ms p some q h x e) =
      regroup
      (before_node o (record { after = ks; formula = f } ∷ ns) ms (
        record {
          afters = rising 0 ks (subst (λ (i : ℕ). Rise i 0 ks) (omega arith) p);
          some_alternative = some;
          alternatives = each_mem q;
        },
        h,
      ) x e)
      (simp append_assoc)

  rest_of_alternative : {k : Kind} {c : Context} {l n : ℕ} {rs : List Row} → InGoal c → Rest F k in_alternative 0 n rs
      → Rest F k c l n (row 8 0 ∷ rs)
  unfolding alternative_rows conjunct_rows flat_map
  rest_of_alternative past_afters (rest_alternative c f ns ms p q h x e) =
      regroup (rest_node [] (c ∷ f) ns ms tt (omega arith) (rising 0 (atoms c) p & q) h x e) (simp append_assoc)
  rest_of_alternative past_wanted (rest_alternative c f ns ms p q h x e) =
      regroup (rest_alternative [] (c ∷ f) ns ms tt (rising 0 (atoms c) p & q) h x e) (simp append_assoc)

  rest_of_need : {c : Context} {l n v : ℕ} {rs : List Row} → InHead c → (b : Bool) → l ≤ v → v < F → Rest F shop c (suc v) n rs
      → Rest F shop c l n (row (cond b 3 4) v ∷ rs)
  unfolding conjunct_rows
  rest_of_need {v = v} of_action b g h (rest_action c e acts ms p q x y) =
      rest_action (record { sign = b; atom = v } ∷ c) e acts ms (g, h, p) q x y
  rest_of_need {v = v} of_method b g h (rest_method c ns ms p q x) = rest_method (record { sign = b; atom = v } ∷ c) ns ms (g, h, p) q x

  rest_of_effect : {l n v : ℕ} {rs : List Row} (b : Bool) → l ≤ v → v < F → Rest F shop in_effects (suc v) n rs
      → Rest F shop in_effects l n (row (cond b 5 6) v ∷ rs)
  unfolding conjunct_rows
  rest_of_effect {v = v} b g h (rest_effects e acts ms p x y) = rest_effects (record { sign = b; atom = v } ∷ e) acts ms (g, h, p) x y

  rest_of_first : {l n v : ℕ} {rs : List Row} (b : Bool) → v < F → Rest F shop in_effects (suc v) n rs
      → Rest F shop in_action l n (row (cond b 5 6) v ∷ rs)
  unfolding conjunct_rows
  rest_of_first {v = v} b h (rest_effects e acts ms p x y) =
      rest_action [] (record { sign = b; atom = v } ∷ e) acts ms tt (omega arith, h, p) x y

  rest_of_after : {k : Kind} {l n v : ℕ} {rs : List Row} → l ≤ v → suc v < n → Rest F k in_node (suc v) n rs
      → Rest F k in_node l n (row 11 v ∷ rs)
  rest_of_after {n = n} {v = v} g h (rest_node ks f ns ms p some q i x e) =
      let below : v < n - 1 = omega arith in
      rest_node (v ∷ ks) f ns ms (g, below, p) some q i x e

  rest_of_wanted : {k : Kind} {l n v : ℕ} {rs : List Row} (b : Bool) → l ≤ v → v < F → Rest F k in_alternative (suc v) n rs
      → Rest F k in_alternative l n (row (cond b 9 10) v ∷ rs)
  unfolding conjunct_rows
  rest_of_wanted {v = v} b g h (rest_alternative c f ns ms p q i x e) =
      rest_alternative (record { sign = b; atom = v } ∷ c) f ns ms (g, h, p) q i x e

  rest_of_start : {l n v : ℕ} {rs : List Row} → l ≤ v → v < F → Rest F order at_start (suc v) n rs → Rest F order at_start l n (row 12 v ∷ rs)
  rest_of_start {v = v} g h (rest_order ks ns p i) = rest_order (v ∷ ks) ns (g, h, p) i

  rest : {k : Kind} {c : Context} {l n : ℕ} {rs : List Row} → Rows F k c l n rs → Rest F k c l n rs
  rest (done {k} {c} e) = ended k c e
  rest (action o h r) = rest_of_action o h (rest r)
  rest (method o r) = rest_of_method o (rest r)
  rest (need o b g h r) = rest_of_need o b g h (rest r)
  rest (first_effect b h r) = rest_of_first b h (rest r)
  rest (effect b g h r) = rest_of_effect b g h (rest r)
  rest (node o r) = rest_of_node o (rest r)
  rest (after g h r) = rest_of_after g h (rest r)
  rest (alternative o r) = rest_of_alternative o (rest r)
  rest (wanted b g h r) = rest_of_wanted b g h (rest r)
  rest (start g h r) = rest_of_start g h (rest r)

-- The rows of a shop sheet that passes are those of a domain, and the rows of an order sheet those of an order.
pub record DomainRead (F : ℕ) (rs : List Row) (d : Domain) : Type 0 where
  pub rows : rs ≡ domain_rows d
  pub actions : (a : Action) → Memᴰ a d.actions → ActionRules F a
  pub needs : (m : Method) → Memᴰ m d.methods → ConjunctRules F m.needs
  pub nodes : (m : Method) → Memᴰ m d.methods → NetworkRules F m.nodes

pub domain_of_law : {F : ℕ} {rs : List Row} → Passes shop_follow F opening rs → (d : Domain) × DomainRead F rs d
unfolding domain_rows
domain_of_law p = go (rest (rows_of shop p.rows p.ends))
  where
    go : {F : ℕ} {rs : List Row} → Rest F shop at_start 0 0 rs → (d : Domain) × DomainRead F rs d
    go (rest_shop acts ms h k) = (
      record { actions = acts; methods = ms },
      record {
        rows = refl;
        actions = each_mem h;
        needs = λ m i. (each_mem k m i).needs;
        nodes = λ m i. network_rules (each_mem k m i).nodes;
      },
    )

pub record OrderRead (F : ℕ) (rs : List Row) (o : Order) : Type 0 where
  pub rows : rs ≡ order_rows o
  pub start : RisingBelow F o.start
  pub goals : NetworkRules F o.goals

pub order_of_law : {F : ℕ} {rs : List Row} → Passes order_follow F opening rs → (o : Order) × OrderRead F rs o
unfolding order_rows
order_of_law p = go (rest (rows_of order p.rows p.ends))
  where
    go : {F : ℕ} {rs : List Row} → Rest F order at_start 0 0 rs → (o : Order) × OrderRead F rs o
    go (rest_order ks ns h k) =
        (record { start = ks; goals = ns }, record { rows = refl; start = rising 0 ks h; goals = network_rules k })

between_ends : {c : Context} → Between c → may_end c ≡ true
between_ends (outside at_start_law) = refl
between_ends (outside in_action_law) = refl
between_ends (outside in_effects_law) = refl
between_ends past_goal = refl

-- The other way round: the written rows of a meaning that keeps the rules, before rows that go on from where they end.
module _ {F : ℕ} where
  conjunct : {k : Kind} {c : Context} {t f n : ℕ} {rs : List Row}
      → ((b : Bool) (l v : ℕ) (rs : List Row) → l ≤ v → v < F → Rows F k c (suc v) n rs → Rows F k c l n (row (cond b t f) v ∷ rs))
      → (ls : List Literal) {l : ℕ} → Rise F l (atoms ls) → ((m : ℕ) → Rows F k c m n rs) → Rows F k c l n (conjunct_rows t f ls ++ rs)
  unfolding conjunct_rows
  conjunct each [] {l} h r = r l
  conjunct each (x ∷ ls) {l} h r = each x.sign l x.atom _ h.0 h.1 (conjunct each ls h.2 r)

  -- An action's effects, from its needs on.
  effects : {n : ℕ} {rs : List Row} (e : List Literal) → Rise F 0 (atoms e) → ((c : Context) → Outside c → (m : ℕ) → Rows F shop c m n rs)
      → (l : ℕ) → Rows F shop in_action l n (conjunct_rows 5 6 e ++ rs)
  unfolding conjunct_rows
  effects [] h r l = r in_action in_action_law l
  effects (x ∷ e) h r l = first_effect x.sign h.1 (conjunct (λ b l v rs. effect b) e h.2 (r in_effects in_effects_law))

  afters : {k : Kind} {n : ℕ} {rs : List Row} (ks : List ℕ) {l : ℕ} → Rise n l ks → ((m : ℕ) → Rows F k in_node m (suc n) rs)
      → Rows F k in_node l (suc n) (map (row 11) ks ++ rs)
  afters [] {l} h r = r l
  afters {n = n} (x ∷ ks) h r = let below : suc x < suc n = omega (arith, h.1) in after h.0 below (afters ks h.2 r)

  alternatives : {k : Kind} {n : ℕ} {rs : List Row} (f : Formula) → Each (ConjunctRules F) f → ((m : ℕ) → Rows F k in_alternative m n rs)
      → (l : ℕ) → Rows F k in_alternative l n (flat_map alternative_rows f ++ rs)
  unfolding alternative_rows flat_map
  alternatives [] h r l = r l
  alternatives (c ∷ f) (h & hs) r l =
      simp append_assoc (alternative past_wanted (conjunct (λ b l v rs. wanted b) c (rise h) (alternatives f hs r)))

  formula : {k : Kind} {n : ℕ} {rs : List Row} (f : Formula) → 1 ≤ length f → Each (ConjunctRules F) f
      → ((m : ℕ) → Rows F k in_alternative m n rs) → (l : ℕ) → Rows F k in_node l n (flat_map alternative_rows f ++ rs)
  unfolding alternative_rows flat_map
  formula [] some h r l = absurd (omega arith)
  formula (c ∷ f) some (h & hs) r l =
      simp append_assoc (alternative past_afters (conjunct (λ b l v rs. wanted b) c (rise h) (alternatives f hs r)))

  a_node : {k : Kind} {c : Context} {l i : ℕ} {rs : List Row} → BeforeNode k c → (n : Node) → NodeRules F i n
      → ((m : ℕ) → Rows F k in_alternative m (suc i) rs) → Rows F k c l i (node_rows n ++ rs)
  unfolding node_rows
  a_node o n h r =
      simp append_assoc
      (node o
      (afters n.after (rise h.afters) (formula n.formula h.some_alternative (mem_each n.formula h.alternatives) r)))

  network : {k : Kind} {i : ℕ} {rs : List Row} (ns : List Node) → Network F i ns → ((m j : ℕ) → Rows F k in_alternative m j rs)
      → (l : ℕ) → Rows F k in_alternative l i (flat_map node_rows ns ++ rs)
  unfolding flat_map
  network {i = i} [] h r l = r l i
  network (n ∷ ns) h r l = simp append_assoc (a_node past_node n h.0 (network ns h.1 r))

  -- A network's nodes from where its first node may begin, of which there is one.
  network_first : {k : Kind} {c : Context} {l i : ℕ} {rs : List Row} → BeforeNode k c → (ns : List Node) → 1 ≤ length ns → Network F i ns
      → ((m j : ℕ) → Rows F k in_alternative m j rs) → Rows F k c l i (flat_map node_rows ns ++ rs)
  unfolding flat_map
  network_first o [] some h r = absurd (omega arith)
  network_first o (n ∷ ns) some h r = simp append_assoc (a_node o n h.0 (network ns h.1 r))

  methods : (ms : List Method) → Each (MethodRules F) ms → {c : Context} {l n : ℕ} → Between c → Rows F shop c l n (flat_map method_rows ms)
  unfolding method_rows flat_map
  methods [] h o = done (between_ends o)
  methods (m ∷ ms) (h & hs) o =
      simp append_assoc
      (method o
      (conjunct (λ b l v rs. need of_method b) m.needs (rise h.needs)
      (λ l. network_first past_needs m.nodes h.some_node (rules_network h.nodes) (λ l n. methods ms hs past_goal))))

  actions : (acts : List Action) (ms : List Method) → Each (ActionRules F) acts → Each (MethodRules F) ms → {c : Context} {l n : ℕ} → Outside c
      → Rows F shop c l n (flat_map action_rows acts ++ flat_map method_rows ms)
  unfolding action_rows flat_map
  actions [] ms h k o = methods ms k (outside o)
  actions (a ∷ acts) ms (h & hs) k o =
      simp append_assoc
      (action o h.cost
      (conjunct (λ b l v rs. need of_action b) a.needs (rise h.needs)
      (effects a.effects (rise h.effects) (λ c o l. actions acts ms hs k o))))

  starts : (ks : List ℕ) {l : ℕ} {rs : List Row} → Rise F l ks → ((m : ℕ) → Rows F order at_start m 0 rs)
      → Rows F order at_start l 0 (map (row 12) ks ++ rs)
  starts [] {l} h r = r l
  starts (x ∷ ks) h r = start h.0 h.1 (starts ks h.2 r)

  goals : (ns : List Node) → Network F 0 ns → (l : ℕ) → Rows F order at_start l 0 (flat_map node_rows ns)
  unfolding flat_map
  goals [] h l = done refl
  goals (n ∷ ns) h l = a_node at_order n h.0 (λ m. rw append-nil at (network {k = order} {rs = []} ns h.1 (λ m j. done refl) m))

pub domain_passes : {F : ℕ} (d : Domain) → ((a : Action) → Memᴰ a d.actions → ActionRules F a)
    → ((m : Method) → Memᴰ m d.methods → MethodRules F m) → Passes shop_follow F opening (domain_rows d)
unfolding domain_rows
domain_passes d h k = passes (actions d.actions d.methods (mem_each d.actions h) (mem_each d.methods k) at_start_law)

pub order_passes : {F : ℕ} (o : Order) → RisingBelow F o.start → NetworkRules F o.goals → Passes order_follow F opening (order_rows o)
unfolding order_rows
order_passes o h k = passes (starts o.start (rise h) (goals o.goals (rules_network k)))
