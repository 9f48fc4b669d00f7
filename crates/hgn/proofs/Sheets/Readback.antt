-- Rows written from a meaning are read back as that meaning, and words written from rows as those rows. Assumes nothing.
use Prim.Native.Nat.{ℕ, ◌+◌, ◌*◌, ◌≤◌}
use native.Mathlib.Omega.{arith}
use mathlib.Core.Path.{◌≡◌, refl, sym, ap, ap₂, ◌∙◌}
use mathlib.Core.Bool.{Bool, true, false, cond, ◌||◌}
use mathlib.Core.List.{List, [], ◌∷◌, ◌++◌, map, flat_map, zip_with, append-nil, append_assoc}
use lib.Dec.{eqb}
use lib.ListN.{length, take, drop, length-append, length-map, length-take, length-drop, take-append-drop}
use lib.Seq.{drop-append_seam, drop-append-add, take_at, drop_at, take_all}
use borrow.Author.Tests.{eq-eqb}
use Rattle.hgn.specs.Lists.{any, filter, take_until, split_at_each}
use Rattle.hgn.specs.Rows.{Row, row, has, values_tagged, rows_of, row_words}
use Rattle.hgn.specs.Meaning.{Literal, Formula, Node, Action, Method, Domain, Order, literals, node_of, nodes_of, first_value, action_of, method_of, begins_operator, starts_with, domain_of, order_of}
use Rattle.hgn.specs.Written.{conjunct_rows, alternative_rows, node_rows, action_rows, method_rows, domain_rows, order_rows}
use Rattle.hgn.proofs.Logic.Tests.{or_false, false_or, any_append}

-- Rows none of which has a tag that passes a test.

module _ (test : ℕ → Bool) where
  abbrev tagged : Row → Bool
  tagged r = test r.tag

  abbrev None : List Row → Type 0
  None rs = any tagged rs ≡ false

  none_append : (xs ys : List Row) → None xs → None ys → None (xs ++ ys)
  none_append xs ys p q = any_append tagged xs ys ∙ false_or (any tagged xs) (any tagged ys) p q

  none_flat : {A : Type 0} (f : A → List Row) → ((x : A) → None (f x)) → (xs : List A) → None (flat_map f xs)
  unfolding any flat_map
  none_flat f each [] = refl
  none_flat f each (x ∷ xs) = none_append (f x) _ (each x) (none_flat f each xs)

  pub conjunct_none : (t f : ℕ) → test t ≡ false → test f ≡ false → (c : List Literal) → None (conjunct_rows t f c)
  unfolding any conjunct_rows
  conjunct_none t f p q [] = refl
  conjunct_none t f p q (l ∷ c) = false_or (test (cond l.sign t f)) _ (sign l.sign) (conjunct_none t f p q c)
    where
      sign : (b : Bool) → test (cond b t f) ≡ false
      sign true = p
      sign false = q

  pub values_none : (t : ℕ) → test t ≡ false → (ks : List ℕ) → None (map (row t) ks)
  unfolding any
  values_none t p [] = refl
  values_none t p (k ∷ ks) = false_or (test t) _ p (values_none t p ks)

  alternative_none : test 8 ≡ false → test 9 ≡ false → test 10 ≡ false → (c : List Literal) → None (alternative_rows c)
  unfolding any alternative_rows
  alternative_none p q r c = false_or (test 8) _ p (conjunct_none 9 10 q r c)

  pub formula_none : test 8 ≡ false → test 9 ≡ false → test 10 ≡ false → (f : Formula) → None (flat_map alternative_rows f)
  formula_none p q r = none_flat alternative_rows (alternative_none p q r)

  node_none : test 7 ≡ false → test 8 ≡ false → test 9 ≡ false → test 10 ≡ false → test 11 ≡ false → (n : Node) → None (node_rows n)
  unfolding any node_rows
  node_none o p q r s n =
      false_or (test 7) _ o (none_append (map (row 11) n.after) _ (values_none 11 s n.after) (formula_none p q r n.formula))

  pub nodes_none : test 7 ≡ false → test 8 ≡ false → test 9 ≡ false → test 10 ≡ false → test 11 ≡ false → (ns : List Node) → None (flat_map node_rows ns)
  nodes_none o p q r s = none_flat node_rows (node_none o p q r s)

-- The parts of rows.

module _ (test : Row → Bool) where
  split_skip : (xs ys : List Row) → any test xs ≡ false → split_at_each test (xs ++ ys) ≡ split_at_each test ys
  unfolding any split_at_each
  split_skip [] ys e = refl
  split_skip (x ∷ xs) ys e = let h = or_false (test x) (any test xs) e in rw h.0 (split_skip xs ys h.1)

  take_until_skip : (xs ys : List Row) → any test xs ≡ false → take_until test (xs ++ ys) ≡ xs ++ take_until test ys
  unfolding any take_until
  take_until_skip [] ys e = refl
  take_until_skip (x ∷ xs) ys e = let h = or_false (test x) (any test xs) e in rw h.0 (ap {B = List Row} (◌∷◌ x) (take_until_skip xs ys h.1))

  -- A row that passes, and rows none of which does.
  pub data Part : List Row → Type 0 where
    part : {r : Row} {rs : List Row} → test r ≡ true → any test rs ≡ false → Part (r ∷ rs)

  -- Rows that are at their end, or at the first row of a block.
  abbrev Fresh : List Row → Type 0
  Fresh rs = take_until test rs ≡ []

  part_first : {b : List Row} → Part b → (rest : List Row) → Fresh rest → (split_at_each test (b ++ rest) ≡ b ∷ split_at_each test rest) × Fresh (b ++ rest)
  unfolding split_at_each take_until
  part_first (part {r} {rs} h k) rest e =
      (rw (h, take_until_skip rs rest k, e, append-nil, split_skip rs rest k), rw h)

  pub parts_read : {A : Type 0} (f : A → List Row) → ((x : A) → Part (f x)) → (xs : List A) (rest : List Row) → Fresh rest
      → (split_at_each test (flat_map f xs ++ rest) ≡ map f xs ++ split_at_each test rest) × Fresh (flat_map f xs ++ rest)
  unfolding flat_map
  parts_read f each [] rest e = (refl, e)
  parts_read f each (x ∷ xs) rest e =
      let ih = parts_read f each xs rest e in
      let h = part_first (each x) (flat_map f xs ++ rest) ih.1 in
      rw append_assoc (h.0 ∙ ap {B = List (List Row)} (◌∷◌ (f x)) ih.0, h.1)

  -- Blocks behind rows that do not pass.
  pub split_parts : {A : Type 0} (f : A → List Row) → ((x : A) → Part (f x)) → (pre : List Row) → any test pre ≡ false
      → (xs : List A) → split_at_each test (pre ++ flat_map f xs) ≡ map f xs
  unfolding split_at_each take_until
  split_parts f each pre e xs =
      split_skip pre (flat_map f xs) e ∙ (simp append-nil at (parts_read f each xs [] refl).0)

-- What is read from the rows of a part.

read_back : {A : Type 0} (read : List Row → A) (write : A → List Row) → ((x : A) → read (write x) ≡ x)
    → (xs : List A) → map read (map write xs) ≡ xs
read_back read write each [] = refl
read_back read write each (x ∷ xs) = ap₂ {C = List _} ◌∷◌ (each x) (read_back read write each xs)

values_read : (t : ℕ) (ks : List ℕ) (rest : List Row) → any (has t) rest ≡ false → values_tagged t (map (row t) ks ++ rest) ≡ ks
unfolding values_tagged any
values_read t [] [] e = refl
values_read t [] (r ∷ rest) e = let h = or_false (has t r) (any (has t) rest) e in rw h.0 (values_read t [] rest h.1)
values_read t (k ∷ ks) rest e = rw (eq-eqb t t refl) (ap {B = List ℕ} (◌∷◌ k) (values_read t ks rest e))

literals_skip : (t f : ℕ) (xs ys : List Row) → any (λ r. has t r || has f r) xs ≡ false → literals t f (xs ++ ys) ≡ literals t f ys
unfolding literals any
literals_skip t f [] ys e = refl
literals_skip t f (x ∷ xs) ys e =
    let h = or_false (has t x || has f x) _ e in
    let k = or_false (has t x) (has f x) h.0 in
    rw (k.0, k.1) (literals_skip t f xs ys h.1)

module _ (t f : ℕ) (differ : eqb f t ≡ false) where
  literals_read : (c : List Literal) (rest : List Row) → any (λ r. has t r || has f r) rest ≡ false → literals t f (conjunct_rows t f c ++ rest) ≡ c
  unfolding literals conjunct_rows any
  literals_read [] rest e = rw append-nil at (literals_skip t f rest [] e)
  literals_read (l ∷ c) rest e = sign l.sign (literals_read c rest e)
    where
      sign : (b : Bool) → literals t f (conjunct_rows t f c ++ rest) ≡ c
          → literals t f (row (cond b t f) l.atom ∷ (conjunct_rows t f c ++ rest)) ≡ record { sign = b; atom = l.atom } ∷ c
      sign true ih = rw (eq-eqb t t refl) (ap {B = List Literal} (λ ls. record { sign = true; atom = l.atom } ∷ ls) ih)
      sign false ih = rw (differ, eq-eqb f f refl) (ap {B = List Literal} (λ ls. record { sign = false; atom = l.atom } ∷ ls) ih)

  -- The rows of a conjunct alone are read as its literals.
  conjunct_read : (c : List Literal) → literals t f (conjunct_rows t f c) ≡ c
  unfolding any
  conjunct_read c = rw append-nil at (literals_read c [] refl)

alternative_part : (c : List Literal) → Part (has 8) (alternative_rows c)
unfolding alternative_rows
alternative_part c = part refl (conjunct_none (λ k. eqb k 8) 9 10 refl refl c)

alternative_read : (c : List Literal) → literals 9 10 (alternative_rows c) ≡ c
unfolding alternative_rows literals
alternative_read c = conjunct_read 9 10 refl c

node_part : (n : Node) → Part (has 7) (node_rows n)
unfolding node_rows
node_part n =
    part refl
    (none_append (λ k. eqb k 7) (map (row 11) n.after) _ (values_none (λ k. eqb k 7) 11 refl n.after)
    (formula_none (λ k. eqb k 7) refl refl refl n.formula))

node_read : (n : Node) → node_of (node_rows n) ≡ n
unfolding node_of node_rows values_tagged split_at_each
node_read n =
    ap₂ (λ (a : List ℕ) (f : Formula). record { after = a; formula = f })
    (values_read 11 n.after (flat_map alternative_rows n.formula) (formula_none (λ k. eqb k 11) refl refl refl n.formula))
    (ap (map (literals 9 10))
    (split_parts (has 8) alternative_rows alternative_part (map (row 11) n.after) (values_none (λ k. eqb k 8) 11 refl n.after) n.formula)
    ∙ read_back (literals 9 10) alternative_rows alternative_read n.formula)

nodes_read : (pre : List Row) → any (has 7) pre ≡ false → (ns : List Node) → nodes_of (pre ++ flat_map node_rows ns) ≡ ns
unfolding nodes_of
nodes_read pre e ns =
    ap (map node_of) (split_parts (has 7) node_rows node_part pre e ns) ∙ read_back node_of node_rows node_read ns

action_part : (a : Action) → Part begins_operator (action_rows a)
unfolding action_rows
action_part a =
    let test : ℕ → Bool = λ k. eqb k 1 || eqb k 2 in
    part refl
    (none_append test (conjunct_rows 3 4 a.needs) _ (conjunct_none test 3 4 refl refl a.needs) (conjunct_none test 5 6 refl refl a.effects))

action_read : (a : Action) → action_of (action_rows a) ≡ a
unfolding action_of action_rows first_value literals
action_read a =
    ap₂ (λ (c e : List Literal). record { cost = a.cost; needs = c; effects = e })
    (literals_read 3 4 refl a.needs (conjunct_rows 5 6 a.effects) (conjunct_none (λ k. eqb k 3 || eqb k 4) 5 6 refl refl a.effects))
    (literals_skip 5 6 (conjunct_rows 3 4 a.needs) (conjunct_rows 5 6 a.effects) (conjunct_none (λ k. eqb k 5 || eqb k 6) 3 4 refl refl a.needs)
    ∙ conjunct_read 5 6 refl a.effects)

method_part : (m : Method) → Part begins_operator (method_rows m)
unfolding method_rows
method_part m =
    let test : ℕ → Bool = λ k. eqb k 1 || eqb k 2 in
    part refl
    (none_append test (conjunct_rows 3 4 m.needs) _ (conjunct_none test 3 4 refl refl m.needs)
    (nodes_none test refl refl refl refl refl m.nodes))

pub method_read : (m : Method) → method_of (method_rows m) ≡ m
unfolding method_of method_rows literals any
method_read m =
    ap₂ (λ (c : List Literal) (ns : List Node). record { needs = c; nodes = ns })
    (literals_read 3 4 refl m.needs (flat_map node_rows m.nodes) (nodes_none (λ k. eqb k 3 || eqb k 4) refl refl refl refl refl m.nodes))
    (nodes_read (row 2 0 ∷ conjunct_rows 3 4 m.needs) (conjunct_none (λ k. eqb k 7) 3 4 refl refl m.needs) m.nodes)

-- A method's rows before its first node and at its nodes, and what its needs are among them.
method_head : (m : Method) → take_until (has 7) (method_rows m) ≡ row 2 0 ∷ conjunct_rows 3 4 m.needs
unfolding method_rows take_until
method_head m =
    let none = conjunct_none (λ k. eqb k 7) 3 4 refl refl m.needs in
    let fresh = rw append-nil at (parts_read (has 7) node_rows node_part m.nodes [] refl).1 in
    rw (take_until_skip (has 7) (conjunct_rows 3 4 m.needs) (flat_map node_rows m.nodes) none, fresh, append-nil)

pub method_nodes : (m : Method) → split_at_each (has 7) (method_rows m) ≡ map node_rows m.nodes
unfolding method_rows any
method_nodes m =
    split_parts (has 7) node_rows node_part (row 2 0 ∷ conjunct_rows 3 4 m.needs) (conjunct_none (λ k. eqb k 7) 3 4 refl refl m.needs) m.nodes

pub order_nodes : (o : Order) → split_at_each (has 7) (order_rows o) ≡ map node_rows o.goals
unfolding order_rows
order_nodes o = split_parts (has 7) node_rows node_part (map (row 12) o.start) (values_none (λ k. eqb k 7) 12 refl o.start) o.goals

pub node_alternatives : (n : Node) → split_at_each (has 8) (node_rows n) ≡ map alternative_rows n.formula
unfolding node_rows any
node_alternatives n =
    split_parts (has 8) alternative_rows alternative_part (row 7 0 ∷ map (row 11) n.after) (values_none (λ k. eqb k 8) 11 refl n.after) n.formula

pub method_needs : (m : Method) → literals 3 4 (method_rows m) ≡ literals 3 4 (take_until (has 7) (method_rows m))
unfolding method_of literals
method_needs m =
    ap (λ (m : Method). m.needs) (method_read m) ∙ sym (ap (literals 3 4) (method_head m) ∙ conjunct_read 3 4 refl m.needs)

-- The literals wanted in a node with one alternative.
pub node_wanted : (ks : List ℕ) (c : List Literal) → literals 9 10 (node_rows (record { after = ks; formula = c ∷ [] })) ≡ c
unfolding node_rows alternative_rows flat_map literals
node_wanted ks c =
    rw append-nil
    (literals_skip 9 10 (map (row 11) ks) (row 8 0 ∷ conjunct_rows 9 10 c) (values_none (λ k. eqb k 9 || eqb k 10) 11 refl ks)
    ∙ conjunct_read 9 10 refl c)

-- What is kept of a list of parts.
module _ {A : Type 0} (test : List Row → Bool) (f : A → List Row) where
  filter_these : ((x : A) → test (f x) ≡ true) → (xs : List A) (rest : List (List Row)) → filter test (map f xs ++ rest) ≡ map f xs ++ filter test rest
  unfolding filter
  filter_these e [] rest = refl
  filter_these e (x ∷ xs) rest = rw (e x) (ap {B = List (List Row)} (◌∷◌ (f x)) (filter_these e xs rest))

  filter_others : ((x : A) → test (f x) ≡ false) → (xs : List A) (rest : List (List Row)) → filter test (map f xs ++ rest) ≡ filter test rest
  unfolding filter
  filter_others e [] rest = refl
  filter_others e (x ∷ xs) rest = rw (e x) (filter_others e xs rest)

-- The actions' parts, then the methods'.
pub domain_parts : (d : Domain) → split_at_each begins_operator (domain_rows d) ≡ map action_rows d.actions ++ map method_rows d.methods
unfolding domain_rows split_at_each take_until
domain_parts d =
    let m = simp append-nil at (parts_read begins_operator method_rows method_part d.methods [] refl) in
    (parts_read begins_operator action_rows action_part d.actions (flat_map method_rows d.methods) m.1).0
    ∙ ap {B = List (List Row)} (◌++◌ (map action_rows d.actions)) m.0

pub actions_kept : (as₀ : List Action) (ms : List Method) → filter (starts_with 1) (map action_rows as₀ ++ map method_rows ms) ≡ map action_rows as₀
unfolding starts_with action_rows method_rows filter
actions_kept as₀ ms =
    filter_these (starts_with 1) action_rows (λ a. refl) as₀ (map method_rows ms)
    ∙ ap {B = List (List Row)} (◌++◌ (map action_rows as₀)) (simp append-nil at (filter_others (starts_with 1) method_rows (λ m. refl) ms []))
    ∙ append-nil (map action_rows as₀)

pub methods_kept : (as₀ : List Action) (ms : List Method) → filter (starts_with 2) (map action_rows as₀ ++ map method_rows ms) ≡ map method_rows ms
unfolding starts_with action_rows method_rows filter
methods_kept as₀ ms =
    filter_others (starts_with 2) action_rows (λ a. refl) as₀ (map method_rows ms)
    ∙ (simp append-nil at (filter_these (starts_with 2) method_rows (λ m. refl) ms []))

pub domain_read : (d : Domain) → domain_of (domain_rows d) ≡ d
unfolding domain_of
domain_read d =
    rw (domain_parts d, actions_kept, methods_kept)
    (ap₂ (λ (a : List Action) (m : List Method). record { actions = a; methods = m })
    (read_back action_of action_rows action_read d.actions) (read_back method_of method_rows method_read d.methods))

pub order_read : (o : Order) → order_of (order_rows o) ≡ o
unfolding order_of order_rows
order_read o =
    ap₂ (λ (s : List ℕ) (ns : List Node). record { start = s; goals = ns })
    (values_read 12 o.start (flat_map node_rows o.goals) (nodes_none (λ k. eqb k 12) refl refl refl refl refl o.goals))
    (nodes_read (map (row 12) o.start) (values_none (λ k. eqb k 7) 12 refl o.start) o.goals)

-- No row of an order begins an action or a method.
pub none_begins : (o : Order) → any begins_operator (order_rows o) ≡ false
unfolding order_rows
none_begins o =
    let test : ℕ → Bool = λ k. eqb k 1 || eqb k 2 in
    none_append test (map (row 12) o.start) _ (values_none test 12 refl o.start) (nodes_none test refl refl refl refl refl o.goals)

-- Two parallel arrays of numbers behind sizes, read as a list of pairs: rows of tags and values, steps of moves and places.

module _ {C : Type 0} (pair : ℕ → ℕ → C) (first second : C → ℕ) (whole : (x : C) → pair (first x) (second x) ≡ x)
    (firsts : (a b : ℕ) → first (pair a b) ≡ a) (seconds : (a b : ℕ) → second (pair a b) ≡ b) where
  abbrev read_pairs : ℕ → ℕ → List ℕ → List C
  read_pairs size_words n words = zip_with pair (take n (drop size_words words)) (take n (drop (size_words + n) words))

  abbrev columns : List C → List ℕ
  columns xs = map first xs ++ map second xs

  zip_columns : (xs : List C) → zip_with pair (map first xs) (map second xs) ≡ xs
  unfolding zip_with
  zip_columns [] = refl
  zip_columns (x ∷ xs) = ap₂ {C = List C} ◌∷◌ (whole x) (zip_columns xs)

  pub columns_read : (sizes : List ℕ) (xs : List C) → read_pairs (length sizes) (length xs) (sizes ++ columns xs) ≡ xs
  columns_read sizes xs =
      ap₂ (zip_with pair)
      (ap (take (length xs)) (drop-append_seam sizes (columns xs)) ∙ take_at (map first xs) (map second xs) (length xs) (length-map xs _))
      (ap (take (length xs)) (drop-append-add sizes (columns xs) (length xs) ∙ drop_at (map first xs) (map second xs) (length xs) (length-map xs _))
      ∙ take_all (length xs) (map second xs) (omega (arith, length-map xs second)))
      ∙ zip_columns xs

  unzip : (ks ls : List ℕ) → length ks ≡ length ls → (map first (zip_with pair ks ls) ≡ ks) × (map second (zip_with pair ks ls) ≡ ls)
  unfolding zip_with
  unzip [] [] e = (refl, refl)
  unzip [] (l ∷ ls) e = absurd (omega arith)
  unzip (k ∷ ks) [] e = absurd (omega arith)
  unzip (k ∷ ks) (l ∷ ls) e =
      let h = unzip ks ls (omega arith) in
      (ap₂ {C = List ℕ} ◌∷◌ (firsts k l) h.0, ap₂ {C = List ℕ} ◌∷◌ (seconds k l) h.1)

  -- Words behind sizes, as many as `n` pairs have, are the columns of the pairs read from them.
  pub columns_back : (sizes rest : List ℕ) (n : ℕ) → length rest ≡ 2 * n
      → (n ≡ length (read_pairs (length sizes) n (sizes ++ rest))) × (rest ≡ columns (read_pairs (length sizes) n (sizes ++ rest)))
  columns_back sizes rest n e =
      let ks : List ℕ = take n rest in
      let ls : List ℕ = take n (drop n rest) in
      let short : length (drop n rest) ≤ n = omega (arith, length-drop n rest) in
      let u = unzip ks ls (omega (arith, length-take n rest, length-take n (drop n rest), length-drop n rest)) in
      rw (drop-append_seam sizes rest, drop-append-add sizes rest n) (
        omega (arith, length-map (zip_with pair ks ls) first, ap length u.0, length-take n rest),
        rw (u.0, u.1, take_all n (drop n rest) short) (sym (take-append-drop n rest)),
      )

-- The rows of a sheet behind its sizes.
pub words_read_law : (sizes : List ℕ) (rows : List Row)
    → rows_of (length sizes) (length rows) (sizes ++ (map (λ r. r.tag) rows ++ map (λ r. r.value) rows)) ≡ rows
unfolding rows_of
words_read_law = columns_read row (λ r. r.tag) (λ r. r.value) (λ r. refl) (λ t v. refl) (λ t v. refl)

pub words_back : (sizes rest : List ℕ) (n : ℕ) → length rest ≡ 2 * n → n ∷ rest ≡ row_words (rows_of (length sizes) n (sizes ++ rest))
unfolding rows_of row_words
words_back sizes rest n e =
    let h = columns_back row (λ r. r.tag) (λ r. r.value) (λ r. refl) (λ t v. refl) (λ t v. refl) sizes rest n e in
    ap₂ {C = List ℕ} ◌∷◌ h.0 h.1

pub words_length : (rows : List Row) → length (row_words rows) ≡ 1 + 2 * length rows
unfolding row_words
words_length rows =
    omega
    (arith, length-append (map (λ r. r.tag) rows) (map (λ r. r.value) rows), length-map rows (λ r. r.tag), length-map rows (λ r. r.value))
