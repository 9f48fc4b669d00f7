-- The counts of `specs/PartCounts.antt` are those of the definitions: the actions, the methods, and the answer to question 9.
-- Assumes nothing.
use Prim.Native.Nat.{ℕ, suc, ◌+◌, ◌-◌, ◌≤◌}
use native.Mathlib.Nat.{add-zero, add-suc, zero-add, suc-add}
use native.Mathlib.Numerals.{sub-one}
use native.Mathlib.Omega.{arith}
use mathlib.Core.Path.{◌≡◌, refl, ◌∙◌}
use mathlib.Core.Bool.{Bool, true, false, not, cond, ◌&&◌}
use mathlib.Core.List.{List, [], ◌∷◌}
use Rattle.std.specs.Prelude.{Option, None, Some, is_none}
use lib.Dec.{eqb, leb}
use lib.ListN.{length, length-map}
use mir.Syntax.{w16}
use mir.Val.{Fits}
use borrow.Author.Tests.{eqb-true, le-leb}
use Rattle.hgn.specs.Lists.{filter, take_until, split_at_each}
use Rattle.hgn.specs.Rows.{Row, row, has, values_tagged}
use Rattle.hgn.specs.Meaning.{Node, Domain, node_of, nodes_of, method_of, begins_operator, starts_with, domain_of, last_of}
use Rattle.hgn.specs.Questions.{◌asks◌, ◌askedAt◌, Verdict, passed, refused, first_no}
use Rattle.hgn.specs.Shop.{most_nodes, node_rules, method_questions}
use Rattle.hgn.specs.Tag as Tag
use Rattle.sheet_check.specs.declared.part_counts.PartCounts.{PartCounts}
use Rattle.sheet_check.specs.PartCounts.{nothing, within_rules, noted, closed, with_action, with_method, with_counts, counted, counted_rows, offending, invalid_in, Each, Within, Small}

-- By the tag: one that is counted, or another, which changes nothing.
by_tag : (P : ℕ → Type 0) → P Tag.action → P Tag.method → P Tag.node → P Tag.alternative → P Tag.after
    → ((k : ℕ) → ((t : PartCounts) → counted t k ≡ t)
    → eqb k Tag.action ≡ false → eqb k Tag.method ≡ false → eqb k Tag.node ≡ false → eqb k Tag.alternative ≡ false → eqb k Tag.after ≡ false → P k)
    → (k : ℕ) → P k
unfolding counted
by_tag P action method node alternative after other k =
    is Tag.action action λ a. is Tag.method method λ b. is Tag.node node λ c. is Tag.alternative alternative λ d. is Tag.after after λ e.
    other k (λ t. rw (a, b, c, d, e)) a b c d e
  where
    is : (n : ℕ) → P n → (eqb k n ≡ false → P k) → P k
    is n p f = go (eqb k n) refl
      where
        go : (b : Bool) → eqb k n ≡ b → P k
        go true e = rw (eqb-true k n e) p
        go false e = f e

-- To close the open method is to change nothing, or to note it.
closed_is : (P : PartCounts → Type 0) (t : PartCounts) → P t → P (noted t) → P (closed t)
unfolding closed
closed_is P t p q = go (t.inside && is_none t.offender && not (within_rules t) && leb 1 t.methods)
  where
    go : (b : Bool) → P (cond b (noted t) t)
    go true = q
    go false = p

closed_keeps : (t : PartCounts) → ((closed t).actions ≡ t.actions) × ((closed t).methods ≡ t.methods)
unfolding noted
closed_keeps t = closed_is (λ u. (u.actions ≡ t.actions) × (u.methods ≡ t.methods)) t (refl, refl) (refl, refl)

-- No count is more than the number of rows.

pub within_nothing : Within 0 nothing
within_nothing = omega arith

pub each_closed : (P : ℕ → Type 0) (t : PartCounts) → Each P t → Each P (closed t)
unfolding noted
each_closed P t w = closed_is (Each P) t w (record {
  actions = w.actions;
  methods = w.methods;
  nodes = w.nodes;
  alternatives = w.alternatives;
  afters = w.afters;
})

pub within_counted : (n : ℕ) (t : PartCounts) (tag : ℕ) → Within n t → Within (suc n) (counted t tag)
unfolding counted with_action with_method with_counts
within_counted n t tag w =
    let v = each_closed (λ k. k ≤ n) t w in
    by_tag (λ k. Within (suc n) (counted t k)) (omega arith) (omega arith) (omega arith) (omega arith) (omega arith)
    (λ k other a b c d e. rw (other t) (omega arith))
    tag

pub within_small : (n : ℕ) (t : PartCounts) → Fits w16 (n + 1) → Within n t → Small t
within_small n t h w = omega arith

-- `u` has the actions and the methods of `d` on top of those of `t`.
abbrev Adds : Domain → PartCounts → PartCounts → Type 0
Adds d t u = (u.actions ≡ t.actions + length d.actions) × (u.methods ≡ t.methods + length d.methods)

rows_add : (t : PartCounts) (rs : List Row) → Adds (domain_of rs) t (counted_rows t rs)
unfolding counted_rows counted with_action with_method with_counts domain_of filter split_at_each starts_with
rows_add t [] = omega arith
rows_add t (r ∷ rs) =
    let same = closed_keeps t in
    by_tag (λ k. Adds (domain_of (row k r.value ∷ rs)) t (counted_rows (counted t k) rs))
    (let h = rows_add (with_action (closed t)) rs in omega arith)
    (let h = rows_add (with_method (closed t)) rs in omega arith)
    (rows_add (counted t Tag.node) rs)
    (rows_add (counted t Tag.alternative) rs)
    (rows_add (counted t Tag.after) rs)
    (λ k other a b c d e. rw (other t, a, b) (rows_add t rs))
    r.tag

-- Question 8: the rows' actions and methods are counted.
pub actions_counted : (rows : List Row) → (counted_rows nothing rows).actions ≡ length (domain_of rows).actions
actions_counted rows = let h = rows_add nothing rows in omega arith

pub methods_counted : (rows : List Row) → (counted_rows nothing rows).methods ≡ length (domain_of rows).methods
methods_counted rows = let h = rows_add nothing rows in omega arith

abbrev alternatives_of : Node → ℕ
alternatives_of n = length n.formula

abbrev afters_of : Node → ℕ
afters_of n = length n.after

-- A number of the last listed node, or `k` where there is none.
last_number : (Node → ℕ) → ℕ → List Node → ℕ
last_number f k [] = k
last_number f k (n ∷ ns) = last_number f (f n) ns

last_number_law : (f : Node → ℕ) (k : ℕ) (n : Node) (ns : List Node) → last_number f k (n ∷ ns) ≡ f (last_of (n ∷ ns))
unfolding last_number last_of
last_number_law f k n [] = refl
last_number_law f k n (m ∷ ms) = last_number_law f (f n) m ms

-- The counts after the rows `b` of the open method: its nodes are counted, and the 8 and 11 rows of the last of them.
with_rows : PartCounts → List Row → PartCounts
with_rows t b =
    with_counts t (t.nodes + length (nodes_of b))
    (last_number alternatives_of (t.alternatives + length (split_at_each (has Tag.alternative) (take_until (has Tag.node) b))) (nodes_of b))
    (last_number afters_of (t.afters + length (values_tagged Tag.after (take_until (has Tag.node) b))) (nodes_of b))

rows_counted : (t : PartCounts) (rs : List Row) → counted_rows t (take_until begins_operator rs) ≡ with_rows t (take_until begins_operator rs)
unfolding with_rows take_until counted_rows counted with_counts nodes_of node_of split_at_each values_tagged last_number
rows_counted t [] = simp add-zero
rows_counted t (r ∷ rs) =
    by_tag (λ k. let b = take_until begins_operator (row k r.value ∷ rs) in counted_rows t b ≡ with_rows t b)
    (simp add-zero)
    (simp add-zero)
    (rows_counted (counted t Tag.node) rs ∙ simp (zero-add, suc-add, add-suc, length-map))
    (rows_counted (counted t Tag.alternative) rs ∙ rw (suc-add, add-suc))
    (rows_counted (counted t Tag.after) rs ∙ rw (suc-add, add-suc))
    (λ k other a b c d e. rw (a, b) (rw (other t, c, d, e, counted_rows) (rows_counted t rs)))
    r.tag

-- A method is within the counts' rules at its end exactly when it is within its node rules.
method_counted : (t : PartCounts) (v : ℕ) (rs : List Row)
    → within_rules (counted_rows (with_method t) (take_until begins_operator rs)) ≡ node_rules (method_of (row Tag.method v ∷ take_until begins_operator rs))
unfolding with_rows within_rules with_method with_counts node_rules method_of nodes_of split_at_each last_number last_of
method_counted t v rs = rw (rows_counted (with_method t) rs) (go _ _ (nodes_of (take_until begins_operator rs)))
  where
    go : (j k : ℕ) (ns : List Node)
        → leb 1 (0 + length ns) && leb (0 + length ns) most_nodes && eqb (last_number alternatives_of j ns) 1 && eqb (last_number afters_of k ns) 0
        ≡ leb 1 (length ns) && leb (length ns) most_nodes && eqb (alternatives_of (last_of ns)) 1 && eqb (afters_of (last_of ns)) 0
    go j k [] = refl
    go j k (n ∷ ns) = rw (zero-add, last_number_law alternatives_of j n ns, last_number_law afters_of k n ns)

-- The answer to question 9 from such counts on: at the method that it noted, else at its open method unless that is `within` its rules,
-- else what the rest answers.
answered : PartCounts → Bool → Verdict → Verdict
answered t within rest =
    offending t.offender
    (cond (t.inside && leb 1 t.methods) (cond within rest (refused (9 asks false askedAt (t.methods - 1)).failure)) rest)

closed_answered : (t : PartCounts) (rest : Verdict)
    → offending (closed t).offender rest ≡ answered t (within_rules t) rest
unfolding closed noted answered offending
closed_answered t rest = go t.inside t.offender (within_rules t) (leb 1 t.methods) refl refl refl refl
  where
    go : (o : Bool) (f : Option ℕ) (w m : Bool) → t.inside ≡ o → t.offender ≡ f → within_rules t ≡ w → leb 1 t.methods ≡ m
        → offending (closed t).offender rest ≡ answered t (within_rules t) rest
    go false f w m p q r s = rw p
    go true (Some k) w m p q r s = rw (p, q)
    go true None true true p q r s = rw (r, s, p, q)
    go true None true false p q r s = rw (r, s, p, q)
    go true None false true p q r s = rw (r, s, p, q)
    go true None false false p q r s = rw (r, s, p, q)

-- The open method's rows end at the next action or method; then come the methods of the other rows.
rules_from : (t : PartCounts) (rs : List Row)
    → invalid_in (closed (counted_rows t rs))
    ≡ answered t (within_rules (counted_rows t (take_until begins_operator rs))) (first_no (method_questions t.methods (domain_of rs).methods))
unfolding invalid_in answered offending counted_rows counted with_action with_method with_counts take_until domain_of filter split_at_each starts_with method_questions first_no
rules_from t [] = closed_answered t passed
rules_from t (r ∷ rs) =
    by_tag
    (λ k.
    let rows = row k r.value ∷ rs in
    invalid_in (closed (counted_rows (counted t k) rs))
    ≡ answered t (within_rules (counted_rows t (take_until begins_operator rows))) (first_no (method_questions t.methods (domain_of rows).methods)))
    (rules_from (with_action (closed t)) rs ∙ rw (closed_keeps t).1 (closed_answered t _))
    (rules_from (with_method (closed t)) rs
    ∙ rw (method_counted (closed t) r.value rs, (closed_keeps t).1, le-leb 1 (suc t.methods) (omega arith), sub-one (suc t.methods))
    (closed_answered t _))
    (rules_from (counted t Tag.node) rs)
    (rules_from (counted t Tag.alternative) rs)
    (rules_from (counted t Tag.after) rs)
    (λ k other a b c d e. rw (other t, a, b) (rw (other t, counted_rows) (rules_from t rs)))
    r.tag

-- Question 9: the counts find the first method that is not within its node rules.
pub rules_counted : (rows : List Row) → invalid_in (closed (counted_rows nothing rows)) ≡ first_no (method_questions 0 (domain_of rows).methods)
unfolding answered offending
rules_counted rows = rules_from nothing rows
