-- Which literals are wanted by rows, by goals and by moves. Assumes nothing.
use Prim.Native.Nat.{ℕ, suc, ◌+◌, ◌-◌, ◌<◌}
use native.Mathlib.Omega.{arith}
use mathlib.Core.Path.{◌≡◌, refl, sym, ap, ◌∙◌, subst}
use mathlib.Core.Bool.{Bool, true, false, cond}
use mathlib.Core.List.Memᴰ
use mathlib.Core.List.{List, [], ◌∷◌, map, Memᴰ}
use lib.Dec.{ltb}
use lib.ListN.{length, get_or}
use borrow.Author.Tests.{eq-eqb, ne_eqb, ltb-true, ltb-false}
use Rattle.hgn.specs.Lists.{take_until, split_at_each}
use Rattle.hgn.specs.Rows.{Row, row, has}
use Rattle.hgn.specs.Tag as Tag
use Rattle.hgn.specs.Meaning.{Literal, Formula, Action, Method, literals, node_of, action_of, method_of, begins_operator}
use Rattle.hgn.specs.State.{State, contains}
use Rattle.hgn.specs.Network.{Waiting}
use Rattle.hgn.specs.Run.{Move, no_action, act, use_method, Problem, Rules}
use Rattle.hgn.specs.Shop.{domain, action_count, method_count, shop_rows}
use Rattle.hgn.specs.Replay.{rules_of}
use Rattle.hgn.proofs.Logic.Tests.{contains_iff, false_not_true}
use Rattle.hgn.proofs.Sheets.Checked.{shop_counts}
use Rattle.hgn.proofs.Network.Waiting.{goal_mem}
use Rattle.sheet_index.proofs.Indexed.{method_span, operators_count, action_span}
use Rattle.sheet_index.specs.Index.{span_rows, span}
use Rattle.network.specs.Entries.{waiting_of}
use Rattle.sheet_index.specs.Tables.{Indexed}
use Rattle.sheet_index.specs.declared.index.Span.{Span}
use Rattle.network.specs.Goals.{count_in, entry_in, list_in}
use Rattle.network.proofs.WaitingGoals.{list_length, list_at}
use Rattle.step.specs.Taking.{problem_with}
use Rattle.state.proofs.ByRow.{first_row_law}
use Rattle.sheet_index.proofs.Tables.{shop_passes}
use Rattle.search_theory.specs.Needed.{Needed, needs_of}
use Rattle.search_theory.proofs.Needed.{needed_by_goal, needed_by_need}
use Rattle.sheet_index.proofs.Spans.{operator_span, bounds}
use Rattle.search_bound.specs.NeededMoves.{move_of_operator, WantedAll, WantedFormula}
use Rattle.network.specs.declared.goals.Goals.{Goals}

-- The literal of a row.
module _ (t f tag value : ℕ) where
  pub row_true : tag ≡ t → Memᴰ (record { sign = true; atom = value }) (literals t f (row tag value ∷ []))
  unfolding literals
  row_true e = rw (eq-eqb tag t e) (Memᴰ.head refl)

  pub row_false : (tag ≡ t → ⊥) → tag ≡ f → Memᴰ (record { sign = false; atom = value }) (literals t f (row tag value ∷ []))
  unfolding literals
  row_false n e = rw (ne_eqb tag t n, eq-eqb tag f e) (Memᴰ.head refl)

-- The literals of the first row and those of the rows after it are the rows'.
module _ (t f : ℕ) {rows rs : List Row} {r : Row} (p : rows ≡ r ∷ rs) (l : Literal) where
  pub row_here : Memᴰ l (literals t f (r ∷ [])) → Memᴰ l (literals t f rows)
  row_here m = rw p (subst (Memᴰ l) (sym (first_row_law t f r rs)) (Memᴰ.append_left _ m))

  pub rows_after : Memᴰ l (literals t f rs) → Memᴰ l (literals t f rows)
  rows_after m = rw p (subst (Memᴰ l) (sym (first_row_law t f r rs)) (Memᴰ.append_right (literals t f (r ∷ [])) m))

-- One alternative in these rows, none before them and nothing wanted before it; or, if it has begun, none in them.
pub one_from : Bool → List Row → Bool
one_from found [] = found
one_from true (r ∷ rs) = cond (has Tag.alternative r) false (one_from true rs)
one_from false (r ∷ rs) =
    cond (has Tag.alternative r) (one_from true rs)
    (cond (has Tag.wanted_true r) false (cond (has Tag.wanted_false r) false (one_from false rs)))

none_more : (rs : List Row) → one_from true rs ≡ true → (take_until (has Tag.alternative) rs ≡ rs) × (split_at_each (has Tag.alternative) rs ≡ [])
unfolding one_from take_until split_at_each
none_more [] e = (refl, refl)
none_more (r ∷ rs) e = go (has Tag.alternative r) refl e (none_more rs)
  where
    go : (b : Bool) → has Tag.alternative r ≡ b → cond b false (one_from true rs) ≡ true
        → (one_from true rs ≡ true → (take_until (has Tag.alternative) rs ≡ rs) × (split_at_each (has Tag.alternative) rs ≡ []))
        → (cond b [] (r ∷ take_until (has Tag.alternative) rs) ≡ r ∷ rs)
        × (cond b ((r ∷ take_until (has Tag.alternative) rs) ∷ split_at_each (has Tag.alternative) rs) (split_at_each (has Tag.alternative) rs) ≡ [])
    go true q e ih = absurd (false_not_true _ refl e)
    go false q e ih = (ap {B = List Row} (λ l. r ∷ l) (ih e).0, (ih e).1)

pub one_formula : (rs : List Row) → one_from false rs ≡ true → (node_of rs).formula ≡ literals 9 10 rs ∷ []
unfolding one_from node_of split_at_each literals
one_formula [] e = absurd (false_not_true _ refl e)
one_formula (r ∷ rs) e = go (has 8 r) (has 9 r) (has 10 r) refl refl refl e (one_formula rs) (none_more rs)
  where
    go : (a b c : Bool) → has 8 r ≡ a → has 9 r ≡ b → has 10 r ≡ c → cond a (one_from true rs) (cond b false (cond c false (one_from false rs))) ≡ true
        → (one_from false rs ≡ true → map (literals 9 10) (split_at_each (has 8) rs) ≡ literals 9 10 rs ∷ [])
        → (one_from true rs ≡ true → (take_until (has 8) rs ≡ rs) × (split_at_each (has 8) rs ≡ []))
        → map (literals 9 10) (cond a ((r ∷ take_until (has 8) rs) ∷ split_at_each (has 8) rs) (split_at_each (has 8) rs))
        ≡ cond b (record { sign = true; atom = r.value } ∷ literals 9 10 rs) (cond c (record { sign = false; atom = r.value } ∷ literals 9 10 rs) (literals 9 10 rs)) ∷ []
    go true b c q y z e ih n = let m = n e in rw (y, z, m.0, m.1)
    go false true c q y z e ih n = absurd (false_not_true _ refl e)
    go false false true q y z e ih n = absurd (false_not_true _ refl e)
    go false false false q y z e ih n = ih e

-- How a row goes on.
module _ (t v : ℕ) (rs : List Row) where
  pub one_begins : (found : Bool) → found ≡ false → t ≡ 8 → one_from found (row t v ∷ rs) ≡ one_from true rs
  unfolding one_from
  one_begins true n e = absurd (false_not_true _ n refl)
  one_begins false n e = rw e

  pub one_goes_on : (found : Bool) → found ≡ true → (t ≡ 8 → ⊥) → one_from found (row t v ∷ rs) ≡ one_from found rs
  unfolding one_from
  one_goes_on true e n = rw (ne_eqb t 8 n)
  one_goes_on false e n = absurd (false_not_true _ refl e)

  pub one_not_yet : (found : Bool) → found ≡ false → (t ≡ 8 → ⊥) → (t ≡ 9 → ⊥) → (t ≡ 10 → ⊥) → one_from found (row t v ∷ rs) ≡ one_from found rs
  unfolding one_from
  one_not_yet true e n y z = absurd (false_not_true _ e refl)
  one_not_yet false e n y z = rw (ne_eqb t 8 n, ne_eqb t 9 y, ne_eqb t 10 z)

pub one_ends : (found : Bool) → one_from found [] ≡ found
unfolding one_from
one_ends true = refl
one_ends false = refl

module _ (r : Rules) (P : Problem) where
  -- Of one alternative every literal stands in each.
  pub alternative_wanted : {f : Formula} {ls : List Literal} → f ≡ ls ∷ [] → WantedFormula f r P → WantedAll ls r P
  alternative_wanted {ls = ls} e h l i =
      h l (λ c j. ap (λ (k : List Literal). contains k l) (Memᴰ.eq_of_singleton (subst (Memᴰ c) e j)) ∙ (contains_iff ls l).1 i)

  pub goal_wanted : (g : Waiting) → Memᴰ g P.waiting → WantedFormula g.formula r P
  goal_wanted g i l v k f o = needed_by_goal r P g l k i v f o

  pub needs_wanted : (m : Move) → Needed r P m → WantedAll (needs_of r.domain m) r P
  needs_wanted m h l i k f o = needed_by_need r P m l k h ((contains_iff (needs_of r.domain m) l).1 i) f o

-- What the goal at a place wants is wanted.
pub entry_wanted : (r : Rules) (s : State) (shop order : List ℕ) (ws : Goals) (i : ℕ) → i < count_in ws
    → WantedFormula (node_of (span_rows shop order (entry_in ws i).rows)).formula r (problem_with shop order s ws)
unfolding waiting_of
entry_wanted r s shop order ws i b =
    goal_wanted r (problem_with shop order s ws) (waiting_of shop order (entry_in ws i))
    (subst (λ (g : Waiting). Memᴰ g (list_in shop order ws)) (list_at shop order ws i b)
    (goal_mem (list_in shop order ws) i (omega (arith, list_length shop order ws))))

-- The needs of a move stand in the rows of its operator.
module _ {shop order table : List ℕ} (ix : Indexed shop order table) (b : ℕ) (h : b < action_count shop + method_count shop) where
  counts : (length (domain shop).actions ≡ action_count shop) × (length (domain shop).methods ≡ method_count shop)
  counts = shop_counts shop (shop_passes ix)

  rows_span : get_or (split_at_each begins_operator (shop_rows shop)) b [] ≡ span (shop_rows shop) (get_or (bounds (shop_rows shop)) b 0) (get_or (bounds (shop_rows shop)) (suc b) 0)
  rows_span = operator_span (shop_rows shop) b (omega (arith, operators_count shop (shop_passes ix)))

  operator_needs : needs_of (domain shop) (move_of_operator (domain shop) b) ≡ literals Tag.needs_true Tag.needs_false (get_or (split_at_each begins_operator (shop_rows shop)) b [])
  unfolding move_of_operator action_of method_of
  operator_needs = go (ltb b (length (domain shop).actions)) refl
    where
      go : (y : Bool) → ltb b (length (domain shop).actions) ≡ y
          → needs_of (domain shop) (cond y (act (suc b)) (use_method (b - length (domain shop).actions)))
          ≡ literals Tag.needs_true Tag.needs_false (get_or (split_at_each begins_operator (shop_rows shop)) b [])
      go true y =
          let z : suc b - 1 ≡ b = omega arith in
          ap (λ (k : ℕ). (get_or (domain shop).actions k no_action).needs) z
          ∙ ap (λ (x : Action). x.needs) (action_span shop (shop_passes ix) b (omega (arith, ltb-true b (length (domain shop).actions) y, counts.0)))
          ∙ ap (literals Tag.needs_true Tag.needs_false) (sym rows_span)
      go false y =
          let z : action_count shop + (b - length (domain shop).actions) ≡ b = omega (arith, ltb-false b (length (domain shop).actions) y, counts.0) in
          ap (λ (x : Method). x.needs) (method_span shop (shop_passes ix) (b - length (domain shop).actions) (omega (arith, ltb-false b (length (domain shop).actions) y, counts.0)))
          ∙ rw z (ap (literals Tag.needs_true Tag.needs_false) (sym rows_span))

  pub operator_wanted : (P : Problem) (rows : Span) → span_rows shop order rows ≡ get_or (split_at_each begins_operator (shop_rows shop)) b []
      → Needed (rules_of shop) P (move_of_operator (domain shop) b) → WantedAll (literals Tag.needs_true Tag.needs_false (span_rows shop order rows)) (rules_of shop) P
  operator_wanted P rows e n =
      subst (λ (ls : List Literal). WantedAll ls (rules_of shop) P) (operator_needs ∙ ap (literals Tag.needs_true Tag.needs_false) (sym e)) (needs_wanted (rules_of shop) P _ n)
