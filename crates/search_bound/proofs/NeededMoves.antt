-- The needed moves: none, one more, the steps that they stand for, and that no trace is accepted. Assumes nothing.
use Prim.Native.Nat.{ℕ, suc, ◌+◌, ◌-◌, ◌≤◌, ◌<◌}
use native.Mathlib.Omega.{arith}
use native.Mathlib.Numerals.{add-one}
use mathlib.Core.Path.{◌≡◌, refl, sym, ap, ◌∙◌, subst}
use mathlib.Core.Bool.{Bool, true, false, cond}
use mathlib.Core.Logic.{◌≢◌, ⊎_elim}
use mathlib.Core.List.Memᴰ
use mathlib.Core.List.{List, [], ◌∷◌, ◌++◌, map, map-append, Memᴰ}
use mathlib.Core.Option.{none}
use lib.Dec.{ltb}
use lib.ListN.{length, take, get_or, set, length-set}
use lib.Seq.{take-suc-set, get_or-set_same, get_or-set_other, get_or-take, length-take-le}
use borrow.Author.Tests.{ltb-false, lt-ltb, le-ltb}
use Rattle.hgn.specs.Meaning.{Domain, Literal}
use Rattle.hgn.specs.State.{State, literal_holds, most_atoms}
use Rattle.hgn.specs.Run.{Step, Move, act, use_method, method_at, Problem, Rules}
use Rattle.hgn.specs.Shop.{domain}
use Rattle.hgn.specs.Replay.{rules_of}
use Rattle.hgn.proofs.Logic.Tests.{at_mem, at_of_lt, false_not_true}
use Rattle.search_theory.specs.Pruned.{pruned_of}
use Rattle.search_theory.specs.Needed.{Needed, Hopeless, steps_of_move, steps_of_moves, Different}
use Rattle.search_theory.proofs.Needed.{none_makes}
use Rattle.search_theory.proofs.LeastSteps.{none_shorter, none_hopeless}
use Rattle.search_bound.specs.declared.achievers.Table.{Table}
use Rattle.search_bound.specs.declared.achievers.Achievers.TheVariants.{None, Only}
use Rattle.search_bound.specs.declared.needed_moves.NeededMoves.{NeededMoves}
use Rattle.search_bound.specs.Tables.{entry_at, Achieved, OnlyAchievers}
use Rattle.search_bound.specs.NeededMoves.{most_needed, most_needed_steps}
use Rattle.search_bound.specs.NeededMoves.{move_of_operator, needed_operators, moves_needed, Holds, Wanted, WithOperator}

-- One element more at the end.
members : (P : ℕ → Type 0) {l r : List ℕ} {x : ℕ} → r ≡ l ++ (x ∷ []) → ((b : ℕ) → Memᴰ b l → P b) → P x
    → (b : ℕ) → Memᴰ b r → P b
members P {l} e old new b i =
    ⊎_elim (old b) (λ j. subst P (sym (Memᴰ.eq_of_singleton j)) new) (Memᴰ.append_cases l (subst (Memᴰ b) e i))

different_more : (ms : List Move) (m : Move) → Different ms → ((x : Move) → Memᴰ x ms → x ≢ m) → Different (ms ++ (m ∷ []))
different_more [] m h o = (λ x i. absurd (Memᴰ.not-nil i), tt)
different_more (y ∷ ms) m h o = (
  λ x i. ⊎_elim (h.0 x) (λ j e. o y (Memᴰ.head refl) (sym e ∙ Memᴰ.eq_of_singleton j)) (Memᴰ.append_cases ms i),
  different_more ms m h.1 (λ x i. o x (Memᴰ.tail i)),
)

steps_of_more : (d : Domain) (ms : List Move) (m : Move) → steps_of_moves d (ms ++ (m ∷ [])) ≡ steps_of_moves d ms + steps_of_move d m
unfolding steps_of_moves
steps_of_more d [] m = omega arith
steps_of_more d (y ∷ ms) m = omega (arith, steps_of_more d ms m)

-- Two operators are two moves.
same_operator : (d : Domain) (a b : ℕ) → move_of_operator d a ≡ move_of_operator d b → a ≡ b
unfolding move_of_operator
same_operator d a b e = go (ltb a (length d.actions)) (ltb b (length d.actions)) refl refl e
  where
    go : (p q : Bool) → ltb a (length d.actions) ≡ p → ltb b (length d.actions) ≡ q
        → cond p (act (suc a)) (use_method (a - length d.actions)) ≡ cond q (act (suc b)) (use_method (b - length d.actions)) → a ≡ b
    go true true h k e = let z : suc a ≡ suc b = cc in omega arith
    go true false h k e = let z : ◌≡◌ {A = ℕ} 0 1 = cc in absurd (omega arith)
    go false true h k e = let z : ◌≡◌ {A = ℕ} 0 1 = cc in absurd (omega arith)
    go false false h k e =
        let z : a - length d.actions ≡ b - length d.actions = cc in
        omega (arith, ltb-false a (length d.actions) h, ltb-false b (length d.actions) k)

-- Where no operator is counted.
pub nothing : (r : Rules) (P : Problem) (ms : NeededMoves) → length ms.operators ≡ most_needed → length ms.gathered ≡ most_needed
    → ms.count ≡ 0 → ms.steps ≡ 0 → ms.hopeless ≡ false → Holds r P ms
nothing r P ms room marked c v z =
    let e : needed_operators ms ≡ [] = ap (λ (n : ℕ). take n ms.operators) c in record {
      room = room;
      marked = marked;
      fits = omega arith;
      within = λ o i. absurd (Memᴰ.not-nil (subst (Memᴰ o) e i));
      needed = λ o i. absurd (Memᴰ.not-nil (subst (Memᴰ o) e i));
      marks = λ o i. absurd (Memᴰ.not-nil (subst (Memᴰ o) e i));
      different = subst (λ (l : List ℕ). Different (map (move_of_operator r.domain) l)) (sym e) tt;
      steps = omega arith;
      few = omega arith;
      hopeless = λ q. absurd (false_not_true _ z q);
    }

-- An operator is marked, set behind the others and counted, and its steps are added.
module _ (ms : NeededMoves) (o steps : ℕ) where
  abbrev pub with_operator : NeededMoves
  with_operator = record {
    count = ms.count + 1;
    steps = ms.steps + steps;
    hopeless = ms.hopeless;
    operators = set ms.operators ms.count o;
    gathered = set ms.gathered o true;
  }

  module _ (room : length ms.operators ≡ most_needed) (free : ms.count < most_needed) where
    found_more : needed_operators with_operator ≡ needed_operators ms ++ (o ∷ [])
    found_more =
        ap (λ (n : ℕ). take n (set ms.operators ms.count o)) (add-one ms.count)
        ∙ take-suc-set ms.operators ms.count o (omega arith)

    pub added : o < most_needed → (get_or ms.gathered o false ≡ true → ⊥) → ms.steps + steps ≤ most_needed_steps → WithOperator o steps ms with_operator
    added inside new light shop P known need weighed h =
        let d = domain shop in
        let f : moves_needed d with_operator ≡ moves_needed d ms ++ (move_of_operator d o ∷ []) =
        ap (map (move_of_operator d)) found_more ∙ map-append (move_of_operator d) (needed_operators ms) (o ∷ []) in
        let other : (p : ℕ) → Memᴰ p (needed_operators ms) → p ≢ o =
        λ p i q. new (subst (λ (k : ℕ). get_or ms.gathered k false ≡ true) q (h.marks p i)) in
        record {
          room = simp length-set h.room;
          marked = simp length-set h.marked;
          fits = omega arith;
          within = members (λ p. p < length d.actions + length d.methods) found_more h.within known;
          needed = members (λ p. Needed (rules_of shop) P (move_of_operator d p)) found_more h.needed need;
          marks = members (λ p. get_or (set ms.gathered o true) p false ≡ true) found_more
              (λ p i. get_or-set_other ms.gathered o p true false (λ q. other p i q) ∙ h.marks p i)
              (get_or-set_same ms.gathered o true false (omega (arith, h.marked)));
          different = subst Different (sym f)
              (different_more (moves_needed d ms) (move_of_operator d o) h.different
              (λ x i q. let r = Memᴰ.of_map (move_of_operator d) (needed_operators ms) i in other r.0 r.1 (same_operator d r.0 o (r.2 ∙ q))));
          steps = omega (arith, h.steps, ap (steps_of_moves d) f, steps_of_more d (moves_needed d ms) (move_of_operator d o));
          few = omega arith;
          hopeless = h.hopeless;
        }

-- Where no trace is accepted, it may be said.
pub given_up : {r : Rules} {P : Problem} (ms : NeededMoves) → Hopeless r P → Holds r P ms → Holds r P (record ms { hopeless = true })
given_up ms refused h = record {
  room = h.room;
  marked = h.marked;
  fits = h.fits;
  within = h.within;
  needed = h.needed;
  marks = h.marks;
  different = h.different;
  steps = h.steps;
  few = h.few;
  hopeless = λ q. refused;
}

-- An action as an operator.
pub operator_below : (d : Domain) (b : ℕ) → b < length d.actions → move_of_operator d b ≡ act (b + 1)
unfolding move_of_operator
operator_below d b h = rw (lt-ltb b (length d.actions) h, add-one)

pub operator_method : (d : Domain) (b m : ℕ) → b ≡ length d.actions + m → move_of_operator d b ≡ use_method m
unfolding move_of_operator
operator_method d b m e = rw (le-ltb b (length d.actions) (omega arith)) (ap use_method (omega arith))

module _ (shop : List ℕ) (P : Problem) where
  pub method_added : {ms ms' : NeededMoves} (m o steps : ℕ) → o ≡ length (domain shop).actions + m → m < length (domain shop).methods
      → steps ≡ suc (length (method_at (domain shop) m).nodes) → WithOperator o steps ms ms' → Needed (rules_of shop) P (use_method m)
      → Holds (rules_of shop) P ms → Holds (rules_of shop) P ms'
  unfolding steps_of_move
  method_added m o steps e known weighs add n h =
      let b = operator_method (domain shop) o m e in
      add shop P (omega arith) (rw b n) (rw b (omega arith)) h

  -- What the table has at a wanted literal that does not hold.
  module _ {s : State} (table : Table) (l : Literal) {told : Bool} (small : l.atom < most_atoms) (held : told ≡ literal_holds s l) (f : told ≡ false)
      (is : P.state ≡ s) (only : OnlyAchievers (domain shop) table) (wanted : Wanted l (rules_of shop) P) where
    fails : literal_holds P.state l ≡ false
    fails = ap (λ (s : State). literal_holds s l) is ∙ sym held ∙ f

    -- Where the table names an action, it is needed, since no other achieves the literal.
    pub achiever_added : {o : ℕ} → entry_at table.entries l ≡ Only o → o < length (domain shop).actions
        → {ms ms' : NeededMoves} → WithOperator o 1 ms ms' → Holds (rules_of shop) P ms → Holds (rules_of shop) P ms'
    unfolding steps_of_move
    achiever_added {o} e known add h =
        let b : move_of_operator (domain shop) o ≡ act (suc o) = operator_below (domain shop) o known ∙ ap act (add-one o) in
        let n : Needed (rules_of shop) P (act (suc o)) = wanted (suc o) fails (subst (Achieved (domain shop) l) e (only l small) known) in
        add shop P (omega arith) (rw b n) (rw b (omega arith)) h

    -- Where it says that no action achieves the literal, no trace is accepted.
    pub achiever_none : entry_at table.entries l ≡ None → {ms ms' : NeededMoves} → ms' ≡ record ms { hopeless = true }
        → Holds (rules_of shop) P ms → Holds (rules_of shop) P ms'
    achiever_none e {ms} now h =
        subst (Holds (rules_of shop) P) (sym now)
        (given_up ms (none_makes (rules_of shop) P (wanted 0 fails (subst (Achieved (domain shop) l) e (only l small)))) h)

-- What is known of the operator at a place.
module _ {r : Rules} {P : Problem} {ms : NeededMoves} (h : Holds r P ms) (i : ℕ) (b : i < ms.count) where
  place_in : Memᴰ (get_or ms.operators i 0) (needed_operators ms)
  place_in =
      subst (λ (k : ℕ). Memᴰ k (needed_operators ms)) (get_or-take ms.count ms.operators i 0 b)
      (at_mem (at_of_lt (needed_operators ms) i 0 (omega (arith, length-take-le ms.count ms.operators (omega (arith, h.fits, h.room))))))

  pub place_known : get_or ms.operators i 0 < length r.domain.actions + length r.domain.methods
  place_known = h.within _ place_in

  pub place_needed : Needed r P (move_of_operator r.domain (get_or ms.operators i 0))
  place_needed = h.needed _ place_in

-- No fewer steps than one for each goal and those of the moves.
pub least_found : {r : Rules} {P : Problem} {ms : NeededMoves} → Holds r P ms → (n k : ℕ) → n ≡ length P.waiting → k < n + ms.steps
    → (P₀ : Problem) (y : Step) (t : ℕ) → pruned_of k r P₀ y t P ≡ none
least_found {r} {P} {ms} h n k e b =
    none_shorter r P (moves_needed r.domain ms) h.different needed k (omega (arith, h.steps))
  where
    needed : (m : Move) → Memᴰ m (moves_needed r.domain ms) → Needed r P m
    needed m i = let f = Memᴰ.of_map (move_of_operator r.domain) (needed_operators ms) i in subst (Needed r P) f.2 (h.needed f.0 f.1)

-- No search finds a trace where it is said that none is accepted.
pub least_none : {r : Rules} {P : Problem} {ms : NeededMoves} → Holds r P ms → ms.hopeless ≡ true
    → (k : ℕ) (P₀ : Problem) (y : Step) (t : ℕ) → pruned_of k r P₀ y t P ≡ none
least_none {r} {P} h q = none_hopeless r P (h.hopeless q)
