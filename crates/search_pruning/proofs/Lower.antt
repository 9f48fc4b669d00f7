-- Searches through the first goals of the waiting list. Assumes nothing.
use Prim.Native.Nat.{ℕ, ◌+◌, ◌<◌, ◌≤◌}
use native.Mathlib.Omega.{arith}
use native.Mathlib.Numerals.{add-one}
use mathlib.Core.Path.{◌≡◌, sym, ap, ◌∙◌}
use mathlib.Core.Bool.{Bool, true, false, not, ◌&&◌, ◌||◌, and-true, and-false}
use mathlib.Core.List.{List}
use lib.Dec.{eqb, ltb}
use lib.ListN.{length, take, drop, get_or, drop_of_length-le}
use lib.Seq.{drop-cons, length-take-le, get_or-take}
use borrow.Author.Tests.{eq-eqb, ne_eqb, lt-ltb, le-ltb}
use Rattle.hgn.specs.Lists.{any, all}
use Rattle.hgn.specs.Meaning.{node_of, Literal}
use Rattle.hgn.specs.State.{State, formula_holds, relevant}
use Rattle.hgn.specs.Network as Network
use Rattle.hgn.specs.Network.{free, goal_at, no_goal}
use Rattle.sheet_rows.proofs.Laws.{told}
use Rattle.sheet_index.specs.Index.{span_rows}
use Rattle.network.specs.Entries.{waiting_of}
use Rattle.network.specs.declared.waiting.Entry.{Entry}
use Rattle.network.specs.Goals.{count_in, entry_in, pending_in, list_in}
use Rattle.network.proofs.WaitingGoals.{list_length, list_at, free_at}
use Rattle.step.specs.Taking.{problem_with, ValidGoals}
use Rattle.search_theory.specs.Rules.{too_few_left}
use Rattle.network.specs.declared.goals.Goals.{Goals}

-- A search along a list that has come to place `i`: it ends there, has found one, or goes on.
module _ {A : Type 0} (test : A → Bool) (l : List A) (i : ℕ) where
  module _ (p : ℕ) (fits : p ≤ length l) (known : any test (take p l) ≡ any test (drop i (take p l))) where
    any_none : p ≤ i → false ≡ any test (take p l)
    unfolding any
    any_none h = sym (known ∙ ap (any test) (drop_of_length-le (take p l) {i = i} (rw (length-take-le p l fits) h)))

    module _ (d : A) (h : i < p) where
      any_turn : any test (take p l) ≡ (test (get_or l i d) || any test (drop (i + 1) (take p l)))
      unfolding any
      any_turn =
          let k : i < length (take p l) = rw (length-take-le p l fits) h in
          known ∙ rw (drop-cons (take p l) i d k, get_or-take p l i d h, add-one)

      any_found : test (get_or l i d) ≡ true → true ≡ any test (take p l)
      any_found q = sym (any_turn ∙ rw q)

      any_on : test (get_or l i d) ≡ false → any test (take p l) ≡ any test (drop (i + 1) (take p l))
      any_on q = any_turn ∙ rw q

  module _ (known : all test l ≡ all test (drop i l)) where
    all_end : length l ≤ i → true ≡ all test l
    unfolding all
    all_end h = sym (known ∙ ap (all test) (drop_of_length-le l {i = i} h))

    module _ (d : A) (h : i < length l) where
      all_turn : all test l ≡ (test (get_or l i d) && all test (drop (i + 1) l))
      unfolding all
      all_turn = known ∙ rw (drop-cons l i d h, add-one)

      all_fails : test (get_or l i d) ≡ false → false ≡ all test l
      all_fails q = sym (all_turn ∙ rw q)

      all_on : test (get_or l i d) ≡ true → all test l ≡ all test (drop (i + 1) l)
      all_on q = all_turn ∙ rw q

module _ (shop order : List ℕ) (ws : Goals) where
  abbrev list : List Network.Waiting
  list = list_in shop order ws

  abbrev count : ℕ
  count = count_in ws

  -- A search below place `p` for a goal that is free and to which these literals are relevant.
  module _ (valid : ValidGoals shop order ws) (ls : List Literal) (p i : ℕ) (inside : p ≤ count) where
    abbrev test : Network.Waiting → Bool
    test g = relevant ls g.formula && free list g

    fits : p ≤ length list
    fits = rw (list_length shop order ws) inside

    module _ (known : any test (take p list) ≡ any test (drop i (take p list))) where
      pub lower_none : p ≤ i → false ≡ any test (take p list)
      lower_none h = any_none test list i p fits known h

      module _ (h : i < p) {b : Bool} (f : b ≡ eqb (pending_in ws i) 0) where
        free_is : {v : Bool} → b ≡ v → free list (goal_at list i) ≡ v
        free_is q = sym (free_at shop order ws valid.counted i (omega arith)) ∙ told f q

        pub lower_held : b ≡ false → any test (take p list) ≡ any test (drop (i + 1) (take p list))
        lower_held q = any_on test list i p fits known no_goal h (rw (free_is q) (and-false (relevant ls (goal_at list i).formula)))

        module _ (t : b ≡ true) {goal : Entry} (e : goal ≡ entry_in ws i) {a : Bool} (r : a ≡ relevant ls (node_of (span_rows shop order goal.rows)).formula) where
          relevant_at : {v : Bool} → a ≡ v → test (goal_at list i) ≡ v
          unfolding waiting_of
          relevant_at q =
              rw (free_is t) (and-true (relevant ls (goal_at list i).formula))
              ∙ ap (λ (g : Network.Waiting). relevant ls g.formula) (list_at shop order ws i (omega arith))
              ∙ ap (λ (x : Entry). relevant ls (node_of (span_rows shop order x.rows)).formula) (sym e)
              ∙ told r q

          pub lower_found : a ≡ true → true ≡ any test (take p list)
          lower_found q = any_found test list i p fits known no_goal h (relevant_at q)

          pub lower_irrelevant : a ≡ false → any test (take p list) ≡ any test (drop (i + 1) (take p list))
          lower_irrelevant q = any_on test list i p fits known no_goal h (relevant_at q)

  module _ (s : State) where
    abbrev holds : Network.Waiting → Bool
    holds g = formula_holds s g.formula

    -- Whether every goal holds, asked of the goals from place `i` on.
    module _ (i : ℕ) (known : all holds list ≡ all holds (drop i list)) where
      pub holds_end : count ≤ i → true ≡ all holds list
      holds_end h = all_end holds list i known (rw (list_length shop order ws) h)

      module _ (h : i < count) {goal : Entry} (e : goal ≡ entry_in ws i) {a : Bool} (r : a ≡ formula_holds s (node_of (span_rows shop order goal.rows)).formula) where
        holds_at : {v : Bool} → a ≡ v → holds (goal_at list i) ≡ v
        unfolding waiting_of
        holds_at q =
            ap (λ (g : Network.Waiting). formula_holds s g.formula) (list_at shop order ws i h)
            ∙ ap (λ (x : Entry). formula_holds s (node_of (span_rows shop order x.rows)).formula) (sym e)
            ∙ told r q

        pub holds_not : a ≡ false → false ≡ all holds list
        holds_not q = all_fails holds list i known no_goal (rw (list_length shop order ws) h) (holds_at q)

        pub holds_on : a ≡ true → all holds list ≡ all holds (drop (i + 1) list)
        holds_on q = all_on holds list i known no_goal (rw (list_length shop order ws) h) (holds_at q)

    -- With so many steps left, where so many goals are counted.
    module _ (left : ℕ) {number : ℕ} (is : number ≡ count) where
      size : length list ≡ number
      size = list_length shop order ws ∙ sym is

      pub few_below : left < number → ltb left number ≡ too_few_left left (problem_with shop order s ws)
      unfolding too_few_left
      few_below h = rw (size, lt-ltb left number h)

      pub few_above : number ≤ left → (left ≡ number → ⊥) → eqb left number ≡ too_few_left left (problem_with shop order s ws)
      unfolding too_few_left
      few_above h n = rw (size, le-ltb left number h, ne_eqb left number n)

      pub few_open : left ≡ number → {a : Bool} → a ≡ all holds list → not a ≡ too_few_left left (problem_with shop order s ws)
      unfolding too_few_left
      few_open e r = rw (size, le-ltb left number (omega arith), eq-eqb left number e, r)
