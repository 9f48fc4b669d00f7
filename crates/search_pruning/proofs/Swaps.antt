-- Two steps taken in the other order: whether they leave the same state, and whether they could be. Assumes nothing.
use Prim.Native.Nat.{ℕ, ◌<◌}
use native.Mathlib.Omega.{arith}
use mathlib.Core.Path.{◌≡◌, refl, sym, ap, ap₂, ◌∙◌}
use mathlib.Core.Bool.{Bool, true, false, ◌&&◌, beq}
use mathlib.Core.List.{List, [], ◌∷◌}
use lib.Dec.{eqb}
use lib.Pointwise.{pointwise}
use Rattle.hgn.specs.Meaning.{Domain}
use Rattle.hgn.specs.State.{State, γ}
use Rattle.hgn.specs.Network as Network
use Rattle.hgn.specs.Network.{free, goal_at}
use Rattle.hgn.specs.Run as Run
use Rattle.hgn.specs.Run.{action_at}
use Rattle.hgn.specs.Shop.{domain, action_count, method_count}
use Rattle.sheet_rows.proofs.Laws.{told}
use Rattle.network.specs.Entries.{waiting_of}
use Rattle.step.specs.Moves.{Known, known_of}
use Rattle.step.specs.Taking.{problem_with, ValidGoals}
use Rattle.sheet_index.specs.Tables.{Indexed}
use Rattle.step.specs.declared.moves.Move.{Move}
use Rattle.step.specs.declared.moves.Move.TheVariants.{Release, Act, Use}
use Rattle.step.specs.declared.moves.Choice.{Choice}
use Rattle.network.specs.declared.waiting.Entry.{Entry}
use Rattle.network.specs.Goals.{count_in, entry_in, pending_in, list_in}
use Rattle.network.proofs.WaitingGoals.{list_at, free_at}
use Rattle.search_theory.specs.Rules.{ready, state_after, same_state, commute, commutes_with_last}
use Rattle.search_pruning.specs.Tests.{step_of, earlier_choice, swap_ready}
use Rattle.search_pruning.proofs.Reading.{number_read, earlier_inside, earlier_is}
use Rattle.network.specs.declared.goals.Goals.{Goals}

-- Two states are compared atom by atom.
same_pointwise : (a b : State) → pointwise beq a b ≡ same_state a b
unfolding same_state
same_pointwise [] [] = refl
same_pointwise [] (y ∷ b) = refl
same_pointwise (x ∷ a) [] = refl
same_pointwise (x ∷ a) (y ∷ b) = ap (λ (r : Bool). beq x y && r) (same_pointwise a b)

module _ (d : Domain) (s : State) where
  -- Moves that are not both actions.
  pub commute_first : (y x : Move) → ((k : ℕ) → y ≡ Act k → ⊥) → true ≡ commute d s (known_of y) (known_of x)
  unfolding commute
  commute_first Release x n = refl
  commute_first (Act k) x n = absurd (n k refl)
  commute_first (Use k) x n = refl

  pub commute_second : (y x : Move) → ((k : ℕ) → x ≡ Act k → ⊥) → true ≡ commute d s (known_of y) (known_of x)
  unfolding commute
  commute_second Release x n = refl
  commute_second (Act j) Release n = refl
  commute_second (Act j) (Act k) n = absurd (n k refl)
  commute_second (Act j) (Use k) n = refl
  commute_second (Use j) x n = refl

  -- Two actions, by the states that the code makes.
  pub commute_both : {y x : Move} {j k : ℕ} → y ≡ Act j → x ≡ Act k
      → {first then other second : State} → first ≡ γ s (action_at d k).effects → then ≡ γ first (action_at d j).effects
      → other ≡ γ s (action_at d j).effects → second ≡ γ other (action_at d k).effects
      → {r : Bool} → r ≡ pointwise beq then second → r ≡ commute d s (known_of y) (known_of x)
  unfolding commute state_after
  commute_both {j = j} {k = k} e f a b c g p =
      rw (e, f)
      (p ∙ same_pointwise _ _
      ∙ ap₂ same_state (b ∙ ap (λ (z : State). γ z (action_at d j).effects) a) (g ∙ ap (λ (z : State). γ z (action_at d k).effects) c))

  -- The code's three questions.
  module _ (h g : Network.Waiting) (y x : Run.Move) {a : Bool} (p : a ≡ ready d s g x) where
    pub swap_unready : a ≡ false → false ≡ swap_ready d s h y g x
    swap_unready q = rw (told p q)

    module _ (t : a ≡ true) {next : State} (n : next ≡ state_after d s x) {b : Bool} (r : b ≡ ready d next h y) where
      then_ready : {v : Bool} → b ≡ v → ready d (state_after d s x) h y ≡ v
      then_ready q = ap (λ (z : State). ready d z h y) (sym n) ∙ told r q

      pub swap_stuck : b ≡ false → false ≡ swap_ready d s h y g x
      swap_stuck q = rw (told p t, then_ready q)

      pub swap_asked : b ≡ true → {c : Bool} → c ≡ commute d s y x → c ≡ swap_ready d s h y g x
      swap_asked q e = rw (told p t, then_ready q) e

-- Whether a move is ready at the goal that a place has.
pub ready_at : (shop order : List ℕ) (d : Domain) (s : State) (x : Run.Move) {goal here : Entry} → goal ≡ here → {r : Bool}
    → r ≡ ready d s (waiting_of shop order goal) x → r ≡ ready d s (waiting_of shop order here) x
ready_at shop order d s x e p = p ∙ ap (λ (g : Entry). ready d s (waiting_of shop order g) x) e

module _ {shop order table : List ℕ} (ix : Indexed shop order table) (s : State) {ws : Goals} (k : ValidGoals shop order ws) (y x : Choice) (inside : y.place.0 < count_in ws)
    (ky : Known (action_count shop) (method_count shop) y.mv) (kx : Known (action_count shop) (method_count shop) x.mv) {a : Bool} (f : a ≡ earlier_choice y x) where
  abbrev Could : Bool → Type 0
  Could r = r ≡ commutes_with_last (domain shop) (problem_with shop order s ws) (step_of y) (step_of x)

  pub not_earlier : a ≡ false → Could false
  unfolding commutes_with_last
  not_earlier e = rw (sym (earlier_is ix y x ky kx) ∙ told f e)

  module _ (t : a ≡ true) where
    pub below : x.place.0 < count_in ws
    below = omega (arith, earlier_inside y x (told f t))

    module _ {c : Bool} (g : c ≡ eqb (pending_in ws x.place.0) 0) where
      free_is : {v : Bool} → c ≡ v → free (list_in shop order ws) (goal_at (list_in shop order ws) x.place.0) ≡ v
      free_is e = sym (free_at shop order ws k.counted x.place.0 below) ∙ told g e

      pub not_free_then : c ≡ false → Could false
      unfolding commutes_with_last
      not_free_then e = rw (sym (earlier_is ix y x ky kx) ∙ told f t, free_is e)

      pub commutes_asked : c ≡ true → {r : Bool}
          → r ≡ swap_ready (domain shop) s (waiting_of shop order (entry_in ws y.place.0)) (known_of y.mv) (waiting_of shop order (entry_in ws x.place.0)) (known_of x.mv)
          → Could r
      unfolding commutes_with_last
      commutes_asked e o =
          o
          ∙ rw (
            sym (earlier_is ix y x ky kx) ∙ told f t,
            free_is e,
            list_at shop order ws x.place.0 below,
            list_at shop order ws y.place.0 inside,
            number_read ix y.mv ky,
            number_read ix x.mv kx,
          )
