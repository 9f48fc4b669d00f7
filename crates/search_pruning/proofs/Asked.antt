-- The tests of a move, by its cases: an action and a method by their rows. Assumes nothing.
use Prim.Native.Nat.{ℕ, ◌+◌}
use mathlib.Core.Path.{◌≡◌, refl, ap, ◌∙◌}
use mathlib.Core.Bool.{Bool, false, ◌&&◌}
use mathlib.Core.List.{List}
use lib.Dec.{ltb}
use lib.ListN.{take}
use Rattle.hgn.specs.Lists.{any}
use Rattle.hgn.specs.Meaning.{Literal, literals, node_of}
use Rattle.hgn.specs.State.{State, γ, all_hold, formula_holds, relevant}
use Rattle.hgn.specs.Network as Network
use Rattle.hgn.specs.Network.{free}
use Rattle.hgn.specs.Run.{action_at, method_at}
use Rattle.hgn.specs.Shop.{domain}
use Rattle.hgn.specs.Replay.{rules_of}
use Rattle.sheet_index.specs.Index.{span_rows, rows_in}
use Rattle.sheet_index.specs.declared.rows.Rows.{Rows}
use Rattle.sheet_index.specs.declared.index.Span.{Span}
use Rattle.network.specs.Entries.{waiting_of}
use Rattle.step.specs.Moves.{known_of}
use Rattle.sheet_index.specs.Tables.{ActionIn}
use Rattle.step.specs.declared.moves.Move.{Move}
use Rattle.step.specs.declared.moves.Move.TheVariants.{Release, Act, Use}
use Rattle.network.specs.declared.waiting.Entry.{Entry}
use Rattle.search_theory.specs.Rules.{ready, has_no_effect, lower_too, state_after}
use Rattle.search_pruning.specs.Tests.{crowded}

-- A release, and a method.
module _ (shop order : List ℕ) {m : Move} {r : Bool} (s : State) where
  pub ready_release : m ≡ Release → (g : Entry) → r ≡ formula_holds s (node_of (span_rows shop order g.rows)).formula
      → r ≡ ready (domain shop) s (waiting_of shop order g) (known_of m)
  unfolding ready waiting_of
  ready_release e g p = rw e p

  pub ready_method : {k : ℕ} → m ≡ Use k → (g : Network.Waiting) (rows : Span) → literals 3 4 (span_rows shop order rows) ≡ (method_at (domain shop) k).needs
      → r ≡ all_hold s (literals 3 4 (span_rows shop order rows)) → r ≡ ready (domain shop) s g (known_of m)
  unfolding ready
  ready_method e g rows n p = rw e (p ∙ ap (all_hold s) n)

-- A move that is no action.
module _ (shop : List ℕ) where
  pub no_effect_other : (m : Move) → ((k : ℕ) → m ≡ Act k → ⊥) → (s : State) → false ≡ has_no_effect (domain shop) s (known_of m)
  unfolding has_no_effect
  no_effect_other Release n s = refl
  no_effect_other (Act k) n s = absurd (n k refl)
  no_effect_other (Use k) n s = refl

  pub lower_other : (m : Move) → ((k : ℕ) → m ≡ Act k → ⊥) → (w : List Network.Waiting) (p : ℕ) → false ≡ lower_too (rules_of shop) w p (known_of m)
  unfolding lower_too
  lower_other Release n w p = refl
  lower_other (Act k) n w p = absurd (n k refl)
  lower_other (Use k) n w p = refl

  pub after_other : (m : Move) → ((k : ℕ) → m ≡ Act k → ⊥) → (s : State) → s ≡ state_after (domain shop) s (known_of m)
  unfolding state_after
  after_other Release n s = refl
  after_other (Act k) n s = absurd (n k refl)
  after_other (Use k) n s = refl

-- An action, with its rows.
module _ {shop : List ℕ} {m : Move} {k : ℕ} (e : m ≡ Act k) {rows : Rows} (there : ActionIn shop k rows) where
  pub ready_action : {r : Bool} (s : State) (g : Network.Waiting) → r ≡ all_hold s (literals 3 4 (rows_in rows)) → r ≡ ready (domain shop) s g (known_of m)
  unfolding ready
  ready_action s g p = rw e (p ∙ ap (all_hold s) there.needs)

  pub no_effect_action : {r : Bool} (s : State) → r ≡ all_hold s (literals 5 6 (rows_in rows)) → r ≡ has_no_effect (domain shop) s (known_of m)
  unfolding has_no_effect
  no_effect_action s p = rw e (p ∙ ap (all_hold s) there.effects)

  pub lower_action : {r : Bool} (w : List Network.Waiting) (p : ℕ)
      → r ≡ any (λ g. relevant (literals 5 6 (rows_in rows)) g.formula && free w g) (take p w)
      → r ≡ lower_too (rules_of shop) w p (known_of m)
  unfolding lower_too
  lower_action w p q = rw e (q ∙ ap (λ (l : List Literal). any (λ g. relevant l g.formula && free w g) (take p w)) there.effects)

-- An action by its number.
pub after_action : (shop : List ℕ) {m : Move} {k : ℕ} → m ≡ Act k → {r : State} (s : State) → r ≡ γ s (action_at (domain shop) k).effects
    → r ≡ state_after (domain shop) s (known_of m)
unfolding state_after
after_action shop e s p = rw e p

-- The test of crowding, by the kind of the move.
module _ (left count : ℕ) where
  pub crowded_release : {m : Move} → m ≡ Release → ltb (left + 1) count ≡ crowded left count (known_of m)
  unfolding crowded
  crowded_release e = rw e refl

  pub crowded_other : (m : Move) → (m ≡ Release → ⊥) → ltb left count ≡ crowded left count (known_of m)
  unfolding crowded
  crowded_other Release n = absurd (n refl)
  crowded_other (Act k) n = refl
  crowded_other (Use k) n = refl
