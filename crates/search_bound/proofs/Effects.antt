-- An action's effects, by its rows, and a search through the waiting goals. Assumes nothing.
use Prim.Native.Nat.{ℕ, suc, ◌+◌, ◌<◌, ◌≤◌}
use native.Mathlib.Numerals.{add-one}
use mathlib.Core.Path.{◌≡◌, sym, ap, ◌∙◌}
use mathlib.Core.Bool.{Bool, true, false, ◌||◌}
use mathlib.Core.List.{List}
use lib.ListN.{length, drop, drop_of_length-le}
use lib.Seq.{drop-cons}
use Rattle.hgn.specs.Lists.{any}
use Rattle.hgn.specs.Network.{Waiting, no_goal}
use Rattle.hgn.specs.Tag as Tag
use Rattle.hgn.specs.Meaning.{Literal, literals, node_of}
use Rattle.hgn.specs.State.{relevant}
use Rattle.hgn.specs.Run.{action_at}
use Rattle.hgn.specs.Shop.{domain}
use Rattle.sheet_index.specs.declared.rows.Rows.{Rows}
use Rattle.sheet_rows.proofs.Laws.{told}
use Rattle.sheet_index.specs.Index.{span_rows, rows_in}
use Rattle.sheet_index.specs.Tables.{ActionIn}
use Rattle.network.specs.Entries.{waiting_of}
use Rattle.network.specs.declared.waiting.Entry.{Entry}
use Rattle.network.specs.Goals.{count_in, entry_in, list_in}
use Rattle.network.proofs.WaitingGoals.{list_length, list_at}
use Rattle.network.specs.declared.goals.Goals.{Goals}

-- What is told of a goal's rows is told of the goal.
pub wanted_at : (shop order : List ℕ) (k : ℕ) (rows : Rows) → ActionIn shop k rows → (goal : Entry) {r v : Bool}
    → r ≡ relevant (literals Tag.makes_true Tag.makes_false (rows_in rows)) (node_of (span_rows shop order goal.rows)).formula → r ≡ v
    → relevant (action_at (domain shop) k).effects (waiting_of shop order goal).formula ≡ v
unfolding waiting_of
wanted_at shop order k rows a goal p q =
    ap (λ (ls : List Literal). relevant ls (node_of (span_rows shop order goal.rows)).formula) (sym a.effects) ∙ told p q

-- A search through the waiting goals that has come to place `i`: it ends there, has found one, or goes on.
module _ (shop order : List ℕ) (ws : Goals) (test : Waiting → Bool) (i : ℕ)
    (known : any test (list_in shop order ws) ≡ any test (drop i (list_in shop order ws))) where
  pub goals_none : count_in ws ≤ i → false ≡ any test (list_in shop order ws)
  unfolding any
  goals_none h = sym (known ∙ ap (any test) (drop_of_length-le (list_in shop order ws) {i = i} (rw (list_length shop order ws) h)))

  module _ (h : i < count_in ws) {e : Entry} (p : e ≡ entry_in ws i) where
    goals_turn : any test (list_in shop order ws) ≡ (test (waiting_of shop order e) || any test (drop (i + 1) (list_in shop order ws)))
    unfolding any
    goals_turn =
        let k : i < length (list_in shop order ws) = rw (list_length shop order ws) h in
        known
        ∙ ap (any test) (drop-cons (list_in shop order ws) i no_goal k)
        ∙ ap (λ (g : Waiting). test g || any test (drop (suc i) (list_in shop order ws))) (list_at shop order ws i h ∙ ap (waiting_of shop order) (sym p))
        ∙ ap (λ (j : ℕ). test (waiting_of shop order e) || any test (drop j (list_in shop order ws))) (sym (add-one i))

    pub goals_found : test (waiting_of shop order e) ≡ true → true ≡ any test (list_in shop order ws)
    goals_found q = sym (goals_turn ∙ rw q)

    pub goals_on : test (waiting_of shop order e) ≡ false → any test (list_in shop order ws) ≡ any test (drop (i + 1) (list_in shop order ws))
    goals_on q = goals_turn ∙ rw q
