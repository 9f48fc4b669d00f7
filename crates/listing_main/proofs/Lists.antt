-- The listing follows the replay. Assumes nothing.
use Prim.Native.Nat.{ℕ}
use native.Mathlib.Omega.{arith}
use mathlib.Core.Path.{◌≡◌, refl, sym, ap, ◌∙◌}
use mathlib.Core.Logic.{◌≢◌}
use mathlib.Core.List.{List, [], ◌∷◌}
use lib.ListN.{replicate}
use borrow.Author.Tests.{eq-eqb, ne_eqb}
use Rattle.hgn.specs.State.{State}
use Rattle.hgn.specs.Meaning as Meaning
use mathlib.Core.Option.{none}
use Rattle.hgn.specs.Network as Network
use Rattle.hgn.specs.Network.{enter, goals_of}
use Rattle.hgn.specs.Run.{Step, Deed, accepted, start_of, run_by, run}
use Rattle.hgn.specs.Order.{order}
use Rattle.hgn.specs.Trace.{most_steps, steps_of}
use Rattle.hgn.specs.Replay.{Replayed, rules_of, refusal}
use Rattle.hgn.specs.Demands.{InputsPass}
use Rattle.hgn.specs.Listing.{lines_of, lines_in}
use Rattle.hgn.proofs.Demands.{promised}
use Rattle.hgn.proofs.Run.Runs.{ended_empty, empty_refuses}
use Rattle.hgn.proofs.Run.Replay.{Report, refuses, accepts, reports, outcome}
use Rattle.sheet_files.specs.Texts.{digit_count, decimal, ended, heading, heading_of}
use Rattle.listing_main.specs.Listed.{line_text, lines_text, answer_to, number_to, listing, listed, refusal_line, ListsReplay, TextsAre02s}

module _ (shop sheet trace : List ℕ) where
  -- What a replay that accepts says of the run.
  pub record Runs : Type 0 where
    pub deeds : List Deed
    pub last : State
    pub inputs : InputsPass shop sheet trace (replicate most_steps 0)
    pub runs : outcome shop sheet trace (replicate most_steps 0) ≡ accepted deeds last

  pub accepted_runs : number_to shop sheet trace ≡ 0 → Runs
  unfolding refusal
  accepted_runs z = go (reports shop sheet trace (replicate most_steps 0) _ refl)
    where
      go : Report shop sheet trace (replicate most_steps 0) (answer_to shop sheet trace) → Runs
      go (refuses q h f e) = absurd (h (sym (ap (λ (c : Replayed). c.answer.refusal.number) e) ∙ z))
      go (accepts {deeds} {last} p o f e) = record { deeds = deeds; last = last; inputs = p; runs = o }

  pub accepted_lines : (deeds : List Deed) (last : State) → outcome shop sheet trace (replicate most_steps 0) ≡ accepted deeds last
      → lines_in shop sheet trace ≡ lines_of 0 deeds
  accepted_lines deeds last e = (promised.lines_of_runs shop sheet trace).of_accepted deeds last e

  pub listing_accepted : number_to shop sheet trace ≡ 0 → listing shop sheet trace ≡ lines_text (lines_in shop sheet trace)
  unfolding listing
  listing_accepted z = rw (eq-eqb (number_to shop sheet trace) 0 z, listing) refl

  pub listing_refused : number_to shop sheet trace ≢ 0 → listing shop sheet trace ≡ heading_of (answer_to shop sheet trace)
  unfolding listing
  listing_refused z = rw (ne_eqb (number_to shop sheet trace) 0 z, listing) refl

  -- A refused replay has no plan and no cost, so its heading is the line of the refusal.
  pub refused_line : number_to shop sheet trace ≢ 0 → listing shop sheet trace ≡ refusal_line (answer_to shop sheet trace).answer
  unfolding heading
  refused_line z =
      let r = (promised.demand_1.of_replay shop sheet trace (replicate most_steps 0) (answer_to shop sheet trace) refl).untouched z in
      listing_refused z ∙ rw (r.count, r.cost) refl

  -- Without goals nothing can be released, so there is no line.
  without_goals : number_to shop sheet trace ≡ 0 → (order sheet).goals ≡ [] → lines_in shop sheet trace ≡ []
  unfolding goals_of enter lines_of run_by
  without_goals z e =
      let r = accepted_runs z in
      accepted_lines r.deeds r.last r.runs
      ∙ ap (lines_of 0) (go (order sheet).goals e (steps_of trace) r.deeds r.last r.runs)
    where
      go : (goals : List Meaning.Node) → goals ≡ [] → (xs : List Step) (deeds : List Deed) (last : State)
          → run (rules_of shop) 0 (record { state = start_of (order sheet); waiting = enter Network.order none 0 goals }) xs ≡ accepted deeds last → deeds ≡ []
      go [] e [] deeds last h = (ended_empty 0 _ deeds last h).1
      go [] e (x ∷ xs) deeds last h = absurd (empty_refuses _ 0 _ x xs deeds last h)
      go (g ∷ goals) e xs deeds last h = let z : ◌≡◌ {A = ℕ} 0 1 = cc in absurd (omega arith)

pub lists_replay : ListsReplay
unfolding listed lines_text
lists_replay shop order trace = record {
  tree = λ z. listing_accepted _ _ _ z;
  refusal = λ z. refused_line _ _ _ z;
  nothing = λ z e. listing_accepted _ _ _ z ∙ ap lines_text (without_goals _ _ _ z e);
}

pub texts_are_02s : TextsAre02s
unfolding line_text ended decimal digit_count
texts_are_02s = record { first = refl; last = refl; deep = refl }
