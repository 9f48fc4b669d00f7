-- What the replay's call promises, carried into what the listing says of the trace. Assumes nothing.
use Prim.Native.Nat.{ℕ}
use mathlib.Core.Path.{◌≡◌, sym, ap, ◌∙◌}
use mathlib.Core.Logic.{◌≢◌}
use mathlib.Core.List.{List}
use Rattle.hgn.specs.Questions.{passed}
use Rattle.hgn.specs.Order.{check_order}
use Rattle.hgn.specs.Replay.{Replayed}
use Rattle.hgn.proofs.Sheets.Checked.{order_of_trace}
use Rattle.sheet_files.specs.Texts.{heading_of}
use Rattle.listing_main.specs.Listed.{answer_to, number_to, listing}
use Rattle.listing_main.specs.Answers.{Prints}
use Rattle.listing_main.specs.declared.answer.Printed.{Printed}
use Rattle.listing_main.proofs.Lists.{accepted_runs, listing_refused}

module _ (shop sheet trace : List ℕ) {c : Replayed} (called : c ≡ answer_to shop sheet trace) where
  number_is : c.answer.refusal.number ≡ number_to shop sheet trace
  number_is = ap (λ (r : Replayed). r.answer.refusal.number) called

  pub judged_refused : c.answer.refusal.number ≢ 0 → number_to shop sheet trace ≢ 0
  judged_refused z e = z (number_is ∙ e)

  -- The heading of a refusal is the whole text.
  pub heading_is_all : {text : List ℕ} → c.answer.refusal.number ≢ 0 → text ≡ heading_of c → text ≡ listing shop sheet trace
  heading_is_all z e = e ∙ ap heading_of called ∙ sym (listing_refused shop sheet trace (judged_refused z))

-- The order of an accepted trace passes.
pub order_passes : (shop sheet trace : List ℕ) → number_to shop sheet trace ≡ 0 → check_order shop sheet ≡ passed
order_passes shop sheet trace z = order_of_trace shop sheet trace (accepted_runs shop sheet trace z).inputs.0

-- What was printed goes by the words of the sheets alone, so equal words may be put for each other.
pub prints_of : {shop shop' order order' trace trace' : List ℕ} (p : Printed) → shop ≡ shop' → order ≡ order' → trace ≡ trace'
    → Prints shop order trace p → Prints shop' order' trace' p
prints_of p a b c h = rw (← a, ← b, ← c) h
