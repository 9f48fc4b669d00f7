-- A trace that passes is its steps, written out; so is each part of it. Assumes nothing.
use Prim.Native.Nat.{ℕ, ◌+◌, ◌*◌, ◌≤◌}
use native.Mathlib.Omega.{arith}
use mathlib.Core.Path.{◌≡◌, refl, sym, ap, ap₂}
use mathlib.Core.List.{List, [], ◌∷◌, map}
use lib.ListN.{length, take, drop, length-append, length-map, length-take, length-drop}
use Rattle.hgn.specs.Rows.{word}
use Rattle.hgn.specs.Run.{Step}
use Rattle.hgn.specs.Questions.{passed}
use Rattle.hgn.specs.Trace.{step_count, most_steps, step, steps_of, trace_words, check_trace}
use Rattle.hgn.proofs.Sheets.Passed.{TracePassed, trace_passed}
use Rattle.hgn.proofs.Sheets.Readback.{columns_read, columns_back}

pub trace_is_words : (trace : List ℕ) → TracePassed trace → trace ≡ trace_words (steps_of trace)
unfolding trace_words steps_of
trace_is_words trace p = go trace p.long p.size
  where
    go : (trace : List ℕ) → 1 ≤ length trace → length trace ≡ 1 + 2 * step_count trace → trace ≡ trace_words (steps_of trace)
    go [] h e = absurd (omega arith)
    go (L ∷ rest) h e =
        let c = columns_back step (λ x. x.move) (λ x. x.place) (λ x. refl) (λ m p. refl) (λ m p. refl) (L ∷ []) rest L (omega arith) in
        ap₂ {C = List ℕ} ◌∷◌ c.0 c.1

module _ (xs : List Step) where
  pub words_steps : steps_of (trace_words xs) ≡ xs
  unfolding steps_of trace_words
  words_steps = columns_read step (λ x. x.move) (λ x. x.place) (λ x. refl) (λ m p. refl) (λ m p. refl) (length xs ∷ []) xs

  pub trace_length : length (trace_words xs) ≡ 1 + 2 * length xs
  unfolding trace_words
  trace_length =
      omega
      (arith, length-append (map (λ x. x.move) xs) (map (λ x. x.place) xs), length-map xs (λ x. x.move), length-map xs (λ x. x.place))

  -- The words of at most 4,096 steps pass.
  pub words_pass_trace : length xs ≤ 4096 → TracePassed (trace_words xs)
  unfolding trace_words
  words_pass_trace h = record { long = omega arith; short = h; size = trace_length }

pub steps_length : (trace : List ℕ) → TracePassed trace → length (steps_of trace) ≡ step_count trace
unfolding trace_words
steps_length trace p = sym (ap (λ (l : List ℕ). word l 0) (trace_is_words trace p))

-- Where a whole check passed.
pub trace_sizes : (shop sheet trace : List ℕ) → check_trace shop sheet trace ≡ passed
    → (1 + (step_count trace + step_count trace) ≤ length trace) × (step_count trace ≤ most_steps)
trace_sizes shop sheet trace e = let p = trace_passed shop sheet trace e in (omega (arith, p.size), p.short)

-- The first `c` steps of a trace, and the others.
abbrev pub front_of : ℕ → List ℕ → List ℕ
front_of c trace = trace_words (take c (steps_of trace))

abbrev pub back_of : ℕ → List ℕ → List ℕ
back_of c trace = trace_words (drop c (steps_of trace))

module _ (trace : List ℕ) (e : TracePassed trace) (c : ℕ) where
  pub front_passes : TracePassed (front_of c trace)
  front_passes = words_pass_trace _ (omega (arith, length-take c (steps_of trace), steps_length trace e, e.short))

  pub front_steps_law : steps_of (front_of c trace) ≡ take c (steps_of trace)
  front_steps_law = words_steps (take c (steps_of trace))

  pub back_passes : TracePassed (back_of c trace)
  back_passes = words_pass_trace _ (omega (arith, length-drop c (steps_of trace), steps_length trace e, e.short))

  pub back_steps_law : steps_of (back_of c trace) ≡ drop c (steps_of trace)
  back_steps_law = words_steps (drop c (steps_of trace))
