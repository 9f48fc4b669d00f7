-- The answer of a search that found these steps: their trace, read back, passes and stands in a room that is long enough. Assumes nothing.
use Prim.Native.Nat.{ℕ, ◌+◌, ◌*◌, ◌≤◌}
use native.Mathlib.Omega.{arith}
use mathlib.Core.Path.{◌≡◌, refl}
use mathlib.Core.List.{List, ◌++◌}
use lib.ListN.{length, take, drop, length-append, length-drop}
use lib.Seq.{take-append_seam, drop-append_seam}
use Rattle.hgn.specs.Run.{Step}
use Rattle.hgn.specs.Questions.{passed}
use Rattle.hgn.specs.Order.{check_order}
use Rattle.hgn.specs.Trace.{size_words, most_steps, trace_words}
use Rattle.hgn.specs.Lent.{overwritten}
use Rattle.hgn.specs.Search.{written}
use Rattle.hgn.specs.Demands.{Finds}
use Rattle.hgn.proofs.Sheets.Passed.{passed_trace}
use Rattle.hgn.proofs.Sheets.Trace.{words_steps, trace_length, words_pass_trace}

module _ (xs : List Step) where
  -- The words of the trace in front of others.
  first_words : (rest : List ℕ) → take (size_words + 2 * length xs) (trace_words xs ++ rest) ≡ trace_words xs
  first_words rest = rw (← trace_length xs) (take-append_seam (trace_words xs) rest)

  pub finds : (shop sheet room : List ℕ) → check_order shop sheet ≡ passed → length xs ≤ most_steps
      → size_words + 2 * length xs ≤ length room → Finds shop sheet room xs (written room xs)
  unfolding written overwritten
  finds shop sheet room e h l = record {
    number = refl;
    place = refl;
    trace_passes = rw first_words (passed_trace shop sheet (trace_words xs) e (words_pass_trace xs h));
    trace_steps = rw first_words (words_steps xs);
    later_words = rw (← trace_length xs) (drop-append_seam (trace_words xs) _);
    room_length =
        omega
        (arith, length-append (trace_words xs) (drop (length (trace_words xs)) room), length-drop (length (trace_words xs)) room, trace_length xs);
  }
