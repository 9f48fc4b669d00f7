-- The bounded search: the first of the shortest accepted traces, and what the lent room holds at exit.
-- Document 01, "How a derivation runs" ("The search prefers fewer steps; among equally long traces, the first differing step decides:
-- lower place, then lower move") and "Questions" 41 to 43.
use Rattle.std.specs.Prelude.{ℕ, zero, suc, ◌+◌, ◌*◌, ◌<◌, ◌≡◌, Bool, true, false, leb, length}
use mathlib.Core.List.{List, [], ◌∷◌, ◌++◌, map, flatten}
use Rattle.std.proofs.Math.Option
use Rattle.std.proofs.Math.Option.{Option, none, some}
use Rattle.hgn.specs.Lists.{range, first_some}
use Rattle.hgn.specs.Questions.{no_refusal, placed, Question, ◌asks◌}
use Rattle.hgn.specs.Lent.{Lent, overwritten, asking}
use Rattle.hgn.specs.Meaning.{Domain}
use Rattle.hgn.specs.Network.{Waiting}
use Rattle.hgn.specs.Run.{Step, first_method, Problem, problem_of, Rules, refused, taken, stepped}
use Rattle.hgn.specs.Shop.{shop_questions}
use Rattle.hgn.specs.Order.{order, order_questions}
use Rattle.hgn.specs.Trace.{size_words, step, trace_words}
use Rattle.hgn.specs.Replay.{rules_of}

-- The order on traces, asked of two of one length: at the first differing step a lower place, or the same place and a lower move.
pub data Earlier : List Step → List Step → Type 0 where
  lower_place : {x y : Step} {xs ys : List Step} → x.place < y.place → Earlier (x ∷ xs) (y ∷ ys)
  lower_move : {x y : Step} {xs ys : List Step} → x.place ≡ y.place → x.move < y.move → Earlier (x ∷ xs) (y ∷ ys)
  same_step : {x : Step} {xs ys : List Step} → Earlier xs ys → Earlier (x ∷ xs) (x ∷ ys)

-- The known moves, rising: 0, 1 to K, 256 to 255 + M.
unfoldable pub moves_of : Domain → List ℕ
moves_of d = 0 ∷ range 1 (length d.actions) ++ range first_method (length d.methods)

-- The steps with a known move at a place.
unfoldable pub steps_at : Domain → ℕ → List Step
steps_at d p = map (λ m. step m p) (moves_of d)

-- The steps to try: "from place to move", at the first place every move, then at the next.
unfoldable pub candidates : Domain → List Waiting → List Step
unfolding flatten
candidates d w = flatten (map (steps_at d) (range 0 (length w)))

-- The trace of no steps, which solves a problem where nothing waits.
unfoldable pub no_steps : List Waiting → Option (List Step)
no_steps [] = some []
no_steps (g ∷ w) = none

-- The first accepted trace of exactly `k` steps, from step `n` and a problem.
unfoldable pub first_of : ℕ → Rules → ℕ → Problem → Option (List Step)
first_of zero r n P = no_steps P.waiting
first_of (suc k) r n P =
    first_some
    (λ x. elim (stepped r n P x) [
      | refused q ↦ none
      | taken deed P' ↦ Option.map (λ xs. x ∷ xs) (first_of k r (suc n) P')
    ])
    (candidates r.domain P.waiting)

-- The first of the shortest: of 0 steps, of 1, and so on up to `depth`.
unfoldable pub first_shortest : ℕ → Rules → Problem → Option (List Step)
first_shortest depth r P = first_some (λ k. first_of k r 0 P) (range 0 (suc depth))

unfoldable pub is_found : Option (List Step) → Bool
is_found none = false
is_found (some xs) = true

-- The steps found; none where there are none.
unfoldable pub steps_found : Option (List Step) → List Step
steps_found none = []
steps_found (some xs) = xs

-- The first of the shortest traces for these two sheets.
unfoldable pub searched : List ℕ → List ℕ → ℕ → Option (List Step)
searched shop sheet depth = first_shortest depth (rules_of shop) (problem_of (order sheet))

-- The answer, number 0 and place L where a trace is found, and the room at exit.
abbrev pub Searched : Type 0
Searched = Lent (List ℕ)

-- "A search writes the trace into the first 1 + 2L words and answers 0 and L, the rest unchanged".
unfoldable pub written : List ℕ → List Step → Searched
written room xs = record { refusal = placed (length xs) no_refusal; room = overwritten (trace_words xs) room }

-- The deepest search.
abbrev pub most_depth : ℕ
most_depth = 32

-- "Search, after shop and order: D at most 32? 41. Room for 1 + 2D words? 42. Is there an accepted trace of at most D steps? 43."
unfoldable pub search_questions : List ℕ → List ℕ → ℕ → List ℕ → List Question
search_questions shop sheet depth room =
    shop_questions shop ++ order_questions shop sheet
    ++ (41 asks leb depth most_depth
    ∷ 42 asks leb (size_words + 2 * depth) (length room)
    ∷ 43 asks is_found (searched shop sheet depth)
    ∷ [])

unfoldable pub search : List ℕ → List ℕ → ℕ → List ℕ → Searched
search shop sheet depth room =
    asking (search_questions shop sheet depth room) room (written room (steps_found (searched shop sheet depth)))
