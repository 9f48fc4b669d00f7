-- A step's questions one by one, and a move's own questions from what the code sees. Assumes nothing.
use Prim.Native.Nat.{ℕ, ◌+◌, ◌<◌, ◌≤◌}
use native.Mathlib.Omega.{arith}
use mathlib.Core.Path.{◌≡◌, refl, sym, ap, ◌∙◌}
use mathlib.Core.Bool.{true, false}
use mathlib.Core.Logic.{◌≢◌}
use mathlib.Core.List.{List}
use mathlib.Core.Option.{some}
use lib.Dec.{leb}
use lib.ListN.{length, length-append, length-take, length-drop}
use borrow.Author.Tests.{lt-ltb, le-ltb, leb-true}
use Rattle.hgn.specs.Questions as Questions
use Rattle.hgn.specs.Questions.{◌asks◌, ◌naming◌, passed, first_no}
use Rattle.hgn.specs.Meaning.{Node, node_of, goal_of, network_of}
use Rattle.hgn.specs.State.{State, all_hold, formula_holds, unmet, unmet_goal, relevant}
use Rattle.hgn.specs.Network.{Source, used, Waiting, most_waiting, free, any_free, goal_at, decomposed}
use Rattle.hgn.specs.Run as Run
use Rattle.hgn.specs.Run.{Step, Problem, Rules, strict, move_of, action_at, method_at, known, own_questions, step_questions, deed_of, moved, refused, taken, stepped}
use Rattle.hgn.specs.Shop.{domain, action_count, method_count, check_shop}
use Rattle.hgn.proofs.Questions.FirstNo.{refused_number, passed_cons}
use Rattle.hgn.proofs.Questions.Numbers.{step_not_zero}
use Rattle.hgn.proofs.Sheets.Checked.{shop_counts}
use Rattle.hgn.proofs.Run.Steps as Steps
use Rattle.hgn.proofs.Run.Steps.{some_free, step_passed}
use Rattle.hgn.proofs.Network.Waiting.{length_enter}
use Rattle.sheet_index.specs.declared.index.Span.{Span}
use Rattle.sheet_index.specs.Index.{span_rows}
use Rattle.step.specs.Moves.{known_of, move_read}
use Rattle.step.specs.Deciding.{Faces, WithinLimit}
use Rattle.step.specs.declared.moves.Move.{Move}
use Rattle.step.specs.declared.moves.Move.TheVariants.{Release, Act, Use}

-- The numbers of a checked shop sheet decide what a move reads as.
pub read_by_counts : (shop : List ℕ) (n : ℕ) → check_shop shop ≡ passed → move_of (domain shop) n ≡ move_read n (action_count shop) (method_count shop)
unfolding move_of move_read
read_by_counts shop n e = let c = shop_counts shop e in rw (c.0, c.1)

-- A method's nodes enter, none leaves.
pub decomposed_length : (w : List Waiting) (p : ℕ) (o : Source) (nodes : List Node) → length (decomposed w p o nodes) ≡ length w + length nodes
unfolding decomposed
decomposed_length w p o nodes =
    let e = length_enter o (some (goal_at w p).name) 0 nodes in
    simp (length-append, length-take, length-drop) (omega arith)

-- A code's move is known to the definitions.
known_move : (m : Move) → known (known_of m) ≡ true
unfolding known
known_move Release = refl
known_move (Act k) = refl
known_move (Use m) = refl

module _ (r : Rules) (n : ℕ) (P : Problem) (move place : ℕ) where
  abbrev x : Step
  x = record { move = move; place = place }

  by : (k : ℕ) → first_no (step_questions r n P x) ≡ Questions.refused (k asks false).failure → stepped r n P x ≡ refused (k asks false).failure
  by k e = Steps.step_refused r n P x _ e

  pub step_25 : length P.waiting ≤ place → stepped r n P (record { move = move; place = place }) ≡ refused (25 asks false).failure
  unfolding step_questions first_no
  step_25 h = by 25 (rw (le-ltb place (length P.waiting) h))

  module _ (inside : place < length P.waiting) where
    pub step_26 : move_of r.domain move ≡ Run.unknown → stepped r n P (record { move = move; place = place }) ≡ refused (26 asks false).failure
    unfolding step_questions first_no known
    step_26 e = by 26 (rw (lt-ltb place (length P.waiting) inside, e))

    module _ (m : Move) (reads : move_of r.domain move ≡ known_of m) where
      pub step_27 : any_free P.waiting ≡ false → stepped r n P (record { move = move; place = place }) ≡ refused (27 asks false).failure
      unfolding step_questions first_no
      step_27 e = by 27 (rw (lt-ltb place (length P.waiting) inside, reads, known_move m, e))

      pub step_28 : any_free P.waiting ≡ true → free P.waiting (goal_at P.waiting place) ≡ false
          → stepped r n P (record { move = move; place = place }) ≡ refused (28 asks false).failure
      unfolding step_questions first_no
      step_28 e f = by 28 (rw (lt-ltb place (length P.waiting) inside, reads, known_move m, e, f))

      module _ (f : free P.waiting (goal_at P.waiting place) ≡ true) where
        -- At a free goal the first no is the move's own.
        own_first : first_no (step_questions r n P x) ≡ first_no (own_questions r n P place (known_of m))
        unfolding step_questions first_no
        own_first = rw (lt-ltb place (length P.waiting) inside, reads, known_move m, some_free P.waiting place inside f, f)

        pub own_refuses : (q : Questions.Failure) → first_no (own_questions r n P place (known_of m)) ≡ Questions.refused q
            → stepped r n P (record { move = move; place = place }) ≡ refused q
        own_refuses q e = Steps.step_refused r n P x q (own_first ∙ e)

        pub own_takes : first_no (own_questions r n P place (known_of m)) ≡ passed
            → stepped r n P (record { move = move; place = place }) ≡ taken (deed_of P place (known_of m)) (moved r.domain n P place (known_of m))
        own_takes e =
            step_passed r n P x (own_first ∙ e)
            ∙ ap (λ (k : Run.Move). taken (deed_of P place k) (moved r.domain n P place k)) reads

-- No step is refused with the number 0.
pub refused_numbered : (r : Rules) (n : ℕ) (P : Problem) (x : Step) (q : Questions.Failure) → stepped r n P x ≡ refused q → q.refusal.number ≢ 0
unfolding stepped
refused_numbered r n P x q e = go (first_no (step_questions r n P x)) refl
  where
    go : (v : Questions.Verdict) → first_no (step_questions r n P x) ≡ v → q.refusal.number ≢ 0
    go passed f = absurd (Steps.refused≢taken (sym e ∙ step_passed r n P x f))
    go (Questions.refused k) f =
        let z : k ≡ q = same (sym (Steps.step_refused r n P x k f) ∙ e) in
        rw⁻¹ z (refused_number (λ k a. k ≢ 0) (step_questions r n P x) (step_not_zero r n P x) k f)
      where
        same : {a b : Questions.Failure} → refused a ≡ refused b → a ≡ b
        same e = cc

-- A move's own questions, from the state, the goal's rows, the number waiting and the limit.
module _ (shop order : List ℕ) (s : State) (goal : Span) (count limit n p : ℕ) (P : Problem) (f : Faces shop order s goal count P p) where
  -- The first no of a move's own questions.
  abbrev own : Run.Move → Questions.Verdict
  own m = first_no (own_questions (strict limit (domain shop)) n P p m)

  module _ (b : formula_holds s (node_of (span_rows shop order goal)).formula ≡ true) where
    pub own_holds : own Run.release ≡ passed
    unfolding own_questions first_no
    own_holds = rw (f.state, f.formula, b)

  module _ (b : formula_holds s (node_of (span_rows shop order goal)).formula ≡ false) where
    pub own_29 : own Run.release ≡ Questions.refused (29 asks false naming unmet_goal s (node_of (span_rows shop order goal)).formula).failure
    unfolding own_questions first_no
    own_29 = rw (f.state, f.formula, b)

  module _ (k : ℕ) where
    pub act_30 : all_hold s (action_at (domain shop) k).needs ≡ false → own (Run.act k) ≡ Questions.refused (30 asks false naming unmet s (action_at (domain shop) k).needs).failure
    unfolding own_questions first_no
    act_30 a = rw (f.state, a)

    module _ (a : all_hold s (action_at (domain shop) k).needs ≡ true) where
      pub act_31 : relevant (action_at (domain shop) k).effects (node_of (span_rows shop order goal)).formula ≡ false
          → own (Run.act k) ≡ Questions.refused (31 asks false).failure
      unfolding own_questions first_no
      act_31 b = rw (f.state, a, f.formula, b)

      pub act_passed : relevant (action_at (domain shop) k).effects (node_of (span_rows shop order goal)).formula ≡ true → own (Run.act k) ≡ passed
      unfolding own_questions first_no
      act_passed b = rw (f.state, a, f.formula, b)

  module _ (m : ℕ) where
    pub size : length (moved (domain shop) n P p (Run.use_method m)).waiting ≡ count + length (network_of (method_at (domain shop) m))
    unfolding moved
    size = decomposed_length P.waiting p (used n m) (network_of (method_at (domain shop) m)) ∙ ap (λ (k : ℕ). k + length (network_of (method_at (domain shop) m))) f.size

    pub use_30 : all_hold s (method_at (domain shop) m).needs ≡ false → own (Run.use_method m) ≡ Questions.refused (30 asks false naming unmet s (method_at (domain shop) m).needs).failure
    unfolding own_questions first_no
    use_30 a = rw (f.state, a)

    module _ (a : all_hold s (method_at (domain shop) m).needs ≡ true) where
      pub use_31 : relevant (goal_of (method_at (domain shop) m)) (node_of (span_rows shop order goal)).formula ≡ false
          → own (Run.use_method m) ≡ Questions.refused (31 asks false).failure
      unfolding own_questions first_no
      use_31 b = rw (f.state, a, f.formula, b)

      module _ (b : relevant (goal_of (method_at (domain shop) m)) (node_of (span_rows shop order goal)).formula ≡ true) where
        pub use_32 : leb (count + length (network_of (method_at (domain shop) m))) limit ≡ false → own (Run.use_method m) ≡ Questions.refused (32 asks false).failure
        unfolding own_questions first_no
        use_32 h = rw (size, f.state, a, f.formula, b, h)

        pub use_passed : leb (count + length (network_of (method_at (domain shop) m))) limit ≡ true → own (Run.use_method m) ≡ passed
        unfolding own_questions first_no
        use_passed h = rw (size, f.state, a, f.formula, b, h)

  -- Where none of them fails within a limit of at most 64, a method leaves at most 64 waiting.
  pub own_room : limit ≤ most_waiting → (m : Move) → own (known_of m) ≡ passed → WithinLimit (domain shop) count m
  unfolding own_questions
  own_room few Release e = tt
  own_room few (Act k) e = tt
  own_room few (Use m) e =
      let b = passed_cons _ _ (passed_cons _ _ e).1 in
      omega (arith, size m, leb-true _ limit (passed_cons _ _ b.1).0)
