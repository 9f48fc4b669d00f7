-- Demand 2 of the search: it gives the first of the shortest accepted traces, or 43 if none has at most D steps; and what it finds is what
-- the replay accepts. Assumes nothing.
use Prim.Native.Nat.{ℕ, ◌+◌, ◌*◌, ◌≤◌}
use native.Mathlib.Omega.{arith}
use mathlib.Core.Path.{◌≡◌, refl, sym, ap, ◌∙◌, subst}
use mathlib.Core.Bool.{Bool, true, false}
use mathlib.Core.Logic.{◌≢◌}
use mathlib.Core.List.{List, [], ◌∷◌, ◌++◌}
use mathlib.Core.Option.{Option, none, some}
use lib.Dec.{leb}
use lib.ListN.{length, take}
use borrow.Author.Tests.{leb-true, le-leb}
use Rattle.hgn.specs.Questions.{Failure, ◌asks◌, Verdict, passed, refused, first_no}
use Rattle.hgn.specs.Network.{goals_of, most_waiting}
use Rattle.hgn.specs.Run.{Step, problem_of}
use Rattle.hgn.specs.Shop.{domain, shop_questions}
use Rattle.hgn.specs.Order.{order, order_questions, check_order}
use Rattle.hgn.specs.Trace.{size_words, step_count, steps_of, check_trace}
use Rattle.hgn.specs.Replay.{rules_of, replay}
use Rattle.hgn.specs.Search.{most_depth, is_found, steps_found, searched, Searched, written, search_questions, search}
use Rattle.hgn.specs.Lent.{unwritten}
use Rattle.hgn.specs.Demands.{Solves, FirstOfShortest, SearchPasses, Finds, Demand2OfSearch, SearchAgreesWithReplay}
use Rattle.hgn.proofs.Logic.Tests.{strict_decided}
use Rattle.hgn.proofs.Questions.FirstNo.{append_passed, append_refused, refused_number}
use Rattle.hgn.proofs.Questions.Lent.{asking_refused, asking_passed}
use Rattle.hgn.proofs.Questions.Numbers.{of_order_law, not_zero}
use Rattle.hgn.proofs.Sheets.Checked.{order_goals, shop_of_order, shop_actions}
use Rattle.hgn.proofs.Network.Waiting.{length_enter}
use Rattle.hgn.proofs.Run.Derivation.{derivation_runs, run_derives}
use Rattle.hgn.proofs.Search.Best.{Runs, Best, none_earlier}
use Rattle.hgn.proofs.Search.Shortest.{shortest_none, shortest_best, best_found}
use Rattle.hgn.proofs.Search.FoundTraces.{finds}
use Rattle.hgn.proofs.Sheets.Passed.{trace_passed}
use Rattle.hgn.proofs.Sheets.Trace.{steps_length}
use Rattle.hgn.proofs.Run.Replay.{steps_short, demand_2}

module _ (shop sheet : List ℕ) where
  -- Accepted steps of the sheets, by the run.
  abbrev Accepted : List Step → Type 0
  Accepted = Runs (rules_of shop) 0 (problem_of (order sheet))

  abbrev First : List Step → Type 0
  First = Best (rules_of shop) 0 (problem_of (order sheet))

  module _ (e : check_order shop sheet ≡ passed) where
    few_actions : length (domain shop).actions ≤ 255
    few_actions = shop_actions shop (shop_of_order shop sheet e)

    runs_of : {xs : List Step} → Solves shop sheet xs → Accepted xs
    runs_of h =
        let t = (derivation_runs (rules_of shop) (strict_decided most_waiting (domain shop)) few_actions h.2).1 in
        (t.deeds, h.1, t.runs)

    solves_by : {xs : List Step} → Accepted xs → Solves shop sheet xs
    unfolding goals_of
    solves_by {xs} r = (
      _,
      r.1,
      run_derives (rules_of shop) (strict_decided most_waiting (domain shop)) 0 _ xs _ _ (rw length_enter (order_goals shop sheet e)) r.2,
    )

    best_of : {xs : List Step} → FirstOfShortest shop sheet xs → First xs
    best_of h = record {
      runs = runs_of h.solves;
      shortest = λ ys r. h.shortest ys (solves_by r);
      earliest = λ ys r. h.earliest ys (solves_by r);
    }

    first_by : {xs : List Step} → First xs → FirstOfShortest shop sheet xs
    first_by h = record {
      solves = solves_by h.runs;
      shortest = λ ys r. h.shortest ys (runs_of r);
      earliest = λ ys r. h.earliest ys (runs_of r);
    }

  one_only : (xs ys : List Step) → FirstOfShortest shop sheet xs → FirstOfShortest shop sheet ys → xs ≡ ys
  one_only xs ys h k =
      let e : length xs ≡ length ys = omega (arith, h.shortest ys k.solves, k.shortest xs h.solves) in
      none_earlier xs ys e (k.earliest xs h.solves e) (h.earliest ys k.solves (sym e))

  module _ (depth : ℕ) (room : List ℕ) where
    -- What is searched on sheets that pass.
    module _ (e : check_order shop sheet ≡ passed) where
      found_first : {xs : List Step} → searched shop sheet depth ≡ some xs → FirstOfShortest shop sheet xs × (length xs ≤ depth)
      unfolding searched
      found_first q = let t = shortest_best depth _ _ (few_actions e) _ q in (first_by e t.0, t.1)

      first_found : {xs : List Step} → FirstOfShortest shop sheet xs → length xs ≤ depth → searched shop sheet depth ≡ some xs
      unfolding searched
      first_found h l = best_found depth _ _ (few_actions e) _ (best_of e h) l

      none_solves : searched shop sheet depth ≡ none → (xs : List Step) → length xs ≤ depth → ¬ Solves shop sheet xs
      unfolding searched
      none_solves q xs l h = shortest_none depth _ _ q xs l (runs_of e h)

    -- The question of this number is answered no, the room unchanged.
    pub search_refused : (q : Failure) → first_no (search_questions shop sheet depth room) ≡ refused q → search shop sheet depth room ≡ unwritten room q.refusal
    unfolding search
    search_refused q e = asking_refused _ _ _ q e

    pub search_passed : first_no (search_questions shop sheet depth room) ≡ passed
        → search shop sheet depth room ≡ written room (steps_found (searched shop sheet depth))
    unfolding search
    search_passed e = asking_passed _ _ _ e

    -- After the sheets have passed, three questions are left.
    pub search_inputs : check_order shop sheet ≡ passed
        → first_no (search_questions shop sheet depth room)
        ≡ first_no (41 asks leb depth most_depth ∷ 42 asks leb (size_words + 2 * depth) (length room) ∷ 43 asks is_found (searched shop sheet depth) ∷ [])
    unfolding search_questions check_order
    search_inputs e = append_passed (shop_questions shop ++ order_questions shop sheet) _ e

    pub sheets_refused : (q : Failure) → check_order shop sheet ≡ refused q → first_no (search_questions shop sheet depth room) ≡ refused q
    unfolding search_questions check_order
    sheets_refused q e = append_refused (shop_questions shop ++ order_questions shop sheet) _ q e

    pub depth_refused : check_order shop sheet ≡ passed → leb depth most_depth ≡ false
        → first_no (search_questions shop sheet depth room) ≡ refused (41 asks false).failure
    unfolding first_no
    depth_refused h e = search_inputs h ∙ rw e

    pub room_refused : check_order shop sheet ≡ passed → leb depth most_depth ≡ true → leb (size_words + 2 * depth) (length room) ≡ false
        → first_no (search_questions shop sheet depth room) ≡ refused (42 asks false).failure
    unfolding first_no
    room_refused h e f = search_inputs h ∙ rw (e, f)

    pub inputs_searched : SearchPasses shop sheet depth room
        → first_no (search_questions shop sheet depth room) ≡ first_no (43 asks is_found (searched shop sheet depth) ∷ [])
    unfolding first_no
    inputs_searched p = search_inputs p.0 ∙ rw (le-leb _ _ p.1, le-leb _ _ p.2)

    -- A search refuses by a number that is neither 0 nor 43, finds no steps, or finds some.
    pub data Report (c : Searched) : Type 0 where
      refuses : (q : Failure) → q.refusal.number ≢ 0 → q.refusal.number ≢ 43 → first_no (search_questions shop sheet depth room) ≡ refused q
          → c ≡ unwritten room q.refusal → Report c
      finds_none : SearchPasses shop sheet depth room → searched shop sheet depth ≡ none → (q : Failure) → q.refusal.number ≡ 43
          → first_no (search_questions shop sheet depth room) ≡ refused q → c ≡ unwritten room q.refusal → Report c
      finds_some : {xs : List Step} → SearchPasses shop sheet depth room → searched shop sheet depth ≡ some xs
          → first_no (search_questions shop sheet depth room) ≡ passed → c ≡ written room xs → Report c

    -- Where sheets, depth and room pass, only 43 can refuse.
    only_43 : SearchPasses shop sheet depth room → (q : Failure) → first_no (search_questions shop sheet depth room) ≡ refused q → q.refusal.number ≡ 43
    only_43 p q f = refused_number (λ k a. k ≡ 43) (43 asks is_found (searched shop sheet depth) ∷ []) (refl, tt) q (sym (inputs_searched p) ∙ f)

    report : Report (search shop sheet depth room)
    unfolding is_found steps_found first_no check_order
    report = go (check_order shop sheet) refl
      where
        searching : SearchPasses shop sheet depth room → (o : Option (List Step)) → searched shop sheet depth ≡ o → Report (search shop sheet depth room)
        searching p none q =
            let e = inputs_searched p ∙ ap (λ (o : Option (List Step)). first_no (43 asks is_found o ∷ [])) q in
            finds_none p q _ refl e (search_refused _ e)
        searching p (some xs) q =
            let e = inputs_searched p ∙ ap (λ (o : Option (List Step)). first_no (43 asks is_found o ∷ [])) q in
            finds_some p q e (search_passed e ∙ ap (λ (o : Option (List Step)). written room (steps_found o)) q)

        roomy : check_order shop sheet ≡ passed → (b : Bool) → leb depth most_depth ≡ b → (c : Bool) → leb (size_words + 2 * depth) (length room) ≡ c
            → Report (search shop sheet depth room)
        roomy h true e true f = searching (h, leb-true _ _ e, leb-true _ _ f) (searched shop sheet depth) refl
        roomy h true e false f = let k = room_refused h e f in refuses (42 asks false).failure (omega arith) (omega arith) k (search_refused _ k)
        roomy h false e c f = let k = depth_refused h e in refuses (41 asks false).failure (omega arith) (omega arith) k (search_refused _ k)

        go : (v : Verdict) → check_order shop sheet ≡ v → Report (search shop sheet depth room)
        go passed e = roomy e (leb depth most_depth) refl (leb (size_words + 2 * depth) (length room)) refl
        go (refused q) e =
            let k = sheets_refused q e in
            let qs = shop_questions shop ++ order_questions shop sheet in
            refuses q (refused_number (λ k a. k ≢ 0) qs (of_order_law (λ k a. k ≢ 0) not_zero shop sheet) q e)
            (refused_number (λ k a. k ≢ 43) qs (of_order_law (λ k a. k ≢ 43) (λ k l. omega arith) shop sheet) q e) k (search_refused q k)

    module _ (c : Searched) (called : c ≡ search shop sheet depth room) where
      reports : Report c
      reports = subst Report (sym called) report

      number_of : {d : Searched} → c ≡ d → c.refusal.number ≡ d.refusal.number
      number_of e = ap (λ (c : Searched). c.refusal.number) e

      found_solves : c.refusal.number ≡ 0
          → SearchPasses shop sheet depth room
          × ((xs : List Step) × FirstOfShortest shop sheet xs × (length xs ≤ depth) × Finds shop sheet room xs c)
      unfolding unwritten
      found_solves z = go reports
        where
          go : Report c
              → SearchPasses shop sheet depth room
              × ((xs : List Step) × FirstOfShortest shop sheet xs × (length xs ≤ depth) × Finds shop sheet room xs c)
          go (refuses q h k f e) = absurd (h (sym (number_of e) ∙ z))
          go (finds_none p s q h f e) = let y : ◌≡◌ {A = ℕ} 43 0 = sym h ∙ sym (number_of e) ∙ z in absurd (omega arith)
          go (finds_some {xs} p s f e) =
              let t = found_first p.0 s in
              (p, (xs, t.0, t.1, rw e (finds xs shop sheet room p.0 (omega (arith, t.1, p.1)) (omega (arith, t.1, p.2)))))

      -- Steps accepted within the depth are not missed.
      solves_found : SearchPasses shop sheet depth room → (xs : List Step) → Solves shop sheet xs → length xs ≤ depth → c.refusal.number ≡ 0
      unfolding written
      solves_found p xs h l = go reports
        where
          go : Report c → c.refusal.number ≡ 0
          go (refuses q a b f e) = absurd (b (only_43 p q f))
          go (finds_none k s q n f e) = absurd (none_solves p.0 s xs l h)
          go (finds_some k s f e) = number_of e

      none_found : c.refusal.number ≡ 43
          → SearchPasses shop sheet depth room × ((xs : List Step) → length xs ≤ depth → ¬ Solves shop sheet xs)
      unfolding unwritten written
      none_found z = go reports
        where
          go : Report c → SearchPasses shop sheet depth room × ((xs : List Step) → length xs ≤ depth → ¬ Solves shop sheet xs)
          go (refuses q h k f e) = absurd (k (sym (number_of e) ∙ z))
          go (finds_none p s q h f e) = (p, none_solves p.0 s)
          go (finds_some p s f e) = let y : ◌≡◌ {A = ℕ} 0 43 = sym (number_of e) ∙ z in absurd (omega arith)

      found_none : SearchPasses shop sheet depth room → ((xs : List Step) → length xs ≤ depth → ¬ Solves shop sheet xs) → c.refusal.number ≡ 43
      unfolding unwritten
      found_none p h = go reports
        where
          go : Report c → c.refusal.number ≡ 43
          go (refuses q a b f e) = number_of e ∙ only_43 p q f
          go (finds_none k s q n f e) = number_of e ∙ n
          go (finds_some {xs} k s f e) = let t = found_first k.0 s in absurd (h xs t.1 t.0.solves)

pub demand_2_of_search : Demand2OfSearch
demand_2_of_search shop sheet depth room c called = record {
  finds_iff = (
    λ z. let t = found_solves shop sheet depth room c called z in (t.0, (t.1.0, t.1.1.solves, t.1.2)),
    λ h. solves_found shop sheet depth room c called h.0 h.1.0 h.1.1 h.1.2,
  );
  results = λ z. (found_solves shop sheet depth room c called z).1;
  one_only = one_only shop sheet;
  none_iff = (none_found shop sheet depth room c called, λ h. found_none shop sheet depth room c called h.0 h.1);
}

-- What a search finds is accepted by the replay, and after 43 nothing within the depth is.
pub search_agrees_with_replay : SearchAgreesWithReplay
search_agrees_with_replay shop sheet depth room c called = record {
  found_is_accepted = λ z plan e replayed l.
      let x = (found_solves shop sheet depth room c called z).1 in
      let f = x.3 in
      let words : take (size_words + 2 * c.refusal.place) c.room ≡ take (size_words + 2 * length x.0) c.room =
      ap (λ (n : ℕ). take (size_words + 2 * n) c.room) f.place in
      let trace = take (size_words + 2 * length x.0) c.room in
      let s = x.1.solves in
      (demand_2 shop sheet trace plan e (replayed ∙ ap (λ (t : List ℕ). replay shop sheet t plan) words)).accepts_iff.1
      ((f.trace_passes, short shop sheet trace plan x.0 f.trace_steps f.trace_passes (rw⁻¹ f.place l)), (s.0, s.1, rw f.trace_steps s.2));
  none_is_accepted = λ z trace plan e replayed l accepted.
      let h = (demand_2 shop sheet trace plan e replayed).accepts_iff.0 accepted in
      (none_found shop sheet depth room c called z).1 (steps_of trace) (omega (arith, steps_short trace)) h.1;
}
  where
    -- A trace that passes says as many steps as it has.
    short : (shop sheet trace plan : List ℕ) (xs : List Step) → steps_of trace ≡ xs → check_trace shop sheet trace ≡ passed → length xs ≤ length plan
        → step_count trace ≤ length plan
    short shop sheet trace plan xs e h l = omega (arith, steps_length trace (trace_passed shop sheet trace h), ap length e)
