-- Demand 3, and what Req 03 adds to it: the lines of a listing on the join, and what its waiting goals carry at every moment. Assumes nothing.
use Prim.Native.Nat.{ℕ, ◌+◌, ◌-◌, ◌≤◌, ◌<◌}
use native.Mathlib.Omega.{arith}
use native.Mathlib.Nat.{add-zero}
use mathlib.Core.Path.{◌≡◌, refl, sym, ap, ◌∙◌, subst, subst₂}
use mathlib.Core.List.{List, [], ◌∷◌, ◌++◌, map, map-append}
use mathlib.Core.Option.{none}
use lib.ListN.{length, take, drop, length-take, length-map, replicate, take-append-drop}
use Rattle.hgn.specs.Meaning.{Node, Order}
use Rattle.hgn.specs.State.{State}
use Rattle.hgn.specs.Network.{Source, order, Waiting, enter, goals_of, most_waiting}
use Rattle.hgn.specs.Run.{Step, Problem, problem_of, problem_from, start_of, Rules, limited, plan_of, run, cost_of}
use Rattle.hgn.specs.Join.{raised, join, Cut}
use Rattle.hgn.specs.Listing.{Line, lines_of, later_source, later_line}
use Rattle.hgn.specs.Readings.{Reached, first}
use Rattle.hgn.specs.Demands.{OnJoin, JoinRule, Demand3, sources}
use Rattle.hgn.specs.Order as Sheet
use Rattle.hgn.proofs.Run.Runs.{accepted_deeds, accepted_state}
use Rattle.hgn.proofs.Run.Costs.{cost_append}
use Rattle.hgn.proofs.Sheets.Checked.{Numbered, order_numbered, order_goals}
use Rattle.hgn.proofs.Join.Embedding.{renamed_deed}
use Rattle.hgn.proofs.Join.Renaming.{goals_renamed}
use Rattle.hgn.proofs.Join.Cut.{with, one_front, raised_goals, narrow, v, all_places, join_goals, first_part, second_part, names, whole_length, to_cut, cut_runs, from_cut}
use Rattle.hgn.proofs.Join.Counted.{reached_narrow}
use Rattle.hgn.proofs.Join.Lines.{lines_append, deeds_length, sources_later, lines_later}
use Rattle.hgn.proofs.Join.Moments.{front_moment, reached_end, back_moment, take_within, take_on}

-- Goals that enter together carry the same.
entered_sources : (source : Source) (i : ℕ) (nodes : List Node) → sources (enter source none i nodes) ≡ replicate (length nodes) source
unfolding enter
entered_sources source i [] = refl
entered_sources source i (n ∷ nodes) = ap {B = List Source} (λ l. source ∷ l) (entered_sources source _ nodes)

module _ (r : Rules) (a b : Order) (numbered : Numbered 0 a.goals) (few : length b.goals ≤ r.limit) (xs : List Step) where
  -- The second order's goals in the join, and the rules that they leave the first.
  abbrev second : List Waiting
  second = v r a b numbered few xs

  abbrev smaller : Rules
  smaller = narrow r a b numbered few xs

  abbrev G : ℕ
  G = length a.goals

  -- An accepted list of steps has one plan and one last state.
  only : (plan plan' : List ℕ) (last last' : State) → OnJoin r a b xs plan last → OnJoin r a b xs plan' last' → (plan ≡ plan') × (last ≡ last')
  only plan plan' last last' p q =
      let e = sym p.runs ∙ q.runs in
      (p.plan_is ∙ ap plan_of (accepted_deeds e) ∙ sym q.plan_is, accepted_state e)

  join_lines : (c : ℕ) (k : Cut r a b xs c) (plan : List ℕ) (last : State) (on : OnJoin r a b xs plan last)
      → lines_of 0 on.deeds ≡ lines_of 0 k.front.deeds ++ map (later_line c) (lines_of 0 k.back.deeds)
  join_lines c k plan last on =
      ap (lines_of 0) (accepted_deeds (sym on.runs ∙ cut_runs r a b numbered few xs c k))
      ∙ lines_append 0 k.front.deeds (map (renamed_deed (names r a b numbered few xs c)) k.back.deeds)
      ∙ ap {B = List Line} (λ l. lines_of 0 k.front.deeds ++ l)
      (ap (λ (n : ℕ). lines_of n (map (renamed_deed (names r a b numbered few xs c)) k.back.deeds)) at_cut ∙ lines_later G c 0 k.back.deeds)
    where
      at_cut : 0 + length k.front.deeds ≡ c + 0
      at_cut = omega (arith, deeds_length smaller (take c xs) 0 (problem_of a) k.front.deeds k.between k.front.runs, length-take c xs, k.inside)

  -- On the join, under its rules.
  on_whole : {ys : List Step} {P : Problem} → Reached (limited (smaller.limit + length second) smaller) (with (start_of a) (goals_of a ++ second)) ys P
      → Reached r (problem_of (join a b)) ys P
  unfolding start_of join
  on_whole {ys} {P} h =
      subst₂ (λ (n : ℕ) (w : List Waiting). Reached (limited n r) (with (start_of a) w) ys P) (all_places r a b numbered few xs) (sym (join_goals r a b numbered few xs)) h

  second_sources : sources second ≡ replicate (length b.goals) order
  unfolding v raised_goals
  second_sources =
      entered_sources order G (map (raised G) b.goals) ∙ ap (λ (n : ℕ). replicate n order) (length-map b.goals (raised G))

  module _ (c : ℕ) (k : Cut r a b xs c) where
    in_front : (i : ℕ) → i ≤ c → (Q : Problem) → Reached r (problem_of a) (take i xs) Q
        → (P : Problem) × Reached r (problem_of (join a b)) (take i xs) P × (sources P.waiting ≡ sources Q.waiting ++ replicate (length b.goals) order)
    in_front i h Q j =
        let cut_off : take i xs ++ drop i (take c xs) ≡ take c xs =
        ap {B = List Step} (λ l. l ++ drop i (take c xs)) (sym (take_within i c xs h)) ∙ take-append-drop i (take c xs) in
        let narrowed = reached_narrow (length b.goals) r few (problem_of a) j (drop i (take c xs))
        (k.front.deeds, k.between, ap (run smaller 0 (problem_of a)) cut_off ∙ k.front.runs) k.front.within in
        let m = front_moment G smaller second (second_part r a b numbered few xs) (first_part r a b numbered few xs) narrowed in (
          with Q.state (Q.waiting ++ second),
          on_whole m.1,
          map-append (λ (q : Waiting). q.source) Q.waiting second ∙ ap {B = List Source} (λ l. sources Q.waiting ++ l) second_sources,
        )

    -- The front leads to the second order's goals under the join's names.
    at_cut : Reached r (problem_of (join a b)) (take c xs) (with k.between second)
    at_cut =
        let end = reached_end smaller (problem_of a) (take c xs) first k.front.deeds k.between k.front.runs in
        on_whole (front_moment G smaller second (second_part r a b numbered few xs) (first_part r a b numbered few xs) end).1

    named : (n : ℕ) → second ≡ map (names r a b numbered few xs n) (goals_of b)
    unfolding v raised_goals goals_of
    named n = ap (λ (i : ℕ). enter order none i (map (raised G) b.goals)) (sym (add-zero G)) ∙ sym (goals_renamed G (λ i. n + i) 0 b.goals)

    in_back : (i : ℕ) (Q : Problem) → Reached r (problem_from k.between b) (take i (drop c xs)) Q
        → (P : Problem) × Reached r (problem_of (join a b)) (take (c + i) xs) P × (sources P.waiting ≡ map (later_source c) (sources Q.waiting))
    in_back i Q j =
        let long : length (take c xs) ≡ c = omega (arith, length-take c xs, k.inside) in
        let begins = subst (λ (w : List Waiting). Reached r (problem_of (join a b)) (take c xs) (with k.between w)) (named (length (take c xs))) at_cut in
        let m = back_moment G r (problem_of (join a b)) (problem_from k.between b) (take c xs) begins j in
        let P = with Q.state (map (names r a b numbered few xs (length (take c xs))) Q.waiting) in (
          P,
          subst (λ (l : List Step). Reached r (problem_of (join a b)) l P) (sym (take_on c i xs)) m,
          sources_later G (length (take c xs)) Q.waiting ∙ ap {B = List Source} (λ n. map (later_source n) (sources Q.waiting)) long,
        )

  pub join_rule : r.limit ≡ most_waiting → JoinRule r a b xs
  join_rule most = record {
    accepted_iff = (
      (λ o. to_cut r a b numbered few xs o.0 o.1 o.2),
      (λ o. (o.1.front_plan ++ o.1.back_plan, o.1.last, from_cut r a b numbered few xs o.0 o.1)),
    );
    one_cut = λ c e k m.
        one_front smaller xs c e 0 (problem_of a) k.front.deeds m.front.deeds k.between m.between
        k.inside m.inside k.front.runs m.front.runs;
    results = λ c k plan last. (
      (λ o. only _ _ _ _ o (from_cut r a b numbered few xs c k)),
      (λ e. subst₂ (OnJoin r a b xs) (sym e.0) (sym e.1) (from_cut r a b numbered few xs c k)),
    );
    cost = λ c k plan last o.
        ap (cost_of r.domain) (only _ _ _ _ o (from_cut r a b numbered few xs c k)).0 ∙ cost_append r.domain k.front_plan k.back_plan;
    lines = join_lines;
    carried = λ c k. record { in_front = in_front c k; in_back = in_back c k };
    too_many = λ m. (full m, λ c k. full m _ _ (from_cut r a b numbered few xs c k));
  }
    where
      full : most_waiting < length a.goals + length b.goals → (plan : List ℕ) (last : State) → ¬ OnJoin r a b xs plan last
      full m plan last acc = omega (arith, acc.within, whole_length r a b numbered few xs)

pub demand_3 : Demand3
demand_3 shop one two h k r most xs =
    join_rule r (Sheet.order one) (Sheet.order two) (order_numbered shop one h) (omega (arith, order_goals shop two k)) xs most
