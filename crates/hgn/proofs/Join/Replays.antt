-- Demand 3 of replays: the replay on the join, and those of the two parts of a cut. Assumes nothing.
use Prim.Native.Nat.{ℕ, ◌+◌, ◌-◌, ◌≤◌, ◌<◌}
use native.Mathlib.Omega.{arith}
use mathlib.Core.Path.{◌≡◌, refl, sym, ap, ap₂, ◌∙◌, subst₂}
use mathlib.Core.Bool.{Bool, true, false}
use mathlib.Core.Logic.{◌↔◌}
use mathlib.Core.List.{List, ◌++◌}
use mathlib.Core.Option.{none}
use lib.Dec.{eqb}
use lib.ListN.{length, take, drop, replicate, length-append, length-replicate}
use borrow.Author.Tests.{eqb-true, eqb-false}
use Rattle.hgn.specs.Questions.{passed}
use Rattle.hgn.specs.Meaning.{Order}
use Rattle.hgn.specs.Rows.{most_rows}
use Rattle.hgn.specs.State.{State, most_atoms}
use Rattle.hgn.specs.Network.{Waiting, goals_of, enter, most_waiting}
use Rattle.hgn.specs.Network as Network
use Rattle.hgn.specs.Run.{problem_of, problem_from, start_of, limited, accepted, run}
use Rattle.hgn.specs.Join.{join}
use Rattle.hgn.specs.Shop.{domain}
use Rattle.hgn.specs.Order.{order, row_count, check_order}
use Rattle.hgn.specs.Trace.{step_count, steps_of, check_trace}
use Rattle.hgn.specs.Replay.{rules_of, Replayed, replay}
use Rattle.hgn.specs.JoinSheet.{joined_words, write_join, sheet_in}
use Rattle.hgn.specs.Lent.{Lent}
use Rattle.hgn.specs.Listing.{Line, lines_of, lines_in}
use Rattle.hgn.specs.Demands.{Carried, one_behind_other}
use Rattle.hgn.specs.Demands.{Accepts, OnJoin, JoinRule, ReplayCall, Accepting, plan_in, Whole, Parts, Counted, BothAccept, OneAfterOther, CutAt, JoinOfReplays, Demand3OfReplays}
use Rattle.hgn.specs.Demands.{InputsPass, BothPass, IsJoin, RuleOfSheet, JoinRuleOfSheet, Demand3OfCalls}
use Rattle.hgn.proofs.Logic.Tests.{strict_decided}
use Rattle.hgn.proofs.Sheets.Passed.{TracePassed, trace_passed, passed_trace}
use Rattle.hgn.proofs.Sheets.Checked.{order_of_trace, shop_of_order, order_goals, shop_actions}
use Rattle.hgn.proofs.Network.Waiting.{length_enter, goals_length}
use Rattle.hgn.proofs.Run.Costs.{cost_append}
use Rattle.hgn.proofs.Run.Derivation.{RunsTo, derivation_runs, run_derives}
use Rattle.hgn.proofs.Run.Limits.{wider_run}
use Rattle.hgn.proofs.Join.Counted.{counted_start, counted_runs, runs_counted}
use Rattle.hgn.proofs.Sheets.Trace.{front_of, back_of, front_passes, front_steps_law, back_passes, back_steps_law, steps_length}
use Rattle.hgn.proofs.Sheets.Starts.{from_state, last_fits}
use Rattle.hgn.proofs.Join.Rows.{joined_goals}
use Rattle.hgn.proofs.Join.Call.{joined_is_join, wrote}
use Rattle.hgn.proofs.Join.Sheets.{joined_means, joined_passes, surely_few}
use Rattle.hgn.proofs.Run.Replay.{demand_2}
use Rattle.hgn.proofs.Join.Rule.{demand_3}
use Rattle.hgn.proofs.Listing.Truths.{lines_of_runs}

-- A replay on sheets that pass accepts exactly where its run does, with the run's results.
module _ {shop sheet trace : List ℕ} (k : ReplayCall shop sheet trace) where
  sheet_passes : check_order shop sheet ≡ passed
  sheet_passes = order_of_trace shop sheet trace k.inputs.0

  -- The run of the replay, told as a plan and a last state.
  abbrev Ran : List ℕ → State → Type 0
  Ran plan last = RunsTo (rules_of shop) 0 (problem_of (order sheet)) (steps_of trace) plan last

  accepting_runs : Accepting k → (plan : List ℕ) × (last : State) × Ran plan last
  accepting_runs e =
      let h = ((demand_2 shop sheet trace k.room k.result k.called).accepts_iff.0 e).1 in
      let b = shop_actions shop (shop_of_order shop sheet sheet_passes) in
      (h.0, h.1, (derivation_runs (rules_of shop) (strict_decided most_waiting (domain shop)) b h.2).1)

  -- The replay accepts with this plan and this last state.
  abbrev Gives : List ℕ → State → Type 0
  Gives plan last = Accepts shop trace k.room plan last k.result

  run_accepts : (plan : List ℕ) (last : State) → Ran plan last → Gives plan last
  unfolding goals_of
  run_accepts plan last h =
      (demand_2 shop sheet trace k.room k.result k.called).results plan last k.inputs
      (rw h.plan_is
      (run_derives (rules_of shop) (strict_decided most_waiting (domain shop)) 0 _ (steps_of trace) h.deeds last
      (rw length_enter (order_goals shop sheet sheet_passes)) h.runs))

  plan_is : (plan : List ℕ) (last : State) → Gives plan last → plan_in k ≡ plan
  plan_is plan last a = ap (λ (n : ℕ). take n k.result.room) a.count ∙ a.plan_words

goals_of_law : (o p : Order) → o.goals ≡ p.goals → goals_of o ≡ goals_of p
unfolding goals_of
goals_of_law o p e = ap (enter Network.order none 0) e

module _ (shop first second trace : List ℕ) (one : check_order shop first ≡ passed) (two : check_order shop second ≡ passed) where
  rule_of : JoinRule (rules_of shop) (order first) (order second) (steps_of trace)
  rule_of = demand_3 shop first second one two (rules_of shop) refl (steps_of trace)

  -- Of a sheet that means the join: its lines, and what its waiting goals carry.
  sheet_lines : (joined : List ℕ) → order joined ≡ join (order first) (order second) → (c : ℕ) (cut : CutAt shop first second trace c)
      → lines_in shop joined trace ≡ one_behind_other c (lines_of 0 cut.front.deeds) (lines_of 0 cut.back.deeds)
  sheet_lines joined means c cut =
      let on = (rule_of.results c cut (cut.front_plan ++ cut.back_plan) cut.last).1 (refl, refl) in
      (lines_of_runs shop joined trace).of_accepted on.deeds cut.last (ap (λ (o : Order). run (rules_of shop) 0 (problem_of o) (steps_of trace)) means ∙ on.runs)
      ∙ rule_of.lines c cut _ _ on

  sheet_carries : (joined : List ℕ) → order joined ≡ join (order first) (order second) → (c : ℕ) (cut : CutAt shop first second trace c) (between : State) → cut.between ≡ between
      → Carried (rules_of shop) (order joined) (order first) (order second) (steps_of trace) c between
  sheet_carries joined means c cut between e =
      subst₂ (λ (o : Order) (s : State). Carried (rules_of shop) o (order first) (order second) (steps_of trace) c s) (sym means) e (rule_of.carried c cut)

module _ (shop first second trace : List ℕ)
    (one : check_order shop first ≡ passed) (two : check_order shop second ≡ passed) (steps : TracePassed trace) where
  rule : JoinRule (rules_of shop) (order first) (order second) (steps_of trace)
  rule = rule_of shop first second trace one two

  few : length (order second).goals ≤ most_waiting
  few = order_goals shop second two

  others : ℕ
  others = length (order second).goals

  -- The run of the replay of the back is the back's from the state that the front leaves.
  back_run : {c : ℕ} (p : Parts shop first second trace c) → Accepting p.front → (s : State) → p.front.result.answer.state ≡ s
      → run (rules_of shop) 0 (problem_of (order p.back_order)) (steps_of p.back_trace)
      ≡ run (rules_of shop) 0 (problem_from s (order second)) (drop c (steps_of trace))
  back_run p e s q =
      ap₂ (λ (y : State) (w : List Waiting). run (rules_of shop) 0 (record { state = y; waiting = w }) (steps_of p.back_trace))
      (p.back_start e ∙ q) (goals_of_law _ _ p.back_goals)
      ∙ ap (run (rules_of shop) 0 (problem_from s (order second))) p.back_steps

  -- The replays of the parts of a cut accept with its results, the second's goals counted.
  record Cutted {c : ℕ} (p : Parts shop first second trace c) (cut : CutAt shop first second trace c) : Type 0 where
    front : Gives p.front cut.front_plan cut.between
    counted : Counted (length (order second).goals) (rules_of shop) (problem_of (order first)) (steps_of p.front_trace)
    back : Gives p.back cut.back_plan cut.last
    front_runs : run (rules_of shop) 0 (problem_of (order first)) (steps_of p.front_trace) ≡ accepted cut.front.deeds cut.between
    back_runs : run (rules_of shop) 0 (problem_of (order p.back_order)) (steps_of p.back_trace) ≡ accepted cut.back.deeds cut.last

  cut_ran : {c : ℕ} (p : Parts shop first second trace c) (cut : CutAt shop first second trace c) → Cutted p cut
  unfolding others
  cut_ran p cut =
      let e = ap (run (limited (most_waiting - others) (rules_of shop)) 0 (problem_of (order first))) p.front_steps ∙ cut.front.runs in
      let wide = wider_run (rules_of shop) {small = most_waiting - others} (omega arith) 0 _ _ _ _ e in
      let front = run_accepts p.front cut.front_plan cut.between (record { deeds = cut.front.deeds; runs = wide; plan_is = cut.front.plan_is }) in
      record {
        front = front;
        counted = runs_counted others (rules_of shop) few (problem_of (order first)) _ (_, _, e) (omega (arith, few, cut.front.within));
        back =
            run_accepts p.back cut.back_plan cut.last (record {
              deeds = cut.back.deeds;
              runs = back_run p front.number cut.between front.state ∙ cut.back.runs;
              plan_is = cut.back.plan_is;
            });
        front_runs = wide;
        back_runs = back_run p front.number cut.between front.state ∙ cut.back.runs;
      }

  both_accept : {c : ℕ} (p : Parts shop first second trace c) (cut : CutAt shop first second trace c) → BothAccept p
  both_accept p cut = let t = cut_ran p cut in record { front = t.front.number; counted = t.counted; back = t.back.number }

  -- Parts that both accept are a cut.
  parts_cut : {c : ℕ} (p : Parts shop first second trace c) → BothAccept p → CutAt shop first second trace c
  unfolding others
  parts_cut p b =
      let f = accepting_runs p.front b.front in
      let k = accepting_runs p.back b.back in
      let a = run_accepts p.front f.0 f.1 f.2 in
      record {
        inside = rw (steps_length trace steps) p.inside;
        front_plan = f.0;
        between = f.1;
        front = record {
          within = omega (arith, counted_start others (rules_of shop) few (problem_of (order first)) _ b.counted);
          deeds = f.2.deeds;
          runs =
              ap (run (limited (most_waiting - others) (rules_of shop)) 0 (problem_of (order first))) (sym p.front_steps)
              ∙ counted_runs others (rules_of shop) few (problem_of (order first)) _ f.2.deeds f.1 b.counted f.2.runs;
          plan_is = f.2.plan_is;
        };
        back_plan = k.0;
        last = k.1;
        back = record {
          within = omega (arith, few, goals_length (order second));
          deeds = k.2.deeds;
          runs = sym (back_run p b.front f.1 a.state) ∙ k.2.runs;
          plan_is = k.2.plan_is;
        };
      }

  -- The replay on the join runs the join.
  abbrev both : Order
  both = join (order first) (order second)

  module _ (k : Whole shop first second trace) where
    same_run : run (rules_of shop) 0 (problem_of (order k.joined)) (steps_of trace) ≡ run (rules_of shop) 0 (problem_of both) (steps_of trace)
    same_run = ap (λ (o : Order). run (rules_of shop) 0 (problem_of o) (steps_of trace)) k.means

    to_join : (plan : List ℕ) (last : State) → Ran k.call plan last → OnJoin (rules_of shop) (order first) (order second) (steps_of trace) plan last
    to_join plan last h = record {
      within = omega (arith, goals_length (order k.joined), order_goals shop k.joined (sheet_passes k.call), same_length);
      deeds = h.deeds;
      runs = sym same_run ∙ h.runs;
      plan_is = h.plan_is;
    }
      where
        same_length : length (goals_of both) ≡ length (goals_of (order k.joined))
        same_length = ap (λ (o : Order). length (goals_of o)) (sym k.means)

    from_join : (plan : List ℕ) (last : State) → OnJoin (rules_of shop) (order first) (order second) (steps_of trace) plan last → Ran k.call plan last
    from_join plan last a = record { deeds = a.deeds; runs = same_run ∙ a.runs; plan_is = a.plan_is }

  accepted_cut : (k : Whole shop first second trace) → Accepting k.call ↔ ((c : ℕ) × CutAt shop first second trace c)
  accepted_cut k = (
    (λ e. let t = accepting_runs k.call e in rule.accepted_iff.0 (t.0, t.1, to_join k t.0 t.1 t.2)),
    (λ h. let t = rule.accepted_iff.1 h in (run_accepts k.call t.0 t.1 (from_join k t.0 t.1 t.2)).number),
  )

  -- At a cut the replay on the join accepts with the front's results and then the back's.
  cut_accepts : (k : Whole shop first second trace) (c : ℕ) (cut : CutAt shop first second trace c)
      → Gives k.call (cut.front_plan ++ cut.back_plan) cut.last
  cut_accepts k c cut =
      let plan = cut.front_plan ++ cut.back_plan in
      run_accepts k.call plan cut.last (from_join k plan cut.last ((rule.results c cut plan cut.last).1 (refl, refl)))

  one_after_other : (k : Whole shop first second trace) (c : ℕ) (p : Parts shop first second trace c) → BothAccept p → OneAfterOther k p
  one_after_other k c p b =
      let cut = parts_cut p b in
      let t = cut_ran p cut in
      let plan = cut.front_plan ++ cut.back_plan in
      let w = cut_accepts k c cut in
      record {
        number = w.number;
        place = w.place;
        plan =
            plan_is k.call plan cut.last w
            ∙ ap₂ {C = List ℕ} ◌++◌ (sym (plan_is p.front cut.front_plan cut.between t.front))
            (sym (plan_is p.back cut.back_plan cut.last t.back));
        count = w.count ∙ length-append cut.front_plan cut.back_plan ∙ ap₂ ◌+◌ (sym t.front.count) (sym t.back.count);
        cost = w.cost ∙ cost_append (domain shop) cut.front_plan cut.back_plan ∙ ap₂ ◌+◌ (sym t.front.cost) (sym t.back.cost);
        state = w.state ∙ sym t.back.state;
        lines =
            sheet_lines shop first second trace one two k.joined k.means c cut
            ∙ ap₂ {C = List Line} (one_behind_other c)
            (sym ((lines_of_runs shop first p.front_trace).of_accepted cut.front.deeds cut.between t.front_runs))
            (sym ((lines_of_runs shop p.back_order p.back_trace).of_accepted cut.back.deeds cut.last t.back_runs));
        carried = sheet_carries shop first second trace one two k.joined k.means c cut p.front.result.answer.state (sym t.front.state);
      }

  -- A sheet of more than 64 goals does not pass.
  full : most_waiting < length (order first).goals + length (order second).goals
      → (joined : List ℕ) → order joined ≡ both → check_trace shop joined trace ≡ passed → ⊥
  full m joined means h =
      let few = order_goals shop joined (order_of_trace shop joined trace h) in
      omega (arith, ap (λ (o : Order). length o.goals) means, joined_goals (order first) (order second))

  join_of_replays : JoinOfReplays shop first second trace
  join_of_replays = record {
    accepted_iff = λ k parts. (
      (λ e.
          let t = (accepted_cut k).0 e in
          let h : t.0 ≤ step_count trace = rw⁻¹ (steps_length trace steps) t.1.inside in
          (t.0, h, both_accept (parts t.0 h) t.1)),
      (λ b. (accepted_cut k).1 (b.0, parts_cut (parts b.0 b.1) b.2)),
    );
    one_cut = λ c e p q b f. rule.one_cut c e (parts_cut p b) (parts_cut q f);
    results = one_after_other;
    cut_iff = λ c p. (parts_cut p, both_accept p);
    accepted_cut = accepted_cut;
    too_many = λ m. (
      (λ joined room e means called zero. full m joined means ((demand_2 shop joined trace room e called).accepts_iff.0 zero).0.0),
      (λ c p b. (rule.too_many m).1 c (parts_cut p b)),
    );
  }

-- A replay on sheets that pass, with as much room as the trace has steps.
call_of : (shop sheet trace : List ℕ) → check_order shop sheet ≡ passed → TracePassed trace → ReplayCall shop sheet trace
call_of shop sheet trace h t =
    let room : List ℕ = replicate (step_count trace) 0 in
    record {
      room = room;
      result = replay shop sheet trace room;
      inputs = (passed_trace shop sheet trace h t, omega (arith, length-replicate {A = ℕ} (step_count trace) 0));
      called = refl;
    }

-- An order sheet with the second's goals, from the state that the replay leaves if it accepts.
record Onwards {shop first trace : List ℕ} (second : List ℕ) (k : ReplayCall shop first trace) : Type 0 where
  words : List ℕ
  passes : check_order shop words ≡ passed
  goals : (order words).goals ≡ (order second).goals
  start : Accepting k → start_of (order words) ≡ k.result.answer.state

onwards : (shop first second trace : List ℕ) (k : ReplayCall shop first trace)
    → check_order shop first ≡ passed → check_order shop second ≡ passed → most_atoms + row_count second ≤ most_rows → Onwards second k
onwards shop first second trace k one two few = go (eqb k.result.answer.refusal.number 0) refl
  where
    go : (b : Bool) → eqb k.result.answer.refusal.number 0 ≡ b → Onwards second k
    go true e =
        let d = demand_2 shop first trace k.room k.result k.called in
        let h = (d.accepts_iff.0 (eqb-true _ _ e)).1 in
        let s = (d.results h.0 h.1 k.inputs h.2).state in
        let f = from_state shop second two few h.1 (last_fits shop first one h.2) in
        record { words = f.words; passes = f.passes; goals = f.goals; start = λ _. f.start ∙ sym s }
    go false e = record { words = second; passes = two; goals = refl; start = λ z. absurd (eqb-false _ _ e z) }

parts_are_there : (shop first second trace : List ℕ)
    → check_order shop first ≡ passed → check_order shop second ≡ passed → TracePassed trace
    → most_atoms + row_count second ≤ most_rows → (c : ℕ) → c ≤ step_count trace → Parts shop first second trace c
parts_are_there shop first second trace one two steps few c h =
    let front = call_of shop first (front_of c trace) one (front_passes trace steps c) in
    let next = onwards shop first second (front_of c trace) front one two few in
    record {
      inside = h;
      front_trace = front_of c trace;
      front_steps = front_steps_law trace steps c;
      front = front;
      back_order = next.words;
      back_goals = next.goals;
      back_start = next.start;
      back_trace = back_of c trace;
      back_steps = back_steps_law trace steps c;
      back = call_of shop next.words (back_of c trace) next.passes (back_passes trace steps c);
    }

pub demand_3_of_replays : Demand3OfReplays
demand_3_of_replays = record {
  join_of_replays = λ shop first second trace one two.
      join_of_replays shop first second trace (order_of_trace shop first trace one) (order_of_trace shop second trace two) (trace_passed shop first trace one);
  calls_are_there = λ shop first second trace one two.
      let h = order_of_trace shop first trace one in
      let k = order_of_trace shop second trace two in
      let steps = trace_passed shop first trace one in
      record {
        whole = λ goals few.
            record {
              joined = joined_words first second;
              means = joined_means shop first second h k;
              call =
                  call_of shop (joined_words first second) trace
                  (joined_passes shop first second h k goals (surely_few shop first second h k few)) steps;
            };
        parts = parts_are_there shop first second trace h k steps;
      };
}

-- The same of the sheet that the join's call wrote.

module _ (shop first second room : List ℕ) (c : Lent (List ℕ)) (called : c ≡ write_join shop first second room) (zero : c.refusal.number ≡ 0) where
  written : IsJoin shop first second room c
  written = joined_is_join shop first second room c called zero

  both_pass : BothPass shop first second
  both_pass = (wrote shop first second room c called zero).both

  -- Replays of the written sheet are replays on the join.
  abbrev whole_of : (trace : List ℕ) → ReplayCall shop (sheet_in c.room) trace → Whole shop first second trace
  whole_of trace k = record { joined = sheet_in c.room; means = written.means; call = k }

  module _ (trace plan : List ℕ) (e : Replayed) (replayed : e ≡ replay shop (sheet_in c.room) trace plan) where
    -- A trace that passes with one of the sheets passes with the other.
    to_first : InputsPass shop (sheet_in c.room) trace plan → InputsPass shop first trace plan
    to_first h = (passed_trace shop first trace both_pass.0 (trace_passed shop (sheet_in c.room) trace h.0), h.1)

    abbrev call : InputsPass shop first trace plan → ReplayCall shop (sheet_in c.room) trace
    call h = record {
      room = plan;
      result = e;
      inputs = (passed_trace shop (sheet_in c.room) trace written.passes (trace_passed shop first trace h.0), h.1);
      called = replayed;
    }

    accepts : (h : InputsPass shop first trace plan) (d : ℕ) (cut : CutAt shop first second trace d)
        → Accepts shop trace plan (cut.front_plan ++ cut.back_plan) cut.last e
    accepts h d cut =
        cut_accepts shop first second trace both_pass.0 both_pass.1 (trace_passed shop first trace h.0) (whole_of trace (call h)) d cut

    sheet_rule : RuleOfSheet shop first second (sheet_in c.room) trace plan e
    sheet_rule = record {
      accepted_iff = (
        (λ z.
            let h = to_first ((demand_2 shop (sheet_in c.room) trace plan e replayed).accepts_iff.0 z).0 in
            (h, (accepted_cut shop first second trace both_pass.0 both_pass.1 (trace_passed shop first trace h.0) (whole_of trace (call h))).0 z)),
        (λ h. (accepts h.0 h.1.0 h.1.1).number),
      );
      one_cut = (demand_3 shop first second both_pass.0 both_pass.1 (rules_of shop) refl (steps_of trace)).one_cut;
      results = accepts;
      cost = λ h d cut. (accepts h d cut).cost ∙ cost_append (domain shop) cut.front_plan cut.back_plan;
      lines = sheet_lines shop first second trace both_pass.0 both_pass.1 (sheet_in c.room) written.means;
      carried = λ d cut. sheet_carries shop first second trace both_pass.0 both_pass.1 (sheet_in c.room) written.means d cut cut.between refl;
    }

pub join_rule_of_sheet : JoinRuleOfSheet
join_rule_of_sheet = sheet_rule

pub demand_3_of_calls : Demand3OfCalls
demand_3_of_calls shop first second room c called zero trace passes =
    let both = both_pass shop first second room c called zero in
    let rule = join_of_replays shop first second trace both.0 both.1 (trace_passed shop first trace passes) in
    let whole = whole_of shop first second room c called zero trace in
    record {
      means = (written shop first second room c called zero).means;
      accepted_iff = λ k. rule.accepted_iff (whole k);
      one_cut = rule.one_cut;
      results = λ k. rule.results (whole k);
    }
