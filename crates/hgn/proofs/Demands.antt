-- Every statement of the pages `specs/Demands.antt` and `specs/Readings.antt` is proved. Assumes nothing.
use mathlib.Core.Path.{refl}
use Rattle.hgn.specs.Demands.{Promised}
use Rattle.hgn.specs.Readings.{Read}
use Rattle.hgn.proofs.Questions.Answers.{demand_1}
use Rattle.hgn.proofs.Run.Replay.{demand_2}
use Rattle.hgn.proofs.Search.Search.{demand_2_of_search, search_agrees_with_replay}
use Rattle.hgn.proofs.Join.Rule.{demand_3}
use Rattle.hgn.proofs.Join.Replays.{demand_3_of_replays, join_rule_of_sheet, demand_3_of_calls}
use Rattle.hgn.proofs.Join.Call.{joined_is_join, either_grouping, refused_joins}
use Rattle.hgn.proofs.Run.Unmet.{unmet_is_named, unmet_is_first, tests_tell_first}
use Rattle.hgn.proofs.Listing.Origins.{origins_are_true}
use Rattle.hgn.proofs.Listing.Parents.{parents_wait}
use Rattle.hgn.proofs.Listing.Lines.{one_line_a_goal}
use Rattle.hgn.proofs.Listing.Truths.{lines_of_runs, numbers_are_02s}
use Rattle.hgn.proofs.Logic.Relevance.{relevance_tells, relevant_is_helping}
use Rattle.hgn.proofs.Sheets.Written.{sheets_are_written}
use Rattle.hgn.proofs.Run.Derivation.{accepted_is_derivation}
use Rattle.hgn.proofs.Questions.Order.{questions_in_order}
use Rattle.hgn.proofs.Join.Goals.{first_before_second, joins_are_01s, goals_after_listed}
use Rattle.hgn.proofs.Network.Precedes.{networks_are_000s}
use Rattle.hgn.proofs.Network.Places.{places_are_01s}
use Rattle.hgn.proofs.Sheets.Checked.{methods_end_in_goals}
use Rattle.hgn.proofs.Run.Effects.{effects_are_gamma, states_are_sets}
use Rattle.hgn.proofs.Run.Relevance.{opposite_is_negation, relevance_is_000s, rules_are_000s}
use Rattle.hgn.proofs.Run.Costs.{costs_are_sums}
use Rattle.hgn.proofs.Search.Best.{earlier_is_01s}

pub promised : Promised
promised = record {
  demand_1 = demand_1;
  demand_2 = demand_2;
  demand_2_of_search = demand_2_of_search;
  search_agrees_with_replay = search_agrees_with_replay;
  demand_3 = demand_3;
  demand_3_of_replays = demand_3_of_replays;
  unmet_is_named = unmet_is_named;
  unmet_is_first = unmet_is_first;
  tests_tell_first = tests_tell_first;
  joined_is_join = joined_is_join;
  join_rule_of_sheet = join_rule_of_sheet;
  demand_3_of_calls = demand_3_of_calls;
  either_grouping = either_grouping;
  refused_joins = refused_joins;
  origins_are_true = origins_are_true;
  parents_wait = parents_wait;
  one_line_a_goal = one_line_a_goal;
  lines_of_runs = lines_of_runs;
  numbers_are_02s = numbers_are_02s;
  relevance_tells = relevance_tells;
  relevant_is_helping = relevant_is_helping;
}

pub read : Read
read = record {
  sheets_are_written = sheets_are_written;
  accepted_is_derivation = accepted_is_derivation;
  questions_in_order = questions_in_order;
  first_before_second = first_before_second;
  joins_are_01s = joins_are_01s;
  goals_after_listed = goals_after_listed;
  networks_are_000s = networks_are_000s;
  places_are_01s = places_are_01s;
  methods_end_in_goals = methods_end_in_goals;
  effects_are_gamma = effects_are_gamma;
  states_are_sets = states_are_sets;
  opposite_is_negation = opposite_is_negation;
  relevance_is_000s = relevance_is_000s;
  rules_are_000s = rules_are_000s;
  limits_are_01s = record { waiting = λ shop. refl; depth = refl };
  costs_are_sums = costs_are_sums;
  earlier_is_01s = earlier_is_01s;
}
