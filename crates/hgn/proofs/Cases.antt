-- Document 01's marked cases and a case for each question, by computation.
use mathlib.Core.Path.{refl}
use mathlib.Core.List.{zip_with, flatten, flat_map, head_d}
use Rattle.hgn.specs.Cases.{MarkedCases}
use Rattle.hgn.specs.QuestionCases.{repeated, QuestionCases}
use Rattle.hgn.specs.JoinCases.{JoinCases}
use Rattle.hgn.specs.ListingCases.{ListingCases}
use Rattle.hgn.specs.RelevanceCases.{RelevanceCases}
use Rattle.hgn.specs.Relevance.{relevance}
use Rattle.hgn.specs.Listing.{lines_at, lines_of, lines_in}
use Rattle.hgn.specs.Lists.{any, all, filter, take_until, drop_until, find, split_at_each, elem, range, first_some}
use Rattle.hgn.specs.Tag.{shop_follow, order_follow, context_after, begins, least_here, advance, in_range, rises}
use Rattle.hgn.specs.Questions.{all_at, first_no}
use Rattle.hgn.specs.Rows.{rows_of, row_words, values_tagged}
use Rattle.hgn.specs.RowQuestions.{row_questions, position_after}
use Rattle.hgn.specs.Meaning.{literals, node_of, nodes_of, first_value, action_of, method_of, starts_with, domain_of, order_of, last_of, goal_of, last_after_all, network_of}
use Rattle.hgn.specs.State.{empty_state, assign, literal_holds, all_hold, formula_holds, unmet, unmet_goal, atoms_of, γ, contains, relevant}
use Rattle.hgn.specs.Network.{step_number, method_number, above_from, same_origin, same_name, is_parent, comes_after, free, any_free, enter, goals_of, released, decomposed}
use Rattle.hgn.specs.Run as Run
use Rattle.hgn.specs.Shop as Shop
use Rattle.hgn.specs.Order as Order
use Rattle.hgn.specs.Trace.{steps_of, trace_words, trace_questions, check_trace}
use Rattle.hgn.specs.Lent.{unwritten, overwritten, asking, writing}
use Rattle.hgn.specs.JoinSheet.{raised_row, joined_rows, joined_words, join_questions, write_join}
use Rattle.hgn.specs.Search as Search
use Rattle.hgn.specs.Replay.{refusal, acceptance, reported, input_questions, check_replay, replay}

pub marked_cases : MarkedCases
unfolding any all filter take_until split_at_each elem range shop_follow order_follow context_after begins least_here advance in_range rises rows_of values_tagged literals
    node_of nodes_of first_value action_of method_of starts_with domain_of order_of last_of goal_of last_after_all network_of empty_state assign literal_holds all_hold
    formula_holds unmet unmet_goal atoms_of γ contains relevant same_origin same_name is_parent comes_after free any_free enter goals_of released decomposed Run.move_of
    Run.known Run.moved Run.own_questions Run.step_questions Run.deed_of Run.stepped Run.prepend Run.end_questions Run.ended Run.run_by Run.plan_of
    Run.start_of Run.cost_of all_at first_no row_questions position_after Shop.shop_rows Shop.domain Shop.sizes_in_range Shop.node_rules Shop.method_questions
    Shop.shop_end_questions Shop.shop_questions Order.order_rows Order.order Order.sizes_in_range Order.order_end_questions Order.order_questions steps_of
    trace_questions refusal acceptance reported input_questions check_replay replay zip_with flatten head_d
marked_cases = refl

pub question_cases : QuestionCases
unfolding any all filter take_until split_at_each elem shop_follow order_follow context_after begins least_here advance in_range rises rows_of values_tagged literals
    node_of nodes_of first_value action_of method_of starts_with domain_of order_of last_of goal_of last_after_all network_of empty_state assign literal_holds all_hold
    formula_holds unmet unmet_goal atoms_of γ contains relevant same_origin same_name is_parent comes_after free any_free enter goals_of released decomposed Run.move_of
    Run.known Run.moved Run.own_questions Run.step_questions Run.deed_of Run.stepped Run.prepend Run.end_questions Run.ended Run.run_by Run.plan_of
    Run.start_of Run.cost_of all_at first_no row_questions position_after Shop.shop_rows Shop.domain Shop.sizes_in_range Shop.node_rules Shop.method_questions
    Shop.shop_end_questions Shop.shop_questions Order.order_rows Order.order Order.sizes_in_range Order.order_end_questions Order.order_questions steps_of
    trace_words trace_questions check_trace refusal acceptance reported input_questions check_replay replay zip_with flatten head_d range first_some
    Search.moves_of Search.steps_at Search.candidates Search.no_steps Search.first_of Search.first_shortest Search.is_found Search.steps_found
    Search.searched Search.written Search.search_questions Search.search unwritten overwritten asking Shop.check_shop Order.check_order repeated
question_cases = record { sheets = refl; follows_in_shop = refl; follows_in_order = refl; steps = refl; searches = refl }

pub join_cases_law : JoinCases
unfolding any all take_until drop_until split_at_each elem shop_follow order_follow context_after begins least_here advance in_range rises rows_of row_words values_tagged literals
    node_of nodes_of first_value action_of method_of starts_with domain_of order_of first_no row_questions position_after Shop.shop_rows Shop.domain
    Shop.sizes_in_range Shop.node_rules Shop.method_questions Shop.shop_end_questions Shop.shop_questions Order.order_rows Order.order Order.sizes_in_range
    Order.order_end_questions Order.order_questions zip_with flat_map range filter raised_row joined_rows joined_words join_questions write_join unwritten overwritten asking
    writing repeated
join_cases_law = refl

pub listing_cases : ListingCases
unfolding any all filter take_until split_at_each elem range rows_of values_tagged literals node_of nodes_of first_value action_of method_of starts_with domain_of order_of last_of goal_of
    last_after_all network_of empty_state assign literal_holds all_hold formula_holds unmet unmet_goal atoms_of γ contains relevant step_number method_number above_from
    same_origin same_name is_parent comes_after free any_free enter goals_of released decomposed Run.move_of Run.known Run.moved Run.own_questions Run.step_questions
    Run.deed_of Run.stepped Run.prepend Run.end_questions Run.ended Run.run_by Run.start_of all_at first_no Shop.shop_rows Shop.domain Order.order_rows Order.order
    steps_of lines_at lines_of lines_in zip_with flatten head_d
listing_cases = refl

pub relevance_cases : RelevanceCases
unfolding any find contains relevance
relevance_cases = refl
