-- A case for each question of document 01, "Questions", but 27: sheets at which it is answered no, and where that can be the question behind
-- it too, with the number and the place that are told. Then replays, with the atom that each names, and searches that tell apart what the
-- marked cases do not. 27 has none: a node is listed after lower ones only and a method's nodes enter before their goal, so the first goal of
-- every list that a replay comes to is free, which is not proved here.
use Rattle.std.specs.Prelude.{ℕ, zero, suc, ◌+◌, ◌≡◌, not, ◌&&◌, List, [], ◌∷◌, ◌++◌, map, eqb, length}
use Rattle.hgn.specs.Lists.{filter, range}
use Rattle.hgn.specs.Questions.{Refusal, answered}
use Rattle.hgn.specs.Shop.{check_shop}
use Rattle.hgn.specs.Order.{check_order}
use Rattle.hgn.specs.Trace.{check_trace}
use Rattle.hgn.specs.Search.{Searched, search}
use Rattle.hgn.specs.Cases.{Case, lent, core_shop, core_order, no_goals_order, refused_case, core_refused, expected, computed}

-- Three sheets, asked one after the other, and what is told.
pub record SheetCase : Type 0 where
  pub shop : List ℕ
  pub order : List ℕ
  pub trace : List ℕ
  pub number : ℕ
  pub place : ℕ

-- A shop sheet is refused; no words of an order or of a trace.
abbrev pub of_shop : List ℕ → ℕ → ℕ → SheetCase
of_shop shop number place = record { shop = shop; order = []; trace = []; number = number; place = place }

-- A shop of one atom and no rows, and an order sheet that is refused.
abbrev pub of_order : List ℕ → ℕ → ℕ → SheetCase
of_order order number place = record { shop = 1 ∷ 0 ∷ 0 ∷ 0 ∷ []; order = order; trace = []; number = number; place = place }

-- A shop of one atom and no rows, an order without goals, and a trace.
abbrev pub of_trace : List ℕ → ℕ → ℕ → SheetCase
of_trace trace number place = record { shop = 1 ∷ 0 ∷ 0 ∷ 0 ∷ []; order = 1 ∷ 0 ∷ 0 ∷ []; trace = trace; number = number; place = place }

-- These words so many times.
unfoldable pub repeated : ℕ → List ℕ → List ℕ
repeated zero words = []
repeated (suc n) words = words ++ repeated n words

abbrev pub sheet_cases : List SheetCase
sheet_cases =
    -- No words: 1 before 2. One word too few. Sizes and length wrong: 2 before 3. Length and a tag wrong: 3 before 4.
    of_shop [] 1 0
    ∷ of_shop (1 ∷ 0 ∷ 0 ∷ []) 1 0
    ∷ of_shop (0 ∷ 0 ∷ 0 ∷ 0 ∷ 0 ∷ []) 2 0
    ∷ of_shop ((1 ∷ 0 ∷ 0 ∷ 1 ∷ []) ++ (9 ∷ 0 ∷ 0 ∷ [])) 3 0
    -- Tag and value of row 1 wrong: 4 before 5. A value of row 1 wrong. Row 2 does not rise, and the sheet ends there: 6 before 7.
    ∷ of_shop ((1 ∷ 1 ∷ 0 ∷ 2 ∷ []) ++ (1 ∷ 7 ∷ []) ++ (0 ∷ 9 ∷ [])) 4 1
    ∷ of_shop ((1 ∷ 1 ∷ 0 ∷ 2 ∷ []) ++ (1 ∷ 3 ∷ []) ++ (0 ∷ 1 ∷ [])) 5 1
    ∷ of_shop ((1 ∷ 0 ∷ 1 ∷ 3 ∷ []) ++ (2 ∷ 3 ∷ 3 ∷ []) ++ (0 ∷ 0 ∷ 0 ∷ [])) 6 2
    -- Row 2 does not rise, and the tag of row 3 is wrong: all questions of a row before those of the next.
    ∷ of_shop ((1 ∷ 0 ∷ 1 ∷ 4 ∷ []) ++ (2 ∷ 3 ∷ 3 ∷ 1 ∷ []) ++ (0 ∷ 0 ∷ 0 ∷ 0 ∷ [])) 6 2
    -- Nor does row 2 in the group of 5 and 6, row 5 in that of 11, row 4 in that of 9 and 10.
    ∷ of_shop ((1 ∷ 1 ∷ 0 ∷ 3 ∷ []) ++ (1 ∷ 5 ∷ 6 ∷ []) ++ (0 ∷ 0 ∷ 0 ∷ [])) 6 2
    ∷ of_shop ((1 ∷ 0 ∷ 1 ∷ 6 ∷ []) ++ (2 ∷ 7 ∷ 8 ∷ 7 ∷ 11 ∷ 11 ∷ []) ++ repeated 6 (0 ∷ [])) 6 5
    ∷ of_shop ((1 ∷ 0 ∷ 1 ∷ 5 ∷ []) ++ (2 ∷ 7 ∷ 8 ∷ 9 ∷ 10 ∷ []) ++ repeated 5 (0 ∷ [])) 6 4
    -- The values of 2, 7 and 8 are 0.
    ∷ of_shop ((1 ∷ 0 ∷ 1 ∷ 1 ∷ []) ++ (2 ∷ 1 ∷ [])) 5 0
    ∷ of_shop ((1 ∷ 0 ∷ 1 ∷ 2 ∷ []) ++ (2 ∷ 7 ∷ []) ++ (0 ∷ 1 ∷ [])) 5 1
    ∷ of_shop ((1 ∷ 0 ∷ 1 ∷ 3 ∷ []) ++ (2 ∷ 7 ∷ 8 ∷ []) ++ (0 ∷ 0 ∷ 1 ∷ [])) 5 2
    -- The first node is listed after itself; and so is the first node of the second method, since each method counts its own nodes.
    ∷ of_shop ((1 ∷ 0 ∷ 1 ∷ 4 ∷ []) ++ (2 ∷ 7 ∷ 11 ∷ 8 ∷ []) ++ repeated 4 (0 ∷ [])) 5 2
    ∷ of_shop ((1 ∷ 0 ∷ 2 ∷ 7 ∷ []) ++ (2 ∷ 7 ∷ 8 ∷ 2 ∷ 7 ∷ 11 ∷ 8 ∷ []) ++ repeated 7 (0 ∷ [])) 5 5
    -- It ends in a method's head, and M is 0: 7 before 8. M is 0, and the method has two alternatives at its end: 8 before 9.
    ∷ of_shop ((1 ∷ 0 ∷ 0 ∷ 1 ∷ []) ++ (2 ∷ 0 ∷ [])) 7 0
    ∷ of_shop ((1 ∷ 0 ∷ 0 ∷ 4 ∷ []) ++ (2 ∷ 7 ∷ 8 ∷ 8 ∷ []) ++ (0 ∷ 0 ∷ 0 ∷ 0 ∷ [])) 8 0
    -- K is 1, and there is no action.
    ∷ of_shop (1 ∷ 1 ∷ 0 ∷ 0 ∷ []) 8 0
    -- A method's last node has an 11 row; a method has 64 nodes.
    ∷ of_shop ((1 ∷ 0 ∷ 1 ∷ 6 ∷ []) ++ (2 ∷ 7 ∷ 8 ∷ 7 ∷ 11 ∷ 8 ∷ []) ++ repeated 6 (0 ∷ [])) 9 0
    ∷ of_shop ((1 ∷ 0 ∷ 1 ∷ 129 ∷ []) ++ (2 ∷ repeated 64 (7 ∷ 8 ∷ [])) ++ repeated 129 (0 ∷ [])) 9 0
    -- The second of two methods has two alternatives at its end, and the order no words: 9 before 11.
    ∷ of_shop ((1 ∷ 0 ∷ 2 ∷ 7 ∷ []) ++ (2 ∷ 7 ∷ 8 ∷ 2 ∷ 7 ∷ 8 ∷ 8 ∷ []) ++ (0 ∷ 0 ∷ 0 ∷ 0 ∷ 0 ∷ 0 ∷ 0 ∷ [])) 9 1
    -- The limits of F, K, M and N, and one more of each: what passes 2 is refused by a later question.
    ∷ of_shop (256 ∷ 0 ∷ 0 ∷ 0 ∷ []) 11 0
    ∷ of_shop (257 ∷ 0 ∷ 0 ∷ 0 ∷ []) 2 0
    ∷ of_shop (1 ∷ 255 ∷ 0 ∷ 0 ∷ []) 8 0
    ∷ of_shop (1 ∷ 256 ∷ 0 ∷ 0 ∷ []) 2 0
    ∷ of_shop (1 ∷ 0 ∷ 255 ∷ 0 ∷ []) 8 0
    ∷ of_shop (1 ∷ 0 ∷ 256 ∷ 0 ∷ []) 2 0
    ∷ of_shop (1 ∷ 0 ∷ 0 ∷ 4000 ∷ []) 3 0
    ∷ of_shop (1 ∷ 0 ∷ 0 ∷ 4001 ∷ []) 2 0
    -- No words: 11 before 12. One word too few. Another F and a wrong length: 12 before 13. Length and a tag wrong: 13 before 14.
    ∷ of_order [] 11 0
    ∷ of_order (1 ∷ 0 ∷ []) 11 0
    ∷ of_order (2 ∷ 0 ∷ 0 ∷ 0 ∷ []) 12 0
    ∷ of_order ((1 ∷ 0 ∷ 1 ∷ []) ++ (9 ∷ 0 ∷ 0 ∷ [])) 13 0
    -- Tag and value of row 1 wrong: 14 before 15. A value of row 3 wrong. Row 1 does not rise, and the sheet ends in a node: 16 before 17.
    ∷ of_order ((1 ∷ 1 ∷ 2 ∷ []) ++ (7 ∷ 9 ∷ []) ++ (0 ∷ 9 ∷ [])) 14 1
    ∷ of_order ((1 ∷ 1 ∷ 4 ∷ []) ++ (12 ∷ 7 ∷ 8 ∷ 9 ∷ []) ++ (0 ∷ 0 ∷ 0 ∷ 1 ∷ [])) 15 3
    ∷ of_order ((1 ∷ 1 ∷ 3 ∷ []) ++ (12 ∷ 12 ∷ 7 ∷ []) ++ (0 ∷ 0 ∷ 0 ∷ [])) 16 1
    -- It ends in a node, and G is 2: 17 before 18. G is 1 of no goals, and the trace has no words: 18 before 21.
    ∷ of_order ((1 ∷ 2 ∷ 1 ∷ []) ++ (7 ∷ 0 ∷ [])) 17 0
    ∷ of_order (1 ∷ 1 ∷ 0 ∷ []) 18 0
    -- The limits of G and N, and one more of each.
    ∷ of_order (1 ∷ 64 ∷ 0 ∷ []) 18 0
    ∷ of_order (1 ∷ 65 ∷ 0 ∷ []) 12 0
    ∷ of_order (1 ∷ 0 ∷ 4000 ∷ []) 13 0
    ∷ of_order (1 ∷ 0 ∷ 4001 ∷ []) 12 0
    -- No words. L 4,097 and a wrong length: 22 before 23. L 4,096 and a wrong length. All pass.
    ∷ of_trace [] 21 0
    ∷ of_trace (4097 ∷ []) 22 0
    ∷ of_trace (4096 ∷ []) 23 0
    ∷ of_trace (0 ∷ []) 0 0
    ∷ []

-- Which tag may follow: tags of a sheet's rows, and those of 0 to 13 that are allowed behind them.
pub record FollowCase : Type 0 where
  pub tags : List ℕ
  pub allowed : List ℕ

abbrev pub follow : List ℕ → List ℕ → FollowCase
follow tags allowed = record { tags = tags; allowed = allowed }

-- "at the start 1 or 2; after 1, or 3 or 4 of an action: 3, 4, 5, 6, 1, 2; after 5 or 6: 5, 6, 1, 2; after 2, or 3 or 4 of a method: 3, 4, 7;
-- after 7 or 11: 11, 8; after 8, 9 or 10: 9, 10, 8, 7, 2".
abbrev pub shop_follows : List FollowCase
shop_follows =
    follow [] (1 ∷ 2 ∷ [])
    ∷ follow (1 ∷ []) (1 ∷ 2 ∷ 3 ∷ 4 ∷ 5 ∷ 6 ∷ [])
    ∷ follow (1 ∷ 3 ∷ []) (1 ∷ 2 ∷ 3 ∷ 4 ∷ 5 ∷ 6 ∷ [])
    ∷ follow (1 ∷ 4 ∷ []) (1 ∷ 2 ∷ 3 ∷ 4 ∷ 5 ∷ 6 ∷ [])
    ∷ follow (1 ∷ 5 ∷ []) (1 ∷ 2 ∷ 5 ∷ 6 ∷ [])
    ∷ follow (1 ∷ 6 ∷ []) (1 ∷ 2 ∷ 5 ∷ 6 ∷ [])
    ∷ follow (2 ∷ []) (3 ∷ 4 ∷ 7 ∷ [])
    ∷ follow (2 ∷ 3 ∷ []) (3 ∷ 4 ∷ 7 ∷ [])
    ∷ follow (2 ∷ 4 ∷ []) (3 ∷ 4 ∷ 7 ∷ [])
    ∷ follow (2 ∷ 7 ∷ []) (8 ∷ 11 ∷ [])
    ∷ follow (2 ∷ 7 ∷ 8 ∷ 7 ∷ 11 ∷ []) (8 ∷ 11 ∷ [])
    ∷ follow (2 ∷ 7 ∷ 8 ∷ []) (2 ∷ 7 ∷ 8 ∷ 9 ∷ 10 ∷ [])
    ∷ follow (2 ∷ 7 ∷ 8 ∷ 9 ∷ []) (2 ∷ 7 ∷ 8 ∷ 9 ∷ 10 ∷ [])
    ∷ follow (2 ∷ 7 ∷ 8 ∷ 10 ∷ []) (2 ∷ 7 ∷ 8 ∷ 9 ∷ 10 ∷ [])
    ∷ []

-- "In an order sheet: at the start and after 12: 12, 7; after 7 or 11: 11, 8; after 8, 9 or 10: 9, 10, 8, 7."
abbrev pub order_follows : List FollowCase
order_follows =
    follow [] (7 ∷ 12 ∷ [])
    ∷ follow (12 ∷ []) (7 ∷ 12 ∷ [])
    ∷ follow (7 ∷ []) (8 ∷ 11 ∷ [])
    ∷ follow (7 ∷ 8 ∷ 7 ∷ 11 ∷ []) (8 ∷ 11 ∷ [])
    ∷ follow (7 ∷ 8 ∷ []) (7 ∷ 8 ∷ 9 ∷ 10 ∷ [])
    ∷ follow (7 ∷ 8 ∷ 9 ∷ []) (7 ∷ 8 ∷ 9 ∷ 10 ∷ [])
    ∷ follow (7 ∷ 8 ∷ 10 ∷ []) (7 ∷ 8 ∷ 9 ∷ 10 ∷ [])
    ∷ []

-- N, then these tags, then a value 0 for each.
abbrev pub zero_rows : List ℕ → List ℕ
zero_rows tags = length tags ∷ tags ++ repeated (length tags) (0 ∷ [])

abbrev pub shop_told : List ℕ → Refusal
shop_told tags = answered (check_shop ((1 ∷ 0 ∷ 0 ∷ []) ++ zero_rows tags))

abbrev pub order_told : List ℕ → Refusal
order_told tags = answered (check_order (1 ∷ 0 ∷ 0 ∷ 0 ∷ []) ((1 ∷ 0 ∷ []) ++ zero_rows tags))

-- The tags behind which the sheet is not refused by this question at that row.
abbrev pub allowed_by : (List ℕ → Refusal) → ℕ → FollowCase → List ℕ
allowed_by answer_for q c =
    filter (λ t. not (eqb (answer_for (c.tags ++ (t ∷ []))).number q && eqb (answer_for (c.tags ++ (t ∷ []))).place (length c.tags))) (range 0 14)

abbrev pub answer_for : SheetCase → Refusal
answer_for c = answered (check_trace c.shop c.order c.trace)

abbrev pub refusal_of : SheetCase → Refusal
refusal_of c = record { number = c.number; place = c.place }

-- Two atoms. An action of cost 7 that needs atom 0 false and makes atom 1 true.
abbrev pub false_shop : List ℕ
false_shop = (2 ∷ 1 ∷ 0 ∷ 3 ∷ []) ++ (1 ∷ 4 ∷ 5 ∷ []) ++ (7 ∷ 0 ∷ 1 ∷ [])

-- Atom 0 is true at first. One goal: atom 1 true; or, in the second, atom 0 false.
abbrev pub want_true : List ℕ
want_true = (2 ∷ 1 ∷ 4 ∷ []) ++ (12 ∷ 7 ∷ 8 ∷ 9 ∷ []) ++ (0 ∷ 0 ∷ 0 ∷ 1 ∷ [])

abbrev pub want_false : List ℕ
want_false = (2 ∷ 1 ∷ 4 ∷ []) ++ (12 ∷ 7 ∷ 8 ∷ 10 ∷ []) ++ (0 ∷ 0 ∷ 0 ∷ 0 ∷ [])

-- Three atoms. An action of cost 3 that makes atom 2 true, and one of cost 10 that makes atom 0 true.
abbrev pub third_shop : List ℕ
third_shop = (3 ∷ 2 ∷ 0 ∷ 4 ∷ []) ++ (1 ∷ 5 ∷ 1 ∷ 5 ∷ []) ++ (3 ∷ 2 ∷ 10 ∷ 0 ∷ [])

-- One goal with three alternatives: atom 0, atom 1, or atom 2.
abbrev pub third_order : List ℕ
third_order = (3 ∷ 1 ∷ 7 ∷ []) ++ (7 ∷ 8 ∷ 9 ∷ 8 ∷ 9 ∷ 8 ∷ 9 ∷ []) ++ (0 ∷ 0 ∷ 0 ∷ 0 ∷ 1 ∷ 0 ∷ 2 ∷ [])

-- For the long core's shop: one goal, atom 0; and two goals, atom 0 and atom 3, neither after the other.
abbrev pub bark_order : List ℕ
bark_order = (4 ∷ 1 ∷ 3 ∷ []) ++ (7 ∷ 8 ∷ 9 ∷ []) ++ (0 ∷ 0 ∷ 0 ∷ [])

abbrev pub pair_order : List ℕ
pair_order = (4 ∷ 2 ∷ 6 ∷ []) ++ (7 ∷ 8 ∷ 9 ∷ 7 ∷ 8 ∷ 9 ∷ []) ++ (0 ∷ 0 ∷ 0 ∷ 0 ∷ 0 ∷ 3 ∷ [])

-- One atom, no actions, and a method of one node, which wants it true.
abbrev pub full_shop : List ℕ
full_shop = (1 ∷ 0 ∷ 1 ∷ 4 ∷ []) ++ (2 ∷ 7 ∷ 8 ∷ 9 ∷ []) ++ (0 ∷ 0 ∷ 0 ∷ 0 ∷ [])

-- An order of 64 goals that want the atom true; one of 63 such goals; and one of 64 goals that want nothing.
abbrev pub full_order : List ℕ
full_order = (1 ∷ 64 ∷ 192 ∷ []) ++ repeated 64 (7 ∷ 8 ∷ 9 ∷ []) ++ repeated 192 (0 ∷ [])

abbrev pub less_than_full_order : List ℕ
less_than_full_order = (1 ∷ 63 ∷ 189 ∷ []) ++ repeated 63 (7 ∷ 8 ∷ 9 ∷ []) ++ repeated 189 (0 ∷ [])

abbrev pub want_nothing : List ℕ
want_nothing = (1 ∷ 64 ∷ 128 ∷ []) ++ repeated 64 (7 ∷ 8 ∷ []) ++ repeated 128 (0 ∷ [])

-- One goal, atom 0 true, of one atom.
abbrev pub want_one : List ℕ
want_one = (1 ∷ 1 ∷ 3 ∷ []) ++ (7 ∷ 8 ∷ 9 ∷ []) ++ repeated 3 (0 ∷ [])

-- A method that needs atom 0, for atom 0; and one that needs atom 0, for atom 1, with an order of one goal, atom 0.
abbrev pub needing_shop : List ℕ
needing_shop = (1 ∷ 0 ∷ 1 ∷ 5 ∷ []) ++ (2 ∷ 3 ∷ 7 ∷ 8 ∷ 9 ∷ []) ++ repeated 5 (0 ∷ [])

abbrev pub needing_other : List ℕ
needing_other = (2 ∷ 0 ∷ 1 ∷ 5 ∷ []) ++ (2 ∷ 3 ∷ 7 ∷ 8 ∷ 9 ∷ []) ++ (0 ∷ 0 ∷ 0 ∷ 0 ∷ 1 ∷ [])

abbrev pub want_first : List ℕ
want_first = (2 ∷ 1 ∷ 3 ∷ []) ++ (7 ∷ 8 ∷ 9 ∷ []) ++ (0 ∷ 0 ∷ 0 ∷ [])

-- An action that makes atom 0 false, and a goal that wants it false, where it is true at first.
abbrev pub clear_shop : List ℕ
clear_shop = (1 ∷ 1 ∷ 0 ∷ 2 ∷ []) ++ (1 ∷ 6 ∷ []) ++ (0 ∷ 0 ∷ [])

abbrev pub want_clear : List ℕ
want_clear = (1 ∷ 1 ∷ 4 ∷ []) ++ (12 ∷ 7 ∷ 8 ∷ 10 ∷ []) ++ repeated 4 (0 ∷ [])

-- An action that makes atom 0 true and atom 1 false, and a goal that wants both true.
abbrev pub mixed_shop : List ℕ
mixed_shop = (2 ∷ 1 ∷ 0 ∷ 3 ∷ []) ++ (1 ∷ 5 ∷ 6 ∷ []) ++ (0 ∷ 0 ∷ 1 ∷ [])

abbrev pub want_both : List ℕ
want_both = (2 ∷ 1 ∷ 4 ∷ []) ++ (7 ∷ 8 ∷ 9 ∷ 9 ∷ []) ++ (0 ∷ 0 ∷ 0 ∷ 1 ∷ [])

-- A method of two nodes, each for the one atom, and two goals that want it, where it is true at first.
abbrev pub twice_shop : List ℕ
twice_shop = (1 ∷ 0 ∷ 1 ∷ 7 ∷ []) ++ (2 ∷ 7 ∷ 8 ∷ 9 ∷ 7 ∷ 8 ∷ 9 ∷ []) ++ repeated 7 (0 ∷ [])

abbrev pub twice_order : List ℕ
twice_order = (1 ∷ 2 ∷ 7 ∷ []) ++ (12 ∷ 7 ∷ 8 ∷ 9 ∷ 7 ∷ 8 ∷ 9 ∷ []) ++ repeated 7 (0 ∷ [])

-- One goal whose one alternative has no rows; and one goal that wants the atom true, where it is true at first.
abbrev pub want_always : List ℕ
want_always = (1 ∷ 1 ∷ 2 ∷ []) ++ (7 ∷ 8 ∷ []) ++ (0 ∷ 0 ∷ [])

abbrev pub held_order : List ℕ
held_order = (1 ∷ 1 ∷ 4 ∷ []) ++ (12 ∷ 7 ∷ 8 ∷ 9 ∷ []) ++ repeated 4 (0 ∷ [])

-- Two actions of cost 0, both for atom 0.
abbrev pub equal_shop : List ℕ
equal_shop = (1 ∷ 2 ∷ 0 ∷ 4 ∷ []) ++ (1 ∷ 5 ∷ 1 ∷ 5 ∷ []) ++ repeated 4 (0 ∷ [])

-- Four atoms. An action that needs atoms 0 and 1 true and atom 2 false and makes atom 3 true; a method that needs atom 1 true, for atom 3.
abbrev pub three_needs : List ℕ
three_needs = (4 ∷ 1 ∷ 1 ∷ 10 ∷ []) ++ (1 ∷ 3 ∷ 3 ∷ 4 ∷ 5 ∷ 2 ∷ 3 ∷ 7 ∷ 8 ∷ 9 ∷ []) ++ (0 ∷ 0 ∷ 1 ∷ 2 ∷ 3 ∷ 0 ∷ 1 ∷ 0 ∷ 0 ∷ 3 ∷ [])

-- One atom, and an action that needs it true and makes it true.
abbrev pub own_need : List ℕ
own_need = (1 ∷ 1 ∷ 0 ∷ 3 ∷ []) ++ (1 ∷ 3 ∷ 5 ∷ []) ++ repeated 3 (0 ∷ [])

-- An order of one goal with these atoms true at first: atom 3; or "0 and 1, or 2".
abbrev pub want_three : List ℕ → List ℕ
want_three start =
    (4 ∷ 1 ∷ (length start + 3) ∷ []) ++ repeated (length start) (12 ∷ []) ++ (7 ∷ 8 ∷ 9 ∷ []) ++ start ++ (0 ∷ 0 ∷ 3 ∷ [])

abbrev pub want_pair_or_two : List ℕ → List ℕ
want_pair_or_two start =
    (4 ∷ 1 ∷ (length start + 6) ∷ []) ++ repeated (length start) (12 ∷ []) ++ (7 ∷ 8 ∷ 9 ∷ 9 ∷ 8 ∷ 9 ∷ []) ++ start ++ (0 ∷ 0 ∷ 0 ∷ 1 ∷ 0 ∷ 2 ∷ [])

-- 256 atoms and nothing to do with them; one goal, the last of them.
abbrev pub many_atoms : List ℕ
many_atoms = 256 ∷ 0 ∷ 0 ∷ 0 ∷ []

abbrev pub want_last_atom : List ℕ
want_last_atom = (256 ∷ 1 ∷ 3 ∷ []) ++ (7 ∷ 8 ∷ 9 ∷ []) ++ (0 ∷ 0 ∷ 255 ∷ [])

-- A trace that is accepted.
abbrev pub accepted_case : List ℕ → List ℕ → List ℕ → ℕ → List ℕ → ℕ → ℕ → List ℕ → Case
accepted_case shop order trace steps atoms count cost room = record {
  shop = shop;
  order = order;
  trace = trace;
  number = 0;
  place = steps;
  atoms = atoms;
  count = count;
  cost = cost;
  atom = 256;
  room = room;
}

abbrev pub step_cases : List Case
step_cases =
    -- 13 steps in a room of 12 words, the first past the last place: 24 before 25.
    core_refused ((13 ∷ []) ++ repeated 13 (0 ∷ []) ++ repeated 13 (9 ∷ [])) 24 0 256
    -- Step 1, behind method 0: past the last place, by an unknown move: 25 before 26. At place 4, which is not free, by an unknown move: 26
    -- before 28. There by action 2, whose needs do not hold: 28 before 30.
    ∷ core_refused ((2 ∷ []) ++ (256 ∷ 5 ∷ []) ++ (0 ∷ 9 ∷ [])) 25 1 256
    ∷ core_refused ((2 ∷ []) ++ (256 ∷ 5 ∷ []) ++ (0 ∷ 4 ∷ [])) 26 1 256
    ∷ core_refused ((2 ∷ []) ++ (256 ∷ 2 ∷ []) ++ (0 ∷ 4 ∷ [])) 28 1 256
    -- The numbers before method 0 and behind the last method are no moves.
    ∷ core_refused (1 ∷ 255 ∷ 0 ∷ []) 26 0 256
    ∷ core_refused (1 ∷ 257 ∷ 0 ∷ []) 26 0 256
    -- Action 2, whose needs do not hold, and which is not relevant to atom 3: 30 before 31.
    ∷ core_refused (1 ∷ 2 ∷ 0 ∷ []) 30 0 0
    -- A need of an atom false, which is true; a goal that wants it false.
    ∷ refused_case false_shop want_true (1 ∷ 1 ∷ 0 ∷ []) 30 0 0
    ∷ refused_case false_shop want_false (1 ∷ 0 ∷ 0 ∷ []) 29 0 0
    -- The long core's method at a goal that it is not relevant to.
    ∷ refused_case core_shop bark_order (1 ∷ 256 ∷ 0 ∷ []) 31 0 256
    -- Action 1 alone: its own cost.
    ∷ accepted_case core_shop bark_order ((2 ∷ []) ++ (1 ∷ 0 ∷ []) ++ (0 ∷ 0 ∷ [])) 2 (0 ∷ []) 1 3 (1 ∷ 91 ∷ 92 ∷ 93 ∷ 94 ∷ 95 ∷ 96 ∷ 97 ∷ 98 ∷ 99 ∷ 100 ∷ 101 ∷ [])
    -- An action relevant by the third alternative, and the goal held by it.
    ∷ accepted_case third_shop third_order ((2 ∷ []) ++ (1 ∷ 0 ∷ []) ++ (0 ∷ 0 ∷ [])) 2 (2 ∷ []) 1 3 (1 ∷ 91 ∷ 92 ∷ 93 ∷ 94 ∷ 95 ∷ 96 ∷ 97 ∷ 98 ∷ 99 ∷ 100 ∷ 101 ∷ [])
    -- The method at place 1: its nodes enter there, behind the other goal. Action 1 for its first node, at place 1; the second, at place 2, is
    -- not free. Or a release of the other goal at place 0, then of the first node, which is there now, and action 2 for the second.
    ∷ refused_case core_shop pair_order ((3 ∷ []) ++ (256 ∷ 1 ∷ 0 ∷ []) ++ (1 ∷ 1 ∷ 2 ∷ [])) 28 2 256
    ∷ refused_case core_shop pair_order ((5 ∷ []) ++ (256 ∷ 1 ∷ 0 ∷ 0 ∷ 2 ∷ []) ++ (1 ∷ 1 ∷ 0 ∷ 0 ∷ 0 ∷ [])) 33 5 256
    -- The method's last node, which has no 11 row, is not free while its others wait.
    ∷ core_refused ((2 ∷ []) ++ (256 ∷ 0 ∷ []) ++ (0 ∷ 3 ∷ [])) 28 1 256
    -- A method used twice: the nodes of the second use are freed by each other's release alone, and the goals of the first still wait.
    ∷ refused_case twice_shop twice_order ((4 ∷ []) ++ (256 ∷ 256 ∷ 0 ∷ 0 ∷ []) ++ (0 ∷ 3 ∷ 3 ∷ 3 ∷ [])) 33 4 256
    -- A method whose need does not hold; and which is not relevant either: 30 before 31.
    ∷ refused_case needing_shop want_one (1 ∷ 256 ∷ 0 ∷ []) 30 0 0
    ∷ refused_case needing_other want_first (1 ∷ 256 ∷ 0 ∷ []) 30 0 0
    -- An action relevant by what it makes false; and one that is not, since it makes false what is wanted true.
    ∷ accepted_case clear_shop want_clear ((2 ∷ []) ++ (1 ∷ 0 ∷ []) ++ (0 ∷ 0 ∷ [])) 2 [] 1 0 (1 ∷ 91 ∷ 92 ∷ 93 ∷ 94 ∷ 95 ∷ 96 ∷ 97 ∷ 98 ∷ 99 ∷ 100 ∷ 101 ∷ [])
    ∷ refused_case mixed_shop want_both (1 ∷ 1 ∷ 0 ∷ []) 31 0 256
    -- An alternative with no rows is always true.
    ∷ accepted_case full_shop want_always (1 ∷ 0 ∷ 0 ∷ []) 1 [] 0 0 lent
    -- An action for a goal that holds already; and a method used twice at one goal, which holds already.
    ∷ accepted_case equal_shop held_order ((2 ∷ []) ++ (1 ∷ 0 ∷ []) ++ (0 ∷ 0 ∷ [])) 2 (0 ∷ []) 1 0 (1 ∷ 91 ∷ 92 ∷ 93 ∷ 94 ∷ 95 ∷ 96 ∷ 97 ∷ 98 ∷ 99 ∷ 100 ∷ 101 ∷ [])
    ∷ accepted_case full_shop held_order ((5 ∷ []) ++ (256 ∷ 0 ∷ 256 ∷ 0 ∷ 0 ∷ []) ++ repeated 5 (0 ∷ [])) 5 (0 ∷ []) 0 0 lent
    -- A method of one node where 63 wait: it is used, and 64 wait; where 64 wait: 32; and where it is not relevant either: 31 before 32.
    ∷ refused_case full_shop less_than_full_order (1 ∷ 256 ∷ 0 ∷ []) 33 1 256
    ∷ refused_case full_shop full_order (1 ∷ 256 ∷ 0 ∷ []) 32 0 256
    ∷ refused_case full_shop want_nothing (1 ∷ 256 ∷ 0 ∷ []) 31 0 256
    -- The unmet need is the first row alone, the second, the last, which wants an atom false, or the first of two or three; a method's need,
    -- not its node's; a need that the action itself would meet; and a method's need where more goals would wait than may: 30 before 32.
    ∷ refused_case three_needs (want_three (1 ∷ [])) (1 ∷ 1 ∷ 0 ∷ []) 30 0 0
    ∷ refused_case three_needs (want_three []) (1 ∷ 1 ∷ 0 ∷ []) 30 0 0
    ∷ refused_case three_needs (want_three (0 ∷ [])) (1 ∷ 1 ∷ 0 ∷ []) 30 0 1
    ∷ refused_case three_needs (want_three (0 ∷ 1 ∷ 2 ∷ [])) (1 ∷ 1 ∷ 0 ∷ []) 30 0 2
    ∷ refused_case three_needs (want_three (0 ∷ 2 ∷ [])) (1 ∷ 1 ∷ 0 ∷ []) 30 0 1
    ∷ refused_case three_needs (want_three (2 ∷ [])) (1 ∷ 1 ∷ 0 ∷ []) 30 0 0
    ∷ refused_case three_needs (want_three (0 ∷ [])) (1 ∷ 256 ∷ 0 ∷ []) 30 0 1
    ∷ refused_case own_need want_one (1 ∷ 1 ∷ 0 ∷ []) 30 0 0
    ∷ refused_case needing_shop full_order (1 ∷ 256 ∷ 0 ∷ []) 30 0 0
    -- The unmet row of the first alternative is told, its first or its second, where the second alternative wants one atom only; the first of
    -- three; that of the goal at the step's place; and none where the second alternative holds.
    ∷ refused_case three_needs (want_pair_or_two []) (1 ∷ 0 ∷ 0 ∷ []) 29 0 0
    ∷ refused_case three_needs (want_pair_or_two (0 ∷ [])) (1 ∷ 0 ∷ 0 ∷ []) 29 0 1
    ∷ refused_case third_shop third_order (1 ∷ 0 ∷ 0 ∷ []) 29 0 0
    ∷ refused_case core_shop pair_order (1 ∷ 0 ∷ 1 ∷ []) 29 0 3
    ∷ accepted_case three_needs (want_pair_or_two (2 ∷ [])) (1 ∷ 0 ∷ 0 ∷ []) 1 (2 ∷ []) 0 0 lent
    -- Behind method 0, at its first node: action 2 needs what the node wants, and a release wants it.
    ∷ core_refused ((2 ∷ []) ++ (256 ∷ 2 ∷ []) ++ (0 ∷ 0 ∷ [])) 30 1 0
    ∷ core_refused ((2 ∷ []) ++ (256 ∷ 0 ∷ []) ++ (0 ∷ 0 ∷ [])) 29 1 0
    -- The last of 256 atoms.
    ∷ refused_case many_atoms want_last_atom (1 ∷ 0 ∷ 0 ∷ []) 29 0 255
    ∷ []

-- A search's sheets, depth and room, and what it answers and leaves.
pub record SearchCase : Type 0 where
  pub shop : List ℕ
  pub order : List ℕ
  pub depth : ℕ
  pub room : List ℕ
  pub number : ℕ
  pub place : ℕ
  pub exit : List ℕ

-- Two atoms, and an action of cost 1 for each: action 1 makes atom 1 true, action 2 atom 0. Two goals, atom 0 and then atom 1, neither after
-- the other.
abbrev pub tie_shop : List ℕ
tie_shop = (2 ∷ 2 ∷ 0 ∷ 4 ∷ []) ++ (1 ∷ 5 ∷ 1 ∷ 5 ∷ []) ++ (1 ∷ 1 ∷ 1 ∷ 0 ∷ [])

abbrev pub tie_order : List ℕ
tie_order = (2 ∷ 2 ∷ 6 ∷ []) ++ (7 ∷ 8 ∷ 9 ∷ 7 ∷ 8 ∷ 9 ∷ []) ++ (0 ∷ 0 ∷ 0 ∷ 0 ∷ 0 ∷ 1 ∷ [])

-- Two actions of cost 0: action 1 makes atom 0 true, action 2 both atoms.
abbrev pub wider_shop : List ℕ
wider_shop = (2 ∷ 2 ∷ 0 ∷ 5 ∷ []) ++ (1 ∷ 5 ∷ 1 ∷ 5 ∷ 5 ∷ []) ++ (0 ∷ 0 ∷ 0 ∷ 0 ∷ 1 ∷ [])

-- An action of cost 0 that makes both atoms true; two goals, atom 0 and atom 1, where atom 0 is true at first.
abbrev pub both_shop : List ℕ
both_shop = (2 ∷ 1 ∷ 0 ∷ 3 ∷ []) ++ (1 ∷ 5 ∷ 5 ∷ []) ++ (0 ∷ 0 ∷ 1 ∷ [])

abbrev pub first_held : List ℕ
first_held = (2 ∷ 2 ∷ 7 ∷ []) ++ (12 ∷ 7 ∷ 8 ∷ 9 ∷ 7 ∷ 8 ∷ 9 ∷ []) ++ (0 ∷ 0 ∷ 0 ∷ 0 ∷ 0 ∷ 0 ∷ 1 ∷ [])

-- Action 1 makes atom 0 true, action 2 atoms 1 and 2, a method is for atom 1. One goal, "0 and 1, or not 2", where 2 is true at first: action 2
-- is relevant to the method's node alone.
abbrev pub either_way : List ℕ
either_way = (3 ∷ 2 ∷ 1 ∷ 9 ∷ []) ++ (1 ∷ 5 ∷ 1 ∷ 5 ∷ 5 ∷ 2 ∷ 7 ∷ 8 ∷ 9 ∷ []) ++ (0 ∷ 0 ∷ 0 ∷ 1 ∷ 2 ∷ 0 ∷ 0 ∷ 0 ∷ 1 ∷ [])

abbrev pub either_wanted : List ℕ
either_wanted = (3 ∷ 1 ∷ 7 ∷ []) ++ (12 ∷ 7 ∷ 8 ∷ 9 ∷ 9 ∷ 8 ∷ 10 ∷ []) ++ (2 ∷ 0 ∷ 0 ∷ 0 ∷ 1 ∷ 0 ∷ 2 ∷ [])

abbrev pub search_cases : List SearchCase
search_cases =
    -- D 33 and no room: 41 before 42. No room and no trace: 42 before 43. No trace of one step.
    record { shop = core_shop; order = core_order; depth = 33; room = []; number = 41; place = 0; exit = [] }
    ∷ record { shop = core_shop; order = core_order; depth = 1; room = []; number = 42; place = 0; exit = [] }
    ∷ record { shop = core_shop; order = core_order; depth = 1; room = lent; number = 43; place = 0; exit = lent }
    -- D 32 in a room of 65 words, with nothing to do.
    ∷ record { shop = core_shop; order = no_goals_order; depth = 32; room = repeated 65 (9 ∷ []); number = 0; place = 0; exit = 0 ∷ repeated 64 (9 ∷ []) }
    -- The lower place first, though its move is the higher; then place 0 again, before place 1.
    ∷ record {
      shop = tie_shop;
      order = tie_order;
      depth = 4;
      room = lent;
      number = 0;
      place = 4;
      exit = (4 ∷ []) ++ (2 ∷ 0 ∷ 1 ∷ 0 ∷ []) ++ (0 ∷ 0 ∷ 0 ∷ 0 ∷ []) ++ (99 ∷ 100 ∷ 101 ∷ []);
    }
    -- Of two moves at one place the lower.
    ∷ record {
      shop = equal_shop;
      order = want_one;
      depth = 2;
      room = lent;
      number = 0;
      place = 2;
      exit = (2 ∷ []) ++ (1 ∷ 0 ∷ []) ++ (0 ∷ 0 ∷ []) ++ (95 ∷ 96 ∷ 97 ∷ 98 ∷ 99 ∷ 100 ∷ 101 ∷ []);
    }
    -- A release before an action, and an action before a method, where either may come first.
    ∷ record {
      shop = both_shop;
      order = first_held;
      depth = 3;
      room = lent;
      number = 0;
      place = 3;
      exit = (3 ∷ []) ++ (0 ∷ 1 ∷ 0 ∷ []) ++ (0 ∷ 0 ∷ 0 ∷ []) ++ (97 ∷ 98 ∷ 99 ∷ 100 ∷ 101 ∷ []);
    }
    ∷ record {
      shop = either_way;
      order = either_wanted;
      depth = 5;
      room = lent;
      number = 0;
      place = 5;
      exit = (5 ∷ []) ++ (1 ∷ 256 ∷ 2 ∷ 0 ∷ 0 ∷ []) ++ (0 ∷ 0 ∷ 0 ∷ 0 ∷ 0 ∷ []) ++ (101 ∷ []);
    }
    -- Fewer steps first: action 2 alone, though the trace that begins with action 1 is earlier and of three steps.
    ∷ record {
      shop = wider_shop;
      order = want_both;
      depth = 3;
      room = lent;
      number = 0;
      place = 2;
      exit = (2 ∷ []) ++ (2 ∷ 0 ∷ []) ++ (0 ∷ 0 ∷ []) ++ (95 ∷ 96 ∷ 97 ∷ 98 ∷ 99 ∷ 100 ∷ 101 ∷ []);
    }
    ∷ []

abbrev pub searched_case : SearchCase → Searched
searched_case c = search c.shop c.order c.depth c.room

abbrev pub expected_search : SearchCase → Searched
expected_search c = record { refusal = record { number = c.number; place = c.place }; room = c.exit }

-- Every case comes out as it says.
pub record QuestionCases : Type 0 where
  pub sheets : map answer_for sheet_cases ≡ map refusal_of sheet_cases
  pub follows_in_shop : map (allowed_by shop_told 4) shop_follows ≡ map (λ c. c.allowed) shop_follows
  pub follows_in_order : map (allowed_by order_told 14) order_follows ≡ map (λ c. c.allowed) order_follows
  pub steps : map computed step_cases ≡ map expected step_cases
  pub searches : map searched_case search_cases ≡ map expected_search search_cases
