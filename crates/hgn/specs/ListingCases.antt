-- Cases of Req 03 of document 02, by computation: the lines of accepted traces, and none of one whose run is refused.
use Rattle.std.specs.Prelude.{ℕ, ◌≡◌, List, [], ◌∷◌, ◌++◌, map}
use Rattle.hgn.specs.Network.{step_number, method_number}
use Rattle.hgn.specs.Listing.{Line, lines_in}
use Rattle.hgn.specs.Cases.{core_shop, core_order, core_trace, no_goals_order}

-- Three sheets, and their lines: goals above, step of release, the step that brought the goal in, the method's number.
pub record ListingCase : Type 0 where
  pub shop : List ℕ
  pub order : List ℕ
  pub trace : List ℕ
  pub lines : List (List ℕ)

-- Two methods: method 0 for atom 0 has a node wanting atom 1 and its last node, method 1 for atom 1 has its last node alone.
abbrev pub nested_shop : List ℕ
nested_shop = (2 ∷ 0 ∷ 2 ∷ 11 ∷ []) ++ (2 ∷ 7 ∷ 8 ∷ 9 ∷ 7 ∷ 8 ∷ 9 ∷ 2 ∷ 7 ∷ 8 ∷ 9 ∷ []) ++ (0 ∷ 0 ∷ 0 ∷ 1 ∷ 0 ∷ 0 ∷ 0 ∷ 0 ∷ 0 ∷ 0 ∷ 1 ∷ [])

-- Both atoms are true, and one goal wants atom 0.
abbrev pub nested_order : List ℕ
nested_order = (2 ∷ 1 ∷ 5 ∷ []) ++ (12 ∷ 12 ∷ 7 ∷ 8 ∷ 9 ∷ []) ++ (0 ∷ 1 ∷ 0 ∷ 0 ∷ 0 ∷ [])

-- That order joined with itself.
abbrev pub twice_order : List ℕ
twice_order = (2 ∷ 2 ∷ 9 ∷ []) ++ (12 ∷ 12 ∷ 7 ∷ 8 ∷ 9 ∷ 7 ∷ 11 ∷ 8 ∷ 9 ∷ []) ++ (0 ∷ 1 ∷ 0 ∷ 0 ∷ 0 ∷ 0 ∷ 0 ∷ 0 ∷ 0 ∷ [])

-- The same atoms, and two goals that want atom 0, neither after the other.
abbrev pub beside_order : List ℕ
beside_order = (2 ∷ 2 ∷ 8 ∷ []) ++ (12 ∷ 12 ∷ 7 ∷ 8 ∷ 9 ∷ 7 ∷ 8 ∷ 9 ∷ []) ++ (0 ∷ 1 ∷ 0 ∷ 0 ∷ 0 ∷ 0 ∷ 0 ∷ 0 ∷ [])

-- Method 0 at the goal, method 1 at its first node, four releases; all at place 0.
abbrev pub nested_moves : List ℕ
nested_moves = 256 ∷ 257 ∷ 0 ∷ 0 ∷ 0 ∷ 0 ∷ []

abbrev pub six_places : List ℕ
six_places = 0 ∷ 0 ∷ 0 ∷ 0 ∷ 0 ∷ 0 ∷ []

abbrev pub nested_lines : List (List ℕ)
nested_lines = (2 ∷ 2 ∷ 1 ∷ 1 ∷ []) ∷ (1 ∷ 3 ∷ 0 ∷ 0 ∷ []) ∷ (1 ∷ 4 ∷ 0 ∷ 0 ∷ []) ∷ (0 ∷ 5 ∷ 65535 ∷ 65535 ∷ []) ∷ []

abbrev pub cases : List ListingCase
cases =
    -- "The long core's first line is two blanks and `2 0 0`, its last `9 65535 65535`."
    record {
      shop = core_shop;
      order = core_order;
      trace = core_trace;
      lines = (1 ∷ 2 ∷ 0 ∷ 0 ∷ []) ∷ (1 ∷ 4 ∷ 0 ∷ 0 ∷ []) ∷ (1 ∷ 6 ∷ 0 ∷ 0 ∷ []) ∷ (1 ∷ 8 ∷ 0 ∷ 0 ∷ []) ∷ (0 ∷ 9 ∷ 65535 ∷ 65535 ∷ []) ∷ [];
    }
    -- No goals, no lines.
    ∷ record { shop = core_shop; order = no_goals_order; trace = 0 ∷ []; lines = [] }
    -- A method within a method: the lines of its nodes stand before that of their goal.
    ∷ record { shop = nested_shop; order = nested_order; trace = (6 ∷ []) ++ nested_moves ++ six_places; lines = nested_lines }
    -- Three deep: method 1 once more, at the node that method 1 brought in.
    ∷ record {
      shop = nested_shop;
      order = nested_order;
      trace = (8 ∷ []) ++ (256 ∷ 257 ∷ 257 ∷ 0 ∷ 0 ∷ 0 ∷ 0 ∷ 0 ∷ []) ++ (0 ∷ 0 ∷ 0 ∷ 0 ∷ 0 ∷ 0 ∷ 0 ∷ 0 ∷ []);
      lines = (3 ∷ 3 ∷ 2 ∷ 1 ∷ []) ∷ (2 ∷ 4 ∷ 1 ∷ 1 ∷ []) ∷ (1 ∷ 5 ∷ 0 ∷ 0 ∷ []) ∷ (1 ∷ 6 ∷ 0 ∷ 0 ∷ []) ∷ (0 ∷ 7 ∷ 65535 ∷ 65535 ∷ []) ∷ [];
    }
    -- Method 0 at two goals, their nodes released by turns: in the order of release, not of entry.
    ∷ record {
      shop = nested_shop;
      order = beside_order;
      trace = (8 ∷ []) ++ (256 ∷ 256 ∷ 0 ∷ 0 ∷ 0 ∷ 0 ∷ 0 ∷ 0 ∷ []) ++ (0 ∷ 3 ∷ 3 ∷ 0 ∷ 2 ∷ 0 ∷ 0 ∷ 0 ∷ []);
      lines = (1 ∷ 2 ∷ 1 ∷ 0 ∷ []) ∷ (1 ∷ 3 ∷ 0 ∷ 0 ∷ []) ∷ (1 ∷ 4 ∷ 1 ∷ 0 ∷ []) ∷ (1 ∷ 5 ∷ 0 ∷ 0 ∷ []) ∷ (0 ∷ 6 ∷ 65535 ∷ 65535 ∷ []) ∷ (0 ∷ 7 ∷ 65535 ∷ 65535 ∷ []) ∷ [];
    }
    -- The last step left out: refused by 33, so no line, whatever was released.
    ∷ record { shop = nested_shop; order = nested_order; trace = (5 ∷ []) ++ (256 ∷ 257 ∷ 0 ∷ 0 ∷ 0 ∷ []) ++ (0 ∷ 0 ∷ 0 ∷ 0 ∷ 0 ∷ []); lines = [] }
    -- On the join the back's steps are raised by the cut, 6; 65,535 is not.
    ∷ record {
      shop = nested_shop;
      order = twice_order;
      trace = (12 ∷ []) ++ nested_moves ++ nested_moves ++ six_places ++ six_places;
      lines = nested_lines ++ ((2 ∷ 8 ∷ 7 ∷ 1 ∷ []) ∷ (1 ∷ 9 ∷ 6 ∷ 0 ∷ []) ∷ (1 ∷ 10 ∷ 6 ∷ 0 ∷ []) ∷ (0 ∷ 11 ∷ 65535 ∷ 65535 ∷ []) ∷ []);
    }
    ∷ []

abbrev pub numbers_of : Line → List ℕ
numbers_of l = l.above ∷ l.released ∷ step_number l.source ∷ method_number l.source ∷ []

abbrev pub ListingCases : Type 0
ListingCases = map (λ c. map numbers_of (lines_in c.shop c.order c.trace)) cases ≡ map (λ c. c.lines) cases
