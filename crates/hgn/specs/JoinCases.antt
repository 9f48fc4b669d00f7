-- Cases of Req 02 of document 02, by computation: joined sheets in words; which sheet is asked first; 81 and 83. 82 needs 4,001 rows and has no
-- case here: `RefusedJoins` of `Demands` says when it is told.
use Rattle.std.specs.Prelude.{ℕ, ◌+◌, ◌≡◌, List, [], ◌∷◌, ◌++◌, map}
use Rattle.hgn.specs.Lent.{Lent}
use Rattle.hgn.specs.JoinSheet.{write_join}
use Rattle.hgn.specs.QuestionCases.{repeated}

-- The words that are lent, and what is answered: number, place, the room at exit.
pub record JoinCase : Type 0 where
  pub shop : List ℕ
  pub first : List ℕ
  pub second : List ℕ
  pub room : List ℕ
  pub number : ℕ
  pub place : ℕ
  pub exit : List ℕ

-- Four atoms, no actions, no methods.
abbrev pub four_atoms : List ℕ
four_atoms = 4 ∷ 0 ∷ 0 ∷ 0 ∷ []

-- Two start rows; a goal, and one that comes after it.
abbrev pub one : List ℕ
one = (4 ∷ 2 ∷ 9 ∷ []) ++ (12 ∷ 12 ∷ 7 ∷ 8 ∷ 9 ∷ 7 ∷ 11 ∷ 8 ∷ 10 ∷ []) ++ (1 ∷ 3 ∷ 0 ∷ 0 ∷ 0 ∷ 0 ∷ 0 ∷ 0 ∷ 2 ∷ [])

-- A start row; a goal with two alternatives, the second empty, one after it, one after both.
abbrev pub two : List ℕ
two =
    (4 ∷ 3 ∷ 14 ∷ [])
    ++ (12 ∷ 7 ∷ 8 ∷ 9 ∷ 8 ∷ 7 ∷ 11 ∷ 8 ∷ 9 ∷ 10 ∷ 7 ∷ 11 ∷ 11 ∷ 8 ∷ [])
    ++ (0 ∷ 0 ∷ 0 ∷ 1 ∷ 0 ∷ 0 ∷ 0 ∷ 0 ∷ 2 ∷ 3 ∷ 0 ∷ 0 ∷ 1 ∷ 0 ∷ [])

-- A start row and one goal.
abbrev pub three : List ℕ
three = (4 ∷ 1 ∷ 4 ∷ []) ++ (12 ∷ 7 ∷ 8 ∷ 9 ∷ []) ++ (2 ∷ 0 ∷ 0 ∷ 3 ∷ [])

-- Two start rows and no goals.
abbrev pub started : List ℕ
started = (4 ∷ 0 ∷ 2 ∷ []) ++ (12 ∷ 12 ∷ []) ++ (0 ∷ 2 ∷ [])

-- So many goals, each with one empty alternative.
abbrev pub goals_only : ℕ → ℕ → List ℕ
goals_only goals rows = (4 ∷ goals ∷ rows ∷ []) ++ repeated goals (7 ∷ 8 ∷ []) ++ repeated rows (0 ∷ [])

-- `one` and `two` joined: all rows of `one`; then the goals of `two`, each after the two of `one`, its own 11 rows raised by 2.
abbrev pub one_two : List ℕ
one_two =
    (4 ∷ 5 ∷ 28 ∷ [])
    ++ (12 ∷ 12 ∷ 7 ∷ 8 ∷ 9 ∷ 7 ∷ 11 ∷ 8 ∷ 10 ∷ 7 ∷ 11 ∷ 11 ∷ 8 ∷ 9 ∷ 8 ∷ 7 ∷ 11 ∷ 11 ∷ 11 ∷ 8 ∷ 9 ∷ 10 ∷ 7 ∷ 11 ∷ 11 ∷ 11 ∷ 11 ∷ 8 ∷ [])
    ++ (1 ∷ 3 ∷ 0 ∷ 0 ∷ 0 ∷ 0 ∷ 0 ∷ 0 ∷ 2 ∷ 0 ∷ 0 ∷ 1 ∷ 0 ∷ 1 ∷ 0 ∷ 0 ∷ 0 ∷ 1 ∷ 2 ∷ 0 ∷ 2 ∷ 3 ∷ 0 ∷ 0 ∷ 1 ∷ 2 ∷ 3 ∷ 0 ∷ [])

-- `two` and `three` joined.
abbrev pub two_three : List ℕ
two_three =
    (4 ∷ 4 ∷ 20 ∷ [])
    ++ (12 ∷ 7 ∷ 8 ∷ 9 ∷ 8 ∷ 7 ∷ 11 ∷ 8 ∷ 9 ∷ 10 ∷ 7 ∷ 11 ∷ 11 ∷ 8 ∷ 7 ∷ 11 ∷ 11 ∷ 11 ∷ 8 ∷ 9 ∷ [])
    ++ (0 ∷ 0 ∷ 0 ∷ 1 ∷ 0 ∷ 0 ∷ 0 ∷ 0 ∷ 2 ∷ 3 ∷ 0 ∷ 0 ∷ 1 ∷ 0 ∷ 0 ∷ 0 ∷ 1 ∷ 2 ∷ 0 ∷ 3 ∷ [])

-- All three, in either grouping.
abbrev pub one_two_three : List ℕ
one_two_three =
    (4 ∷ 6 ∷ 36 ∷ [])
    ++ (12 ∷ 12 ∷ 7 ∷ 8 ∷ 9 ∷ 7 ∷ 11 ∷ 8 ∷ 10 ∷ 7 ∷ 11 ∷ 11 ∷ 8 ∷ 9 ∷ 8 ∷ 7 ∷ 11 ∷ 11 ∷ 11 ∷ 8 ∷ 9 ∷ 10 ∷ 7 ∷ 11 ∷ 11 ∷ 11 ∷ 11 ∷ 8 ∷ 7 ∷ 11 ∷ 11 ∷ 11 ∷ 11 ∷ 11 ∷ 8 ∷ 9 ∷ [])
    ++ (1 ∷ 3 ∷ 0 ∷ 0 ∷ 0 ∷ 0 ∷ 0 ∷ 0 ∷ 2 ∷ 0 ∷ 0 ∷ 1 ∷ 0 ∷ 1 ∷ 0 ∷ 0 ∷ 0 ∷ 1 ∷ 2 ∷ 0 ∷ 2 ∷ 3 ∷ 0 ∷ 0 ∷ 1 ∷ 2 ∷ 3 ∷ 0 ∷ 0 ∷ 0 ∷ 1 ∷ 2 ∷ 3 ∷ 4 ∷ 0 ∷ 3 ∷ [])

-- So many words of room.
abbrev pub words : ℕ → List ℕ
words n = repeated n (9 ∷ [])

-- Written into a room of this many words more.
abbrev pub writes : List ℕ → List ℕ → List ℕ → ℕ → ℕ → JoinCase
writes first second joined length more =
    record { shop = four_atoms; first = first; second = second; room = words (length + more); number = 0; place = 0; exit = joined ++ words more }

-- Refused in a room of so many words.
abbrev pub refuses : List ℕ → List ℕ → List ℕ → ℕ → ℕ → ℕ → JoinCase
refuses shop first second length number place =
    record { shop = shop; first = first; second = second; room = words length; number = number; place = place; exit = words length }

abbrev pub join_cases : List JoinCase
join_cases =
    -- Rooms of one word more than the sheet has, of as many, and of one less.
    writes one two one_two 59 1
    ∷ writes one two one_two 59 0
    ∷ refuses four_atoms one two 58 83 0
    -- The first has no goals: nothing comes in and nothing is raised, and its start rows stay. The second has none: the first word for word.
    ∷ writes started two ((4 ∷ 3 ∷ 15 ∷ []) ++ (12 ∷ 12 ∷ 7 ∷ 8 ∷ 9 ∷ 8 ∷ 7 ∷ 11 ∷ 8 ∷ 9 ∷ 10 ∷ 7 ∷ 11 ∷ 11 ∷ 8 ∷ []) ++ (0 ∷ 2 ∷ 0 ∷ 0 ∷ 1 ∷ 0 ∷ 0 ∷ 0 ∷ 0 ∷ 2 ∷ 3 ∷ 0 ∷ 0 ∷ 1 ∷ 0 ∷ []))
    33 2
    ∷ writes one started one 21 2
    ∷ writes started started started 7 1
    ∷ writes (4 ∷ 0 ∷ 0 ∷ []) (4 ∷ 0 ∷ 0 ∷ []) (4 ∷ 0 ∷ 0 ∷ []) 3 1
    -- An order with itself.
    ∷ writes three three ((4 ∷ 2 ∷ 8 ∷ []) ++ (12 ∷ 7 ∷ 8 ∷ 9 ∷ 7 ∷ 11 ∷ 8 ∷ 9 ∷ []) ++ (2 ∷ 0 ∷ 0 ∷ 3 ∷ 0 ∷ 0 ∷ 0 ∷ 3 ∷ [])) 19 1
    -- Three orders, in either grouping.
    ∷ writes one_two three one_two_three 75 3
    ∷ writes one two_three one_two_three 75 3
    -- The shop sheet has no words, nor has the first order: 1 before 11. The first order says one goal and has none, and the second has no words: the
    -- first's 18 before the second's 11. Both have a wrong tag, the first at row 1, the second at row 0.
    ∷ refuses [] [] [] 0 1 0
    ∷ refuses four_atoms (4 ∷ 1 ∷ 0 ∷ []) [] 0 18 0
    ∷ refuses four_atoms (4 ∷ 1 ∷ 2 ∷ 7 ∷ 9 ∷ 0 ∷ 0 ∷ []) (4 ∷ 1 ∷ 1 ∷ 8 ∷ 0 ∷ []) 0 14 1
    -- The second wants an atom that the shop sheet does not have: its own row is told.
    ∷ refuses four_atoms three (4 ∷ 1 ∷ 3 ∷ 7 ∷ 8 ∷ 9 ∷ 0 ∷ 0 ∷ 4 ∷ []) 0 15 2
    -- The second order is of another shop sheet. It says 64 goals and has none, where the first has one: its 18 before 81.
    ∷ refuses four_atoms three (3 ∷ 0 ∷ 0 ∷ []) 0 12 0
    ∷ refuses four_atoms three (4 ∷ 64 ∷ 0 ∷ []) 0 18 0
    -- 64 goals and 64: 128 goals, 4,352 rows, no room: 81 before 82. 33 goals and 32, with room.
    ∷ refuses four_atoms (goals_only 64 128) (goals_only 64 128) 0 81 0
    ∷ refuses four_atoms (goals_only 33 66) (goals_only 32 64) 2400 81 0
    ∷ []

abbrev pub joined_case : JoinCase → Lent (List ℕ)
joined_case c = write_join c.shop c.first c.second c.room

abbrev pub expected_join : JoinCase → Lent (List ℕ)
expected_join c = record { refusal = record { number = c.number; place = c.place }; room = c.exit }

-- Every case comes out as it says.
abbrev pub JoinCases : Type 0
JoinCases = map joined_case join_cases ≡ map expected_join join_cases
