-- Document 01's marked cases (●), in words: one list, and one statement that covers it.
-- Document 01, "One core of sixty centimetres"; document 02, Req 01.
use Rattle.std.specs.Prelude.{ℕ, ◌≡◌, true, List, [], ◌∷◌, ◌++◌, map}
use Rattle.hgn.specs.State.{empty_state, assign}
use Rattle.hgn.specs.Replay.{Replayed, replay}

-- A replay's sheets, and what it answers: number, place, the atoms of the last state, plan count, cost, the atom that is not as wanted (256 for
-- none), and the room at exit.
pub record Case : Type 0 where
  pub shop : List ℕ
  pub order : List ℕ
  pub trace : List ℕ
  pub number : ℕ
  pub place : ℕ
  pub atoms : List ℕ
  pub count : ℕ
  pub cost : ℕ
  pub atom : ℕ
  pub room : List ℕ

-- The room that every case lends: one word more than the longest marked trace has steps.
abbrev pub lent : List ℕ
lent = 90 ∷ 91 ∷ 92 ∷ 93 ∷ 94 ∷ 95 ∷ 96 ∷ 97 ∷ 98 ∷ 99 ∷ 100 ∷ 101 ∷ []

-- Atoms: 0 clamped at bark, 1 bark half scanned, 2 clamped at pith, 3 pith half scanned.
abbrev pub core_shop : List ℕ
core_shop =
    (4 ∷ 4 ∷ 1 ∷ 28 ∷ [])
    ++ (1 ∷ 5 ∷ 6 ∷ 1 ∷ 3 ∷ 5 ∷ 1 ∷ 3 ∷ 6 ∷ 5 ∷ 1 ∷ 3 ∷ 5 ∷ 2 ∷ 7 ∷ 8 ∷ 9 ∷ 7 ∷ 11 ∷ 8 ∷ 9 ∷ 7 ∷ 11 ∷ 8 ∷ 9 ∷ 7 ∷ 8 ∷ 9 ∷ [])
    ++ (3 ∷ 0 ∷ 2 ∷ 10 ∷ 0 ∷ 1 ∷ 3 ∷ 1 ∷ 0 ∷ 2 ∷ 10 ∷ 2 ∷ 3 ∷ 0 ∷ 0 ∷ 0 ∷ 0 ∷ 0 ∷ 0 ∷ 0 ∷ 1 ∷ 0 ∷ 1 ∷ 0 ∷ 2 ∷ 0 ∷ 0 ∷ 3 ∷ [])

abbrev pub core_order : List ℕ
core_order = 4 ∷ 1 ∷ 3 ∷ 7 ∷ 8 ∷ 9 ∷ 0 ∷ 0 ∷ 3 ∷ []

abbrev pub core_trace : List ℕ
core_trace =
    (10 ∷ [])
    ++ (256 ∷ 1 ∷ 0 ∷ 2 ∷ 0 ∷ 3 ∷ 0 ∷ 4 ∷ 0 ∷ 0 ∷ [])
    ++ (0 ∷ 0 ∷ 0 ∷ 0 ∷ 0 ∷ 0 ∷ 0 ∷ 0 ∷ 0 ∷ 0 ∷ [])

-- An order without goals for the long core's shop.
abbrev pub no_goals_order : List ℕ
no_goals_order = 4 ∷ 0 ∷ 0 ∷ []

-- One action, of cost 1, that makes atom 0 true; one goal, "0, or not 0 and 1".
abbrev pub either_shop : List ℕ
either_shop = 2 ∷ 1 ∷ 0 ∷ 2 ∷ 1 ∷ 5 ∷ 1 ∷ 0 ∷ []

abbrev pub either_order : List ℕ
either_order = 2 ∷ 1 ∷ 6 ∷ 7 ∷ 8 ∷ 9 ∷ 8 ∷ 10 ∷ 9 ∷ 0 ∷ 0 ∷ 0 ∷ 0 ∷ 0 ∷ 1 ∷ []

-- A refusal with its number, place and atom: no atoms are true, no plan, the room as it was lent.
abbrev pub refused_case : List ℕ → List ℕ → List ℕ → ℕ → ℕ → ℕ → Case
refused_case shop order trace number place atom = record {
  shop = shop;
  order = order;
  trace = trace;
  number = number;
  place = place;
  atoms = [];
  count = 0;
  cost = 0;
  atom = atom;
  room = lent;
}

-- The long core's shop and order with another trace, refused.
abbrev pub core_refused : List ℕ → ℕ → ℕ → ℕ → Case
core_refused = refused_case core_shop core_order

abbrev pub cases : List Case
cases =
    -- The long core's trace.
    record {
      shop = core_shop;
      order = core_order;
      trace = core_trace;
      number = 0;
      place = 10;
      atoms = 1 ∷ 2 ∷ 3 ∷ [];
      count = 4;
      cost = 26;
      atom = 256;
      room = 1 ∷ 2 ∷ 3 ∷ 4 ∷ 94 ∷ 95 ∷ 96 ∷ 97 ∷ 98 ∷ 99 ∷ 100 ∷ 101 ∷ [];
    }
    -- Without its last step.
    ∷ core_refused ((9 ∷ []) ++ (256 ∷ 1 ∷ 0 ∷ 2 ∷ 0 ∷ 3 ∷ 0 ∷ 4 ∷ 0 ∷ []) ++ (0 ∷ 0 ∷ 0 ∷ 0 ∷ 0 ∷ 0 ∷ 0 ∷ 0 ∷ 0 ∷ [])) 33 9 256
    -- With an eleventh step, move 0.
    ∷ core_refused
    ((11 ∷ []) ++ (256 ∷ 1 ∷ 0 ∷ 2 ∷ 0 ∷ 3 ∷ 0 ∷ 4 ∷ 0 ∷ 0 ∷ 0 ∷ []) ++ (0 ∷ 0 ∷ 0 ∷ 0 ∷ 0 ∷ 0 ∷ 0 ∷ 0 ∷ 0 ∷ 0 ∷ 0 ∷ []))
    25 10 256
    -- No goals, no steps.
    ∷ record {
      shop = core_shop;
      order = no_goals_order;
      trace = 0 ∷ [];
      number = 0;
      place = 0;
      atoms = [];
      count = 0;
      cost = 0;
      atom = 256;
      room = lent;
    }
    -- First step alone: move 4, which needs atom 2; move 1, not relevant; move 5, unknown; move 0, a release, where the goal wants atom 3.
    ∷ core_refused (1 ∷ 4 ∷ 0 ∷ []) 30 0 2
    ∷ core_refused (1 ∷ 1 ∷ 0 ∷ []) 31 0 256
    ∷ core_refused (1 ∷ 5 ∷ 0 ∷ []) 26 0 256
    ∷ core_refused (1 ∷ 0 ∷ 0 ∷ []) 29 0 3
    -- Two traces: 256 at 0, then 0 at 4, where the goal is not free; 256 at 0, then 0 at 5, past the last place.
    ∷ core_refused (2 ∷ 256 ∷ 0 ∷ 0 ∷ 4 ∷ []) 28 1 256
    ∷ core_refused (2 ∷ 256 ∷ 0 ∷ 0 ∷ 5 ∷ []) 25 1 256
    -- "0, or not 0 and 1": the action has a literal of the goal, and the opposite of another.
    ∷ refused_case either_shop either_order (1 ∷ 1 ∷ 0 ∷ []) 31 0 256
    ∷ []

abbrev pub expected : Case → Replayed
expected c = record {
  answer = record {
    refusal = record { number = c.number; place = c.place };
    state = assign true c.atoms empty_state;
    count = c.count;
    cost = c.cost;
    atom = c.atom;
  };
  room = c.room;
}

abbrev pub computed : Case → Replayed
computed c = replay c.shop c.order c.trace lent

-- Every marked case comes out as the paper says.
abbrev pub MarkedCases : Type 0
MarkedCases = map computed cases ≡ map expected cases
