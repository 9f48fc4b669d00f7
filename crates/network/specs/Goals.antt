-- The waiting goals, each at its place, and what becomes of them. Document 01, "How a derivation runs".
use Rattle.std.specs.Prelude.{ℕ, false, ◌+◌, ◌<◌, ◌≡◌, List, map, length, get_or, take, Option, None}
use Rattle.hgn.specs.Meaning.{network_of}
use Rattle.hgn.specs.Network as Network
use Rattle.hgn.specs.Run.{method_at}
use Rattle.hgn.specs.Shop.{domain}
use Rattle.sheet_rows.specs.declared.position.Sheet.TheVariants as Of
use Rattle.sheet_index.specs.Index.{span_of}
use Rattle.sheet_index.specs.Tables.{Bounds}
use Rattle.network.specs.Entries.{waiting_of}
use Rattle.network.specs.Entering.{node_entries}
use Rattle.network.specs.Pending.{PendingCounts}
use Rattle.network.specs.declared.waiting.Used.{Used}
use Rattle.network.specs.declared.waiting.Entry.{Entry}
use Rattle.network.specs.declared.waiting.Waiting.{Waiting}
use Rattle.network.specs.declared.goals.Goals.{Goals}

-- How many goals wait.
abbrev pub count_in : Goals → ℕ
count_in g = g.count

-- What is read past the end of the array.
abbrev pub nothing : Waiting
nothing = record {
  goal = record { rows = span_of Of.Shop 0 0; number = 0; source = None; last = false };
  pending = 0;
}

-- What stands at a place: the goal, and how often it is listed after goals that still wait.
abbrev pub at_place : Goals → ℕ → Waiting
at_place g p = get_or g.entries p nothing

abbrev pub entry_in : Goals → ℕ → Entry
entry_in g p = (at_place g p).goal

abbrev pub pending_in : Goals → ℕ → ℕ
pending_in g p = (at_place g p).pending

-- The goals that wait, each with its count.
abbrev pub waiting_in : Goals → List Waiting
waiting_in g = take g.count g.entries

abbrev pub goals_in : Goals → List Entry
goals_in g = map (λ w. w.goal) (take g.count g.entries)

abbrev pub list_in : List ℕ → List ℕ → Goals → List Network.Waiting
list_in shop order g = map (waiting_of shop order) (goals_in g)

-- The counts of every place; those behind the last goal may be anything.
abbrev pub counts_in : Goals → List ℕ
counts_in g = map (λ w. w.pending) g.entries

-- A goal with its count is written at place `p`; every other place is as it was, and so is how many wait.
pub record Put (p : ℕ) (e : Entry) (pending : ℕ) (g g' : Goals) : Type 0 where
  pub waiting : count_in g' ≡ count_in g
  pub entry : entry_in g' p ≡ e
  pub count : pending_in g' p ≡ pending
  pub before : (k : ℕ) → k < p → at_place g' k ≡ at_place g k
  pub behind : (k : ℕ) → p < k → at_place g' k ≡ at_place g k

-- The goal at place `p` has left the list, and the counts are right again.
pub record Left (shop order : List ℕ) (p : ℕ) (g g' : Goals) : Type 0 where
  pub one_less : count_in g' + 1 ≡ count_in g
  pub list : list_in shop order g' ≡ Network.released (list_in shop order g) p
  pub counted : PendingCounts (list_in shop order g') (counts_in g')

-- The nodes of method `m`, used at step `n`, have entered at place `p`, and the counts are right again.
pub record Decomposed (shop order : List ℕ) (p n m : ℕ) (g g' : Goals) : Type 0 where
  pub list : list_in shop order g' ≡ Network.decomposed (list_in shop order g) p (Network.used n m) (network_of (method_at (domain shop) m))
  pub counted : PendingCounts (list_in shop order g') (counts_in g')

-- The nodes of a network are all that waits, each with the number of nodes that it is listed after.
pub record Begun (shop order : List ℕ) (source : Option Used) (e : ℕ) (bs : List Bounds) (g : Goals) : Type 0 where
  pub count : count_in g ≡ length bs
  pub goals : goals_in g ≡ node_entries source e bs
  pub counts : (k : ℕ) → k < length bs → pending_in g k ≡ length (waiting_of shop order (entry_in g k)).after
