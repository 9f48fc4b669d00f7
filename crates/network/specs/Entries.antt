-- Goals as the code keeps them: by their rows, their numbers and what brought them in. Document 01, "How a derivation runs".
use Rattle.std.specs.Prelude.{ℕ, suc, cond, List, ◌++◌, take, drop, Option, Some, None}
use Rattle.std.proofs.Math.Option as Maybe
use Rattle.hgn.specs.Lists.{range}
use Rattle.hgn.specs.Rows as Rows
use Rattle.hgn.specs.Tag as Tag
use Rattle.hgn.specs.Meaning.{node_of}
use Rattle.hgn.specs.Network as Network
use Rattle.sheet_index.specs.Index.{span_rows}
use Rattle.network.specs.declared.waiting.Name.{Name}
use Rattle.network.specs.declared.waiting.Used.{Used}
use Rattle.network.specs.declared.waiting.Entry.{Entry}

-- The network that a goal came with, by the step whose method brought it in.
abbrev pub origin_of : Option ℕ → Network.Origin
origin_of (Some n) = Network.from_step n
origin_of None = Network.from_order

abbrev pub name_of : Name → Network.Name
name_of n = record { origin = origin_of n.step; number = n.number }

abbrev pub step_in : Option Used → Option ℕ
step_in (Some u) = Some u.step
step_in None = None

abbrev pub name_in : Entry → Name
name_in e = record { step = step_in e.source; number = e.number }

-- What brought a goal in, and the goal at which its method was used.
abbrev pub source_in : Option Used → Network.Source
source_in (Some u) = Network.used u.step u.method
source_in None = Network.order

abbrev pub parent_in : Option Used → Maybe.Option Network.Name
parent_in (Some u) = Maybe.some (name_of u.parent)
parent_in None = Maybe.none

-- A waiting goal of the code, as the definitions have it.
unfoldable pub waiting_of : List ℕ → List ℕ → Entry → Network.Waiting
waiting_of shop order e = record {
  name = name_of (name_in e);
  source = source_in e.source;
  parent = parent_in e.source;
  after = cond e.last (range 0 e.number) (Rows.values_tagged Tag.after (span_rows shop order e.rows));
  formula = (node_of (span_rows shop order e.rows)).formula;
}

-- The list without the goal at a place.
abbrev pub without : List Entry → ℕ → List Entry
without l p = take p l ++ drop (suc p) l
