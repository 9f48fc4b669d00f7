-- The waiting list: the goal network of 000 as document 01 keeps it. Document 01, "How a derivation runs"; document 02, Req 03.
-- A waiting goal is never changed. Who comes after whom is read off its name, its parent goal and the numbers of the nodes it
-- comes after (its 11 rows, or by rule), so a release only takes a goal out and a method only puts goals in.
use Rattle.std.specs.Prelude.{ℕ, suc, Bool, true, false, not, cond, ◌&&◌, ◌||◌, List, [], ◌∷◌, ◌++◌, eqb, take, drop, get_or}
use Rattle.std.proofs.Math.Option.{Option, none, some}
use Rattle.hgn.specs.Lists.{any, elem}
use Rattle.hgn.specs.Meaning.{Formula, Node, Order}

-- The most goals that may wait.
abbrev pub most_waiting : ℕ
most_waiting = 64

-- The network that a waiting goal came with: the order, or the method used at a step (from 0).
pub data Origin : Type 0 where
  from_order : Origin
  from_step : ℕ → Origin

-- Node `number` of its network.
pub record Name : Type 0 where
  pub origin : Origin
  pub number : ℕ

-- What brought a waiting goal in: the order, or a step with the method that it used. Document 02, Req 03: "Each waiting goal now carries the
-- method and the step that brought it in".
pub data Source : Type 0 where
  order : Source
  used : ℕ → ℕ → Source  -- the step's number in the trace, from 0, and the method's, from 0

-- The network of the goals that it brought in.
abbrev pub origin_of : Source → Origin
origin_of order = from_order
origin_of (used step method) = from_step step

-- The step and the method as numbers: "a goal of the order carries 65,535 for both".
abbrev pub order_number : ℕ
order_number = 65535

unfoldable pub step_number : Source → ℕ
step_number order = order_number
step_number (used step method) = step

unfoldable pub method_number : Source → ℕ
method_number order = order_number
method_number (used step method) = method

pub record Waiting : Type 0 where
  pub name : Name
  pub source : Source
  pub parent : Option Name  -- the parent goal, at which its method was used; none for a goal of the order
  pub after : List ℕ  -- the numbers, in its network, of the nodes it comes after: its 11 rows, or by rule
  pub formula : Formula

unfoldable pub same_origin : Origin → Origin → Bool
same_origin from_order from_order = true
same_origin from_order (from_step n) = false
same_origin (from_step m) from_order = false
same_origin (from_step m) (from_step n) = eqb m n

unfoldable pub same_name : Name → Name → Bool
same_name a b = same_origin a.origin b.origin && eqb a.number b.number

unfoldable pub is_parent : Name → Option Name → Bool
is_parent a none = false
is_parent a (some b) = same_name a b

-- `q` comes after `p`: `p` is of `q`'s network and its number is among those that `q` is listed after, or `p` came with a method used at `q`.
unfoldable pub comes_after : Waiting → Waiting → Bool
comes_after q p =
    same_origin q.name.origin p.name.origin && elem p.name.number q.after || is_parent q.name p.parent

-- A waiting goal is free if no goal it comes after still waits.
unfoldable pub free : List Waiting → Waiting → Bool
free w q = not (any (comes_after q) w)

unfoldable pub any_free : List Waiting → Bool
any_free w = any (free w) w

-- The nodes of a network from this source as waiting goals, in listed order; `i` nodes stand before these.
unfoldable pub enter : Source → Option Name → ℕ → List Node → List Waiting
enter source parent i [] = []
enter source parent i (n ∷ ns) =
    record { name = record { origin = origin_of source; number = i }; source = source; parent = parent; after = n.after; formula = n.formula }
    ∷ enter source parent (suc i) ns

-- At first the waiting list holds the order's goals in listed order.
unfoldable pub goals_of : Order → List Waiting
goals_of o = enter order none 0 o.goals

abbrev pub no_goal : Waiting
no_goal = record { name = record { origin = from_order; number = 0 }; source = order; parent = none; after = []; formula = [] }

-- The goal at a place, from 0.
abbrev pub goal_at : List Waiting → ℕ → Waiting
goal_at w p = get_or w p no_goal

-- How many goals stand above one with this parent goal: the parent, its parent, and so on up to a goal of the order; none above a goal of
-- the order. A goal's parent stands behind it in the list, so its own parent is looked for behind it.
unfoldable pub above_from : List Waiting → Option Name → ℕ
above_from [] parent = 0
above_from (q ∷ w) none = 0
above_from (q ∷ w) (some a) = cond (same_name a q.name) (suc (above_from w q.parent)) (above_from w (some a))

-- "each goal above it up to the order's goal".
abbrev pub goals_above : List Waiting → Waiting → ℕ
goals_above w q = above_from w q.parent

-- gn - t of 000: the goal at place `p` leaves the list; later places drop by one.
unfoldable pub released : List Waiting → ℕ → List Waiting
released w p = take p w ++ drop (suc p) w

-- gn ∘_t m of 000: a method's nodes, from this source, enter directly before the goal at place `p`, in listed order, with their own
-- afters, and that goal comes after each of them. The goal itself stays.
unfoldable pub decomposed : List Waiting → ℕ → Source → List Node → List Waiting
decomposed w p source nodes = take p w ++ (enter source (some (goal_at w p).name) 0 nodes ++ drop p w)
