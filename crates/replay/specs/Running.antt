-- A run's beginning and its totals. Document 01, "How a derivation runs".
use Rattle.std.specs.Prelude.{ℕ, ◌+◌, ◌≤◌, ◌≡◌, List}
use Rattle.hgn.specs.Network.{goals_of}
use Rattle.hgn.specs.Run.{start_of, action_at}
use Rattle.hgn.specs.Tag.{most_cost}
use Rattle.hgn.specs.Shop.{domain}
use Rattle.hgn.specs.Order as OrderSheet
use Rattle.sheet_index.specs.Tables.{Indexed}
use Rattle.network.specs.Goals.{list_in}
use Rattle.network.specs.declared.goals.Goals.{Goals}
use Rattle.step.specs.Taking.{ValidGoals}
use Rattle.step.specs.declared.moves.Move.{Move}
use Rattle.step.specs.declared.moves.Move.TheVariants.{Release, Act, Use}
use Rattle.step.specs.declared.problem.Problem.{Problem}
use Rattle.replay.specs.declared.run.Totals.{Totals}

-- The order's goals are all that waits.
pub record FirstGoals (shop order : List ℕ) (g : Goals) : Type 0 where
  pub valid : ValidGoals shop order g
  pub list : list_in shop order g ≡ goals_of (OrderSheet.order order)

-- The first record: the atoms true at the start, and the order's goals; and the shop's table beside it.
pub record Prepared (shop order table : List ℕ) (b : Problem) : Type 0 where
  pub indexed : Indexed shop order table
  pub atoms : b.atoms ≡ start_of (OrderSheet.order order)
  pub goals : FirstGoals shop order b.waiting

-- The totals after a move: an action counts, and costs what it costs.
abbrev pub TotalWith : List ℕ → Move → Totals → Totals → Type 0
TotalWith shop Release t r = r ≡ t
TotalWith shop (Act k) t r = (r.count ≡ t.count + 1) × (r.cost ≡ t.cost + (action_at (domain shop) k).cost) × ((action_at (domain shop) k).cost ≤ most_cost)
TotalWith shop (Use m) t r = r ≡ t
