-- Where a search stands, and one step tried, as the rules have it.
use Rattle.std.specs.Prelude.{ℕ, suc, ◌+◌, ◌<◌, ◌≤◌, ◌≡◌, Bool, true, false, ◌⊎◌, List}
use Rattle.std.proofs.Math.Option.{Option, none}
use Rattle.hgn.specs.Questions.{Failure}
use Rattle.hgn.specs.Network.{most_waiting}
use Rattle.hgn.specs.Run.{Step, Problem, Rules, refused, stepped}
use Rattle.hgn.specs.Shop.{domain, action_count, method_count}
use Rattle.hgn.specs.Search.{most_depth}
use Rattle.hgn.specs.Replay.{rules_of}
use Rattle.network.specs.Goals.{count_in}
use Rattle.step.specs.Moves.{Known, known_of}
use Rattle.step.specs.Deciding.{StepAllowed}
use Rattle.step.specs.Taking.{problem_with, ValidGoals, Going}
use Rattle.step.specs.declared.moves.Move.TheVariants.{Release}
use Rattle.step.specs.declared.moves.Choice.{Choice}
use Rattle.search_theory.specs.Rules.{has_no_effect, lower_too, too_few_left, commutes_with_last}
use Rattle.search_theory.specs.Pruned.{behind, pruned_of}
use Rattle.search_pruning.specs.Tests.{move_number, step_of}
use Rattle.search.specs.declared.explore.Node.{Node}
use Rattle.search.specs.declared.lent.Given.{Given}
use Rattle.search.specs.declared.lent.Moment.{Moment}

-- A moment, as a problem of the definitions.
abbrev pub problem_of : List ℕ → List ℕ → Moment → Problem
problem_of shop order m = problem_with shop order m.atoms.now m.goals.now

-- What is lent at a moment, as a problem of the definitions.
abbrev pub problem_at : Given → Moment → Problem
problem_at given m = problem_of given.shop.now given.order.now m

-- Where a search of so many steps begins: a release at place 0 stands for the step before it.
abbrev pub first_node : ℕ → Node
first_node left = record { last = record { mv = Release; place = record { 0 = 0 } }; left = left; number = 0; exhausted = record { 0 = 0 } }

-- What a search asks of a moment `m`, where it stands, and of the goals of the moment `m₀` from which the last step was taken.
pub record Stands (given : Given) (m m₀ : Moment) (node : Node) : Type 0 where
  pub going : Going given.shop.now given.order.now node.number m.atoms.now m.goals.now
  pub before : ValidGoals given.shop.now given.order.now m₀.goals.now
  pub last_inside : 0 < count_in m.goals.now → node.last.place.0 < count_in m₀.goals.now
  pub last_known : Known (action_count given.shop.now) (method_count given.shop.now) node.last.mv
  pub fits : node.number + node.left ≤ most_depth

-- What is found with step `x` from `P`, with `k` steps behind it. The step before was `y`, from `P₀`.
abbrev pub tried : ℕ → Rules → Problem → Step → ℕ → Problem → Step → Option (List Step)
tried k r P₀ y n P x = behind r k P₀ y P (pruned_of k r P x (suc n)) x (stepped r n P x)

-- So many steps are not too few; or no trace of so many is found, after whatever step.
abbrev pub Suffices : List ℕ → Problem → ℕ → Bool → Type 0
Suffices shop P left true = too_few_left left P ≡ false
Suffices shop P left false = (too_few_left left P ≡ true) ⊎ ((P₀ : Problem) (y : Step) (n : ℕ) → pruned_of left (rules_of shop) P₀ y n P ≡ none)

-- The step may be taken, and is no action that leaves the state as it is.
pub record Effective (shop : List ℕ) (P : Problem) (x : Choice) : Type 0 where
  pub taking : StepAllowed most_waiting shop P (move_number x.mv) x.place.0 x.mv
  pub changes : has_no_effect (domain shop) P.state (known_of x.mv) ≡ false

-- The step is refused, or is an action that leaves the state as it is.
abbrev pub NotEffective : List ℕ → Problem → Choice → Type 0
NotEffective shop P x = (has_no_effect (domain shop) P.state (known_of x.mv) ≡ true) ⊎ ((n : ℕ) → (f : Failure) × (stepped (rules_of shop) n P (step_of x) ≡ refused f))

abbrev pub MayTake : List ℕ → Problem → Choice → Bool → Type 0
MayTake shop P x true = Effective shop P x
MayTake shop P x false = NotEffective shop P x

-- The step may be taken, and no reason leaves it out, however many steps are left. The step before was `y`, from `P₀`.
pub record Open (shop : List ℕ) (P₀ : Problem) (y : Step) (P : Problem) (x : Choice) : Type 0 where
  pub taken : Effective shop P x
  pub lowest : lower_too (rules_of shop) P.waiting x.place.0 (known_of x.mv) ≡ false
  pub in_order : commutes_with_last (domain shop) P₀ y (step_of x) ≡ false

abbrev pub Opens : List ℕ → Problem → Step → Problem → Choice → Bool → Type 0
Opens shop P₀ y P x true = Open shop P₀ y P x
Opens shop P₀ y P x false = (k n : ℕ) → tried k (rules_of shop) P₀ y n P (step_of x) ≡ none
