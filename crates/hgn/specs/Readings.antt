-- What the definitions say, read a second time and by propositions: that accepted is derived, the order of the questions, 000's order and
-- operations on networks, methods, effects, states, costs; with `Written`, which sheets pass. Where a statement follows a sentence of
-- document 01 or of source document 000, that is quoted above it.
-- Values stand in `proofs/`, gathered in `proofs/Demands.antt`.
use Rattle.std.specs.Prelude.{ℕ, suc, ◌+◌, ◌-◌, ◌*◌, ◌≤◌, ◌<◌, ◌≡◌, true, false, ◌↔◌, ◌⊎◌, ◌≢◌, length, get_or}
use mathlib.Core.List.{List, [], ◌∷◌, ◌++◌, map, Memᴰ}
use Rattle.std.proofs.Math.Option.{Option, none, some}
use Rattle.hgn.specs.Lists.{At, range}
use Rattle.hgn.specs.Questions.{Failure, passed}
use Rattle.hgn.specs.Questions as Questions
use Rattle.hgn.specs.Tag.{most_cost}
use Rattle.hgn.specs.Meaning.{Literal, Formula, Node, Action, Method, Domain, Order, last_of, goal_of, network_of}
use Rattle.hgn.specs.State.{State, most_atoms, Entails, all_hold, EntailsAll, formula_holds, γ, opposite, LiteralOf, Relevant}
use Rattle.hgn.specs.Network.{Name, Source, used, origin_of, Waiting, free, any_free, enter, goals_of, goal_at, released, decomposed}
use Rattle.hgn.specs.Network as Network
use Rattle.hgn.specs.Run.{Step, release, act, use_method, unknown, move_of, known, action_at, method_at, Problem, start_of, problem_from}
use Rattle.hgn.specs.Run.{Rules, Decided, strict, moved, Deed, Stepped, refused, taken, stepped, cost_of}
use Rattle.hgn.specs.Join.{Accepted, join}
use Rattle.hgn.specs.Shop as Shop
use Rattle.hgn.specs.Shop.{domain, most_actions, check_shop}
use Rattle.hgn.specs.Order.{order, check_order}
use Rattle.hgn.specs.Trace.{size_words, step_count, most_steps, steps_of, check_trace}
use Rattle.hgn.specs.Replay.{rules_of, replay}
use Rattle.hgn.specs.Search.{Earlier, most_depth, is_found, searched, search}
use Rattle.hgn.specs.Written.{ConjunctRules, SheetsAreWritten}
use Rattle.hgn.specs.Definition1.{Derivation, ComesAfter, Precedes, Unconstrained}

-- Accepted is derived. Whatever the rules, if their tests decide their propositions, and whatever the first problem, accepted steps are a
-- derivation of the same plan and last state, and back. The limit on actions keeps the moves apart. The tests of 000's rules decide, so
-- with these it is a derivation under Definition 1.
pub record AcceptedIsDerivation : Type 1 where
  pub accepted_iff : (r : Rules) → Decided r → length r.domain.actions ≤ most_actions
      → (P : Problem) (xs : List Step) (plan : List ℕ) (last : State) → Accepted r P xs plan last ↔ Derivation r 0 P xs plan last
  pub strict_decided : (limit : ℕ) (d : Domain) → Decided (strict limit d)

-- The order of the questions of a step (25 to 32), of a replay from 23 to 25, and of a search from 18 to 43: where two neighbours are both
-- answered no, and those before them yes, the number told is the first one's. For the questions of the sheets, `QuestionCases` has a sheet each.

-- The step is refused by the question of this number.
abbrev pub RefusedBy : ℕ → Stepped → Type 0
RefusedBy number o = (f : Failure) × (o ≡ refused f) × (f.refusal.number ≡ number)

-- The order of a step's questions, whatever its number and the problem.
pub record StepOrder (r : Rules) (n : ℕ) (P : Problem) (x : Step) : Type 0 where
  pub place_before_known : length P.waiting ≤ x.place → move_of r.domain x.move ≡ unknown → RefusedBy 25 (stepped r n P x)
  pub known_before_any : x.place < length P.waiting → move_of r.domain x.move ≡ unknown → any_free P.waiting ≡ false
      → RefusedBy 26 (stepped r n P x)
  pub any_before_this : x.place < length P.waiting → known (move_of r.domain x.move) ≡ true → any_free P.waiting ≡ false
      → free P.waiting (goal_at P.waiting x.place) ≡ false → RefusedBy 27 (stepped r n P x)
  pub this_before_holds : x.place < length P.waiting → move_of r.domain x.move ≡ release → any_free P.waiting ≡ true
      → free P.waiting (goal_at P.waiting x.place) ≡ false
      → formula_holds P.state (goal_at P.waiting x.place).formula ≡ false → RefusedBy 28 (stepped r n P x)
  pub this_before_needs : (k : ℕ) → x.place < length P.waiting → move_of r.domain x.move ≡ act k → any_free P.waiting ≡ true
      → free P.waiting (goal_at P.waiting x.place) ≡ false
      → all_hold P.state (action_at r.domain k).needs ≡ false → RefusedBy 28 (stepped r n P x)
  pub this_before_method_needs : (m : ℕ) → x.place < length P.waiting → move_of r.domain x.move ≡ use_method m
      → any_free P.waiting ≡ true → free P.waiting (goal_at P.waiting x.place) ≡ false
      → all_hold P.state (method_at r.domain m).needs ≡ false → RefusedBy 28 (stepped r n P x)
  pub needs_before_relevant : (k : ℕ) → x.place < length P.waiting → move_of r.domain x.move ≡ act k
      → free P.waiting (goal_at P.waiting x.place) ≡ true
      → all_hold P.state (action_at r.domain k).needs ≡ false
      → r.may_act (action_at r.domain k) (goal_at P.waiting x.place).formula ≡ false → RefusedBy 30 (stepped r n P x)
  pub method_needs_before_relevant : (m : ℕ) → x.place < length P.waiting → move_of r.domain x.move ≡ use_method m
      → free P.waiting (goal_at P.waiting x.place) ≡ true
      → all_hold P.state (method_at r.domain m).needs ≡ false
      → r.may_use (method_at r.domain m) (goal_at P.waiting x.place).formula ≡ false → RefusedBy 30 (stepped r n P x)
  pub relevant_before_limit : (m : ℕ) → x.place < length P.waiting → move_of r.domain x.move ≡ use_method m
      → free P.waiting (goal_at P.waiting x.place) ≡ true
      → all_hold P.state (method_at r.domain m).needs ≡ true
      → r.may_use (method_at r.domain m) (goal_at P.waiting x.place).formula ≡ false
      → r.limit < length (moved r.domain n P x.place (use_method m)).waiting → RefusedBy 31 (stepped r n P x)

-- The order of a replay's questions: those of the sheets first, shop, order, trace; 23 before 24, and 24 before 25.
pub record ReplayOrder (shop sheet trace room : List ℕ) : Type 0 where
  pub sheets_first : (f : Failure) → check_trace shop sheet trace ≡ Questions.refused f → (replay shop sheet trace room).answer.refusal ≡ f.refusal
  pub size_before_room : check_order shop sheet ≡ passed → 1 ≤ length trace → step_count trace ≤ most_steps
      → length trace ≢ size_words + 2 * step_count trace → length room < step_count trace
      → (replay shop sheet trace room).answer.refusal.number ≡ 23
  pub room_before_place : check_trace shop sheet trace ≡ passed → length room < step_count trace
      → (x : Step) (xs : List Step) → steps_of trace ≡ x ∷ xs → length (order sheet).goals ≤ x.place
      → (replay shop sheet trace room).answer.refusal.number ≡ 24

-- The order of a search's questions: those of the sheets first, so 18 before 41; 41 before 42, 42 before 43.
pub record SearchOrder (shop sheet : List ℕ) (depth : ℕ) (room : List ℕ) : Type 0 where
  pub sheets_first : (f : Failure) → check_order shop sheet ≡ Questions.refused f → (search shop sheet depth room).refusal ≡ f.refusal
  pub depth_before_room : check_order shop sheet ≡ passed → most_depth < depth → length room < size_words + 2 * depth
      → (search shop sheet depth room).refusal.number ≡ 41
  pub room_before_none : check_order shop sheet ≡ passed → depth ≤ most_depth → length room < size_words + 2 * depth
      → is_found (searched shop sheet depth) ≡ false → (search shop sheet depth room).refusal.number ≡ 42

pub record QuestionsInOrder : Type 1 where
  pub of_step_law : (r : Rules) (n : ℕ) (P : Problem) (x : Step) → StepOrder r n P x
  pub of_replay : (shop sheet trace room : List ℕ) → ReplayOrder shop sheet trace room
  pub of_search : (shop sheet : List ℕ) (depth : ℕ) (room : List ℕ) → SearchOrder shop sheet depth room

-- "every goal of the first before every goal of the second": in the join's list the first's goals have the first places.
abbrev pub FirstBeforeSecond : Type 0
FirstBeforeSecond = (a b : Order) (i j : ℕ) (p q : Waiting) → At (goals_of (join a b)) i p → At (goals_of (join a b)) j q
    → i < length a.goals → length a.goals ≤ j → ComesAfter q p

-- The join: "the first's start rows, the first's goals with their rows, then the second's goals in listed order. The 11 rows of each of these
-- are 0 to G - 1 of the first, then its own raised by that G."
pub record JoinIs01s (a b : Order) : Type 0 where
  pub start : (join a b).start ≡ a.start
  pub first : (k : ℕ) (n : Node) → At a.goals k n → At (join a b).goals k n
  pub second : (k : ℕ) (n : Node) → At b.goals k n
      → At (join a b).goals (length a.goals + k)
      (record { after = range 0 (length a.goals) ++ map (λ i. length a.goals + i) n.after; formula = n.formula })
  pub alone : length (join a b).goals ≡ length a.goals + length b.goals

-- The 11 rows of an order: a goal comes after those that its rows name and after no other.
abbrev pub GoalsAfterListed : Type 0
GoalsAfterListed = (o : Order) (i j : ℕ) (p q : Waiting) (n : Node) → At (goals_of o) i p → At (goals_of o) j q → At o.goals j n
    → ComesAfter q p ↔ Memᴰ i n.after

-- The order of a sheet that passes with this shop sheet, or a join of such orders.
pub data FromSheets (shop : List ℕ) : Order → Type 0 where
  by_sheet : (sheet : List ℕ) → check_order shop sheet ≡ passed → FromSheets shop (order sheet)
  by_join : {a b : Order} → FromSheets shop a → FromSheets shop b → FromSheets shop (join a b)

-- Exactly these steps, numbered from 0, are taken from the problem `P₀`, and lead to this problem.
pub data Reached (r : Rules) (P₀ : Problem) : List Step → Problem → Type 0 where
  first : Reached r P₀ [] P₀
  next : {xs : List Step} {P P' : Problem} {deed : Deed} (x : Step)
      → Reached r P₀ xs P → stepped r (length xs) P x ≡ taken deed P' → Reached r P₀ (xs ++ (x ∷ [])) P'

-- Document 01's 'after' and 000's partial order. On every network that a run reaches from checked sheets or their joins, under whatever
-- rules for the shop's domain and from whatever first state, no goal waits twice, a goal is free by the listed pairs exactly when it is
-- unconstrained by their transitive closure, and that closure is a strict partial order.

pub record OrderedNetwork (w : List Waiting) : Type 0 where
  pub distinct : (i j : ℕ) (t : Waiting) → At w i t → At w j t → i ≡ j
  pub free_iff : (t : Waiting) → Memᴰ t w → (free w t ≡ true) ↔ Unconstrained w t
  pub irreflexive : (t : Waiting) → ¬ Precedes w t t

-- 000's operations on such a network. Goal release: "T' = T \ {t} and ≺' is the restriction of ≺ to T'". Method application:
-- "T' = T ∪ T_m and ≺' = ≺ ∪ ≺_m ∪ {(t_m, t) | t_m ∈ T_m}" (000 prints m ∈ T_m): as it stands of the listed pairs, and of the orders by
-- the transitive closure of that union.

-- The nodes T_m of method `m`, number `i` of its domain, used at goal `t` in step `n`.
abbrev pub entering : ℕ → ℕ → Waiting → Method → List Waiting
entering n i t m = enter (used n i) (some t.name) 0 (network_of m)

-- A listed pair between two goals of the list.
abbrev pub Pair : List Waiting → Waiting → Waiting → Type 0
Pair w a b = Memᴰ a w × Memᴰ b w × ComesAfter b a

-- The transitive closure of a relation.
pub data Closure (R : Waiting → Waiting → Type 0) : Waiting → Waiting → Type 0 where
  one : {a b : Waiting} → R a b → Closure R a b
  more : {a b c : Waiting} → Closure R a b → Closure R b c → Closure R a c

pub record Operations (n : ℕ) (w : List Waiting) : Type 0 where
  pub release_nodes : (p : ℕ) (t a : Waiting) → At w p t → Memᴰ a (released w p) ↔ (Memᴰ a w × (a ≢ t))
  pub release_order : (p : ℕ) (t a b : Waiting) → At w p t → Unconstrained w t → Memᴰ a (released w p) → Memᴰ b (released w p)
      → Precedes (released w p) a b ↔ Precedes w a b
  pub method_new : (p : ℕ) (t a : Waiting) (i : ℕ) (m : Method) → At w p t → Memᴰ a (entering n i t m) → ¬ Memᴰ a w
  pub method_nodes : (p : ℕ) (t a : Waiting) (i : ℕ) (m : Method) → At w p t
      → Memᴰ a (decomposed w p (used n i) (network_of m)) ↔ (Memᴰ a w ⊎ Memᴰ a (entering n i t m))
  pub method_pairs : (p : ℕ) (t a b : Waiting) (i : ℕ) (m : Method) → At w p t
      → Pair (decomposed w p (used n i) (network_of m)) a b
      ↔ (Pair w a b
      ⊎ ((Memᴰ a (entering n i t m) × Memᴰ b (entering n i t m) × Memᴰ a.name.number b.after)
      ⊎ (Memᴰ a (entering n i t m) × (b ≡ t))))
  pub method_order : (p : ℕ) (t a b : Waiting) (i : ℕ) (m : Method) → At w p t
      → Precedes (decomposed w p (used n i) (network_of m)) a b
      ↔ Closure (λ a b. Precedes w a b ⊎ (Precedes (entering n i t m) a b ⊎ (Memᴰ a (entering n i t m) × (b ≡ t)))) a b

abbrev pub NetworksAre000s : Type 1
NetworksAre000s = (shop : List ℕ) (o : Order) → FromSheets shop o
    → (r : Rules) → r.domain ≡ domain shop → (s : State) (xs : List Step) (P : Problem) → Reached r (problem_from s o) xs P
    → OrderedNetwork P.waiting × Operations (length xs) P.waiting

-- The places of the waiting list. Document 01: at first it "holds the order's goals in listed order"; of a release "later places drop by
-- one"; of a method "Its nodes enter directly before that goal, in listed order, with their own afters".
pub record PlacesAre01s : Type 0 where
  pub goals_as_listed : (o : Order) (k : ℕ) (n : Node) → At o.goals k n
      → At (goals_of o) k
      (record { name = record { origin = Network.from_order; number = k }; source = Network.order; parent = none; after = n.after; formula = n.formula })
  pub goals_alone : (o : Order) → length (goals_of o) ≡ length o.goals
  pub nodes_as_listed : (source : Source) (parent : Option Name) (nodes : List Node) (k : ℕ) (n : Node) → At nodes k n
      → At (enter source parent 0 nodes) k
      (record { name = record { origin = origin_of source; number = k }; source = source; parent = parent; after = n.after; formula = n.formula })
  pub release_before : (w : List Waiting) (p i : ℕ) (a : Waiting) → i < p → At w i a → At (released w p) i a
  pub release_behind : (w : List Waiting) (p i : ℕ) (a : Waiting) → p ≤ i → At w (suc i) a → At (released w p) i a
  pub method_before : (w : List Waiting) (p i : ℕ) (source : Source) (nodes : List Node) (a : Waiting) → i < p → At w i a
      → At (decomposed w p source nodes) i a
  pub method_between : (w : List Waiting) (p k : ℕ) (source : Source) (nodes : List Node) (t : Waiting) (n : Node) → At w p t → At nodes k n
      → At (decomposed w p source nodes) (p + k)
      (record { name = record { origin = origin_of source; number = k }; source = source; parent = some t.name; after = n.after; formula = n.formula })
  pub method_behind : (w : List Waiting) (p i : ℕ) (source : Source) (nodes : List Node) (a : Waiting) → p ≤ i → At w i a
      → At (decomposed w p source nodes) (length nodes + i) a

-- 000: "By convention, network(m) has a last node t_g containing goal(m) to ensure that m accomplishes its own goal." Document 01:
-- "it comes after all the others by rule".

pub record EndsInGoal (m : Method) : Type 0 where
  pub goal : (last_of (network_of m)).formula ≡ goal_of m ∷ []
  pub after_others : (last_of (network_of m)).after ≡ range 0 (length (network_of m) - 1)
  -- A method's other nodes are as its rows list them.
  pub others : (init : List Node) (last : Node) → m.nodes ≡ init ++ (last ∷ [])
      → network_of m ≡ init ++ (record { after = range 0 (length init); formula = last.formula } ∷ [])

abbrev pub MethodsEndInGoals : Type 0
MethodsEndInGoals = (shop : List ℕ) → check_shop shop ≡ passed → (m : Method) → Memᴰ m (domain shop).methods → EndsInGoal m

-- 000: "γ(s, a) = (s - eff⁻(a)) ∪ eff⁺(a)", atom by atom.

-- The atom is in the state.
abbrev pub In : State → ℕ → Type 0
In s p = get_or s p false ≡ true

-- The set (s - eff⁻) ∪ eff⁺ has the atom.
abbrev pub InEffect : State → List Literal → ℕ → Type 0
InEffect s effects p =
    (In s p × (¬ Memᴰ (record { sign = false; atom = p }) effects)) ⊎ Memᴰ (record { sign = true; atom = p }) effects

abbrev pub EffectsAreGamma : Type 0
EffectsAreGamma = (s : State) (effects : List Literal) (p : ℕ) → p < length s → In (γ s effects) p ↔ InEffect s effects p

-- Document 01: "A state is a set of atoms. At first the state is the atoms of the order's 12 rows". Every state that a run reaches from
-- a set of the 256 atoms is one, so that the effects above are those of its actions.

pub record StatesAreSetsOfAtoms : Type 1 where
  pub at_first : (o : Order) (p : ℕ) → p < most_atoms → In (start_of o) p ↔ Memᴰ p o.start
  pub first_whole : (o : Order) → length (start_of o) ≡ most_atoms
  pub whole : (r : Rules) (P Q : Problem) (xs : List Step) → Reached r P xs Q → length Q.state ≡ length P.state

-- 000: an action or a method is "relevant to a goal formula g if eff(a) (or post(m), respectively) entails at least one literal in g and does
-- not entail the negation of any literal in g". `Relevant` asks which literals stand in the list. For lists as checked sheets have them, whose
-- atoms are below 256 and stand once (`ConjunctRules`), that comes to the same.

-- "the negation of any literal": the opposite of a literal holds exactly where the literal does not.
abbrev pub OppositeIsNegation : Type 0
OppositeIsNegation = (s : State) (l : Literal) → Entails s (opposite l) ↔ (¬ Entails s l)

-- The literal holds in every set of the 256 atoms in which all of these hold.
abbrev pub EntailsLiteral : List Literal → Literal → Type 0
EntailsLiteral c l = (s : State) → length s ≡ most_atoms → EntailsAll s c → Entails s l

pub record RelevantBy000 (effects : List Literal) (g : Formula) : Type 0 where
  pub literal : Literal
  pub wanted : LiteralOf g literal
  pub entailed : EntailsLiteral effects literal
  pub no_negation : (l : Literal) → LiteralOf g l → ¬ EntailsLiteral effects (opposite l)

abbrev pub RelevanceIs000s : Type 0
RelevanceIs000s = (F : ℕ) (effects : List Literal) (g : Formula) → F ≤ most_atoms → ConjunctRules F effects
    → ((c : List Literal) → Memᴰ c g → ConjunctRules F c) → Relevant effects g ↔ RelevantBy000 effects g

-- The rules of a replay and of a search: 000's 'relevant', for the actions and the methods of the shop sheet. "the effects, or for a method its
-- goal".
pub record RulesAre000s (shop : List ℕ) : Type 0 where
  pub domain_is : (rules_of shop).domain ≡ domain shop
  pub act_iff : (a : Action) → Memᴰ a (domain shop).actions
      → (g : Formula) → ((c : List Literal) → Memᴰ c g → ConjunctRules (Shop.atom_count shop) c)
      → (rules_of shop).MayAct a g ↔ RelevantBy000 a.effects g
  pub use_iff : (m : Method) → Memᴰ m (domain shop).methods
      → (g : Formula) → ((c : List Literal) → Memᴰ c g → ConjunctRules (Shop.atom_count shop) c)
      → (rules_of shop).MayUse m g ↔ RelevantBy000 (goal_of m) g

-- The limits that no sheet's rules have in them, as document 01's numbers: "at most 64 goals waiting", and a search's D.
pub record LimitsAre01s : Type 0 where
  pub waiting : (shop : List ℕ) → (rules_of shop).limit ≡ 64
  pub depth : most_depth ≡ 32

-- Document 01: the cost is "at most 4,096 × 65,535 = 268,431,360".
pub record CostsAreSums : Type 1 where
  pub bounded : (shop : List ℕ) → check_shop shop ≡ passed → (plan : List ℕ) → length plan ≤ most_steps
      → cost_of (domain shop) plan ≤ most_steps * most_cost
  pub product : most_steps * most_cost ≡ 268_431_360
  -- The cost of a plan is the sum of its actions' costs.
  pub of_none : (d : Domain) → cost_of d [] ≡ 0
  pub of_action : (d : Domain) (k : ℕ) (a : Action) (plan : List ℕ) → At d.actions k a
      → cost_of d (suc k ∷ plan) ≡ a.cost + cost_of d plan
  -- A derived plan has at most as many actions as its trace has steps.
  pub short : (r : Rules) (n : ℕ) (P : Problem) (xs : List Step) (plan : List ℕ) (last : State) → Derivation r n P xs plan last
      → length plan ≤ length xs

-- Document 01: "the first differing step decides: lower place, then lower move". The steps `zs` are common to both.
pub record FirstDiffers (xs ys : List Step) : Type 0 where
  pub zs : List Step
  pub x : Step
  pub y : Step
  pub us : List Step
  pub vs : List Step
  pub first_is : xs ≡ zs ++ (x ∷ us)
  pub second_is : ys ≡ zs ++ (y ∷ vs)
  pub lower : (x.place < y.place) ⊎ ((x.place ≡ y.place) × (x.move < y.move))

abbrev pub EarlierIs01s : Type 0
EarlierIs01s = (xs ys : List Step) → Earlier xs ys ↔ FirstDiffers xs ys

-- All statements of this page.
pub record Read : Type 1 where
  pub sheets_are_written : SheetsAreWritten
  pub accepted_is_derivation : AcceptedIsDerivation
  pub questions_in_order : QuestionsInOrder
  pub first_before_second : FirstBeforeSecond
  pub joins_are_01s : (a b : Order) → JoinIs01s a b
  pub goals_after_listed : GoalsAfterListed
  pub networks_are_000s : NetworksAre000s
  pub places_are_01s : PlacesAre01s
  pub methods_end_in_goals : MethodsEndInGoals
  pub effects_are_gamma : EffectsAreGamma
  pub states_are_sets : StatesAreSetsOfAtoms
  pub opposite_is_negation : OppositeIsNegation
  pub relevance_is_000s : RelevanceIs000s
  pub rules_are_000s : (shop : List ℕ) → check_shop shop ≡ passed → RulesAre000s shop
  pub limits_are_01s : LimitsAre01s
  pub costs_are_sums : CostsAreSums
  pub earlier_is_01s : EarlierIs01s
