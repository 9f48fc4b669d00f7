-- The line of a goal, and what a step tells. Assumes nothing.
use Prim.Native.Nat.{ℕ, ◌+◌, ◌-◌, ◌<◌}
use native.Mathlib.Omega.{arith}
use mathlib.Core.Path.{◌≡◌, refl, sym, ap, subst, ◌∙◌}
use mathlib.Core.Bool.{Bool, true, false, cond, ◌&&◌}
use mathlib.Core.Logic.{◌≢◌}
use mathlib.Core.List.{List, [], ◌∷◌, map}
use lib.Dec.{leb, ltb}
use lib.ListN.{length}
use borrow.Author.Tests.{eq-eqb, ne_eqb}
use Rattle.hgn.specs.Questions.{Failure}
use Rattle.hgn.specs.Meaning.{Domain}
use Rattle.hgn.specs.State.{State}
use Rattle.hgn.specs.Network.{step_number, method_number, most_waiting, Waiting, no_goal, goal_at, goals_above}
use Rattle.hgn.specs.Run as Run
use Rattle.hgn.specs.Run.{Step, Problem, Deed, act, use_method, unknown, move_of, first_method, leaving, deed_of, refused, stepped}
use Rattle.hgn.specs.Shop.{domain}
use Rattle.hgn.specs.Order as Sheet
use Rattle.hgn.specs.Replay.{rules_of}
use Rattle.hgn.specs.Listing.{line_of, lines_at}
use Rattle.hgn.proofs.Logic.Tests.{at_of_lt}
use Rattle.hgn.proofs.Network.Above.{above_below}
use Rattle.hgn.proofs.Listing.Trees.{Any, reached_tree}
use Rattle.hgn.proofs.Run.Steps.{refused≢taken, taken_deed, taken_problem, step_passed, taken_passed, took}
use Rattle.network.specs.Entries.{source_in, waiting_of}
use Rattle.network.specs.Goals.{count_in, entry_in, list_in}
use Rattle.network.specs.declared.waiting.Entry.{Entry}
use Rattle.network.specs.declared.goals.Goals.{Goals}
use Rattle.network.proofs.WaitingGoals.{list_length, list_at}
use Rattle.step.specs.Taking.{problem_with, Going, TakenBy}
use Rattle.step.specs.declared.moves.Move.{Move}
use Rattle.step.proofs.TakenSteps.{going_next}
use Rattle.listing.specs.Lines.{numbers_of, Narrow, TellsMove, StepTold}
use Rattle.std.specs.Prelude.{Option}
use Rattle.listing.specs.declared.line.Line.{Line}

-- The four numbers of the goal at a place.
module _ (ws : Goals) (p : ℕ) (inside : p < count_in ws) (n : ℕ) (shop order : List ℕ) {goal : Entry} (is : goal ≡ entry_in ws p) where
  abbrev list : List Waiting
  list = list_in shop order ws

  source_is : source_in goal.source ≡ (goal_at list p).source
  unfolding waiting_of
  source_is = ap (λ (e : Entry). source_in e.source) is ∙ sym (ap (λ (q : Waiting). q.source) (list_at shop order ws p inside))

  pub line_numbers : {above brought method : ℕ} → above ≡ goals_above list (goal_at list p) → brought ≡ step_number (source_in goal.source)
      → method ≡ method_number (source_in goal.source)
      → ◌≡◌ {A = Line} (record { above = above; released = n; brought = brought; method = method }) (numbers_of (line_of n (leaving list (goal_at list p))))
  line_numbers a b m = λ i. record {
    above = a i;
    released = n;
    brought = (b ∙ ap step_number source_is) i;
    method = (m ∙ ap method_number source_is) i;
  }

-- A release gives the line of its goal, any other move none.
module _ (P : Problem) (n p : ℕ) (d : Domain) (mv : ℕ) where
  pub release_lines : mv ≡ 0 → lines_at n (deed_of P p (move_of d mv)) ≡ line_of n (leaving P.waiting (goal_at P.waiting p)) ∷ []
  unfolding lines_at deed_of move_of
  release_lines e = rw (eq-eqb mv 0 e)

  pub other_lines : mv ≢ 0 → lines_at n (deed_of P p (move_of d mv)) ≡ []
  unfolding lines_at deed_of move_of
  other_lines h = rw (ne_eqb mv 0 h) (go (leb mv (length d.actions)) (leb first_method mv && ltb mv (first_method + length d.methods)))
    where
      go : (a b : Bool) → lines_at n (deed_of P p (cond a (act mv) (cond b (use_method (mv - first_method)) unknown))) ≡ []
      go true b = refl
      go false true = refl
      go false false = refl

-- Above a goal that waits at a problem that a run has come to stand fewer goals than may wait; so it is of each line that a move gives.
few_above : {shop order : List ℕ} {n : ℕ} {s : State} (ws : Goals) → Going shop order n s ws → (p : ℕ) → p < length (list_in shop order ws)
    → goals_above (list_in shop order ws) (goal_at (list_in shop order ws) p) < most_waiting
few_above {shop} {order} ws going p h =
    let w = list_in shop order ws in
    let tree = reached_tree (Sheet.order order) going.reached.reached in
    let below = above_below Any w p (goal_at w p) tree.named.distinct tree.rooted (at_of_lt w p no_goal h) in
    omega (arith, below, list_length shop order ws, ws.few)

lines_narrow : (P : Problem) (n p : ℕ) (m : Run.Move) → goals_above P.waiting (goal_at P.waiting p) < most_waiting
    → Narrow (map numbers_of (lines_at n (deed_of P p m)))
unfolding lines_at deed_of
lines_narrow P n p Run.release h = (h, tt)
lines_narrow P n p (act k) h = tt
lines_narrow P n p (use_method m) h = tt
lines_narrow P n p unknown h = tt

-- What a step tells and leaves, at the atoms and the goals before it.
module _ (shop order : List ℕ) (n : ℕ) (x : Step) (s : State) (ws : Goals) (told : Option Line) (s' : State) (ws' : Goals) where
  pub taken_told : {m : Move} → Going shop order n s ws → TellsMove ws n x told → TakenBy most_waiting shop order n x m s ws s' ws'
      → StepTold shop order n x s ws told s' ws'
  taken_told going tells t deed P e =
      let Q = problem_with shop order s ws in
      let inside = (took x deed P e).inside in
      let same = sym (step_passed (rules_of shop) n Q x (taken_passed (rules_of shop) n Q x deed P e)) ∙ e in
      let given = tells shop order n s going.reached (omega (arith, inside, list_length shop order ws)) in
      record {
        lines = given ∙ ap (λ (k : Deed). map numbers_of (lines_at n k)) (taken_deed same);
        narrow = subst Narrow (sym given) (lines_narrow Q n x.place (move_of (domain shop) x.move) (few_above ws going x.place inside));
        leaves = taken_problem (sym t.comes ∙ e);
        going = going_next (omega arith) going t;
      }

  pub refused_told : {f : Failure} → stepped (rules_of shop) n (problem_with shop order s ws) x ≡ refused f → StepTold shop order n x s ws told s' ws'
  refused_told h deed P e = absurd (refused≢taken (sym h ∙ e))
