-- What is decided of a step, question by question, and how a method's questions are answered from its rows. Assumes nothing.
use Prim.Native.Nat.{ℕ, ◌+◌, ◌<◌, ◌≤◌}
use native.Mathlib.Omega.{arith}
use mathlib.Core.Path.{◌≡◌, refl, sym, ap, subst, ◌∙◌}
use mathlib.Core.Bool.{Bool, true, false, cond}
use mathlib.Core.List.{List}
use lib.Dec.{eqb, leb}
use lib.ListN.{length}
use borrow.Author.Tests.{ne_eqb}
use Rattle.std.specs.Prelude.{Option, Some, None, Result, Ok, Err}
use Rattle.hgn.specs.Questions as Questions
use Rattle.hgn.specs.Questions.{◌asks◌, ◌naming◌, passed, first_no}
use Rattle.hgn.specs.Rows.{Row}
use Rattle.hgn.specs.Tag as Tag
use Rattle.hgn.specs.Meaning.{Literal, Formula, literals, node_of, goal_of, network_of}
use Rattle.hgn.specs.State.{State, all_hold, formula_holds, unmet, unmet_goal, relevant}
use Rattle.hgn.specs.Network as Network
use Rattle.hgn.specs.Network.{most_waiting, goal_at, free, any_free}
use Rattle.hgn.specs.Run as Run
use Rattle.hgn.specs.Run.{Problem, Rules, strict, refused, move_of, method_at, own_questions}
use Rattle.hgn.specs.Shop.{domain, action_count, method_count}
use Rattle.hgn.proofs.Questions.FirstNo.{Numbers, refused_number}
use Rattle.sheet_rows.specs.Refusals.{number_of}
use Rattle.sheet_rows.specs.declared.position.Sheet.TheVariants as Of
use Rattle.sheet_rows.specs.declared.position.Atom.{Atom}
use Rattle.state.specs.Tests.{Tested, GoalTested}
use Rattle.sheet_index.specs.declared.rows.Rows.{Rows}
use Rattle.sheet_index.specs.declared.index.Span.{Span}
use Rattle.sheet_index.specs.Index.{span_of, span_rows}
use Rattle.network.specs.Entries.{waiting_of}
use Rattle.sheet_index.specs.Tables.{Indexed, ActionIn, Bounds, Walk, NodesCounted, MethodAt}
use Rattle.sheet_index.specs.declared.operators.Nodes.{Nodes}
use Rattle.sheet_index.specs.declared.operators.MethodRows.{MethodRows}
use Rattle.step.specs.Moves.{Known, known_of, move_read}
use Rattle.step.specs.Failures.{failure_of}
use Rattle.step.specs.declared.failure.Failure.{Failure}
use Rattle.step.specs.Deciding.{Faces, Answers, ActionAnswers, with_question27, StatusIn, Decides}
use Rattle.network.specs.declared.waiting.Waiting.{Waiting}
use Rattle.step.specs.declared.moves.Move.{Move}
use Rattle.step.specs.declared.moves.Move.TheVariants.{Release, Act, Use}
use Rattle.step.specs.declared.questions.Load.{Load}
use Rattle.sheet_index.proofs.Tables.{shop_passes}
use Rattle.sheet_index.proofs.OperatorRows.{method_size}
use Rattle.step.proofs.Bodies.{read_by_counts, step_25, step_26, step_27, step_28, own_refuses, own_takes, own_room, use_30, use_31, use_32, use_passed}
use Rattle.step.proofs.Actions.{known_read}

-- The number of a move's own refusal is not 28.
module _ (r : Rules) (n p : ℕ) (P : Problem) where
  own_numbers : (m : Move) → Numbers (λ k a. 28 < k) (own_questions r n P p (known_of m))
  unfolding own_questions
  own_numbers Release = (omega arith, tt)
  own_numbers (Act k) = (omega arith, (omega arith, tt))
  own_numbers (Use m) = (omega arith, (omega arith, (omega arith, tt)))

  own_above : (m : Move) (q : Questions.Failure) → first_no (own_questions r n P p (known_of m)) ≡ Questions.refused q → 28 < q.refusal.number
  own_above m q e = refused_number (λ k a. 28 < k) (own_questions r n P p (known_of m)) (own_numbers m) q e

-- A move that was read is known.
pub read_known : (shop : List ℕ) (move actions methods : ℕ) → actions ≡ action_count shop → methods ≡ method_count shop
    → (m : Move) → known_of m ≡ move_read move actions methods → Known (action_count shop) (method_count shop) m
read_known shop move actions methods a b m reads = known_read move _ _ m (reads ∙ rw (a, b))

-- What is decided of a step, question by question.
module _ {shop order table : List ℕ} (ix : Indexed shop order table) (s : State) (load : Load) (move p : ℕ) (waiting : Option Waiting)
    (P : Problem) (look : StatusIn shop order s load.count waiting P p) where
  abbrev rules : Rules
  rules = strict load.limit (domain shop)

  pub decide_past : waiting ≡ None → (q : Failure) → failure_of q ≡ (25 asks false).failure → Decides load.limit shop P move p (Err q)
  decide_past h q e n = step_25 rules n P move p (omega (arith, look.size, look.none h)) ∙ ap (λ (q : Questions.Failure). refused (with_question27 P.waiting q)) (sym e)

  module _ {w : Waiting} (h : waiting ≡ Some w) {actions methods : ℕ} (a : actions ≡ action_count shop) (b : methods ≡ method_count shop) where
    inside : p < length P.waiting
    inside = (look.some w h).inside

    move_is : move_of (domain shop) move ≡ move_read move actions methods
    move_is = read_by_counts shop move (shop_passes ix) ∙ rw (a, b) refl

    pub decide_unknown : Run.unknown ≡ move_read move actions methods → (q : Failure) → failure_of q ≡ (26 asks false).failure
        → Decides load.limit shop P move p (Err q)
    decide_unknown e q z n =
        step_26 rules n P move p inside (move_is ∙ sym e) ∙ ap (λ (q : Questions.Failure). refused (with_question27 P.waiting q)) (sym z)

    module _ (m : Move) (reads : known_of m ≡ move_read move actions methods) where
      goal_free : {v : Bool} → eqb w.pending 0 ≡ v → free P.waiting (goal_at P.waiting p) ≡ v
      goal_free q = sym (look.some w h).free_is ∙ q

      pub decide_held : eqb w.pending 0 ≡ false → (q : Failure) → failure_of q ≡ (28 asks false).failure → Decides load.limit shop P move p (Err q)
      decide_held f r z n = go (any_free P.waiting) refl ∙ ap (λ (q : Questions.Failure). refused (with_question27 P.waiting q)) (sym z)
        where
          go : (v : Bool) → any_free P.waiting ≡ v
              → Run.stepped rules n P (record { move = move; place = p }) ≡ refused (with_question27 P.waiting (28 asks false).failure)
          go true q = step_28 rules n P move p inside m (move_is ∙ sym reads) q (goal_free f) ∙ rw q
          go false q = step_27 rules n P move p inside m (move_is ∙ sym reads) q ∙ rw q

      module _ (f : eqb w.pending 0 ≡ true) where
        faces : Faces shop order s w.goal.rows load.count P p
        unfolding waiting_of
        faces = record { state = look.state; formula = ap (λ (g : Network.Waiting). g.formula) (look.some w h).goal; size = look.size }

        pub decide_takes : load.limit ≤ most_waiting → (u : Unit {0}) → Answers shop order s w.goal.rows load (known_of m) (Ok u)
            → Decides load.limit shop P move p (Ok m)
        decide_takes few u said = record {
          inside = inside;
          known = read_known shop move actions methods a b m reads;
          fits = rw look.size (own_room shop order s w.goal.rows load.count load.limit 0 p P faces few m (sym (said 0 P p faces)));
          comes = λ n. own_takes rules n P move p inside m (move_is ∙ sym reads) (goal_free f) (sym (said n P p faces));
        }

        pub decide_refuses : (q : Failure) → Answers shop order s w.goal.rows load (known_of m) (Err q)
            → Decides load.limit shop P move p (Err q)
        decide_refuses q said n =
            let above : 28 < number_of q.refusal.question = own_above rules n p P m (failure_of q) (sym (said n P p faces)) in
            own_refuses rules n P move p inside m (move_is ∙ sym reads) (goal_free f) (failure_of q) (sym (said n P p faces))
            ∙ ap (λ (v : Bool). refused (cond v (cond (any_free P.waiting) (failure_of q) (27 asks false).failure) (failure_of q)))
            (sym (ne_eqb (number_of q.refusal.question) 28 (λ y. omega arith)))

-- A move's own questions, by its cases.
module _ (shop order : List ℕ) (s : State) (goal : Span) (load : Load) where
  pub of_release : {m : Move} (r : Result (Unit {0}) Failure) → m ≡ Release → Answers shop order s goal load Run.release r → Answers shop order s goal load (known_of m) r
  of_release r e said = rw e said

  pub of_action : {m : Move} {k : ℕ} (rows : Rows) (r : Result (Unit {0}) Failure) → m ≡ Act k → ActionIn shop k rows
      → ActionAnswers shop order s rows goal r → Answers shop order s goal load (known_of m) r
  of_action {k = k} rows r e is said = rw e (said k load is)

  pub of_method : {m : Move} {k : ℕ} (r : Result (Unit {0}) Failure) → m ≡ Use k → Answers shop order s goal load (Run.use_method k) r
      → Answers shop order s goal load (known_of m) r
  of_method r e said = rw e said

-- What a test tells of needs and of a goal.
module _ {s : State} where
  pub needs_hold : {ls : List Literal} {u : Unit} → Tested s ls (Ok u) → all_hold s ls ≡ true
  needs_hold h = sym h.holds

  pub needs_fail : {ls : List Literal} {a : Atom} → Tested s ls (Err a) → (all_hold s ls ≡ false) × (unmet s ls ≡ a.0)
  needs_fail h = (sym h.holds, sym h.atom)

  pub goal_holds : {g : Formula} {u : Unit} → GoalTested s g (Ok u) → formula_holds s g ≡ true
  goal_holds h = sym h.holds

  pub goal_fails : {g : Formula} {a : Atom} → GoalTested s g (Err a) → (formula_holds s g ≡ false) × (unmet_goal s g ≡ a.0)
  goal_fails h = (sym h.holds, sym h.atom)

-- A method's questions from its rows.
module _ {shop order table : List ℕ} {m : ℕ} {rows : MethodRows} (a : MethodAt shop order table m rows) (s : State) (goal : Span) (load : Load)
    {head : List Row} (head_is : head ≡ span_rows shop order (span_of Of.Shop rows.from.0 rows.first.0)) {test : Result Unit Atom}
    (needs : Tested s (literals Tag.needs_true Tag.needs_false head) test) where
  asked_needs : Tested s (method_at (domain shop) m).needs test
  asked_needs = subst (λ (ls : List Literal). Tested s ls test) (ap (literals Tag.needs_true Tag.needs_false) head_is ∙ a.needs) needs

  pub method_unable : {atom : Atom} (q : Failure) → test ≡ Err atom → failure_of q ≡ (30 asks false naming atom.0).failure
      → Answers shop order s goal load (Run.use_method m) (Err q)
  method_unable q e z n P p f =
      let u = needs_fail (rw e at asked_needs) in
      ap Questions.refused z
      ∙ sym (use_30 shop order s goal load.count load.limit n p P f m u.0 ∙ ap (λ (k : ℕ). Questions.refused (30 asks false naming k).failure) u.1)

  module _ {u : Unit} (yes : test ≡ Ok u) (nodes : Nodes) (counted : (bs : List Bounds) → Walk table rows.end.0 rows.first.0 bs → NodesCounted rows.end.0 bs nodes)
      {last : List Row} (last_is : last ≡ span_rows shop order (span_of Of.Shop nodes.last.0 rows.end.0)) {helps v : Bool}
      (said : helps ≡ relevant (literals Tag.wanted_true Tag.wanted_false last) (node_of (span_rows shop order goal)).formula)
      (tells : helps ≡ v) where
    asked_goal : relevant (goal_of (method_at (domain shop) m)) (node_of (span_rows shop order goal)).formula ≡ v
    asked_goal =
        let i = (counted a.bs a.walk).last_is (λ z. absurd (omega (arith, a.some))) in
        sym (
        sym tells ∙ said
        ∙ ap (λ l. relevant l (node_of (span_rows shop order goal)).formula) (ap (literals Tag.wanted_true Tag.wanted_false) last_is ∙ sym (a.goal i.0 nodes.last.0 i.1))
        )

    pub method_irrelevant : (q : Failure) → v ≡ false → failure_of q ≡ (31 asks false).failure → Answers shop order s goal load (Run.use_method m) (Err q)
    method_irrelevant q e z n P p f =
        ap Questions.refused z ∙ sym (use_31 shop order s goal load.count load.limit n p P f m (needs_hold (rw yes at asked_needs)) (asked_goal ∙ e))

    asked_size : {fits : Bool} → leb (load.count + nodes.count) load.limit ≡ fits → leb (load.count + length (network_of (method_at (domain shop) m))) load.limit ≡ fits
    asked_size h = ap (λ (k : ℕ). leb (load.count + k) load.limit) (method_size a ∙ sym (counted a.bs a.walk).number) ∙ h

    pub method_may : {t : Unit {0}} → v ≡ true → leb (load.count + nodes.count) load.limit ≡ true → Answers shop order s goal load (Run.use_method m) (Ok t)
    method_may e h n P p f = sym (use_passed shop order s goal load.count load.limit n p P f m (needs_hold (rw yes at asked_needs)) (asked_goal ∙ e) (asked_size h))

    pub method_crowded : (q : Failure) → v ≡ true → leb (load.count + nodes.count) load.limit ≡ false → failure_of q ≡ (32 asks false).failure
        → Answers shop order s goal load (Run.use_method m) (Err q)
    method_crowded q e h z n P p f =
        ap Questions.refused z
        ∙ sym (use_32 shop order s goal load.count load.limit n p P f m (needs_hold (rw yes at asked_needs)) (asked_goal ∙ e) (asked_size h))
