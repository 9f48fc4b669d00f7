-- A run on the join splits at exactly one cut, and the parts of a cut make a run on the join. Assumes nothing.
use Prim.Native.Nat.{ℕ, zero, suc, ◌+◌, ◌-◌, ◌≤◌, ◌<◌, zero-le}
use native.Mathlib.Omega.{arith}
use native.Mathlib.Nat.{add-zero, zero-add, add-suc, suc-add, le_of_suc-le-suc, not-suc-le-zero}
use mathlib.Core.Path.{◌≡◌, refl, sym, ap, ap₂, ◌∙◌, subst}
use mathlib.Core.Bool.{Bool, true, false}
use mathlib.Core.List.Memᴰ
use mathlib.Core.List.{List, [], ◌∷◌, ◌++◌, map, map-id, Memᴰ}
use mathlib.Core.Option.{none}
use lib.Dec.{ltb}
use lib.ListN.{length, take, drop, length-append, length-map}
use borrow.Author.Tests.{ltb-true, ltb-false}
use Rattle.hgn.specs.Meaning.{Node, Order}
use Rattle.hgn.specs.State.{State}
use Rattle.hgn.specs.Network.{from_order, order, Waiting, free, enter, goals_of, goal_at}
use Rattle.hgn.specs.Run.{Step, Problem, problem_of, problem_from, start_of, Rules, limited, Deed, plan_of, Stepped, refused, taken, stepped, accepted, run_by, run}
use Rattle.hgn.specs.Run as Run
use Rattle.hgn.specs.Join.{raised, join, Cut}
use Rattle.hgn.specs.Demands.{OnJoin}
use Rattle.hgn.proofs.Logic.Ranges.{lt_range}
use Rattle.hgn.proofs.Logic.Tests.{false_not_true}
use Rattle.hgn.proofs.Run.Steps.{took, refused≢taken, taken_deed, taken_problem}
use Rattle.hgn.proofs.Join.Embedding.{renamed_deed, carried, step_carried}
use Rattle.hgn.proofs.Run.Runs.{Resumes, resumes, resumed_accepts, ended_nothing, ended_empty, empty_refuses}
use Rattle.hgn.proofs.Network.Rooted.{of_order_law, rooted_step}
use Rattle.hgn.proofs.Join.Front.{Front, OfFirst, Back, BackGoal, front_embeds, front_blocks}
use Rattle.hgn.proofs.Join.Renaming.{raised_injective, rename, goals_renamed, later, later_accepted, plan_renamed, run_renamed}
use Rattle.hgn.proofs.Sheets.Checked.{Numbered}
use Rattle.hgn.proofs.Network.Waiting.{length_enter, goals_length, goal_mem}

-- A place behind the first part is one of the second.
behind : (w v : List Waiting) (p : ℕ) → length w ≤ p → p < length (w ++ v) → Memᴰ (goal_at (w ++ v) p) v
behind [] v p h k = goal_mem v p k
behind (x ∷ w) v zero h k = absurd (not-suc-le-zero h)
behind (x ∷ w) v (suc p) h k = behind w v p (le_of_suc-le-suc h) (le_of_suc-le-suc k)

-- What steps did under the names that they have, and their plan.
deed_kept : (deed : Deed) → renamed_deed (λ y. y) deed ≡ deed
unfolding renamed_deed
deed_kept (Run.releases gs) = ap Run.releases (map-id gs)
deed_kept (Run.takes k) = refl
deed_kept (Run.uses m g) = refl

pub plan_append : (xs ys : List Deed) → plan_of (xs ++ ys) ≡ plan_of xs ++ plan_of ys
unfolding plan_of
plan_append [] ys = refl
plan_append (Run.releases gs ∷ xs) ys = plan_append xs ys
plan_append (Run.takes k ∷ xs) ys = ap {B = List ℕ} (λ l. k ∷ l) (plan_append xs ys)
plan_append (Run.uses m g ∷ xs) ys = plan_append xs ys

-- A problem with these goals waiting.
abbrev pub with : State → List Waiting → Problem
with s w = record { state = s; waiting = w }

-- The second order's goals `v` behind the first's part; the rules' limit is what they leave of the places.
module _ (g : ℕ) (r : Rules) (v : List Waiting) (bk : Back g v) where
  -- The rules on the join.
  abbrev pub wide : Rules
  wide = limited (r.limit + length v) r

  step_in_front : (n : ℕ) (s : State) (q : Waiting) (rest : List Waiting) (x : Step) → Front g (q ∷ rest) → x.place < length (q ∷ rest)
      → stepped wide n (with s ((q ∷ rest) ++ v)) x ≡ carried (λ y. y) v (stepped r n (with s (q ∷ rest)) x)
  step_in_front n s q rest x fr h =
      ap (λ (l : List Waiting). stepped wide n (with s (l ++ v)) x) (sym (map-id (q ∷ rest)))
      ∙ step_carried (λ y. y) v n n (with s (q ∷ rest)) (front_embeds g n q rest v fr bk) r x h

  -- A step that is taken on the first part is taken on the join.
  pub join_step : (n : ℕ) (s : State) (q : Waiting) (rest : List Waiting) (x : Step) (deed : Deed) (P' : Problem) → Front g (q ∷ rest)
      → stepped r n (with s (q ∷ rest)) x ≡ taken deed P'
      → stepped wide n (with s ((q ∷ rest) ++ v)) x ≡ taken deed (with P'.state (P'.waiting ++ v))
  unfolding carried
  join_step n s q rest x deed P' fr e =
      step_in_front n s q rest x fr (took {P = with s (q ∷ rest)} x deed P' e).inside
      ∙ ap (carried (λ y. y) v) e
      ∙ ap₂ (λ (k : Deed) (l : List Waiting). taken k (with P'.state (l ++ v))) (deed_kept deed) (map-id P'.waiting)

  -- And a step that is taken on the join while the first part is not empty is taken on the first part.
  unjoin_step : (n : ℕ) (s : State) (q : Waiting) (rest : List Waiting) (x : Step) (deed : Deed) (U : Problem) → Front g (q ∷ rest)
      → stepped wide n (with s ((q ∷ rest) ++ v)) x ≡ taken deed U
      → (P' : Problem) × (stepped r n (with s (q ∷ rest)) x ≡ taken deed P') × (U ≡ with P'.state (P'.waiting ++ v))
  unfolding carried
  unjoin_step n s q rest x deed U fr e = place (ltb x.place (length (q ∷ rest))) refl
    where
      on_front : (o : Stepped) → stepped r n (with s (q ∷ rest)) x ≡ o → carried (λ y. y) v o ≡ taken deed U
          → (P' : Problem) × (stepped r n (with s (q ∷ rest)) x ≡ taken deed P') × (U ≡ with P'.state (P'.waiting ++ v))
      on_front (refused q) k h = absurd (refused≢taken h)
      on_front (taken deed₁ P₁) k h = (
        P₁,
        k ∙ ap (λ (d : Deed). taken d P₁) (sym (deed_kept deed₁) ∙ taken_deed h),
        sym (taken_problem h) ∙ ap {B = Problem} (λ l. with P₁.state (l ++ v)) (map-id P₁.waiting),
      )

      place : (b : Bool) → ltb x.place (length (q ∷ rest)) ≡ b
          → (P' : Problem) × (stepped r n (with s (q ∷ rest)) x ≡ taken deed P') × (U ≡ with P'.state (P'.waiting ++ v))
      place true h =
          on_front (stepped r n (with s (q ∷ rest)) x) refl (sym (step_in_front n s q rest x fr (ltb-true _ _ h)) ∙ e)
      place false h =
          let t = took {r = wide} {P = with s ((q ∷ rest) ++ v)} x deed U e in
          absurd
          (false_not_true (free ((q ∷ rest) ++ v) (goal_at ((q ∷ rest) ++ v) x.place))
          (front_blocks g q rest v fr bk _ (behind (q ∷ rest) v x.place (ltb-false _ _ h) t.inside)) t.is_free)

  -- A run on the join in two parts.
  pub record Split (n : ℕ) (s : State) (w : List Waiting) (xs : List Step) (deeds : List Deed) (last : State) : Type 0 where
    pub cut : ℕ
    pub inside : cut ≤ length xs
    pub front_deeds : List Deed
    pub between : State
    pub back_deeds : List Deed
    pub front : run r n (with s w) (take cut xs) ≡ accepted front_deeds between
    pub back : run wide (n + cut) (with between v) (drop cut xs) ≡ accepted back_deeds last
    pub both : deeds ≡ front_deeds ++ back_deeds

  -- The first part is empty: the cut is here.
  cut_here : (n : ℕ) (s : State) (xs : List Step) (deeds : List Deed) (last : State) → run wide n (with s v) xs ≡ accepted deeds last → Split n s [] xs deeds last
  unfolding run_by
  cut_here n s xs deeds last e = record {
    cut = 0;
    inside = zero-le;
    front_deeds = [];
    between = s;
    back_deeds = deeds;
    front = ended_nothing n s;
    back = ap (λ (k : ℕ). run wide k (with s v) xs) (add-zero n) ∙ e;
    both = refl;
  }

  split : (xs : List Step) (n : ℕ) (s : State) (w : List Waiting) (deeds : List Deed) (last : State) → Front g w
      → run wide n (with s (w ++ v)) xs ≡ accepted deeds last → Split n s w xs deeds last
  unfolding run_by
  split [] n s [] deeds last fr e = cut_here n s [] deeds last e
  split [] n s (q ∷ rest) deeds last fr e = absurd (nothing_waits (ended_empty n (with s ((q ∷ rest) ++ v)) deeds last e).0)
    where
      nothing_waits : ◌≡◌ {A = List Waiting} ((q ∷ rest) ++ v) [] → ⊥
      nothing_waits z = let y : ◌≡◌ {A = ℕ} 0 1 = cc in omega arith
  split (x ∷ xs) n s [] deeds last fr e = cut_here n s (x ∷ xs) deeds last e
  split (x ∷ xs) n s (q ∷ rest) deeds last fr e =
      let f = resumes (stepped wide) n (with s ((q ∷ rest) ++ v)) x xs deeds last e in
      let u = unjoin_step n s q rest x f.deed f.left fr f.first in
      longer f u.0 u.1
      (split xs (suc n) u.0.state u.0.waiting f.rest last (rooted_step (OfFirst g) r n (with s (q ∷ rest)) x f.deed u.0 fr u.1)
      (ap (λ (U : Problem). run wide (suc n) U xs) (sym u.2) ∙ f.goes_on))
    where
      longer : (f : Resumes (stepped wide) n (with s ((q ∷ rest) ++ v)) x xs deeds last) (P' : Problem)
          → stepped r n (with s (q ∷ rest)) x ≡ taken f.deed P' → Split (suc n) P'.state P'.waiting xs f.rest last
          → Split n s (q ∷ rest) (x ∷ xs) deeds last
      longer f P' e' t = record {
        cut = suc t.cut;
        inside = Prim.Native.Nat.suc-le-suc t.inside;
        front_deeds = f.deed ∷ t.front_deeds;
        between = t.between;
        back_deeds = t.back_deeds;
        front = resumed_accepts (stepped r) n (with s (q ∷ rest)) x (take t.cut xs) f.deed P' t.front_deeds t.between e' t.front;
        back = ap (λ (k : ℕ). run wide k (with t.between v) (drop t.cut xs)) (add-suc n t.cut ∙ sym (suc-add n t.cut)) ∙ t.back;
        both = f.whole ∙ ap {B = List Deed} (λ l. f.deed ∷ l) t.both;
      }

  -- The parts of a cut make a run on the join.
  glue : (xs : List Step) (c n : ℕ) (s : State) (w : List Waiting) (p₁ p₂ : List Deed) (s₁ last : State) → Front g w → c ≤ length xs
      → run r n (with s w) (take c xs) ≡ accepted p₁ s₁ → run wide (n + c) (with s₁ v) (drop c xs) ≡ accepted p₂ last
      → run wide n (with s (w ++ v)) xs ≡ accepted (p₁ ++ p₂) last
  unfolding run_by
  glue xs zero n s w p₁ p₂ s₁ last fr h a b =
      let z = ended_empty n (with s w) p₁ s₁ a in
      ap₂ (λ (l : List Waiting) (t : State). run wide n (with t (l ++ v)) xs) z.0 z.2
      ∙ ap (λ (k : ℕ). run wide k (with s₁ v) xs) (sym (add-zero n))
      ∙ b
      ∙ ap (λ (l : List Deed). accepted (l ++ p₂) last) (sym z.1)
  glue [] (suc c) n s w p₁ p₂ s₁ last fr h a b = absurd (not-suc-le-zero h)
  glue (x ∷ xs) (suc c) n s [] p₁ p₂ s₁ last fr h a b = absurd (empty_refuses r n s x (take c xs) p₁ s₁ a)
  glue (x ∷ xs) (suc c) n s (q ∷ rest) p₁ p₂ s₁ last fr h a b =
      let f = resumes (stepped r) n (with s (q ∷ rest)) x (take c xs) p₁ s₁ a in
      resumed_accepts (stepped wide) n (with s ((q ∷ rest) ++ v)) x xs f.deed (with f.left.state (f.left.waiting ++ v)) (f.rest ++ p₂) last
      (join_step n s q rest x f.deed f.left fr f.first)
      (glue xs c (suc n) f.left.state f.left.waiting f.rest p₂ s₁ last
      (rooted_step (OfFirst g) r n (with s (q ∷ rest)) x f.deed f.left fr f.first) (le_of_suc-le-suc h) f.goes_on
      (ap (λ (k : ℕ). run wide k (with s₁ v) (drop c xs)) (suc-add n c ∙ sym (add-suc n c)) ∙ b))
      ∙ ap (λ (l : List Deed). accepted (l ++ p₂) last) (sym f.whole)

-- Two fronts of one list that are both accepted are one.
pub one_front : (r : Rules) (xs : List Step) (c e n : ℕ) (P : Problem) (p q : List Deed) (t u : State) → c ≤ length xs → e ≤ length xs
    → run r n P (take c xs) ≡ accepted p t → run r n P (take e xs) ≡ accepted q u → c ≡ e
unfolding run_by
one_front r xs zero zero n P p q t u h k a b = refl
one_front r [] zero (suc e) n P p q t u h k a b = absurd (not-suc-le-zero k)
one_front r (x ∷ xs) zero (suc e) n P p q t u h k a b =
    absurd (empty_refuses r n P.state x (take e xs) q u (ap (λ (l : List Waiting). run r n (with P.state l) (x ∷ take e xs)) (sym (ended_empty n P p t a).0) ∙ b))
one_front r [] (suc c) zero n P p q t u h k a b = absurd (not-suc-le-zero h)
one_front r (x ∷ xs) (suc c) zero n P p q t u h k a b =
    absurd (empty_refuses r n P.state x (take c xs) p t (ap (λ (l : List Waiting). run r n (with P.state l) (x ∷ take c xs)) (sym (ended_empty n P q u b).0) ∙ a))
one_front r [] (suc c) (suc e) n P p q t u h k a b = absurd (not-suc-le-zero h)
one_front r (x ∷ xs) (suc c) (suc e) n P p q t u h k a b =
    let f = resumes (stepped r) n P x (take c xs) p t a in
    let z = resumes (stepped r) n P x (take e xs) q u b in
    ap suc
    (one_front r xs c e (suc n) f.left f.rest z.rest t u (le_of_suc-le-suc h) (le_of_suc-le-suc k) f.goes_on
    (ap (λ (Q : Problem). run r (suc n) Q (take e xs)) (taken_problem (sym f.first ∙ z.first)) ∙ z.goes_on))

-- The join's waiting goals: the first's, then the second's raised by `g`.
unfoldable pub raised_goals : ℕ → List Node → List Waiting
raised_goals g nodes = enter order none g (map (raised g) nodes)

enter_append : (i : ℕ) (ns ms : List Node) → enter order none i (ns ++ ms) ≡ enter order none i ns ++ enter order none (i + length ns) ms
unfolding enter
enter_append i [] ms = ap (λ (k : ℕ). enter order none k ms) (sym (add-zero i))
enter_append i (n ∷ ns) ms =
    ap {B = List Waiting} (λ l. record { name = record { origin = from_order; number = i }; source = order; parent = none; after = n.after; formula = n.formula } ∷ l)
    (enter_append (suc i) ns ms
    ∙ ap {B = List Waiting} (λ k. enter order none (suc i) ns ++ enter order none k ms) (suc-add i (length ns) ∙ sym (add-suc i (length ns))))

-- Nodes that come only after lower ones make a first part.
front_start : (g i : ℕ) (nodes : List Node) → i + length nodes ≤ g → Numbered i nodes → Front g (enter order none i nodes)
unfolding enter
front_start g i [] h u = tt
front_start g i (n ∷ nodes) h u =
    (of_order_law refl refl refl (record { number = omega arith; afters = λ k m. omega (arith, u.0 k m) }), front_start g (suc i) nodes (omega arith) u.1)

back_start_law : (g i : ℕ) (nodes : List Node) → g ≤ i → Back g (enter order none i (map (raised g) nodes))
unfolding enter raised
back_start_law g i [] h q m = elim m [ ]
back_start_law g i (n ∷ nodes) h q (Memᴰ.head e) =
    subst (BackGoal g) (sym e) (record { origin = refl; number = h; parent = refl; afters = λ k l. Memᴰ.append_left (map (λ j. g + j) n.after) (lt_range g k l) })
back_start_law g i (n ∷ nodes) h q (Memᴰ.tail m) = back_start_law g (suc i) nodes (omega arith) q m

-- The rule, over two orders of which the first's goals come only after lower ones and the second's are within the limit.
module _ (r : Rules) (a b : Order) (numbered : Numbered 0 a.goals) (few : length b.goals ≤ r.limit) (xs : List Step) where
  -- The rules with the limit that the second's goals leave.
  abbrev pub narrow : Rules
  narrow = limited (r.limit - length b.goals) r

  unfoldable pub v : List Waiting
  v = raised_goals (length a.goals) b.goals

  pub v_length : length v ≡ length b.goals
  unfolding v raised_goals
  v_length = length_enter order none (length a.goals) (map (raised (length a.goals)) b.goals) ∙ length-map b.goals (raised (length a.goals))

  pub all_places : (r.limit - length b.goals) + length v ≡ r.limit
  all_places = omega (arith, v_length)

  -- The join's rules are the rules themselves.
  on_join : (n : ℕ) (P : Problem) (ys : List Step) → run (limited ((r.limit - length b.goals) + length v) narrow) n P ys ≡ run r n P ys
  on_join n P ys = ap (λ (k : ℕ). run (limited k r) n P ys) all_places

  pub join_goals : goals_of (join a b) ≡ goals_of a ++ v
  unfolding goals_of join v raised_goals
  join_goals =
      enter_append 0 a.goals (map (raised (length a.goals)) b.goals)
      ∙ ap {B = List Waiting} (λ k. enter order none 0 a.goals ++ enter order none k (map (raised (length a.goals)) b.goals)) (zero-add (length a.goals))

  pub first_part : Front (length a.goals) (goals_of a)
  unfolding goals_of
  first_part = front_start (length a.goals) 0 a.goals (omega arith) numbered

  pub second_part : Back (length a.goals) v
  unfolding v raised_goals
  second_part = back_start_law (length a.goals) (length a.goals) b.goals (omega arith)

  -- The other names of the second order's run on the join from cut `c`.
  abbrev pub names : ℕ → Waiting → Waiting
  names c = rename (length a.goals) (λ k. c + k)

  -- The back on the join is the back on the second order, renamed.
  back_runs : (c : ℕ) (s : State) (ys : List Step) → run r c (with s v) ys ≡ later (names c) (λ k. c + k) (run r 0 (problem_from s b) ys)
  unfolding v raised_goals goals_of
  back_runs c s ys =
      ap₂ (λ (k : ℕ) (l : List Waiting). run r k (with s l) ys) (sym (add-zero c))
      (ap (λ (k : ℕ). enter order none k (map (raised (length a.goals)) b.goals)) (sym (add-zero (length a.goals))) ∙ sym (goals_renamed (length a.goals) (λ k. c + k) 0 b.goals))
      ∙ run_renamed (length a.goals) (λ k. c + k) (raised_injective c) r ys 0 (λ k h. add-suc c k) (with s (enter order none 0 b.goals))

  pub whole_length : length (goals_of (join a b)) ≡ length a.goals + length b.goals
  whole_length = ap length join_goals ∙ length-append (goals_of a) v ∙ ap₂ ◌+◌ (goals_length a) v_length

  -- An accepted run on the join has a cut, with these parts.
  pub to_cut : (plan : List ℕ) (last : State) → OnJoin r a b xs plan last → (c : ℕ) × Cut r a b xs c
  unfolding start_of join
  to_cut plan last acc = (
    t.cut,
    record {
      inside = t.inside;
      front_plan = plan_of t.front_deeds;
      between = t.between;
      front = record {
        within = omega (arith, acc.within, whole_length, goals_length a);
        deeds = t.front_deeds;
        runs = t.front;
        plan_is = refl;
      };
      back_plan = plan_of own.0;
      last = last;
      back = record { within = omega (arith, goals_length b); deeds = own.0; runs = own.1; plan_is = refl };
    },
  )
    where
      t : Split (length a.goals) narrow v second_part 0 (start_of a) (goals_of a) xs acc.deeds last
      t = split (length a.goals) narrow v second_part xs 0 (start_of a) (goals_of a) acc.deeds last first_part
          (on_join 0 (with (start_of a) (goals_of a ++ v)) xs
          ∙ ap (λ (l : List Waiting). run r 0 (with (start_of a) l) xs) (sym join_goals) ∙ acc.runs)

      back_at : run r t.cut (with t.between v) (drop t.cut xs) ≡ accepted t.back_deeds last
      back_at =
          sym (on_join t.cut (with t.between v) (drop t.cut xs))
          ∙ ap (λ (n : ℕ). run (limited ((r.limit - length b.goals) + length v) narrow) n (with t.between v) (drop t.cut xs)) (sym (zero-add t.cut))
          ∙ t.back

      own : (own : List Deed) × (run r 0 (problem_from t.between b) (drop t.cut xs) ≡ accepted own last)
          × (t.back_deeds ≡ map (renamed_deed (names t.cut)) own)
      own = later_accepted (names t.cut) (λ k. t.cut + k) _ t.back_deeds last (sym (back_runs t.cut t.between (drop t.cut xs)) ∙ back_at)

  -- A cut makes an accepted run on the join, which does what its parts do.
  pub cut_runs : (c : ℕ) (k : Cut r a b xs c)
      → run r 0 (problem_of (join a b)) xs ≡ accepted (k.front.deeds ++ map (renamed_deed (names c)) k.back.deeds) k.last
  unfolding start_of join later
  cut_runs c k =
      ap (λ (l : List Waiting). run r 0 (with (start_of a) l) xs) join_goals
      ∙ sym (on_join 0 (with (start_of a) (goals_of a ++ v)) xs)
      ∙ glue (length a.goals) narrow v second_part xs c 0 (start_of a) (goals_of a) k.front.deeds _ k.between k.last
      first_part k.inside k.front.runs
      (ap (λ (n : ℕ). run (limited ((r.limit - length b.goals) + length v) narrow) n (with k.between v) (drop c xs)) (zero-add c)
      ∙ on_join c (with k.between v) (drop c xs)
      ∙ back_runs c k.between (drop c xs) ∙ ap (later (names c) (λ i. c + i)) k.back.runs)

  pub from_cut : (c : ℕ) (k : Cut r a b xs c) → OnJoin r a b xs (k.front_plan ++ k.back_plan) k.last
  from_cut c k = record {
    within = omega (arith, k.front.within, whole_length, goals_length a);
    deeds = k.front.deeds ++ map (renamed_deed (names c)) k.back.deeds;
    runs = cut_runs c k;
    plan_is =
        ap₂ {C = List ℕ} (λ l m. l ++ m) k.front.plan_is (k.back.plan_is ∙ sym (plan_renamed (names c) k.back.deeds))
        ∙ sym (plan_append k.front.deeds (map (renamed_deed (names c)) k.back.deeds));
  }
