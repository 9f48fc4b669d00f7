-- A network under other names: the order's goals raised by `g`, step `k` called `σ k`. The run is the same.
-- Three uses: the second order in a join (its steps counted from the cut), a step left out (the later steps counted one lower) and two
-- steps exchanged. Assumes nothing.
use Prim.Native.Nat.{ℕ, suc, ◌+◌, ◌≤◌, ◌<◌}
use native.Mathlib.Omega.{arith}
use native.Mathlib.Nat.{add-zero, zero-add, add-suc}
use mathlib.Core.Path.{◌≡◌, refl, sym, ap, ap₂, ◌∙◌}
use mathlib.Core.Bool.{Bool, true, false, ◌&&◌, ◌||◌}
use mathlib.Core.List.{List, [], ◌∷◌, ◌++◌, map, append-nil, Memᴰ}
use mathlib.Core.Option
use mathlib.Core.Option.{Option, none, some}
use lib.Dec.{eqb, ltb, eqb-suc-zero}
use lib.ListN.{length, length-map}
use borrow.Author.Tests.{eqb-true, eqb-false, eq-eqb, ne_eqb, ltb-true}
use Rattle.hgn.specs.Lists.{elem, range}
use Rattle.hgn.specs.Questions.{◌asks◌, failed_at, all_at, first_no}
use Rattle.hgn.specs.Questions as Questions
use Rattle.hgn.specs.Meaning.{Node}
use Rattle.hgn.specs.State.{State}
use Rattle.hgn.specs.Network.{Origin, from_order, from_step, Name, Source, order, used, origin_of, Waiting, same_origin, same_name, is_parent, comes_after, enter, above_from}
use Rattle.hgn.specs.Run.{Step, Problem, Rules, limited, step_questions, Deed, releases, takes, uses, plan_of, Stepped}
use Rattle.hgn.specs.Run.{refused, taken, stepped, Outcome, stopped, accepted, prepend, end_questions, ended, run_by, run}
use Rattle.hgn.specs.Join.{raised}
use Rattle.hgn.proofs.Logic.Ranges.{range_lt}
use Rattle.hgn.proofs.Logic.Tests.{any_append}
use Rattle.hgn.proofs.Network.Names.{Before, Fresh}
use Rattle.hgn.proofs.Run.Steps.{step_refused}
use Rattle.hgn.proofs.Join.Embedding.{Embeds, renamed_deed, carried, step_carried, any_map, any_cong, any_none}
use Rattle.hgn.proofs.Run.Runs.{resumed, run_cons, stopped≢accepted, accepted_deeds, accepted_state}

-- Different numbers with different names.
abbrev pub Injective : (ℕ → ℕ) → Type 0
Injective σ = (a b : ℕ) → σ a ≡ σ b → a ≡ b

eqb_injective : (σ : ℕ → ℕ) → Injective σ → (i j : ℕ) → eqb (σ i) (σ j) ≡ eqb i j
eqb_injective σ one i j = go (eqb i j) refl
  where
    go : (b : Bool) → eqb i j ≡ b → eqb (σ i) (σ j) ≡ eqb i j
    go true e = eq-eqb (σ i) (σ j) (ap σ (eqb-true i j e)) ∙ sym e
    go false e = ne_eqb (σ i) (σ j) (λ q. eqb-false i j e (one i j q)) ∙ sym e

-- Counting from `c`.
pub raised_injective : (c : ℕ) → Injective (λ k. c + k)
raised_injective c a b e = omega arith

elem_raised : (g i : ℕ) (ns : List ℕ) → elem (g + i) (range 0 g ++ map (λ k. g + k) ns) ≡ elem i ns
unfolding elem
elem_raised g i ns =
    any_append (eqb (g + i)) (range 0 g) (map (λ k. g + k) ns)
    ∙ ap₂ (λ (a b : Bool). a || b)
    (any_none (eqb (g + i)) (range 0 g) (λ k m. ne_eqb (g + i) k (λ e. omega (arith, range_lt g k m))))
    (any_map (eqb (g + i)) (λ k. g + k) ns ∙ any_cong _ _ ns (λ k m. eqb_injective (λ j. g + j) (raised_injective g) i k))

same_head : {x : Waiting} {l m : List Waiting} → l ≡ m → x ∷ l ≡ x ∷ m
same_head {x} e = ap {B = List Waiting} (λ l. x ∷ l) e

-- A run under other names: a refusal at a step under its other name, and what the steps did renamed.
unfoldable pub later : (Waiting → Waiting) → (ℕ → ℕ) → Outcome → Outcome
later f σ (stopped q) = stopped (failed_at (σ q.refusal.place) q)
later f σ (accepted deeds s) = accepted (map (renamed_deed f) deeds) s

pub later_accepted : (f : Waiting → Waiting) (σ : ℕ → ℕ) (o : Outcome) (deeds : List Deed) (s : State) → later f σ o ≡ accepted deeds s
    → (own : List Deed) × (o ≡ accepted own s) × (deeds ≡ map (renamed_deed f) own)
unfolding later
later_accepted f σ (stopped q) deeds s e = absurd (stopped≢accepted e)
later_accepted f σ (accepted own s') deeds s e = (own, ap (accepted own) (accepted_state e), sym (accepted_deeds e))

prepend_later : (f : Waiting → Waiting) (σ : ℕ → ℕ) (deed : Deed) (o : Outcome)
    → prepend (renamed_deed f deed) (later f σ o) ≡ later f σ (prepend deed o)
unfolding prepend later
prepend_later f σ deed (stopped q) = refl
prepend_later f σ deed (accepted deeds s) = refl

-- The plan stays.
pub plan_renamed : (f : Waiting → Waiting) (deeds : List Deed) → plan_of (map (renamed_deed f) deeds) ≡ plan_of deeds
unfolding plan_of renamed_deed
plan_renamed f [] = refl
plan_renamed f (releases gs ∷ ds) = plan_renamed f ds
plan_renamed f (takes k ∷ ds) = ap {B = List ℕ} (λ l. k ∷ l) (plan_renamed f ds)
plan_renamed f (uses m g ∷ ds) = plan_renamed f ds

-- A place past the list is refused by the first question.
outside : (r : Rules) (n : ℕ) (P : Problem) (x : Step) → ltb x.place (length P.waiting) ≡ false
    → first_no (step_questions r n P x) ≡ Questions.refused (25 asks false).failure
unfolding step_questions first_no
outside r n P x e = rw e

module _ (g : ℕ) (σ : ℕ → ℕ) where
  abbrev renamed : Origin → ℕ → Name
  renamed from_order i = record { origin = from_order; number = g + i }
  renamed (from_step k) i = record { origin = from_step (σ k); number = i }

  abbrev rename_after : Origin → List ℕ → List ℕ
  rename_after from_order ns = range 0 g ++ map (λ k. g + k) ns
  rename_after (from_step k) ns = ns

  abbrev rename_source : Source → Source
  rename_source order = order
  rename_source (used k m) = used (σ k) m

  -- A waiting goal under its other name.
  abbrev pub rename : Waiting → Waiting
  rename q = record {
    name = renamed q.name.origin q.name.number;
    source = rename_source q.source;
    parent = Option.map (λ n. renamed n.origin n.number) q.parent;
    after = rename_after q.name.origin q.after;
    formula = q.formula;
  }

  pub enter_renamed : (n m i : ℕ) (a : Name) (nodes : List Node)
      → map rename (enter (used n m) (some a) i nodes) ≡ enter (used (σ n) m) (some (renamed a.origin a.number)) i nodes
  unfolding enter
  enter_renamed n m i a [] = refl
  enter_renamed n m i a (x ∷ nodes) = same_head (enter_renamed n m (suc i) a nodes)

  -- The goals of the second order in the join are its goals renamed.
  pub goals_renamed : (i : ℕ) (nodes : List Node) → map rename (enter order none i nodes) ≡ enter order none (g + i) (map (raised g) nodes)
  unfolding enter raised
  goals_renamed i [] = refl
  goals_renamed i (x ∷ nodes) =
      same_head
      (goals_renamed (suc i) nodes ∙ ap (λ (k : ℕ). enter order none k (map (raised g) nodes)) (add-suc g i))

  module _ (one : Injective σ) where
    same_renamed : (a b : Origin) (i j : ℕ)
        → (same_origin (renamed a i).origin (renamed b j).origin && eqb (renamed a i).number (renamed b j).number) ≡ (same_origin a b && eqb i j)
    unfolding same_origin
    same_renamed from_order from_order i j = eqb_injective (λ k. g + k) (raised_injective g) i j
    same_renamed from_order (from_step n) i j = refl
    same_renamed (from_step m) from_order i j = refl
    same_renamed (from_step m) (from_step n) i j = ap (λ (t : Bool). t && eqb i j) (eqb_injective σ one m n)

    parent_renamed : (a : Name) (o : Option Name)
        → is_parent (renamed a.origin a.number) (Option.map (λ n. renamed n.origin n.number) o) ≡ is_parent a o
    unfolding is_parent same_name
    parent_renamed a none = refl
    parent_renamed a (some b) = same_renamed a.origin b.origin a.number b.number

    sibling_renamed : (a b : Origin) (j : ℕ) (ns : List ℕ)
        → (same_origin (renamed a 0).origin (renamed b j).origin && elem (renamed b j).number (rename_after a ns)) ≡ (same_origin a b && elem j ns)
    unfolding same_origin
    sibling_renamed from_order from_order j ns = elem_raised g j ns
    sibling_renamed from_order (from_step n) j ns = refl
    sibling_renamed (from_step m) from_order j ns = refl
    sibling_renamed (from_step m) (from_step n) j ns = ap (λ (t : Bool). t && elem j ns) (eqb_injective σ one m n)

    -- The origin of a renamed goal does not depend on its number.
    origin_renamed : (a : Origin) (i : ℕ) → (renamed a i).origin ≡ (renamed a 0).origin
    origin_renamed from_order i = refl
    origin_renamed (from_step k) i = refl

    comes_after_renamed : (q p : Waiting) → comes_after (rename q) (rename p) ≡ comes_after q p
    unfolding comes_after
    comes_after_renamed q p =
        ap₂ (λ (a b : Bool). a || b)
        (ap (λ (o : Origin). same_origin o (rename p).name.origin && elem (rename p).name.number (rename q).after) (origin_renamed q.name.origin q.name.number)
        ∙ sibling_renamed q.name.origin p.name.origin p.name.number q.after)
        (parent_renamed q.name p.parent)

    -- As many goals stand above.
    above_renamed : (w : List Waiting) (o : Option Name)
        → above_from (map rename w ++ []) (Option.map (λ n. renamed n.origin n.number) o) ≡ above_from w o
    unfolding above_from same_name
    above_renamed [] o = refl
    above_renamed (q ∷ w) none = refl
    above_renamed (q ∷ w) (some a) =
        rw (same_renamed a.origin q.name.origin a.number q.name.number, above_renamed w q.parent, above_renamed w (some a)) refl

    rename_embeds : (w : List Waiting) (n : ℕ) → Embeds rename w [] n (σ n)
    rename_embeds w n = record {
      formula = λ q. refl;
      after = comes_after_renamed;
      enters = λ q m nodes. enter_renamed n m 0 q.name nodes;
      above = λ q k. above_renamed w q.parent;
      apart = λ q p m k. elim k [ ];
      blocked = λ p k. elim k [ ];
    }

    -- A problem whose goals have the other names.
    abbrev in_names : Problem → Problem
    in_names P = record { state = P.state; waiting = map rename P.waiting }

    ended_renamed : (n : ℕ) (P : Problem) → ended (σ n) (in_names P) ≡ later rename σ (ended n P)
    unfolding ended end_questions first_no all_at later
    ended_renamed n P = go P.waiting
      where
        go : (w : List Waiting) → ended (σ n) (record { state = P.state; waiting = map rename w }) ≡ later rename σ (ended n (record { state = P.state; waiting = w }))
        go [] = refl
        go (q ∷ w) = rw (eqb-suc-zero (length w), eqb-suc-zero (length (map rename w)), ended)

    pub step_renamed : (r : Rules) (n : ℕ) (P : Problem) (x : Step)
        → stepped r (σ n) (in_names P) x ≡ carried rename [] (stepped r n P x)
    unfolding carried
    step_renamed r n P x = go (ltb x.place (length P.waiting)) refl
      where
        go : (b : Bool) → ltb x.place (length P.waiting) ≡ b → stepped r (σ n) (in_names P) x ≡ carried rename [] (stepped r n P x)
        go true e =
            ap₂ (λ (k : ℕ) (l : List Waiting). stepped (limited k r) (σ n) (record { state = P.state; waiting = l }) x) (sym (add-zero r.limit)) (sym (append-nil (map rename P.waiting)))
            ∙ step_carried rename [] n (σ n) P (rename_embeds P.waiting n) r x (ltb-true _ _ e)
        go false e =
            step_refused r (σ n) (in_names P) x _ (outside r (σ n) (in_names P) x (ap (ltb x.place) (length-map P.waiting rename) ∙ e))
            ∙ sym (ap (carried rename []) (step_refused r n P x _ (outside r n P x e)))

    -- From step `n` on, the steps' names follow on each other.
    pub run_renamed : (r : Rules) (xs : List Step) (n : ℕ) → ((k : ℕ) → n ≤ k → σ (suc k) ≡ suc (σ k)) → (P : Problem)
        → run r (σ n) (in_names P) xs ≡ later rename σ (run r n P xs)
    unfolding run_by carried later resumed
    run_renamed r [] n follows P = ended_renamed n P
    run_renamed r (x ∷ xs) n follows P =
        run_cons (stepped r) (σ n) (in_names P) x xs
        ∙ ap (resumed (stepped r) (σ n) xs) (step_renamed r n P x)
        ∙ resumed_renamed (λ P'. run_renamed r xs (suc n) (λ k h. follows k (omega arith)) P') (stepped r n P x)
        ∙ ap (later rename σ) (sym (run_cons (stepped r) n P x xs))
      where
        resumed_renamed : ((P' : Problem) → run r (σ (suc n)) (in_names P') xs ≡ later rename σ (run r (suc n) P' xs))
            → (o : Stepped) → resumed (stepped r) (σ n) xs (carried rename [] o) ≡ later rename σ (resumed (stepped r) n xs o)
        resumed_renamed ih (refused q) = refl
        resumed_renamed ih (taken deed P') =
            ap (prepend (renamed_deed rename deed))
            (ap₂ (λ (k : ℕ) (l : List Waiting). run r k (record { state = P'.state; waiting = l }) xs) (sym (follows n (omega arith))) (append-nil (map rename P'.waiting)) ∙ ih P')
            ∙ prepend_later rename σ deed (run r (suc n) P' xs)

-- With nothing raised, goals whose steps keep their names keep theirs.
module _ (σ : ℕ → ℕ) (n : ℕ) (keeps : (k : ℕ) → k < n → σ k ≡ k) where
  name_kept : (a : Origin) (i : ℕ) → Before n a → renamed 0 σ a i ≡ record { origin = a; number = i }
  name_kept from_order i h = ap {B = Name} (λ (k : ℕ). record { origin = from_order; number = k }) (zero-add i)
  name_kept (from_step k) i h = ap {B = Name} (λ (j : ℕ). record { origin = from_step j; number = i }) (keeps k (h k refl))

  source_kept : (a : Source) → Before n (origin_of a) → rename_source 0 σ a ≡ a
  source_kept order h = refl
  source_kept (used k m) h = ap {B = Source} (λ (j : ℕ). used j m) (keeps k (h k refl))

  parent_kept : (o : Option Name) → ((a : Name) → o ≡ some a → Before n a.origin)
      → Option.map (λ (a : Name). renamed 0 σ a.origin a.number) o ≡ o
  parent_kept none h = refl
  parent_kept (some a) h = ap {B = Option Name} some (name_kept a.origin a.number (h a refl))

  after_kept : (a : Origin) (ns : List ℕ) → rename_after 0 σ a ns ≡ ns
  unfolding range
  after_kept from_order [] = refl
  after_kept from_order (k ∷ ns) = ap₂ {C = List ℕ} (λ a b. a ∷ b) (zero-add k) (after_kept from_order ns)
  after_kept (from_step k) ns = refl

  pub rename_kept : (q : Waiting) → Fresh n q → rename 0 σ q ≡ q
  rename_kept q h = λ i. record {
    name = name_kept q.name.origin q.name.number h.by_name i;
    source = source_kept q.source h.by_source i;
    parent = parent_kept q.parent h.by_parent i;
    after = after_kept q.name.origin q.after i;
    formula = q.formula;
  }

  pub list_kept : (w : List Waiting) → ((q : Waiting) → Memᴰ q w → Fresh n q) → map (rename 0 σ) w ≡ w
  list_kept [] h = refl
  list_kept (q ∷ w) h = ap₂ {C = List Waiting} (λ a b. a ∷ b) (rename_kept q (h q (Memᴰ.head refl))) (list_kept w (λ p m. h p (Memᴰ.tail m)))
