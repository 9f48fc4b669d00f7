-- How many lines of an accepted run have a goal of which something holds: as many goals of that sort wait at first or are brought in on the way.
-- Assumes nothing.
use Prim.Native.Nat.{ℕ, zero, suc, ◌+◌, ◌<◌}
use native.Mathlib.Omega.{arith}
use native.Mathlib.Nat.{not-suc-le-zero, le_of_suc-le-suc, add-zero, add-suc, suc-add}
use mathlib.Core.Path.{◌≡◌, refl, sym, ap, ◌∙◌, subst}
use mathlib.Core.Bool.{Bool, true, false, cond}
use mathlib.Core.Logic.{◌≢◌}
use mathlib.Core.List.{List, [], ◌∷◌, ◌++◌, Memᴰ}
use mathlib.Core.Option.{Option, some}
use lib.ListN.{length, take, drop}
use Rattle.hgn.specs.Lists.{At, here, there, filter}
use Rattle.hgn.specs.Meaning.{Node, network_of}
use Rattle.hgn.specs.State.{State}
use Rattle.hgn.specs.Network.{Name, Source, used, Waiting, enter, goal_at, released, decomposed}
use Rattle.hgn.specs.Run.{Step, Move, release, act, use_method, unknown, move_of, method_at, Problem, Rules, leaving, Deed, stepped, accepted, run_by, run}
use Rattle.hgn.specs.Listing.{Line, line_of, lines_at, lines_of}
use Rattle.hgn.proofs.Run.Steps.{Moved, by_release, by_action, by_method, took}
use Rattle.hgn.proofs.Run.Runs.{resumes, ended_empty}

-- How many elements pass a test.
module _ {A : Type 0} (test : A → Bool) where
  abbrev pub count : List A → ℕ
  count xs = length (filter test xs)

  count_cons : (x : A) (xs : List A) → count (x ∷ xs) ≡ cond (test x) 1 0 + count xs
  unfolding filter
  count_cons x xs = go (test x) refl
    where
      go : (b : Bool) → test x ≡ b → count (x ∷ xs) ≡ cond (test x) 1 0 + count xs
      go true e = rw e (omega arith)
      go false e = rw e (omega arith)

  count_append : (xs ys : List A) → count (xs ++ ys) ≡ count xs + count ys
  unfolding filter
  count_append [] ys = omega arith
  count_append (x ∷ xs) ys = omega (arith, count_cons x (xs ++ ys), count_cons x xs, count_append xs ys)

  -- Where none is counted, none passes.
  pub none_counted : (xs : List A) → count xs ≡ 0 → (x : A) → Memᴰ x xs → test x ≡ false
  none_counted (y ∷ ys) e x (Memᴰ.head h) = ap test h ∙ go (test y) refl
    where
      go : (b : Bool) → test y ≡ b → test y ≡ false
      go false t = t
      go true t = absurd (omega (arith, count_cons y ys, e, ap {B = ℕ} (λ (b : Bool). cond b 1 0) t))
  none_counted (y ∷ ys) e x (Memᴰ.tail m) = none_counted ys (omega (arith, count_cons y ys)) x m
  none_counted [] e x x4 = elim x4 [ ]

  pub nothing_left : (xs : List A) → count xs ≡ 0 → filter test xs ≡ []
  nothing_left xs e = go (filter test xs) e
    where
      go : (ys : List A) → length ys ≡ 0 → ys ≡ []
      go [] h = refl
      go (y ∷ ys) h = absurd (omega (arith, h))

-- Of a release, the goals that stay and the one that leaves are those that waited.
module _ (test : Waiting → Bool) where
  count_released : (w : List Waiting) (p : ℕ) → p < length w → count test w ≡ cond (test (goal_at w p)) 1 0 + count test (released w p)
  unfolding released
  count_released [] p h = absurd (not-suc-le-zero h)
  count_released (q ∷ w) zero h = count_cons test q w
  count_released (q ∷ w) (suc p) h =
      omega (arith, count_cons test q w, count_cons test q (released w p), count_released w p (le_of_suc-le-suc h))

  -- Of a method, those that waited and those that enter.
  count_inserted : (w new : List Waiting) (p : ℕ) → count test (take p w ++ (new ++ drop p w)) ≡ count test w + count test new
  count_inserted w new zero = omega (arith, count_append test new w)
  count_inserted [] new (suc p) = omega (arith, count_append test new [])
  count_inserted (q ∷ w) new (suc p) =
      omega (arith, count_cons test q w, count_cons test q (take p w ++ (new ++ drop p w)), count_inserted w new p)

module _ (test : Source → Bool) where
  -- The goals from a source, among those waiting and among the lines.
  abbrev pub goals_from : List Waiting → ℕ
  goals_from w = count (λ q. test q.source) w

  abbrev pub lines_from : List Line → ℕ
  lines_from ls = count (λ l. test l.source) ls

  pub entered_from : (source : Source) (parent : Option Name) (i : ℕ) (ns : List Node) → goals_from (enter source parent i ns) ≡ cond (test source) (length ns) 0
  unfolding enter filter
  entered_from source parent i ns = go (test source) refl ns i
    where
      go : (b : Bool) → test source ≡ b → (ns : List Node) (i : ℕ) → goals_from (enter source parent i ns) ≡ cond (test source) (length ns) 0
      go true e [] i = rw e refl
      go true e (n ∷ ns) i = rw e (ap suc (go true e ns (suc i) ∙ rw e refl))
      go false e [] i = rw e refl
      go false e (n ∷ ns) i = rw e (go false e ns (suc i) ∙ rw e refl)

  module _ (r : Rules) where
    -- The nodes that a move in step `n` brings in from such a source, and those of the steps from step `n` on.
    unfoldable pub brought_by : ℕ → Move → ℕ
    brought_by n release = 0
    brought_by n (act k) = 0
    brought_by n (use_method m) = cond (test (used n m)) (length (network_of (method_at r.domain m))) 0
    brought_by n unknown = 0

    unfoldable pub brought : ℕ → List Step → ℕ
    brought n [] = 0
    brought n (x ∷ xs) = brought_by n (move_of r.domain x.move) + brought (suc n) xs

    step_counted : {n p : ℕ} {P P' : Problem} {mv : Move} {deed : Deed} → p < length P.waiting → Moved r n P p mv deed P'
        → goals_from P.waiting + brought_by n mv ≡ lines_from (lines_at n deed) + goals_from P'.waiting
    unfolding brought_by lines_at decomposed filter
    step_counted {n} {p} {P} h (by_release a) =
        let line = line_of n (leaving P.waiting (goal_at P.waiting p)) in
        omega (arith, count_released (λ q. test q.source) P.waiting p h, count_cons (λ (l : Line). test l.source) line [])
    step_counted h (by_action a b) = omega arith
    step_counted {n} {p} {P} h (by_method {m = m} a b c) =
        let nodes = network_of (method_at r.domain m) in
        let new = enter (used n m) (some (goal_at P.waiting p).name) 0 nodes in
        omega (arith, count_inserted (λ q. test q.source) P.waiting new p, entered_from (used n m) (some (goal_at P.waiting p).name) 0 nodes)

    -- The lines from such a source are as many as such goals wait and are brought in.
    pub lines_counted : (xs : List Step) (n : ℕ) (P : Problem) (deeds : List Deed) (last : State) → run r n P xs ≡ accepted deeds last
        → lines_from (lines_of n deeds) ≡ goals_from P.waiting + brought n xs
    unfolding run_by brought lines_of filter
    lines_counted [] n P deeds last e = let z = ended_empty n P deeds last e in rw (z.0, z.1) refl
    lines_counted (x ∷ xs) n P deeds last e =
        let f = resumes (stepped r) n P x xs deeds last e in
        let t = took x f.deed f.left f.first in
        rw f.whole
        (omega (
          arith,
          count_append (λ (l : Line). test l.source) (lines_at n f.deed) (lines_of (suc n) f.rest),
          step_counted t.inside t.by,
          lines_counted xs (suc n) f.left f.rest last f.goes_on,
        ))

    -- A step further on, counted from the next.
    later : (P : ℕ → Type 0) (n i : ℕ) → P (n + suc i) → P (suc n + i)
    later P n i = subst P (add-suc n i ∙ sym (suc-add n i))

    none_by : (n : ℕ) (mv : Move) → ((m : ℕ) → mv ≡ use_method m → test (used n m) ≡ false) → brought_by n mv ≡ 0
    unfolding brought_by
    none_by n release h = refl
    none_by n (act k) h = refl
    none_by n (use_method m) h = rw (h m refl) refl
    none_by n unknown h = refl

    -- No step brings such goals in.
    pub none_brought : (xs : List Step) (n : ℕ)
        → ((i m : ℕ) (x : Step) → At xs i x → move_of r.domain x.move ≡ use_method m → test (used (n + i) m) ≡ false) → brought n xs ≡ 0
    unfolding brought
    none_brought [] n h = refl
    none_brought (x ∷ xs) n h =
        omega (
          arith,
          none_by n (move_of r.domain x.move) (λ m e. subst (λ (k : ℕ). test (used k m) ≡ false) (add-zero n) (h 0 m x here e)),
          none_brought xs (suc n) (λ i m y a e. later (λ k. test (used k m) ≡ false) n i (h (suc i) m y (there a) e)),
        )

    -- One step alone brings them in.
    pub one_brings : (xs : List Step) (n i m : ℕ) (x : Step) → At xs i x → move_of r.domain x.move ≡ use_method m → test (used (n + i) m) ≡ true
        → ((j k : ℕ) (y : Step) → At xs j y → j ≢ i → test (used (n + j) k) ≡ false)
        → brought n xs ≡ length (network_of (method_at r.domain m))
    unfolding brought brought_by
    one_brings (x ∷ xs) n zero m _ here e t others =
        let rest = none_brought xs (suc n) (λ j k y a f. later (λ z. test (used z k) ≡ false) n j (others (suc j) k y (there a) (λ z. omega (arith, z)))) in
        let now : test (used n m) ≡ true = subst (λ (z : ℕ). test (used z m) ≡ true) (add-zero n) t in
        rw (e, now, rest) (add-zero _)
    one_brings (y ∷ xs) n (suc i) m x (there a) e t others =
        let rest = one_brings xs (suc n) i m x a e (later (λ z. test (used z m) ≡ true) n i t)
        (λ j k z b d. later (λ z. test (used z k) ≡ false) n j (others (suc j) k z (there b) (λ q. d (omega (arith, q))))) in
        let now = none_by n (move_of r.domain y.move) (λ k q. subst (λ (z : ℕ). test (used z k) ≡ false) (add-zero n) (others 0 k y here (λ z. omega (arith, z)))) in
        omega (arith, now, rest)
    one_brings [] n i m x x6 e t others = elim x6 [ ]
