-- What move numbers read as, and back. Assumes nothing.
use Prim.Native.Nat.{ℕ, zero, suc, ◌+◌, ◌-◌, ◌≤◌, ◌<◌}
use native.Mathlib.Omega.{arith}
use mathlib.Core.Path.{◌≡◌, refl, ap, subst}
use mathlib.Core.Bool.{Bool, true, false, cond, ◌&&◌}
use lib.Dec.{leb, ltb, eqb-suc-zero}
use lib.ListN.{length}
use borrow.Author.Tests.{ne_eqb, ltb-true, lt-ltb, leb-true, le-leb, lt-leb}
use Rattle.hgn.specs.Meaning.{Domain}
use Rattle.hgn.specs.Run.{first_method, Move, release, act, use_method, unknown, move_of}
use Rattle.hgn.proofs.Logic.Tests.{and_true}

-- What a move number reads as, case by case.
pub data Reads (d : Domain) : ℕ → Move → Type 0 where
  as_release : Reads d 0 release
  as_action : {k : ℕ} → k < length d.actions → Reads d (suc k) (act (suc k))
  as_method : {k : ℕ} → k < length d.methods → Reads d (first_method + k) (use_method k)
  as_unknown : {n : ℕ} → Reads d n unknown

-- Every move number reads as `move_of` says, within its range.
pub reads : (d : Domain) (n : ℕ) → Reads d n (move_of d n)
unfolding move_of
reads d zero = as_release
reads d (suc n) = rw (eqb-suc-zero n) (go (leb (suc n) (length d.actions)) refl in_methods refl)
  where
    in_methods : Bool
    in_methods = leb first_method (suc n) && ltb (suc n) (first_method + length d.methods)

    go : (b : Bool) → leb (suc n) (length d.actions) ≡ b → (c : Bool) → in_methods ≡ c
        → Reads d (suc n) (cond b (act (suc n)) (cond c (use_method (suc n - first_method)) unknown))
    go true e c f = as_action (leb-true _ _ e)
    go false e true f =
        let t = and_true (leb first_method (suc n)) _ f in
        let l : first_method ≤ suc n = leb-true _ _ t.0 in
        let u : suc n < first_method + length d.methods = ltb-true _ _ t.1 in
        subst (λ (k : ℕ). Reads d k (use_method (suc n - first_method))) (omega arith) (as_method (omega arith))
    go false e false f = as_unknown

-- A move that reads as a method is one of the domain's.
pub method_known : (d : Domain) (k m : ℕ) → move_of d k ≡ use_method m → m < length d.methods
method_known d k m e = known (subst (Reads d k) e (reads d k))
  where
    known : {k m : ℕ} → Reads d k (use_method m) → m < length d.methods
    known (as_method h) = h

-- The move numbers of action `k` and of method `k` of the lists.
module _ (d : Domain) (k : ℕ) where
  pub reads_action : k < length d.actions → move_of d (suc k) ≡ act (suc k)
  unfolding move_of
  reads_action h = rw (eqb-suc-zero k, le-leb (suc k) (length d.actions) h)

  pub reads_method : length d.actions ≤ 255 → k < length d.methods → move_of d (first_method + k) ≡ use_method k
  unfolding move_of
  reads_method b h =
      rw (
        ne_eqb (first_method + k) 0 (omega arith),
        lt-leb (first_method + k) (length d.actions) (omega arith),
        le-leb first_method (first_method + k) (omega arith),
        lt-ltb (first_method + k) (first_method + length d.methods) (omega arith),
      ) (ap use_method (omega arith))
