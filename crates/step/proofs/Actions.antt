-- What a known move is within. Assumes nothing.
use Prim.Native.Nat.{ℕ, ◌+◌, ◌-◌, ◌<◌, ◌≤◌}
use native.Mathlib.Omega.{arith}
use mathlib.Core.Path.{◌≡◌, refl, subst}
use mathlib.Core.Bool.{Bool, true, false, cond, ◌&&◌, and-eq-true_iff}
use mathlib.Core.List.{List}
use lib.Dec.{eqb, leb, ltb}
use borrow.Author.Tests.{eqb-false, leb-true, ltb-true}
use Rattle.hgn.specs.Run as Run
use Rattle.hgn.specs.Run.{first_method}
use Rattle.hgn.specs.Shop.{action_count, method_count}
use Rattle.sheet_index.specs.Tables.{Indexed}
use Rattle.step.specs.Moves.{Known, known_of, move_read}
use Rattle.step.specs.declared.moves.Move.{Move}
use Rattle.step.specs.declared.moves.Move.TheVariants.{Release, Act, Use}

-- On sheets that passed.
module _ {shop order table : List ℕ} (i : Indexed shop order table) where
  -- What a known move is within.
  module _ {m : Move} {k : ℕ} (h : Known (action_count shop) (method_count shop) m) where
    pub known_action : m ≡ Act k → (1 ≤ k) × (k ≤ action_count shop)
    known_action e = subst (Known (action_count shop) (method_count shop)) e h

    pub known_method : m ≡ Use k → k < method_count shop
    known_method e = subst (Known (action_count shop) (method_count shop)) e h

-- A move that was read is known.
pub known_read : (n actions methods : ℕ) (m : Move) → known_of m ≡ move_read n actions methods → Known actions methods m
unfolding move_read
known_read n actions methods m e =
    go m (eqb n 0) (leb n actions) (leb first_method n && ltb n (first_method + methods)) refl refl refl e
  where
    go : (m : Move) (z a b : Bool) → eqb n 0 ≡ z → leb n actions ≡ a → (leb first_method n && ltb n (first_method + methods)) ≡ b
        → known_of m ≡ cond z Run.release (cond a (Run.act n) (cond b (Run.use_method (n - first_method)) Run.unknown)) → Known actions methods m
    go Release z a b hz ha hb e = tt
    go (Act k) true a b hz ha hb e = let o : ◌≡◌ {A = ℕ} 0 1 = cc in absurd (omega arith)
    go (Act k) false true b hz ha hb e =
        let q : k ≡ n = cc in
        let f = eqb-false n 0 hz in
        let g = leb-true n actions ha in
        (omega arith, omega arith)
    go (Act k) false false true hz ha hb e = let o : ◌≡◌ {A = ℕ} 0 1 = cc in absurd (omega arith)
    go (Act k) false false false hz ha hb e = let o : ◌≡◌ {A = ℕ} 0 1 = cc in absurd (omega arith)
    go (Use k) true a b hz ha hb e = let o : ◌≡◌ {A = ℕ} 0 1 = cc in absurd (omega arith)
    go (Use k) false true b hz ha hb e = let o : ◌≡◌ {A = ℕ} 0 1 = cc in absurd (omega arith)
    go (Use k) false false true hz ha hb e =
        let q : k ≡ n - first_method = cc in
        let l = simp and-eq-true_iff at hb in
        omega (arith, leb-true, ltb-true)
    go (Use k) false false false hz ha hb e = let o : ◌≡◌ {A = ℕ} 0 1 = cc in absurd (omega arith)
