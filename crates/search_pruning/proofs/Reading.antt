-- What the number of a known move reads as, and which of two steps goes first. Assumes nothing.
use Prim.Native.Nat.{ℕ, suc, ◌+◌, ◌-◌, ◌<◌, ◌≤◌}
use native.Mathlib.Omega.{arith}
use mathlib.Core.Path.{◌≡◌, refl, subst}
use mathlib.Core.Bool.{Bool, true, false, cond, ◌&&◌, ◌||◌}
use mathlib.Core.List.{List}
use lib.Dec.{eqb, ltb}
use borrow.Author.Tests.{lt-ltb, le-ltb, ltb-true, eqb-true}
use Rattle.hgn.specs.Run as Run
use Rattle.hgn.specs.Run.{move_of}
use Rattle.hgn.specs.Shop.{domain, action_count, method_count}
use Rattle.hgn.proofs.Run.Moves.{reads_action, reads_method}
use Rattle.hgn.proofs.Sheets.Checked.{shop_actions, shop_methods, shop_counts}
use Rattle.step.specs.Moves.{Known, known_of}
use Rattle.sheet_index.specs.Tables.{Indexed}
use Rattle.step.specs.declared.moves.Move.{Move}
use Rattle.step.specs.declared.moves.Choice.{Choice}
use Rattle.step.specs.declared.moves.Move.TheVariants.{Release, Act, Use}
use Rattle.sheet_index.proofs.Tables.{shop_passes}
use Rattle.search_theory.specs.Rules.{is_action, is_earlier}
use Rattle.search_pruning.specs.Tests.{move_number, lower_action, step_of, earlier_choice}

and_no : (b : Bool) → false ≡ (b && false)
and_no true = refl
and_no false = refl

and_yes : (b : Bool) → b ≡ (b && true)
and_yes true = refl
and_yes false = refl

-- Of two known moves both are actions and the first the lower, by their numbers.
lower_first : (actions methods : ℕ) (x y : Move) → Known actions methods x → Known actions methods y
    → lower_action x y ≡ (ltb (move_number x) (move_number y) && (is_action (known_of x) && is_action (known_of y)))
unfolding is_action
lower_first actions methods Release y h k = and_no (ltb 0 (move_number y))
lower_first actions methods (Act i) Release h k = rw (le-ltb i 0 (omega arith))
lower_first actions methods (Act i) (Act j) h k = rw (lt-ltb 0 i (omega arith)) (and_yes (ltb i j))
lower_first actions methods (Act i) (Use j) h k = and_no (ltb i (Run.first_method + j))
lower_first actions methods (Use i) y h k = and_no (ltb (Run.first_method + i) (move_number y))

-- At one place it is the moves that say which goes first, and else the places.
by_tests : (p q : ℕ) {c e : Bool} → c ≡ e → cond (eqb p q) c (ltb p q) ≡ (ltb p q || (eqb p q && e))
by_tests p q {c} {e} r = go (eqb p q) refl
  where
    go : (b : Bool) → eqb p q ≡ b → cond b c (ltb p q) ≡ (ltb p q || (b && e))
    go true h = let z : ltb p q ≡ false = le-ltb p q (omega (arith, eqb-true p q h)) in rw z r
    go false h = go_none (ltb p q)
      where
        go_none : (b : Bool) → b ≡ (b || false)
        go_none true = refl
        go_none false = refl

-- A step that would go before the last one stands no higher.
pub earlier_inside : (y x : Choice) → earlier_choice y x ≡ true → x.place.0 ≤ y.place.0
earlier_inside y x h = go (eqb x.place.0 y.place.0) refl h
  where
    go : (b : Bool) → eqb x.place.0 y.place.0 ≡ b → cond b (lower_action x.mv y.mv) (ltb x.place.0 y.place.0) ≡ true → x.place.0 ≤ y.place.0
    go true e h = omega (arith, eqb-true x.place.0 y.place.0 e)
    go false e h = omega (arith, ltb-true x.place.0 y.place.0 h)

module _ {shop order table : List ℕ} (ix : Indexed shop order table) where
  abbrev Moves : Move → Type 0
  Moves m = Known (action_count shop) (method_count shop) m

  pub number_read : (m : Move) → Moves m → move_of (domain shop) (move_number m) ≡ known_of m
  unfolding move_of
  number_read Release h = refl
  number_read (Act k) h =
      let z : suc (k - 1) ≡ k = omega arith in
      subst (λ k. move_of (domain shop) k ≡ Run.act k) z
      (reads_action (domain shop) (k - 1) (omega (arith, (shop_counts shop (shop_passes ix)).0)))
  number_read (Use k) h =
      reads_method (domain shop) k (shop_actions shop (shop_passes ix)) (omega (arith, (shop_counts shop (shop_passes ix)).1))

  -- A move's number is a word.
  pub number_fits : (m : Move) → Moves m → move_number m < 65536
  number_fits Release h = omega arith
  number_fits (Act k) h = omega (arith, (shop_counts shop (shop_passes ix)).0, shop_actions shop (shop_passes ix))
  number_fits (Use k) h = omega (arith, (shop_counts shop (shop_passes ix)).1, shop_methods shop (shop_passes ix))

  pub earlier_is : (y x : Choice) → Moves y.mv → Moves x.mv → earlier_choice y x ≡ is_earlier (domain shop) (step_of y) (step_of x)
  unfolding is_earlier
  earlier_is y x h k =
      rw (number_read x.mv k, number_read y.mv h)
      (by_tests x.place.0 y.place.0 (lower_first (action_count shop) (method_count shop) x.mv y.mv k h))
