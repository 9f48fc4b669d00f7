-- Which methods have a node to which an action is relevant: along a method's nodes, and method by method. Assumes nothing.
use Prim.Native.Nat.{ℕ, ◌+◌, ◌<◌, ◌≤◌}
use native.Mathlib.Omega.{arith}
use mathlib.Core.Path.{◌≡◌, refl, sym, ap, ◌∙◌}
use mathlib.Core.Logic.{◌≢◌}
use mathlib.Core.Bool.{Bool, true, false, ◌||◌}
use mathlib.Core.List.{List, [], ◌∷◌, map}
use Rattle.std.specs.Prelude.{Option, Some, None, IfSome}
use Rattle.std.specs.Option.{is_some}
use lib.Dec.{eqb}
use lib.ListN.{get_or}
use borrow.Author.Tests.{eqb-true, eqb-false}
use Rattle.hgn.specs.Lists.{any}
use Rattle.hgn.specs.Meaning.{Literal, Node, no_node, literals}
use Rattle.hgn.specs.State.{relevant}
use Rattle.hgn.specs.Run.{method_at}
use Rattle.hgn.specs.Shop.{domain, method_count}
use Rattle.hgn.specs.Replay.{rules_of}
use Rattle.hgn.proofs.Logic.Tests.{true_any, at_mem, at_of_lt, false_not_true}
use Rattle.hgn.proofs.Sheets.Checked.{shop_counts}
use Rattle.sheet_index.specs.declared.rows.Rows.{Rows}
use Rattle.sheet_rows.specs.declared.position.Sheet.TheVariants as Of
use Rattle.sheet_index.specs.Index.{rows_in}
use Rattle.sheet_index.specs.Tables.{Bounds, Walk, Indexed, ActionIn, node_at, MethodAt}
use Rattle.sheet_index.proofs.NodeWalks.{ahead, at_end, walk_same}
use Rattle.sheet_index.proofs.Tables.{shop_passes}
use Rattle.search_theory.specs.Needed.{OnlyMethod, node_in}
use Rattle.search_bound.specs.Tables.{bound_relevant}
use Rattle.sheet_index.specs.declared.operators.MethodRows.{MethodRows}

any_map : {A B : Type 0} (test : B → Bool) (f : A → B) (xs : List A) → any (λ x. test (f x)) xs ≡ any test (map f xs)
unfolding any
any_map test f [] = refl
any_map test f (x ∷ xs) = ap (λ (b : Bool). test (f x) || b) (any_map test f xs)

-- A walk along nodes has come to row `row` and found none that passes the test: that is decided among those from there on.
pub record Looked (test : Bounds → Bool) (table : List ℕ) (e first row : ℕ) : Type 0 where
  pub whole : List Bounds
  pub rest : List Bounds
  pub walked : Walk table e first whole
  pub onward : Walk table e row rest
  pub same : any test whole ≡ any test rest

module _ {test : Bounds → Bool} {table : List ℕ} {e first : ℕ} where
  pub looked_none : (bs : List Bounds) → Walk table e first bs → Looked test table e first first
  looked_none bs w = record { whole = bs; rest = bs; walked = w; onward = w; same = refl }

  module _ {row : ℕ} (l : Looked test table e first row) where
    pub looked_all : {bs : List Bounds} → Walk table e first bs → e ≤ row → false ≡ any test bs
    unfolding any
    looked_all w h = sym (ap (any test) (walk_same w l.walked) ∙ l.same ∙ ap (any test) (at_end h l.onward))

    module _ (h : row < e) where
      looked_turn : any test l.whole ≡ (test (record { from = row; to = get_or table row 0 }) || any test (ahead h l.onward).rest)
      unfolding any
      looked_turn = l.same ∙ ap (any test) (ahead h l.onward).list

      pub looked_found : test (record { from = row; to = get_or table row 0 }) ≡ true → {bs : List Bounds} → Walk table e first bs → true ≡ any test bs
      looked_found q w = sym (ap (any test) (walk_same w l.walked) ∙ looked_turn ∙ rw q)

      pub looked_more : test (record { from = row; to = get_or table row 0 }) ≡ false → Looked test table e first (get_or table row 0)
      looked_more q = record {
        whole = l.whole;
        rest = (ahead h l.onward).rest;
        walked = l.walked;
        onward = (ahead h l.onward).onward;
        same = looked_turn ∙ rw q;
      }

-- Of the first `n` methods none but the one found passes the test.
pub record FoundTo (has : ℕ → Bool) (n : ℕ) (found : Option ℕ) : Type 0 where
  pub within : IfSome found (λ m. m < n)
  pub only : (j : ℕ) → j < n → has j ≡ true → found ≡ Some j

pub found_none : (has : ℕ → Bool) → FoundTo has 0 None
found_none has = record { within = tt; only = λ j h. absurd (omega arith) }

module _ {has : ℕ → Bool} {n : ℕ} where
  pub found_here : {found : Option ℕ} → FoundTo has n found → is_some found ≡ false → FoundTo has (n + 1) (Some n)
  found_here {found = Some m} f z = absurd (false_not_true _ z refl)
  found_here {found = None} f z = record { within = omega arith; only = λ j h e. go j h e (eqb j n) refl }
    where
      go : (j : ℕ) → j < n + 1 → has j ≡ true → (b : Bool) → eqb j n ≡ b → Some n ≡ Some j
      go j h e true y = ap Some (sym (eqb-true j n y))
      go j h e false y = let x : j ≢ n = eqb-false j n y in let z : None ≡ Some j = f.only j (omega arith) e in absurd cc

  pub found_not : {found : Option ℕ} → FoundTo has n found → has n ≡ false → FoundTo has (n + 1) found
  found_not {found} f q = record { within = still found f.within; only = λ j h e. go j h e (eqb j n) refl }
    where
      still : (o : Option ℕ) → IfSome o (λ m. m < n) → IfSome o (λ m. m < n + 1)
      still None w = tt
      still (Some m) w = omega arith

      go : (j : ℕ) → j < n + 1 → has j ≡ true → (b : Bool) → eqb j n ≡ b → found ≡ Some j
      go j h e true y = absurd (false_not_true (has n) q (sym (ap has (eqb-true j n y)) ∙ e))
      go j h e false y = let x : j ≢ n = eqb-false j n y in f.only j (omega arith) e

-- Method `j` has a node to which these effects are relevant.
abbrev pub has_node : List ℕ → Rows → ℕ → Bool
has_node shop rows j = any (λ n. relevant (literals 5 6 (rows_in rows)) n.formula) (method_at (domain shop) j).nodes

-- What is told of a method's nodes along the walk is told of the method.
pub method_told : {shop order table : List ℕ} {m : ℕ} {at : MethodRows} (a : MethodAt shop order table m at) (rows : Rows) {r : Bool}
    → r ≡ any (bound_relevant shop order rows) a.bs → r ≡ has_node shop rows m
method_told {shop} {order} a rows p =
    p ∙ any_map (λ (n : Node). relevant (literals 5 6 (rows_in rows)) n.formula) (node_at shop order Of.Shop) a.bs
    ∙ ap (any (λ (n : Node). relevant (literals 5 6 (rows_in rows)) n.formula)) a.nodes

module _ {shop order table : List ℕ} (ix : Indexed shop order table) (k : ℕ) (rows : Rows) (there : ActionIn shop k rows) where
  -- All methods are asked.
  pub method_alone : {n : ℕ} {found : Option ℕ} → FoundTo (has_node shop rows) n found → n ≡ method_count shop
      → IfSome found (λ m. (m < method_count shop) × OnlyMethod (rules_of shop) k m)
  method_alone {found = None} f p = tt
  method_alone {found = Some m} f p = (
    omega (arith, f.within),
    (λ j i a b c.
        let nodes = (method_at (domain shop) j).nodes in
        let z : Some m ≡ Some j = f.only j (omega (arith, (shop_counts shop (shop_passes ix)).1))
        (true_any (λ (x : Node). relevant (literals 5 6 (rows_in rows)) x.formula) nodes (at_mem (at_of_lt nodes i no_node b))
        (ap (λ (ls : List Literal). relevant ls (node_in (domain shop) j i).formula) there.effects ∙ c)) in
        cc),
  )
