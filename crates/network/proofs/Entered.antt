-- Nodes that enter the code's list are those of the definitions. Assumes nothing.
use Prim.Native.Nat.{ℕ, suc, ◌+◌}
use native.Mathlib.Omega.{arith}
use native.Mathlib.Nat.{add-zero, add-suc, suc-add}
use mathlib.Core.Path.{◌≡◌, refl, sym, ap, ap₂, ◌∙◌}
use mathlib.Core.List.{List, [], ◌∷◌, ◌++◌, map}
use lib.ListN.{length}
use mathlib.Core.Option.{none, some}
use borrow.Author.Tests.{eq-eqb, ne_eqb}
use Rattle.hgn.specs.Meaning.{node_of, last_after_all}
use Rattle.hgn.specs.Network as Network
use Rattle.hgn.specs.Network.{enter}
use Rattle.sheet_rows.specs.declared.position.Sheet.TheVariants as Of
use Rattle.std.specs.Prelude.{Option, Some, None}
use Rattle.network.specs.Entries.{name_of, waiting_of}
use Rattle.sheet_index.specs.Tables.{Bounds, Walk, stop, next, node_at}
use Rattle.network.specs.Entering.{entry_of, entries_from}
use Rattle.network.specs.declared.waiting.Used.{Used}
use Rattle.network.specs.declared.waiting.Entry.{Entry}

module _ (shop order : List ℕ) where
  -- The nodes of method `m` used at step `n`.
  pub method_enters : {table : List ℕ} {e row : ℕ} {bs : List Bounds} (u : Used) (j : ℕ) → Walk table e row bs
      → map (waiting_of shop order) (entries_from (Some u) e j bs)
      ≡ enter (Network.used u.step u.method) (some (name_of u.parent)) j (last_after_all j (map (node_at shop order Of.Shop) bs))
  unfolding entries_from enter last_after_all waiting_of node_of
  method_enters u j stop = refl
  method_enters {e = e} u j (next {to = to} a b h q stop) = rw (eq-eqb e e refl)
  method_enters {e = e} u j (next {to = to} a b h q (next a' b' h' q' w)) =
      ap₂ {C = List Network.Waiting} (λ x l. x ∷ l) (rw (ne_eqb to e (omega arith))) (method_enters u (suc j) (next a' b' h' q' w))

  -- The goals of an order.
  pub order_enters : (e : ℕ) (bs : List Bounds) (j : ℕ)
      → map (waiting_of shop order) (entries_from None e j bs) ≡ enter Network.order none j (map (node_at shop order Of.Order) bs)
  unfolding entries_from enter waiting_of node_of
  order_enters e [] j = refl
  order_enters e (b ∷ bs) j = ap₂ {C = List Network.Waiting} (λ x l. x ∷ l) refl (order_enters e bs (suc j))

module _ (source : Option Used) (e : ℕ) where
  pub length_entries : (j : ℕ) (bs : List Bounds) → length (entries_from source e j bs) ≡ length bs
  unfolding entries_from
  length_entries j [] = refl
  length_entries j (b ∷ bs) = ap suc (length_entries (suc j) bs)

  -- One node more at the end.
  pub entries_more : (j : ℕ) (bs : List Bounds) (b : Bounds)
      → entries_from source e j (bs ++ (b ∷ [])) ≡ entries_from source e j bs ++ (entry_of source e (j + length bs) b ∷ [])
  unfolding entries_from
  entries_more j [] b = ap {B = List Entry} (λ k. entry_of source e k b ∷ []) (sym (add-zero j))
  entries_more j (c ∷ bs) b =
      ap {B = List Entry} (λ l. entry_of source e j c ∷ l)
      (entries_more (suc j) bs b
      ∙ ap {B = List Entry} (λ k. entries_from source e (suc j) bs ++ (entry_of source e k b ∷ [])) (suc-add j (length bs) ∙ sym (add-suc j (length bs))))
