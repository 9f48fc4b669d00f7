-- What a method's nodes want, and which method an action takes. Assumes nothing.
use Prim.Native.Nat.{ℕ, ◌<◌}
use mathlib.Core.Path.{◌≡◌, refl, sym, ◌∙◌, subst}
use mathlib.Core.Bool.{Bool, false}
use mathlib.Core.List.Memᴰ
use mathlib.Core.List.{List, Memᴰ}
use lib.ListN.{get_or}
use Rattle.hgn.specs.Lists.{any}
use Rattle.hgn.specs.Meaning.{Node, no_node}
use Rattle.hgn.specs.Network.{Waiting}
use Rattle.hgn.specs.Run.{act, use_method, action_at, method_at, Problem, Rules}
use Rattle.hgn.specs.Shop.{domain}
use Rattle.hgn.proofs.Logic.Tests.{not_true_false, false_not_true, true_any, mem_at, at_lt, at_get_or}
use Rattle.sheet_rows.specs.declared.position.Sheet.TheVariants as Of
use Rattle.sheet_index.specs.Tables.{Bounds, Walk, node_at, MethodAt}
use Rattle.sheet_index.specs.declared.operators.MethodRows.{MethodRows}
use Rattle.sheet_index.proofs.NodeWalks.{ahead}
use Rattle.search_theory.specs.Needed.{Needed, OnlyMethod, InEvery}
use Rattle.search_theory.proofs.Needed.{needed_by_node, needed_by_relevance}
use Rattle.search_bound.specs.NeededMoves.{WantedFormula}

module _ (r : Rules) (P : Problem) where
  pub node_wanted : (m : ℕ) (v : Node) → Needed r P (use_method m) → Memᴰ v (method_at r.domain m).nodes → WantedFormula v.formula r P
  node_wanted m v n i l e k f o =
      let a = mem_at i in
      needed_by_node r P m a.0 l k n (at_lt a.1) (subst (λ (x : Node). InEvery l x.formula) (sym (at_get_or no_node a.1)) e) f o

  pub method_needed : (k m : ℕ) {told : Bool} → told ≡ any (λ (g : Waiting). r.may_act (action_at r.domain k) g.formula) P.waiting
      → told ≡ false → OnlyMethod r k m → Needed r P (act k) → Needed r P (use_method m)
  method_needed k m e f o n =
      let test : Waiting → Bool = λ g. r.may_act (action_at r.domain k) g.formula in
      needed_by_relevance r P k m n (λ g i. not_true_false _ (λ t. false_not_true _ (sym e ∙ f) (true_any test P.waiting i t))) o

-- The nodes of a method that are left from a row on.
pub record NodesLeft (shop order table : List ℕ) (m e row : ℕ) : Type 0 where
  pub rest : List Bounds
  pub walk : Walk table e row rest
  pub are : (b : Bounds) → Memᴰ b rest → Memᴰ (node_at shop order Of.Shop b) (method_at (domain shop) m).nodes

module _ {shop order table : List ℕ} {m : ℕ} where
  pub nodes_all : {r : MethodRows} → MethodAt shop order table m r → NodesLeft shop order table m r.end.0 r.first.0
  nodes_all a = record {
    rest = a.bs;
    walk = a.walk;
    are = λ b i. subst (Memᴰ (node_at shop order Of.Shop b)) a.nodes (Memᴰ.map (node_at shop order Of.Shop) i);
  }

  module _ {e row : ℕ} (a : NodesLeft shop order table m e row) (h : row < e) where
    pub node_here : Memᴰ (node_at shop order Of.Shop (record { from = row; to = get_or table row 0 })) (method_at (domain shop) m).nodes
    node_here = let f = ahead h a.walk in a.are _ (subst (Memᴰ _) (sym f.list) (Memᴰ.head refl))

    pub nodes_next : NodesLeft shop order table m e (get_or table row 0)
    nodes_next =
        let f = ahead h a.walk in
        record { rest = f.rest; walk = f.onward; are = λ b i. a.are b (subst (Memᴰ b) (sym f.list) (Memᴰ.tail i)) }
