-- Lists of literals in which no atom stands twice entail the literals that stand in them and no others, so `Relevant` is 000's. Assumes nothing.
use Prim.Native.Nat.{ℕ, suc, ◌≤◌, ◌<◌}
use native.Mathlib.Omega.{arith}
use mathlib.Core.Path.{◌≡◌, refl, sym, ap, ◌∙◌, subst}
use mathlib.Core.Bool.{Bool, true, false, not, true≢false, false≢true}
use mathlib.Core.Logic.{◌↔◌, inl, inr, ⊎_elim}
use mathlib.Core.List.Memᴰ
use mathlib.Core.List.{List, [], ◌∷◌, ◌++◌, Memᴰ}
use lib.ListN.{length, get_or, replicate, length-replicate, get_or-replicate}
use Rattle.hgn.specs.Lists.{At, here, there}
use Rattle.hgn.specs.Meaning.{Literal, Formula, Node, Method, last_of, goal_of}
use Rattle.hgn.specs.State.{State, most_atoms, Entails, EntailsAll, γ, opposite, contains, LiteralOf}
use Rattle.hgn.specs.Questions.{passed}
use Rattle.hgn.specs.Shop as Shop
use Rattle.hgn.specs.Shop.{domain, check_shop}
use Rattle.hgn.specs.Written.{ConjunctRules}
use Rattle.hgn.specs.Readings.{OppositeIsNegation, EntailsLiteral, RelevanceIs000s, RulesAre000s}
use Rattle.hgn.proofs.Logic.Tests.{not_true_false, false_not_true, contains_iff}
use Rattle.hgn.proofs.Sheets.Rules.{Rise, rise, rising_top, atoms}
use Rattle.hgn.proofs.Run.Effects.{length_assign, effects_are_gamma}
use Rattle.hgn.proofs.Sheets.Written.{ends_in_last, shop_rules}
use Rattle.hgn.proofs.Sheets.Checked.{one_alternative}

pub opposite_is_negation : OppositeIsNegation
opposite_is_negation s l = go (get_or s l.atom false) l.sign
  where
    go : (a b : Bool) → (a ≡ not b) ↔ (¬ (a ≡ b))
    go true true = ((λ e. absurd (true≢false e)), (λ n. absurd (n refl)))
    go true false = ((λ e f. true≢false f), (λ n. refl))
    go false true = ((λ e f. false≢true f), (λ n. refl))
    go false false = ((λ e. absurd (false≢true e)), (λ n. absurd (n refl)))

rise_least : (top l : ℕ) (ks : List ℕ) → Rise top l ks → (k : ℕ) → Memᴰ k ks → l ≤ k
rise_least top l [] h k m = absurd (Memᴰ.not-nil m)
rise_least top l (j ∷ ks) h k (Memᴰ.head e) = omega (arith, h.0, e)
rise_least top l (j ∷ ks) h k (Memᴰ.tail m) = omega (arith, h.0, rise_least top (suc j) ks h.2 k m)

-- Of literals whose atoms rise, two with one atom are one.
same_atom : (top low : ℕ) (c : List Literal) → Rise top low (atoms c) → {k l : Literal} → Memᴰ k c → Memᴰ l c
    → k.atom ≡ l.atom → k ≡ l
same_atom top low (x ∷ c) h (Memᴰ.head p) (Memᴰ.head q) e = p ∙ sym q
same_atom top low (x ∷ c) h {k} {l} (Memᴰ.head p) (Memᴰ.tail m) e =
    absurd (omega (arith, ap (λ (y : Literal). y.atom) p, rise_least top (suc x.atom) (atoms c) h.2 l.atom (Memᴰ.map (λ (y : Literal). y.atom) m)))
same_atom top low (x ∷ c) h {k} {l} (Memᴰ.tail m) (Memᴰ.head p) e =
    absurd (omega (arith, ap (λ (y : Literal). y.atom) p, rise_least top (suc x.atom) (atoms c) h.2 k.atom (Memᴰ.map (λ (y : Literal). y.atom) m)))
same_atom top low (x ∷ c) h (Memᴰ.tail m) (Memᴰ.tail n) e = same_atom top (suc x.atom) c h.2 m n e
same_atom top low [] h {k = k} {l = l} x4 _ e = elim x4 [ ]

module _ (F : ℕ) (c : List Literal) (few : F ≤ most_atoms) (rules : ConjunctRules F c) where
  atom_few : (l : Literal) → Memᴰ l c → l.atom < most_atoms
  atom_few l m = omega (arith, few, rising_top rules l.atom (Memᴰ.map (λ (y : Literal). y.atom) m))

  module _ (s : State) (whole : length s ≡ most_atoms) where
    -- Whatever the state before, the literals hold when they have been made true.
    made : EntailsAll (γ s c) c
    made l m = go l.sign refl
      where
        small : l.atom < length s
        small = rw whole (atom_few l m)

        member : (b : Bool) → l.sign ≡ b → Memᴰ (record { sign = b; atom = l.atom }) c
        member b e = Memᴰ.cast (λ i. record { sign = sym e i; atom = l.atom }) m

        go : (b : Bool) → l.sign ≡ b → Entails (γ s c) l
        go true e = (effects_are_gamma s c l.atom small).1 (inr (member true e)) ∙ sym e
        go false e =
            not_true_false _ (λ t.
            ⊎_elim (λ k. k.1 (member false e))
            (λ n. true≢false (sym (ap (λ (y : Literal). y.sign) (same_atom F 0 c (rise rules) m n refl)) ∙ e))
            ((effects_are_gamma s c l.atom small).0 t))
            ∙ sym e

    made_whole : length (γ s c) ≡ most_atoms
    unfolding γ
    made_whole = length_assign true _ _ ∙ length_assign false _ s ∙ whole

  -- A literal that is entailed stands in the list: else it would be false where its opposite was true before.
  entailed_member : (b : Bool) (p : ℕ) → p < most_atoms → EntailsLiteral c (record { sign = b; atom = p }) → Memᴰ (record { sign = b; atom = p }) c
  entailed_member true p h e =
      let s = replicate most_atoms false in
      let whole = length-replicate most_atoms false in
      let in-made = e (γ s c) (made_whole s whole) (made s whole) in
      ⊎_elim (λ k. absurd (false≢true (sym (get_or-replicate most_atoms p false false h) ∙ k.0))) (λ m. m)
      ((effects_are_gamma s c p (rw whole h)).0 in-made)
  entailed_member false p h e = go (contains c (record { sign = false; atom = p })) refl
    where
      s : State
      s = replicate most_atoms true

      whole : length s ≡ most_atoms
      whole = length-replicate most_atoms true

      go : (b : Bool) → contains c (record { sign = false; atom = p }) ≡ b → Memᴰ (record { sign = false; atom = p }) c
      go true q = (contains_iff c (record { sign = false; atom = p })).0 q
      go false q =
          absurd
          (true≢false
          (sym ((effects_are_gamma s c p (rw whole h)).1
          (inl (get_or-replicate most_atoms p true false h, λ m. false_not_true _ q ((contains_iff c (record { sign = false; atom = p })).1 m))))
          ∙ e (γ s c) (made_whole s whole) (made s whole)))

pub relevance_is_000s : RelevanceIs000s
relevance_is_000s F effects g few rules goals = (
  (λ h. record {
    literal = h.literal;
    wanted = h.wanted;
    entailed = λ s whole all. all h.literal h.contained;
    no_negation = λ l w e. h.no_opposite l w (back (opposite l) (small l w) e);
  }),
  (λ h. record {
    literal = h.literal;
    wanted = h.wanted;
    contained = back h.literal (small h.literal h.wanted) h.entailed;
    no_opposite = λ l w m. h.no_negation l w (λ s whole all. all (opposite l) m);
  }),
)
  where
    back : (l : Literal) → l.atom < most_atoms → EntailsLiteral effects l → Memᴰ l effects
    back l h e = entailed_member F effects few rules l.sign l.atom h e

    small : (l : Literal) → LiteralOf g l → l.atom < most_atoms
    small l w = atom_few F w.0 few (goals w.0 w.1) l w.2

-- The rules of a shop sheet that passes.

at_last : (init : List Node) {n : Node} → At (init ++ (n ∷ [])) (length init) n
at_last [] = here
at_last (m ∷ init) = there (at_last init)

-- The atoms of a method's goal are those of its last node.
goal_rules : (shop : List ℕ) → check_shop shop ≡ passed → (m : Method) → Memᴰ m (domain shop).methods
    → ConjunctRules (Shop.atom_count shop) (goal_of m)
unfolding goal_of
goal_rules shop e m k =
    let rules = (shop_rules shop e).methods m k in
    let last = ends_in_last m.nodes rules.some_node in
    let one = one_alternative (last_of m.nodes).formula (rules.one_goal last.0 _ last.1) in
    (rules.nodes (length last.0) (last_of m.nodes)
    (subst (λ (ns : List Node). At ns (length last.0) (last_of m.nodes)) (sym last.1) (at_last last.0))
    ).alternatives (goal_of m) (subst (λ (f : Formula). Memᴰ (goal_of m) f) (sym one) (Memᴰ.head refl))

pub rules_are_000s : (shop : List ℕ) → check_shop shop ≡ passed → RulesAre000s shop
rules_are_000s shop e =
    let rules = shop_rules shop e in
    record {
      domain_is = refl;
      act_iff = λ a k g h. relevance_is_000s (Shop.atom_count shop) a.effects g rules.few_atoms (rules.actions a k).effects h;
      use_iff = λ m k g h. relevance_is_000s (Shop.atom_count shop) (goal_of m) g rules.few_atoms (goal_rules shop e m k) h;
    }
