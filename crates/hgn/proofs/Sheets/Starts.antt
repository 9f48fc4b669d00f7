-- A state that a run on checked sheets leaves can be the start of an order sheet. Assumes nothing.
use Prim.Native.Nat.{ℕ, zero, suc, ◌+◌, ◌≤◌, ◌<◌}
use native.Mathlib.Omega.{arith}
use mathlib.Core.Path.{◌≡◌, refl, sym, ap, ap₂, ◌∙◌}
use mathlib.Core.Bool.{Bool, true, false, cond, beq, false≢true}
use mathlib.Core.List.{List, [], ◌∷◌, ◌++◌, map, flat_map, append_assoc}
use mathlib.Core.List.{Memᴰ}
use lib.Dec.{eqb}
use lib.ListN.{length, get_or, set, replicate, length-append, length-map, length-set, length-replicate}
use lib.Seq.{get_or-set_other, set-append_seam}
use borrow.Author.Tests.{eqb-true, eqb-false}
use Rattle.hgn.specs.Rows.{row, most_rows}
use Rattle.hgn.specs.Meaning.{Literal, Order}
use Rattle.hgn.specs.State.{State, most_atoms, empty_state, assign, atoms_of, γ}
use Rattle.hgn.specs.Run.{Step, Problem, start_of, problem_of, strict}
use Rattle.hgn.specs.Questions.{passed}
use Rattle.hgn.specs.Shop as Shop
use Rattle.hgn.specs.Shop.{domain, check_shop}
use Rattle.hgn.specs.Order as Sheet
use Rattle.hgn.specs.Order.{order, check_order}
use Rattle.hgn.specs.Definition1.{Derivation, base, satisfaction, application, decomposition}
use Rattle.hgn.proofs.Logic.Tests.{at_mem, replicate_default}
use Rattle.hgn.specs.Written.{node_rows, order_rows, order_words, ConjunctRules}
use Rattle.hgn.proofs.Sheets.Passed.{shop_of_order}
use Rattle.hgn.proofs.Sheets.Rules.{atoms, Rise, rising, rising_top}
use Rattle.hgn.proofs.Sheets.Written.{shop_rules, order_rules, order_length, words_order, words_pass_order}

-- The atoms of a sign are among all atoms.
atoms_in : (b : Bool) (ls : List Literal) (a : ℕ) → Memᴰ a (atoms_of b ls) → Memᴰ a (atoms ls)
unfolding atoms_of
atoms_in b [] a m = m
atoms_in b (l ∷ ls) a m = go (beq l.sign b) (atoms_in b ls a) m
  where
    go : (x : Bool) → (Memᴰ a (atoms_of b ls) → Memᴰ a (atoms ls)) → Memᴰ a (cond x (l.atom ∷ atoms_of b ls) (atoms_of b ls))
        → Memᴰ a (l.atom ∷ atoms ls)
    go true ih (Memᴰ.head e) = Memᴰ.head e
    go true ih (Memᴰ.tail m) = Memᴰ.tail (ih m)
    go false ih m = Memᴰ.tail (ih m)

-- A state of 256 atoms, with none in it from `F` on.
pub record Fits (F : ℕ) (s : State) : Type 0 where
  pub whole : length s ≡ most_atoms
  pub within : (p : ℕ) → get_or s p false ≡ true → p < F

set_default : {A : Type 0} (l : List A) (p : ℕ) (a : A) → get_or (set l p a) p a ≡ a
set_default [] p a = refl
set_default (x ∷ l) zero a = refl
set_default (x ∷ l) (suc p) a = set_default l p a

module _ (F : ℕ) where
  fits_empty : Fits F empty_state
  unfolding empty_state
  fits_empty = record {
    whole = length-replicate most_atoms false;
    within = λ p e. absurd (false≢true (sym (replicate_default most_atoms p false) ∙ e));
  }

  fits_set : (b : Bool) (a : ℕ) (s : State) → (b ≡ true → a < F) → Fits F s → Fits F (set s a b)
  fits_set b a s h f = record { whole = length-set s a b ∙ f.whole; within = λ p e. go p (eqb p a) refl b refl e }
    where
      go : (p : ℕ) (x : Bool) → eqb p a ≡ x → (y : Bool) → b ≡ y → get_or (set s a b) p false ≡ true → p < F
      go p true q true z e = rw (eqb-true p a q) (h z)
      go p true q false z e = absurd (false≢true (sym (set_default s a false) ∙ (rw (eqb-true p a q, z) at e)))
      go p false q y z e = f.within p (sym (get_or-set_other s a p b false (eqb-false p a q)) ∙ e)

  fits_assign : (b : Bool) (atoms : List ℕ) (s : State) → (b ≡ true → (a : ℕ) → Memᴰ a atoms → a < F)
      → Fits F s → Fits F (assign b atoms s)
  unfolding assign
  fits_assign b [] s h f = f
  fits_assign b (a ∷ atoms) s h f =
      fits_assign b atoms (set s a b) (λ z k m. h z k (Memᴰ.tail m)) (fits_set b a s (λ z. h z a (Memᴰ.head refl)) f)

  fits_γ : (s : State) (effects : List Literal) → ConjunctRules F effects → Fits F s → Fits F (γ s effects)
  unfolding γ
  fits_γ s effects h f =
      fits_assign true _ _ (λ _ a m. rising_top h a (atoms_in true effects a m)) (fits_assign false _ s (λ z. absurd (false≢true z)) f)

-- An order's first state fits its shop, and so does the last of every derivation from one that does.
start_fits : (shop sheet : List ℕ) → check_order shop sheet ≡ passed → Fits (Shop.atom_count shop) (start_of (order sheet))
unfolding start_of
start_fits shop sheet e =
    let F = Shop.atom_count shop in
    fits_assign F true _ empty_state (λ _. rising_top (order_rules shop sheet e).start) (fits_empty F)

derivation_fits : (shop : List ℕ) → check_shop shop ≡ passed
    → {limit n : ℕ} {P : Problem} {last : State} {xs : List Step} {plan : List ℕ}
    → Derivation (strict limit (domain shop)) n P xs plan last → Fits (Shop.atom_count shop) P.state → Fits (Shop.atom_count shop) last
derivation_fits shop e base f = f
derivation_fits shop e (satisfaction h g i) f = derivation_fits shop e i f
derivation_fits shop e (application {P} {a} h c g k i) f =
    derivation_fits shop e i (fits_γ (Shop.atom_count shop) P.state a.effects ((shop_rules shop e).actions a (at_mem c)).effects f)
derivation_fits shop e (decomposition h c g k i) f = derivation_fits shop e i f

pub last_fits : (shop sheet : List ℕ) → check_order shop sheet ≡ passed
    → {limit n : ℕ} {last : State} {xs : List Step} {plan : List ℕ}
    → Derivation (strict limit (domain shop)) n (problem_of (order sheet)) xs plan last → Fits (Shop.atom_count shop) last
last_fits shop sheet e i = derivation_fits shop (shop_of_order shop sheet e) i (start_fits shop sheet e)

-- The atoms of a state, the first of them being atom `i`.
atoms_from : ℕ → State → List ℕ
atoms_from i [] = []
atoms_from i (b ∷ s) = cond b (i ∷ atoms_from (suc i) s) (atoms_from (suc i) s)

atoms_short : (i : ℕ) (s : State) → length (atoms_from i s) ≤ length s
unfolding atoms_from
atoms_short i [] = omega arith
atoms_short i (b ∷ s) = go b (atoms_short (suc i) s)
  where
    go : (x : Bool) → length (atoms_from (suc i) s) ≤ length s
        → length (cond x (i ∷ atoms_from (suc i) s) (atoms_from (suc i) s)) ≤ suc (length s)
    go true h = omega arith
    go false h = omega arith

rise_down : (F l : ℕ) (atoms : List ℕ) → Rise F (suc l) atoms → Rise F l atoms
rise_down F l [] h = tt
rise_down F l (a ∷ atoms) h = (omega (arith, h.0), h.1, h.2)

atoms_rise : (F i : ℕ) (s : State) → ((p : ℕ) → get_or s p false ≡ true → i + p < F) → Rise F i (atoms_from i s)
unfolding atoms_from
atoms_rise F i [] h = tt
atoms_rise F i (b ∷ s) h = go b refl (atoms_rise F (suc i) s (λ p e. let k = h (suc p) e in omega arith))
  where
    go : (x : Bool) → b ≡ x → Rise F (suc i) (atoms_from (suc i) s) → Rise F i (cond x (i ∷ atoms_from (suc i) s) (atoms_from (suc i) s))
    go true e ih = let k = h 0 e in (omega arith, omega arith, ih)
    go false e ih = rise_down F i (atoms_from (suc i) s) ih

-- Put into the empty state, they give it back.
put_in : (b : Bool) (done s : State)
    → assign true (atoms_from (suc (length done)) s) (done ++ (b ∷ replicate (length s) false)) ≡ done ++ (b ∷ s)
    → assign true (atoms_from (length done) (b ∷ s)) (done ++ (false ∷ replicate (length s) false)) ≡ done ++ (b ∷ s)
unfolding assign atoms_from
put_in true done s h =
    ap (assign true (atoms_from (suc (length done)) s)) (set-append_seam done false (replicate (length s) false) true) ∙ h
put_in false done s h = h

assign_atoms : (done s : State) → assign true (atoms_from (length done) s) (done ++ replicate (length s) false) ≡ done ++ s
unfolding assign atoms_from
assign_atoms done [] = refl
assign_atoms done (b ∷ s) = put_in b done s (shorter (assign_atoms (done ++ (b ∷ [])) s))
  where
    one_more : length (done ++ (b ∷ [])) ≡ suc (length done)
    one_more = let h = length-append done (b ∷ []) in omega arith

    shorter : assign true (atoms_from (length (done ++ (b ∷ []))) s) ((done ++ (b ∷ [])) ++ replicate (length s) false)
        ≡ (done ++ (b ∷ [])) ++ s
        → assign true (atoms_from (suc (length done)) s) (done ++ (b ∷ replicate (length s) false)) ≡ done ++ (b ∷ s)
    shorter ih =
        ap₂ (λ (k : ℕ) (l : State). assign true (atoms_from k s) l) (sym one_more)
        (sym (append_assoc done (b ∷ []) (replicate (length s) false)))
        ∙ ih ∙ append_assoc done (b ∷ []) s

atoms_back : (s : State) → length s ≡ most_atoms → assign true (atoms_from 0 s) empty_state ≡ s
unfolding empty_state
atoms_back s e = ap (λ (n : ℕ). assign true (atoms_from 0 s) (replicate n false)) (sym e) ∙ assign_atoms [] s

-- An order sheet with another's goals, from this state.
pub record From (shop sheet : List ℕ) (s : State) : Type 0 where
  pub words : List ℕ
  pub passes : check_order shop words ≡ passed
  pub goals : (order words).goals ≡ (order sheet).goals
  pub start : start_of (order words) ≡ s

-- It is there for a state that fits, where the sheet has 256 rows to spare.
pub from_state : (shop sheet : List ℕ) → check_order shop sheet ≡ passed → most_atoms + Sheet.row_count sheet ≤ most_rows
    → (s : State) → Fits (Shop.atom_count shop) s → From shop sheet s
unfolding start_of order_rows
from_state shop sheet e few s f =
    let F = Shop.atom_count shop in
    let o : Order = record { start = atoms_from 0 s; goals = (order sheet).goals } in
    let rules = order_rules shop sheet e in
    let gs = flat_map node_rows (order sheet).goals in
    record {
      words = order_words F o;
      passes =
          words_pass_order shop o (shop_of_order shop sheet e)
          record {
            few_goals = rules.few_goals;
            few_rows =
                omega (
                  arith,
                  length-append (map (row 12) (atoms_from 0 s)) gs,
                  length-map (atoms_from 0 s) (row 12),
                  atoms_short 0 s,
                  f.whole,
                  length-append (map (row 12) (order sheet).start) gs,
                  order_length shop sheet e,
                );
            start = rising 0 _ (atoms_rise F 0 s (λ p q. let k = f.within p q in omega arith));
            goals = rules.goals;
          };
      goals = ap (λ (o : Order). o.goals) (words_order F o);
      start = ap (λ (o : Order). assign true o.start empty_state) (words_order F o) ∙ atoms_back s f.whole;
    }
