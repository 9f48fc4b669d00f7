-- Lists with elements taken out or put in. Assumes nothing.
use Prim.Native.Nat.{ℕ, suc, ◌+◌, ◌-◌, ◌<◌, ◌≤◌}
use native.Mathlib.Omega.{arith}
use mathlib.Core.Path.{◌≡◌, refl, sym, ap, ap₂, ◌∙◌}
use mathlib.Core.List.{List, [], ◌∷◌, ◌++◌, map, map-append}
use lib.ListN.{length, take, drop, get_or, length-append, length-take, length-drop, get_or-append}
use lib.Seq.{length-take-le, get_or-take, get_or-drop, get_or-append-add}
use Rattle.hgn.specs.Network as Network
use Rattle.hgn.specs.Network.{released}
use Rattle.hgn.proofs.Join.Embedding.{take_map, drop_map}
use Rattle.network.specs.Entries.{waiting_of, without}
use Rattle.network.specs.declared.waiting.Entry.{Entry}

-- Lists that are as long, and the same at each place.
pub same_lists : {A : Type 0} (l r : List A) (z : A) → length l ≡ length r → ((k : ℕ) → k < length l → get_or l k z ≡ get_or r k z) → l ≡ r
same_lists [] [] z e same = refl
same_lists [] (y ∷ r) z e same = absurd (omega arith)
same_lists (x ∷ l) [] z e same = absurd (omega arith)
same_lists {A} (x ∷ l) (y ∷ r) z e same =
    ap₂ {C = List A} (λ a b. a ∷ b) (same 0 (omega arith)) (same_lists l r z (omega arith) (λ k h. same (suc k) (omega arith)))

module _ {A : Type 0} (l : List A) where
  -- Without the element at place `p`, those behind it stand one place lower.
  pub behind_gap : (p k : ℕ) (z : A) → p ≤ k → p < length l → get_or (take p l ++ drop (suc p) l) k z ≡ get_or l (suc k) z
  behind_gap p k z h f =
      let e : k ≡ length (take p l) + (k - p) = omega (arith, length-take-le p l (omega arith)) in
      let m : suc p + (k - p) ≡ suc k = omega arith in
      ap (λ (j : ℕ). get_or (take p l ++ drop (suc p) l) j z) e
      ∙ get_or-append-add (take p l) (drop (suc p) l) (k - p) z
      ∙ get_or-drop (suc p) l (k - p) z
      ∙ ap (λ (j : ℕ). get_or l j z) m

-- The first `p` elements of a list, then others, then what follows them.
module _ {A : Type 0} (l news rest : List A) (p : ℕ) (z : A) (inside : p ≤ length l) where
  abbrev put_in : List A
  put_in = take p l ++ (news ++ rest)

  pub at_before : (k : ℕ) → k < p → get_or put_in k z ≡ get_or l k z
  at_before k b = get_or-append (take p l) (news ++ rest) z k (simp length-take (omega arith)) ∙ get_or-take p l k z b

  from_here : (k : ℕ) → get_or put_in (p + k) z ≡ get_or (news ++ rest) k z
  from_here k =
      let e : p + k ≡ length (take p l) + k = omega (arith, length-take-le p l inside) in
      ap (λ (j : ℕ). get_or put_in j z) e ∙ get_or-append-add (take p l) (news ++ rest) k z

  pub at_new : (k : ℕ) → k < length news → get_or put_in (p + k) z ≡ get_or news k z
  at_new k b = from_here k ∙ get_or-append news rest z k b

  pub at_rest : (k : ℕ) → get_or put_in (p + (length news + k)) z ≡ get_or rest k z
  at_rest k = from_here (length news + k) ∙ get_or-append-add news rest k z

-- Elements enter before place `p`.
module _ {A : Type 0} (l news : List A) (p : ℕ) (z : A) (inside : p ≤ length l) where
  pub grown_length : length (take p l ++ (news ++ drop p l)) ≡ length l + length news
  grown_length = simp (length-append, length-take, length-drop) (omega arith)

  pub at_behind : (k : ℕ) → p + length news ≤ k → get_or (take p l ++ (news ++ drop p l)) k z ≡ get_or l (k - length news) z
  at_behind k b =
      let e : k ≡ p + (length news + (k - (p + length news))) = omega arith in
      let f : p + (k - (p + length news)) ≡ k - length news = omega arith in
      ap (λ (j : ℕ). get_or (take p l ++ (news ++ drop p l)) j z) e
      ∙ at_rest l news (drop p l) p z inside (k - (p + length news))
      ∙ get_or-drop p l (k - (p + length news)) z
      ∙ ap (λ (j : ℕ). get_or l j z) f

-- `news` stand in place of the elements from `p` up to `e`.
module _ {A : Type 0} (l news : List A) (p e : ℕ) (z : A) (order : p ≤ e) (inside : e ≤ length l) (long : length news ≡ e - p) where
  abbrev changed : List A
  changed = take p l ++ (news ++ drop (e - p) (drop p l))

  pub changed_length : length changed ≡ length l
  changed_length = simp (length-append, length-take, length-drop) (omega arith)

  pub changed_behind : (k : ℕ) → e ≤ k → get_or changed k z ≡ get_or l k z
  changed_behind k b =
      let x : k ≡ p + (length news + (k - e)) = omega arith in
      let y : p + ((e - p) + (k - e)) ≡ k = omega arith in
      ap (λ (j : ℕ). get_or changed j z) x
      ∙ at_rest l news (drop (e - p) (drop p l)) p z (omega arith) (k - e)
      ∙ get_or-drop (e - p) (drop p l) (k - e) z
      ∙ get_or-drop p l ((e - p) + (k - e)) z
      ∙ ap (λ (j : ℕ). get_or l j z) y

  pub changed_before : (k : ℕ) → k < p → get_or changed k z ≡ get_or l k z
  changed_before k b = at_before l news (drop (e - p) (drop p l)) p z (omega arith) k b

  pub changed_new : (k : ℕ) → k < e - p → get_or changed (p + k) z ≡ get_or news k z
  changed_new k b = at_new l news (drop (e - p) (drop p l)) p z (omega arith) k (omega arith)

-- The goals that stay when one is released.
module _ (shop order : List ℕ) where
  pub list_released : (l : List Entry) {r : List Entry} (p : ℕ) → r ≡ without l p → map (waiting_of shop order) r ≡ released (map (waiting_of shop order) l) p
  unfolding released
  list_released l p e =
      ap (map (waiting_of shop order)) e
      ∙ map-append (waiting_of shop order) (take p l) (drop (suc p) l)
      ∙ ap₂ {C = List Network.Waiting} (λ a b. a ++ b) (sym (take_map (waiting_of shop order) p l)) (sym (drop_map (waiting_of shop order) (suc p) l))
