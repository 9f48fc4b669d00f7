-- Walking the nodes of a part along a table of ends. Assumes nothing.
use Prim.Native.Nat.{ℕ, ◌+◌, ◌<◌, ◌≤◌}
use native.Mathlib.Omega.{arith}
use mathlib.Core.Path.{◌≡◌, refl, sym, ap, ap₂, ◌∙◌, subst}
use mathlib.Core.Logic.{◌≢◌}
use mathlib.Core.List.{List, [], ◌∷◌, ◌++◌, append_assoc, append-nil}
use lib.ListN.{length, get_or, length-append}
use Rattle.sheet_index.specs.Tables.{Bounds, Walk, stop, next, NodesCounted}

-- What a walk says before its end.
pub record Ahead (table : List ℕ) (e n : ℕ) (bs : List Bounds) : Type 0 where
  pub rest : List Bounds
  pub grows : n < get_or table n 0
  pub inside : n < length table
  pub below : get_or table n 0 ≤ e
  pub list : bs ≡ record { from = n; to = get_or table n 0 } ∷ rest
  pub onward : Walk table e (get_or table n 0) rest

-- Some nodes of a walk are passed: `count` of them, the last of which started at `last`, and the others follow from `row`.
pub record Passed (table : List ℕ) (e : ℕ) (whole : List Bounds) (count last row : ℕ) : Type 0 where
  pub done : List Bounds
  pub rest : List Bounds
  pub split : whole ≡ done ++ rest
  pub onward : Walk table e row rest
  pub number : count ≡ length done
  pub ended : length done ≢ 0 → (init : List Bounds) × (done ≡ init ++ (record { from = last; to = row } ∷ []))

module _ {table : List ℕ} {e : ℕ} where
  -- A walk never leads past its end.
  pub walk_below : {n : ℕ} {bs : List Bounds} → Walk table e n bs → n ≤ e
  walk_below stop = omega arith
  walk_below (next a b h q w) = omega arith

  pub ahead : {n : ℕ} {bs : List Bounds} → n < e → Walk table e n bs → Ahead table e n bs
  ahead h stop = absurd (omega arith)
  ahead {n} h (next {to = to} {bs = bs} a b i q w) = record {
    rest = bs;
    grows = omega arith;
    inside = i;
    below = omega arith;
    list = ap (λ (k : ℕ). record { from = n; to = k } ∷ bs) (sym q);
    onward = subst (λ (k : ℕ). Walk table e k bs) (sym q) w;
  }

  -- At its end a walk has nothing left.
  pub at_end : {n : ℕ} {bs : List Bounds} → e ≤ n → Walk table e n bs → bs ≡ []
  at_end h stop = refl
  at_end h (next a b i q w) = absurd (omega arith)

  -- The table decides the walk.
  pub walk_same : {n : ℕ} {bs cs : List Bounds} → Walk table e n bs → Walk table e n cs → bs ≡ cs
  walk_same stop v = sym (at_end (omega arith) v)
  walk_same {n} (next a b i q w) v =
      let f = ahead (omega arith) v in
      ap₂ {C = List Bounds} (λ k l. record { from = n; to = k } ∷ l) (sym q) (walk_same w (subst (λ (k : ℕ). Walk table e k f.rest) q f.onward))
      ∙ sym f.list

  pub passed_none : {n : ℕ} {bs : List Bounds} (last : ℕ) → Walk table e n bs → Passed table e bs 0 last n
  passed_none {bs = bs} last w = record { done = []; rest = bs; split = refl; onward = w; number = refl; ended = λ z. absurd (z refl) }

  pub passed_more : {bs : List Bounds} {count last row : ℕ} → Passed table e bs count last row → row < e
      → Passed table e bs (count + 1) row (get_or table row 0)
  passed_more {row = row} p h =
      let f = ahead h p.onward in record {
        done = p.done ++ (record { from = row; to = get_or table row 0 } ∷ []);
        rest = f.rest;
        split = p.split ∙ ap {B = List Bounds} (λ l. p.done ++ l) f.list ∙ sym (append_assoc p.done (record { from = row; to = get_or table row 0 } ∷ []) f.rest);
        onward = f.onward;
        number = omega (arith, p.number, length-append p.done (record { from = row; to = get_or table row 0 } ∷ []));
        ended = λ z. (p.done, refl);
      }

  pub passed_all : {n : ℕ} {bs cs : List Bounds} {count last row : ℕ} → Walk table e n bs → Passed table e bs count last row → e ≤ row → Walk table e n cs
      → NodesCounted e cs (record { count = count; last = record { 0 = last } })
  passed_all {bs = bs} {cs = cs} {last = last} {row = row} w p h v =
      let same : p.done ≡ cs = sym (append-nil p.done) ∙ sym (p.split ∙ ap {B = List Bounds} (λ l. p.done ++ l) (at_end h p.onward)) ∙ walk_same w v in
      record {
        number = p.number ∙ ap length same;
        last_is = λ z.
            let i = p.ended (λ y. z (sym (ap length same) ∙ y)) in
            (i.0, sym same ∙ i.1 ∙ ap {B = List Bounds} (λ (k : ℕ). i.0 ++ (record { from = last; to = k } ∷ [])) (omega (arith, walk_below p.onward)));
      }

  -- No more nodes are passed than there are.
  pub passed_few : {bs : List Bounds} {count last row : ℕ} → Passed table e bs count last row → count ≤ length bs
  passed_few p = omega (arith, p.number, ap length p.split, length-append p.done p.rest)
