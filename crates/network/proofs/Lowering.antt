-- Goals whose counts are made less, one after the other, by what they counted of one that leaves. Assumes nothing.
use Prim.Native.Nat.{ℕ, ◌+◌, ◌-◌, ◌<◌, ◌≤◌}
use native.Mathlib.Omega.{arith}
use native.Mathlib.Nat.{add-zero}
use mathlib.Core.Path.{◌≡◌, sym, ap, ◌∙◌}
use mathlib.Core.List.{List, ◌++◌, map}
use lib.ListN.{length, take, drop, get_or, set, length-map, length-append, length-take, length-drop}
use lib.Seq.{length-take-le, get_or-drop, get_or-append-add}
use Rattle.std.proofs.lemmas.List.Edits.{map_over_more}
use Rattle.hgn.proofs.Join.Embedding.{get_d_default}
use Rattle.network.specs.Pending.{listed_after, lowered, CountsLeaving}
use Rattle.network.specs.Goals.{nothing}
use Rattle.network.specs.declared.waiting.Entry.{Entry}
use Rattle.network.specs.declared.waiting.Waiting.{Waiting}

-- The goals before place `i` are lowered.
module _ (shop order : List ℕ) (leaving : Entry) (ws ws' : List Waiting) (i : ℕ) (counts : CountsLeaving shop order leaving ws)
    (is : ws' ≡ map (lowered shop order leaving) (take i ws) ++ drop i ws) (h : i < length ws) where
  abbrev head : List Waiting
  head = map (lowered shop order leaving) (take i ws)

  head_long : length head ≡ i
  head_long = length-map (take i ws) (lowered shop order leaving) ∙ length-take-le i ws (omega arith)

  -- The next goal is as it was.
  here : get_or ws' i nothing ≡ get_or ws i nothing
  here =
      ap (λ (l : List Waiting). get_or l i nothing) is
      ∙ ap (λ (k : ℕ). get_or (head ++ drop i ws) k nothing) (sym (add-zero i) ∙ ap (λ (k : ℕ). k + 0) (sym head_long))
      ∙ get_or-append-add head (drop i ws) 0 nothing
      ∙ get_or-drop i ws 0 nothing
      ∙ ap (λ (k : ℕ). get_or ws k nothing) (add-zero i)

  abbrev next : Waiting
  next = get_or ws' i nothing

  pub lowering_few : {t : ℕ} → t ≡ listed_after shop order leaving next → t ≤ next.pending
  lowering_few e =
      omega (arith, e, counts i nothing h, ap (listed_after shop order leaving) here, ap (λ (w : Waiting). w.pending) here)

  long : length ws' ≡ length ws
  long = ap length is ∙ simp (length-append, length-map, length-take, length-drop) (omega arith)

  step : set ws' i (lowered shop order leaving next) ≡ map (lowered shop order leaving) (take (i + 1) ws) ++ drop (i + 1) ws
  step = map_over_more (lowered shop order leaving) ws ws' i next h is (get_d_default ws' i nothing next (omega (arith, long)))

  pub lowering_more : {t n : ℕ} → t ≡ listed_after shop order leaving next → n ≡ next.pending - t
      → set ws' i (record { goal = next.goal; pending = n }) ≡ map (lowered shop order leaving) (take (i + 1) ws) ++ drop (i + 1) ws
  lowering_more e f =
      ap (λ (k : ℕ). set ws' i (record { goal = next.goal; pending = k })) (f ∙ ap (λ (k : ℕ). next.pending - k) e) ∙ step

  -- A goal that is free counts nothing of it.
  pub lowering_none : next.pending ≡ 0 → set ws' i next ≡ map (lowered shop order leaving) (take (i + 1) ws) ++ drop (i + 1) ws
  lowering_none z =
      let e : next.pending - listed_after shop order leaving next ≡ next.pending = omega arith in
      ap (λ (n : ℕ). set ws' i (record { goal = next.goal; pending = n })) (sym e) ∙ step
