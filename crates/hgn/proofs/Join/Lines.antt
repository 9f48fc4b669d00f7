-- The lines of a run in two parts, and of one whose steps are counted from a cut. Assumes nothing.
use Prim.Native.Nat.{ℕ, suc, ◌+◌}
use native.Mathlib.Nat.{add-zero, add-suc, suc-add}
use mathlib.Core.Path.{◌≡◌, refl, sym, ap, ap₂, ◌∙◌}
use mathlib.Core.List.{List, [], ◌∷◌, ◌++◌, map, map-append, append_assoc}
use lib.ListN.{length}
use Rattle.hgn.specs.State.{State}
use Rattle.hgn.specs.Network.{Source, order, used, Waiting}
use Rattle.hgn.specs.Run.{Step, Problem, Rules, Leaving, Deed, releases, takes, uses, stepped, accepted, run_by, run}
use Rattle.hgn.specs.Listing.{Line, line_of, lines_at, lines_of, later_source, later_line}
use Rattle.hgn.specs.Demands.{sources}
use Rattle.hgn.proofs.Run.Runs.{resumes, ended_empty}
use Rattle.hgn.proofs.Join.Embedding.{renamed_leaving, renamed_deed}
use Rattle.hgn.proofs.Join.Renaming.{rename}

pub lines_append : (n : ℕ) (ds es : List Deed) → lines_of n (ds ++ es) ≡ lines_of n ds ++ lines_of (n + length ds) es
unfolding lines_of
lines_append n [] es = ap (λ (k : ℕ). lines_of k es) (sym (add-zero n))
lines_append n (d ∷ ds) es =
    ap {B = List Line} (λ l. lines_at n d ++ l) (lines_append (suc n) ds es ∙ ap {B = List Line} (λ k. lines_of (suc n) ds ++ lines_of k es) (suc-add n (length ds) ∙ sym (add-suc n (length ds))))
    ∙ sym (append_assoc (lines_at n d) (lines_of (suc n) ds) (lines_of (n + suc (length ds)) es))

-- An accepted run did as many deeds as it has steps.
pub deeds_length : (r : Rules) (xs : List Step) (n : ℕ) (P : Problem) (deeds : List Deed) (last : State) → run r n P xs ≡ accepted deeds last
    → length deeds ≡ length xs
unfolding run_by
deeds_length r [] n P deeds last e = ap length (ended_empty n P deeds last e).1
deeds_length r (x ∷ xs) n P deeds last e =
    let f = resumes (stepped r) n P x xs deeds last e in
    ap length f.whole ∙ ap suc (deeds_length r xs (suc n) f.left f.rest last f.goes_on)

-- The second order's goals under the join's names, from cut `c` on.
module _ (g c : ℕ) where
  abbrev renamed : Waiting → Waiting
  renamed = rename g (λ k. c + k)

  source_later : (q : Waiting) → (renamed q).source ≡ later_source c q.source
  source_later q = go q.source refl
    where
      go : (s : Source) → q.source ≡ s → (renamed q).source ≡ later_source c q.source
      go order e = rw e refl
      go (used k m) e = rw e refl

  pub sources_later : (w : List Waiting) → sources (map renamed w) ≡ map (later_source c) (sources w)
  sources_later [] = refl
  sources_later (q ∷ w) = ap₂ {C = List Source} ◌∷◌ (source_later q) (sources_later w)

  line_later : (n : ℕ) (l : Leaving) → line_of (c + n) (renamed_leaving renamed l) ≡ later_line c (line_of n l)
  line_later n l = ap (λ (s : Source). record { above = l.above; released = c + n; source = s }) (source_later l.goal)

  leaving_later : (n : ℕ) (gs : List Leaving) → map (line_of (c + n)) (map (renamed_leaving renamed) gs) ≡ map (later_line c) (map (line_of n) gs)
  leaving_later n [] = refl
  leaving_later n (l ∷ gs) = ap₂ {C = List Line} ◌∷◌ (line_later n l) (leaving_later n gs)

  lines_at_later : (n : ℕ) (d : Deed) → lines_at (c + n) (renamed_deed renamed d) ≡ map (later_line c) (lines_at n d)
  unfolding lines_at renamed_deed
  lines_at_later n (releases gs) = leaving_later n gs
  lines_at_later n (takes k) = refl
  lines_at_later n (uses m q) = refl

  pub lines_later : (n : ℕ) (ds : List Deed) → lines_of (c + n) (map (renamed_deed renamed) ds) ≡ map (later_line c) (lines_of n ds)
  unfolding lines_of
  lines_later n [] = refl
  lines_later n (d ∷ ds) =
      ap₂ {C = List Line} ◌++◌ (lines_at_later n d)
      (ap (λ (k : ℕ). lines_of k (map (renamed_deed renamed) ds)) (sym (add-suc c n)) ∙ lines_later (suc n) ds)
      ∙ sym (map-append (later_line c) (lines_at n d) (lines_of (suc n) ds))
