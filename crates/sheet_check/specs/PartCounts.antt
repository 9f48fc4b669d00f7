-- What questions 8 and 9 of document 01, "Questions", count, row after row. That these counts are those of the definitions is proved in `proofs/Counts.antt`.
use Rattle.std.specs.Prelude.{ℕ, suc, ◌+◌, ◌-◌, ◌≤◌, Bool, true, false, not, cond, ◌&&◌, List, [], ◌∷◌, Option, None, Some, is_none, eqb, leb}
use Rattle.std.specs.Int.{w16}
use Rattle.std.proofs.Common.{Fits}
use Rattle.hgn.specs.Tag as Tag
use Rattle.hgn.specs.Rows.{Row}
use Rattle.hgn.specs.Shop.{most_nodes}
use Rattle.hgn.specs.Questions.{Verdict, passed, refused, ◌asks◌, ◌askedAt◌}
use Rattle.sheet_check.specs.declared.part_counts.PartCounts.{PartCounts}

abbrev pub nothing : PartCounts
nothing = record { actions = 0; methods = 0; inside = false; nodes = 0; alternatives = 0; afters = 0; offender = None }

-- The open method is within its node rules.
unfoldable pub within_rules : PartCounts → Bool
within_rules t = leb 1 t.nodes && leb t.nodes most_nodes && eqb t.alternatives 1 && eqb t.afters 0

-- The method that ends here is noted as the first outside its node rules.
unfoldable pub noted : PartCounts → PartCounts
noted t = record {
  actions = t.actions;
  methods = t.methods;
  inside = t.inside;
  nodes = t.nodes;
  alternatives = t.alternatives;
  afters = t.afters;
  offender = Some (t.methods - 1);
}

-- The open method ends here.
unfoldable pub closed : PartCounts → PartCounts
closed t = cond (t.inside && is_none t.offender && not (within_rules t) && leb 1 t.methods) (noted t) t

-- An action begins.
unfoldable pub with_action : PartCounts → PartCounts
with_action t = record {
  actions = suc t.actions;
  methods = t.methods;
  inside = false;
  nodes = t.nodes;
  alternatives = t.alternatives;
  afters = t.afters;
  offender = t.offender;
}

-- A method begins.
unfoldable pub with_method : PartCounts → PartCounts
with_method t = record {
  actions = t.actions;
  methods = suc t.methods;
  inside = true;
  nodes = 0;
  alternatives = 0;
  afters = 0;
  offender = t.offender;
}

-- The counts of the open method.
unfoldable pub with_counts : PartCounts → ℕ → ℕ → ℕ → PartCounts
with_counts t nodes alternatives afters = record {
  actions = t.actions;
  methods = t.methods;
  inside = t.inside;
  nodes = nodes;
  alternatives = alternatives;
  afters = afters;
  offender = t.offender;
}

-- The counts after one more row with this tag.
unfoldable pub counted : PartCounts → ℕ → PartCounts
counted t tag =
    cond (eqb tag Tag.action) (with_action (closed t))
    (cond (eqb tag Tag.method) (with_method (closed t))
    (cond (eqb tag Tag.node) (with_counts t (suc t.nodes) 0 0)
    (cond (eqb tag Tag.alternative) (with_counts t t.nodes (suc t.alternatives) t.afters)
    (cond (eqb tag Tag.after) (with_counts t t.nodes t.alternatives (suc t.afters))
    t))))

-- The counts after a row that goes on in its group: only an 11 row counts.
unfoldable pub counted_in_group : PartCounts → ℕ → PartCounts
counted_in_group t tag = cond (eqb tag Tag.after) (with_counts t t.nodes t.alternatives (suc t.afters)) t

-- The counts after these rows.
unfoldable pub counted_rows : PartCounts → List Row → PartCounts
counted_rows t [] = t
counted_rows t (r ∷ rs) = counted_rows (counted t r.tag) rs

-- No to question 9, at the first method that was noted; where none was, what follows.
unfoldable pub offending : Option ℕ → Verdict → Verdict
offending (Some method) rest = refused (9 asks false askedAt method).failure
offending None rest = rest

-- The answer to question 9, once the last method is closed.
unfoldable pub invalid_in : PartCounts → Verdict
invalid_in t = offending t.offender passed

-- Every count is such a number.
pub record Each (P : ℕ → Type 0) (t : PartCounts) : Type 0 where
  pub actions : P t.actions
  pub methods : P t.methods
  pub nodes : P t.nodes
  pub alternatives : P t.alternatives
  pub afters : P t.afters

-- Every count is at most `n`.
abbrev pub Within : ℕ → PartCounts → Type 0
Within n = Each (λ k. k ≤ n)

-- One more of anything fits a 16-bit word.
abbrev pub Small : PartCounts → Type 0
Small = Each (λ k. Fits w16 (k + 1))
