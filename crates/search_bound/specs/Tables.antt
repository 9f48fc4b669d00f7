-- The table of only achievers, and what is known of an operator or an action that is asked about. No reader needs to trust this page: a
-- statement of `search_theory` says what the bound is for.
use Rattle.std.specs.Prelude.{ℕ, suc, ◌+◌, ◌*◌, ◌≤◌, ◌<◌, ◌≡◌, Bool, cond, List, [], ◌∷◌, ltb, length, get_or, set}
use Rattle.hgn.specs.Tag as Tag
use Rattle.hgn.specs.Meaning.{Literal, Domain, literals, node_of}
use Rattle.hgn.specs.State.{most_atoms, relevant}
use Rattle.sheet_index.specs.declared.rows.Rows.{Rows}
use Rattle.sheet_rows.specs.declared.position.Sheet.TheVariants as Of
use Rattle.sheet_index.specs.Index.{span_rows, span_of, rows_in}
use Rattle.hgn.specs.Shop.{domain, action_count, method_count}
use Rattle.sheet_index.specs.Tables.{Bounds, Indexed}
use Rattle.search_theory.specs.Needed.{OnlyAchiever}
use Rattle.search_bound.specs.declared.achievers.Table.{Table}
use Rattle.search_bound.specs.declared.achievers.Achievers.{Achievers}
use Rattle.search_bound.specs.declared.achievers.Achievers.TheVariants as Entry

-- The entries of the table: two an atom, for false and for true.
abbrev pub entries : ℕ
entries = 2 * most_atoms

-- Where the table has a literal, and what it has there.
abbrev pub index_of : Literal → ℕ
index_of l = 2 * l.atom + cond l.sign 1 0

abbrev pub entry_at : List Achievers → Literal → Achievers
entry_at es l = get_or es (index_of l) Entry.None

-- Where an entry names one of the sheet's actions, no other achieves the literal; where it says that none does, none does.
abbrev pub Achieved : Domain → Literal → Achievers → Type 0
Achieved d l Entry.None = OnlyAchiever d l 0
Achieved d l (Entry.Only o) = o < length d.actions → OnlyAchiever d l (suc o)
Achieved d l Entry.Many = Unit {0}

-- No entry names an action.
abbrev pub AchievesNone : Table → Type 0
AchievesNone table = (l : Literal) → l.atom < most_atoms → entry_at table.entries l ≡ Entry.None

abbrev pub OnlyAchievers : Domain → Table → Type 0
OnlyAchievers d table = (l : Literal) → l.atom < most_atoms → Achieved d l (entry_at table.entries l)

-- The operator is an action or a method of indexed sheets, and the table is their shop sheet's.
pub record OperatorOf (shop order tables : List ℕ) (table : Table) (o : ℕ) : Type 0 where
  pub indexed : Indexed shop order tables
  pub known : o < action_count shop + method_count shop
  pub achievers : OnlyAchievers (domain shop) table

-- The number is that of an action of indexed sheets.
pub record ActionOf (shop order tables : List ℕ) (k : ℕ) : Type 0 where
  pub indexed : Indexed shop order tables
  pub first : 1 ≤ k
  pub last : k ≤ action_count shop

-- What achieves a literal once an operator does too.
abbrev pub with_achiever : ℕ → Achievers → Achievers
with_achiever o Entry.None = Entry.Only o
with_achiever o (Entry.Only k) = Entry.Many
with_achiever o Entry.Many = Entry.Many

-- An operator noted at each of these literals; there is no entry for an atom past the last.
unfoldable pub noted : ℕ → List Literal → List Achievers → List Achievers
noted o [] es = es
noted o (l ∷ ls) es = noted o ls (cond (ltb l.atom most_atoms) (set es (index_of l) (with_achiever o (entry_at es l))) es)

-- The effects among these rows are relevant to the node with those.
abbrev pub bound_relevant : List ℕ → List ℕ → Rows → Bounds → Bool
bound_relevant shop order effects b =
    relevant (literals Tag.makes_true Tag.makes_false (rows_in effects))
    (node_of (span_rows shop order (span_of Of.Shop b.from b.to))).formula
