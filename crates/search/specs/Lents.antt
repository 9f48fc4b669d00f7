-- What is lent to a search, as the definitions have it.
use Rattle.std.specs.Prelude.{ℕ, List}
use Rattle.std.specs.Coded.{Unit-prop}
use denote.Struct.Props as logic
use Rattle.hgn.specs.Meaning.{Domain, Literal}
use Rattle.hgn.specs.Shop.{domain}
use Rattle.sheet_index.specs.Tables.{Indexed}
use Rattle.search_bound.specs.declared.achievers.Table.{Table}
use Rattle.search_bound.specs.declared.achievers.Achievers.{Achievers}
use Rattle.search_bound.specs.declared.achievers.Achievers.TheVariants as Entry
use Rattle.search_bound.specs.Tables.{Achieved, OnlyAchievers}

-- Where the parts of the sheets stand, and which action alone achieves a literal.
pub record Lent (shop order tables : List ℕ) (table : Table) : Type 0 where
  pub indexed : Indexed shop order tables
  pub achievers : OnlyAchievers (domain shop) table

-- It has one proof at most, so it may be a ghost field.
Achieved-prop : (d : Domain) (l : Literal) (a : Achievers) → IsProp (Achieved d l a)
Achieved-prop d l Entry.None = Prim.hlevel logic.props
Achieved-prop d l (Entry.Only o) = Prim.hlevel logic.props
Achieved-prop d l Entry.Many = Unit-prop

ruleset lent_props = (Achieved-prop, logic.props)

pub Lent-prop : (shop order tables : List ℕ) (table : Table) → IsProp (Lent shop order tables table)
Lent-prop shop order tables table = Prim.hlevel lent_props
