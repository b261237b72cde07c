-- Tables of files that a plan has read, and what they say.
use Rattle.std.specs.Prelude.{◌≡◌, ◌++◌, ◌∷◌, ℕ, List, [], None, Option, Some, if◌then◌else◌}
use Rattle.vol_base.specs.Packing.{Packing}
use Rattle.vol_layout.specs.declared.field.Field.{Field}
use Rattle.vol_layout.specs.declared.geometry.Geometry.{Geometry}
use Rattle.vol_layout.specs.declared.kind.Table.{Table}
use Rattle.vol_layout.specs.Fields.{table_of}
use Rattle.table_blocks.specs.Tables.{IsPackingOf, number_in}
use Rattle.plan_parts.specs.TableOrder.{same_table}
use Rattle.plan_parts.specs.declared.kept.Kept.{Kept}

-- for each table nothing, or what it spells
abbrev pub Known : Type 0
Known = Table → Option Packing

-- what a table spells that is among these
abbrev pub kept_in : List Kept → Known
kept_in [] t = None
kept_in (kept ∷ more) t = if same_table kept.which t then Some kept.table else kept_in more t

-- one table more, somewhere among them
abbrev pub IsInserted : Kept → List Kept → List Kept → Type 0
IsInserted kept old new = (before : List Kept) × (after : List Kept) × (old ≡ before ++ after) × (new ≡ before ++ kept ∷ after)

-- each table spells numbers in range
abbrev pub ArePacked : Geometry → Known → Type 0
ArePacked g known = (t : Table) (p : Packing) → known t ≡ Some p → IsPackingOf g t p

-- the table of a field is known, and has this number for it
pub record Says (known : Known) (x : Field) (n : ℕ) : Type 0 where
  pub table : Packing
  pub kept : known (table_of x) ≡ Some table
  pub is : number_in table x ≡ n
