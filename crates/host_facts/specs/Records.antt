-- Records on their way into the tables.
use Rattle.std.specs.Prelude.{◌≡◌, ℕ, List}
use Rattle.vol_base.specs.Packing.{Packing}
use Rattle.vol_layout.specs.declared.geometry.Geometry.{Geometry}
use Rattle.vol_layout.specs.declared.field.Edit.{Edit}
use Rattle.vol_layout.specs.declared.field.Field.{Field}
use Rattle.vol_layout.specs.Edits.{edited}
use Rattle.vol_layout.specs.Fields.{HasField, table_of}
use Rattle.image_view.specs.Images.{Image}
use Rattle.image_view.specs.Numbers.{field, journal}
use Rattle.table_blocks.specs.Tables.{IsPackingOf, number_in}
use Rattle.host_facts.specs.Facts.{Fact}
use Rattle.host_facts.specs.Facts.Fact.{DeadTable, TableIs}
use Rattle.host_facts.specs.Knows.{Knows}
use Rattle.host_facts.specs.Views.{WorldView}

-- every edit of a host's record is written: each field has in its table the number that the record gives it
abbrev pub IsApplied : Geometry → ℕ → Image → Type 0
IsApplied g y image = (x : Field) → HasField g x → edited (journal g image y) x (field g image x) ≡ field g image x

-- an edit is written: the host knows by this fact what the edit's table spells, and the field has there the number that the edits
-- give it
pub record IsEntered (v : WorldView) (h : ℕ) (spells : Packing → Fact) (es : List Edit) (e : Edit) : Type 0 where
  pub table : Packing
  pub known : Knows v h (spells table)
  pub packing : IsPackingOf v.locks.geometry (table_of e.field) table
  pub written : (n : ℕ) → number_in table e.field ≡ edited es e.field n

-- so is an edit of the host's own record, and one of the record of a host whose slot is claimed
abbrev pub IsDone : WorldView → ℕ → List Edit → Edit → Type 0
IsDone v h es e = IsEntered v h (TableIs (table_of e.field)) es e

abbrev pub IsReplayed : WorldView → ℕ → ℕ → List Edit → Edit → Type 0
IsReplayed v h y es e = IsEntered v h (DeadTable y e.field) es e
