-- The record of a dead host, made again by the host that claimed its slot.
use Rattle.std.specs.Prelude.{◌≡◌, ℕ, true, List}
use Rattle.vol_base.specs.Packing.{Packing}
use Rattle.vol_layout.specs.declared.kind.Table.{Table}
use Rattle.vol_layout.specs.declared.field.Edit.{Edit}
use Rattle.vol_layout.specs.declared.field.Field.{Field}
use Rattle.vol_layout.specs.Edits.{touches}
use Rattle.vol_layout.specs.Fields.{HasField, table_of}
use Rattle.table_blocks.specs.Made.{made}
use Rattle.table_blocks.specs.Tables.{IsPackingOf}
use Rattle.host_facts.specs.Facts.Fact.{DeadRecord, DeadTable}
use Rattle.host_facts.specs.Knows.{Knows}
use Rattle.host_facts.specs.Views.{WorldView}

-- the host then knows what this table spells, if a record that it knew edits it
abbrev pub KnowsDead : WorldView → WorldView → ℕ → Table → Packing → Type 0
KnowsDead v w h t p =
    (y : ℕ) (es : List Edit) (x : Field) → Knows v h (DeadRecord y es) → HasField v.locks.geometry x → touches es x ≡ true
    → table_of x ≡ t → Knows w h (DeadTable y x p)

-- the packing is that of a table as it stands with all edits of the dead host's record made in it, one of which is of this table
pub record IsReplay (v : WorldView) (h y : ℕ) (t : Table) (kept : Packing) : Type 0 where
  pub field : Field
  pub here : table_of field ≡ t
  pub edits : List Edit
  pub known : Knows v h (DeadRecord y edits)
  pub before : Packing
  pub packing : IsPackingOf v.locks.geometry t before
  pub table : Knows v h (DeadTable y field before)
  pub made_is : kept ≡ made t edits before
