-- A table of a dead host's record, made again.
use Rattle.std.specs.Prelude.{ℕ, List}
use Rattle.vol_base.specs.Packing.{Packing}
use Rattle.vol_layout.specs.declared.kind.Table.{Table}
use Rattle.vol_layout.specs.declared.field.Edit.{Edit}
use Rattle.table_blocks.specs.Made.{made}
use Rattle.table_blocks.specs.Tables.{IsPackingOf}
use Rattle.host_facts.specs.Replays.{KnowsDead}
use Rattle.host_facts.specs.Views.{WorldView}

-- the table is one that the volume may have, with the record's edits made in it, as the host then knows
pub record HasReplayed (v w : WorldView) (h : ℕ) (t : Table) (es : List Edit) : Type 0 where
  pub before : Packing
  pub packing : IsPackingOf v.locks.geometry t before
  pub known : KnowsDead v w h t (made t es before)
