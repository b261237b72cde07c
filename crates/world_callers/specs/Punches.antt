-- What a host has for the record of a punch.
use Rattle.std.specs.Prelude.{◌≡◌, ℕ, true, All, List}
use Rattle.vol_base.specs.Packing.{Packing}
use Rattle.vol_layout.specs.declared.kind.Resource.TheVariants.{File}
use Rattle.vol_layout.specs.declared.field.Edit.{Edit}
use Rattle.vol_layout.specs.declared.field.Field.TheVariants.{Count, Pointer}
use Rattle.vol_layout.specs.Edits.{IsEdit}
use Rattle.vol_layout.specs.Fields.{HasField, resource_of, table_of}
use Rattle.vol_layout.specs.Ranges.{IsGeometry}
use Rattle.table_blocks.specs.Made.{made}
use Rattle.table_blocks.specs.Tables.{IsPackingOf, number_in}
use Rattle.call_effects.specs.Drops.{dropped}
use Rattle.lock_store.specs.Memories.{holds}
use Rattle.lock_store.specs.Views.{host_at}
use Rattle.host_facts.specs.Facts.Fact.{RecordIs, TableIs}
use Rattle.host_facts.specs.Knows.{Knows}
use Rattle.host_facts.specs.Views.{WorldView, record_at}

-- the host holds the file and the group of the data block, and knows the tables of the file's pointer and of the block's count
pub record KnowsBoth (v : WorldView) (h f i d : ℕ) (pointers counts : Packing) : Type 0 where
  pub pointer : HasField v.locks.geometry (Pointer f i)
  pub count : HasField v.locks.geometry (Count d)
  pub holds_file : holds (host_at v.locks h) (File f) ≡ true
  pub holds_group : holds (host_at v.locks h) (resource_of (Count d)) ≡ true
  pub pointers_fit : IsPackingOf v.locks.geometry (table_of (Pointer f i)) pointers
  pub counts_fit : IsPackingOf v.locks.geometry (table_of (Count d)) counts
  pub pointers_known : Knows v h (TableIs (table_of (Pointer f i)) pointers)
  pub counts_known : Knows v h (TableIs (table_of (Count d)) counts)

-- the same of these tables with the edits of the punch made in them
abbrev pub KnowsDropped : WorldView → ℕ → ℕ → ℕ → ℕ → Packing → Packing → Type 0
KnowsDropped v h f i d pointers counts =
    let es = dropped f i d (number_in counts (Count d)) in
    KnowsBoth v h f i d (made (table_of (Pointer f i)) es pointers) (made (table_of (Count d)) es counts)

-- the edits stand in the host's journal and in its memory, and are in range
pub record Standing (v : WorldView) (h f i d : ℕ) (es : List Edit) (pointers counts : Packing) : Type 0 where
  pub range : IsGeometry v.locks.geometry
  pub each : All (IsEdit v.locks.geometry) es
  pub known : Knows v h (RecordIs es)
  pub memory : record_at v h ≡ es
  pub both : KnowsBoth v h f i d pointers counts
