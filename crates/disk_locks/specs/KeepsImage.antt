-- What stays of an image for a host, whatever others do.
use Rattle.std.specs.Prelude.{◌≡◌, ◌≢◌, ◌+◌, ◌/◌, ◌<◌, ℕ, true, false}
use Rattle.vol_layout.specs.declared.geometry.Geometry.{Geometry}
use Rattle.vol_layout.specs.declared.kind.Kind.TheVariants as kinds
use Rattle.vol_layout.specs.declared.kind.Resource.TheVariants.{Group}
use Rattle.vol_layout.specs.declared.kind.Table.{Table}
use Rattle.vol_layout.specs.declared.field.Field.{Field}
use Rattle.vol_layout.specs.declared.field.Field.TheVariants.{Count, Slot}
use Rattle.vol_layout.specs.Edits.{touches}
use Rattle.vol_layout.specs.Fields.{HasField, resource_of, table_of}
use Rattle.vol_layout.specs.Ranges.{HasTable, per_table}
use Rattle.image_view.specs.Balances.{share_of}
use Rattle.image_view.specs.HostKeys.{slot_key_at, slot_state_at}
use Rattle.image_view.specs.Images.{Image, block_at}
use Rattle.image_view.specs.Numbers.{field, journal, logical}
use Rattle.lock_store.specs.declared.host.HostState.{HostState}
use Rattle.lock_store.specs.Memories.{claim_of, holds, may_read}
use Rattle.disk_locks.specs.Keys.{owner}

-- what a joined host's journal, the tables, numbers and blocks that it may read, and the slots that it claimed show, they show still:
-- a block that it may read is one that a field names, or one that is free in a group that it may read; and what a slot of the arena
-- says in its table of a block whose group is held, with that block, where no own record edits the slot. And the slot that a host
-- freed stays free: no other host enters it or claims it
pub record KeepsImage (g : Geometry) (h : ℕ) (m : HostState) (old new : Image) : Type 0 where
  pub record_own : m.joined ≡ true → block_at g new (kinds.Journal h) ≡ block_at g old (kinds.Journal h)
  pub tables : (t : Table) → HasTable g t → may_read m (owner t) ≡ true → block_at g new (kinds.Table t) ≡ block_at g old (kinds.Table t)
  pub numbers : (x : Field) → HasField g x → may_read m (resource_of x) ≡ true → logical g new x ≡ logical g old x
  pub content : (x : Field) (d : ℕ) → HasField g x → HasField g (Count d) → may_read m (resource_of x) ≡ true
      → share_of x (logical g old x) d ≡ 1 → block_at g new (kinds.Number d) ≡ block_at g old (kinds.Number d)
  pub fresh : (d : ℕ) → HasField g (Count d) → may_read m (resource_of (Count d)) ≡ true → logical g old (Count d) ≡ 0
      → block_at g new (kinds.Number d) ≡ block_at g old (kinds.Number d)
  pub slots : (s d : ℕ) → HasField g (Slot s) → holds m (Group (d / per_table)) ≡ true → field g old (Slot s) ≡ d + 1
      → (field g new (Slot s) ≡ d + 1)
      × (touches (journal g old h) (Slot s) ≡ false → block_at g new (kinds.Number d) ≡ block_at g old (kinds.Number d))
  pub left : m.freed ≡ true → slot_state_at g old h ≡ 0 → slot_state_at g new h ≡ 0
  pub dead : (y : ℕ) → y < g.hosts → claim_of m y ≢ 0 → slot_key_at g new y ≡ slot_key_at g old y
  pub standing : (y : ℕ) → y < g.hosts → claim_of m y ≢ 0 → block_at g new (kinds.Journal y) ≡ block_at g old (kinds.Journal y)
  pub replayed : (y : ℕ) (x : Field) → HasField g x → y < g.hosts → claim_of m y ≢ 0 → touches (journal g old y) x ≡ true
      → block_at g new (kinds.Table (table_of x)) ≡ block_at g old (kinds.Table (table_of x))
