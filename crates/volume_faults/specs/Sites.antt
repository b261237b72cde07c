-- Where a check looks, what is right there, and the fault that is listed where it is not.
use Rattle.std.specs.Prelude.{◌≡◌, ◌≢◌, ◌-◌, ◌<◌, ◌≤◌, ℕ, List, [], length, Some, slice_get}
use Rattle.vol_base.specs.Bytes.{u32_at}
use Rattle.vol_base.specs.declared.block.Key.{Key}
use Rattle.vol_layout.specs.declared.geometry.Geometry.{Geometry}
use Rattle.vol_layout.specs.declared.kind.Kind.{Kind}
use Rattle.vol_layout.specs.declared.kind.Kind.TheVariants as kinds
use Rattle.vol_layout.specs.declared.kind.Resource.{Resource}
use Rattle.vol_layout.specs.declared.kind.Table.{Table}
use Rattle.vol_layout.specs.declared.field.Field.{Field}
use Rattle.vol_layout.specs.declared.field.Field.TheVariants.{Pointer, Count}
use Rattle.vol_layout.specs.declared.field.Edit.{Edit}
use Rattle.vol_layout.specs.Fields.{HasField, IsInRange, byte_of, table_of}
use Rattle.vol_layout.specs.Places.{place_of}
use Rattle.vol_layout.specs.Ranges.{HasKind, HasResource}
use Rattle.vol_layout.specs.Regions.{total}
use Rattle.vol_layout.specs.Superblock.{SpellsGeometry}
use Rattle.image_view.specs.Held.{CountsEdit, HoldsField, IsShown}
use Rattle.image_view.specs.HostKeys.{journal_key_at, lock_key_at, lock_state_at, slot_key_at}
use Rattle.image_view.specs.Images.{Image, block_at, first_block}
use Rattle.image_view.specs.Mappings.{uses}
use Rattle.image_view.specs.Numbers.{journal, logical}
use Rattle.image_view.specs.Pointers.{IsUnmarked}
use Rattle.image_view.specs.Spelled.{IsJournal, IsLockOf, IsSlotOf, IsTable}
use Rattle.volume_faults.specs.declared.fault.Fault.{Fault}
use Rattle.volume_faults.specs.declared.fault.FaultKind.TheVariants as faults

-- where a check looks: at block 0, at the number of blocks, at a block of some kind, at the key of a
-- resource's lock, at the key of the record in a host's journal and at an edit of that record, at the count
-- of a data number, and at a file's pointer
pub data Site : Type 0 where
  Superblock : Site
  Size : Site
  Block : Kind → Site
  LockKey : Resource → Site
  RecordKey : ℕ → Site
  RecordEdit : ℕ → ℕ → Site
  CountOf : ℕ → Site
  PointerOf : ℕ → ℕ → Site

-- the stage of a check at which it looks there
abbrev pub stage_of : Site → ℕ
stage_of Superblock = 1
stage_of Size = 1
stage_of (Block kind) = 2
stage_of (LockKey r) = 3
stage_of (RecordKey h) = 3
stage_of (RecordEdit h e) = 3
stage_of (CountOf d) = 4
stage_of (PointerOf f i) = 4

-- the kinds of blocks that a check reads; of logs, shards, requests and data nothing is asked
abbrev pub IsChecked : Kind → Type 0
IsChecked kinds.Super = ⊥
IsChecked (kinds.Slot h) = Unit {0}
IsChecked (kinds.Journal h) = Unit {0}
IsChecked (kinds.Lock r) = Unit {0}
IsChecked (kinds.Table t) = Unit {0}
IsChecked (kinds.Log h l) = ⊥
IsChecked (kinds.Shard s) = ⊥
IsChecked (kinds.Request f) = ⊥
IsChecked (kinds.Number d) = ⊥

-- the numbers of a table's fields may stand there
abbrev pub HasNumbers : Geometry → Table → List ℕ → Type 0
HasNumbers g t block = (x : Field) → HasField g x → table_of x ≡ t → IsInRange g x (u32_at block (byte_of x))

-- the block is a spelling in range of this kind, with keys that the device gave
abbrev pub IsOfKind : Geometry → ℕ → Kind → List ℕ → Type 0
IsOfKind g counter kinds.Super block = ⊥
IsOfKind g counter (kinds.Slot h) block = IsSlotOf counter h block
IsOfKind g counter (kinds.Journal h) block = IsJournal g counter block
IsOfKind g counter (kinds.Lock r) block = IsLockOf g counter r block
IsOfKind g counter (kinds.Table t) block = IsTable t block × HasNumbers g t block
IsOfKind g counter (kinds.Log h l) block = ⊥
IsOfKind g counter (kinds.Shard s) block = ⊥
IsOfKind g counter (kinds.Request f) block = ⊥
IsOfKind g counter (kinds.Number d) block = ⊥

-- the edit's resource is held by the record's key
abbrev pub IsCovered : Geometry → Image → ℕ → Edit → Type 0
IsCovered g image h e = HoldsField g image (journal_key_at g image h) e.field

-- the volume has the site
abbrev pub HasSite : Geometry → Image → Site → Type 0
HasSite g image Superblock = Unit {0}
HasSite g image Size = SpellsGeometry (first_block image) g
HasSite g image (Block kind) = HasKind g kind × IsChecked kind
HasSite g image (LockKey r) = HasResource g r × (lock_state_at g image r ≡ 1)
HasSite g image (RecordKey h) = (h < g.hosts) × (journal g image h ≢ [])
HasSite g image (RecordEdit h e) = (h < g.hosts) × (e < length (journal g image h))
HasSite g image (CountOf d) = HasField g (Count d)
HasSite g image (PointerOf f i) = HasField g (Pointer f i)

-- what is asked there holds
abbrev pub IsRight : Geometry → ℕ → Image → Site → Type 0
IsRight g counter image Superblock = SpellsGeometry (first_block image) g
IsRight g counter image Size = total g ≤ length image
IsRight g counter image (Block kind) = IsOfKind g counter kind (block_at g image kind)
IsRight g counter image (LockKey r) = IsShown g image (lock_key_at g image r)
IsRight g counter image (RecordKey h) = (slot_key_at g image h ≢ 0) × (journal_key_at g image h ≡ slot_key_at g image h)
IsRight g counter image (RecordEdit h e) =
    (edit : Edit) → slice_get (journal g image h) e ≡ Some edit → IsCovered g image h edit × CountsEdit g image (journal g image h) edit
IsRight g counter image (CountOf d) = logical g image (Count d) ≡ uses g image d
IsRight g counter image (PointerOf f i) = IsUnmarked (logical g image (Pointer f i)) → uses g image (logical g image (Pointer f i) - 1) ≡ 1

-- the key of a number
abbrev key_of : ℕ → Key
key_of n = record { 0 = n }

-- the fault that is listed where it does not
abbrev pub fault_at : Geometry → Image → Site → Fault
fault_at g image Superblock = record { place = 0; kind = faults.Superblock }
fault_at g image Size = record { place = 0; kind = faults.Size (total g) (length image) }
fault_at g image (Block kind) = record { place = place_of g kind; kind = faults.Spelling }
fault_at g image (LockKey r) = record { place = place_of g (kinds.Lock r); kind = faults.LockKey (key_of (lock_key_at g image r)) }
fault_at g image (RecordKey h) = record { place = place_of g (kinds.Journal h); kind = faults.JournalKey (key_of (journal_key_at g image h)) }
fault_at g image (RecordEdit h e) = record { place = place_of g (kinds.Journal h); kind = faults.JournalEdit e }
fault_at g image (CountOf d) = record { place = place_of g (kinds.Table (table_of (Count d))); kind = faults.Count d (logical g image (Count d)) (uses g image d) }
fault_at g image (PointerOf f i) = record { place = place_of g (kinds.Table (table_of (Pointer f i))); kind = faults.Mark i }
