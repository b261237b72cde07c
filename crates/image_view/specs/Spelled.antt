-- Slots, locks, journals and tables that are spellings in range, with keys that the device gave.
use Rattle.std.specs.Prelude.{◌≡◌, ◌≢◌, ◌/◌, ◌%◌, ◌<◌, ◌≤◌, ℕ, List, [], ◌∷◌, All, length, slice_index}
use Rattle.vol_base.specs.Packing.{IsPacking, Packing, packed_bytes}
use Rattle.vol_layout.specs.declared.geometry.Geometry.{Geometry}
use Rattle.vol_layout.specs.declared.kind.Resource.{Resource}
use Rattle.vol_layout.specs.declared.kind.Resource.TheVariants as resources
use Rattle.vol_layout.specs.declared.kind.Table.{Table}
use Rattle.vol_layout.specs.declared.kind.Table.TheVariants as tables
use Rattle.vol_layout.specs.Blank.{table_magic}
use Rattle.vol_layout.specs.Journal.{SpellsJournal, edits_of, journal_key}
use Rattle.vol_layout.specs.Ranges.{per_table}
use Rattle.slot_lock_blocks.specs.declared.slot.Slot.{Slot}
use Rattle.slot_lock_blocks.specs.declared.slot.Slot.TheVariants as slots
use Rattle.slot_lock_blocks.specs.declared.lock.LockWord.{LockWord}
use Rattle.slot_lock_blocks.specs.declared.lock.LockWord.TheVariants as locks
use Rattle.slot_lock_blocks.specs.Slots.{SpellsSlot, slot_key}
use Rattle.slot_lock_blocks.specs.LockWords.{SpellsLock, lock_key, lock_readers}

-- keys of registrations that the device's counter has reached, or 0 for none
abbrev pub AreGiven : ℕ → List ℕ → Type 0
AreGiven counter keys = All (λ key. key / 16 ≤ counter) keys

-- every key of a slot, its `by` included
abbrev pub slot_keys : Slot → List ℕ
slot_keys slots.Free = []
slot_keys (slots.Live key beat) = key.0 ∷ []
slot_keys (slots.Recovering key by) = key.0 ∷ by.0 ∷ []

-- the block spells a slot in range: of this host, with keys that the device gave
pub record IsSlotOf (counter h : ℕ) (block : List ℕ) : Type 0 where
  pub slot : Slot
  pub spelled : SpellsSlot block slot
  pub host : slot_key slot ≢ 0 → slot_key slot % 16 ≡ h
  pub given : AreGiven counter (slot_keys slot)

-- only the lock of a file is a read lock, and only hosts of the volume read
abbrev pub MayBe : Geometry → Resource → LockWord → Type 0
MayBe g r locks.Free = Unit {0}
MayBe g r (locks.Held key) = Unit {0}
MayBe g (resources.File f) (locks.Read readers) = (h : ℕ) → g.hosts ≤ h → slice_index readers h ≡ 0
MayBe g (resources.Part p) (locks.Read readers) = ⊥
MayBe g (resources.Group r) (locks.Read readers) = ⊥

-- the block spells a lock in range: of this resource, with keys that the device gave, readers' keys too
pub record IsLockOf (g : Geometry) (counter : ℕ) (r : Resource) (block : List ℕ) : Type 0 where
  pub word : LockWord
  pub spelled : SpellsLock block word
  pub resource : MayBe g r word
  pub given : AreGiven counter (lock_key word ∷ lock_readers word)

-- the block is the one spelling of the record that it reads as, or of none, with a key that the device gave
pub record IsJournal (g : Geometry) (counter : ℕ) (block : List ℕ) : Type 0 where
  pub spelled : SpellsJournal g block (journal_key block) (edits_of block)
  pub given : AreGiven counter (journal_key block ∷ [])

-- only the first table block of a file has a word of its own, the file's head
abbrev pub MayHaveWord : Table → ℕ → Type 0
MayHaveWord (tables.File f) word = Unit {0}
MayHaveWord (tables.More f t) word = word ≡ 0
MayHaveWord (tables.Group r) word = word ≡ 0
MayHaveWord (tables.Part p) word = word ≡ 0

-- the block spells a table: its magic, its word and a table's worth of numbers of four bytes
pub record IsTable (t : Table) (block : List ℕ) : Type 0 where
  pub packing : Packing
  pub fits : IsPacking 4 packing
  pub magic : packing.magic ≡ table_magic t
  pub word : MayHaveWord t packing.word
  pub entries : length packing.entries ≡ per_table
  pub spelled : block ≡ packed_bytes 4 packing
  pub bytes : All (λ byte. byte < 256) block
