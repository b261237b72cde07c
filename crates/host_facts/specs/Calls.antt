-- What each call asked of the device and was answered, beside those of the locks.
use Rattle.std.specs.Prelude.{◌≡◌, ℕ, Err, List, Ok, Result, Bool, true, false, Option}
use Rattle.vol_base.specs.declared.block.Block.{Block}
use Rattle.vol_base.specs.Packing.{Packing, packed_bytes}
use Rattle.vol_layout.specs.declared.geometry.Geometry.{Geometry}
use Rattle.vol_layout.specs.declared.kind.Kind.TheVariants as kinds
use Rattle.vol_layout.specs.declared.kind.Table.{Table}
use Rattle.vol_layout.specs.declared.field.Edit.{Edit}
use Rattle.vol_layout.specs.declared.field.Field.TheVariants.{Slot}
use Rattle.vol_layout.specs.Edits.{AreEdits}
use Rattle.vol_layout.specs.Fields.{table_of}
use Rattle.vol_layout.specs.Journal.{SpellsJournal, journal_bytes}
use Rattle.vol_layout.specs.Places.{place_of}
use Rattle.shared_disk.specs.Events.Call.{Reads, Tests, Writes}
use Rattle.shared_disk.specs.Events.Reply.{Done, Shows}
use Rattle.journal_block.specs.JournalRecord.{JournalRecord, entry_edits, entry_key}
use Rattle.image_view.specs.Spelled.{IsTable}
use Rattle.volume_faults.specs.Sites.{HasNumbers}
use Rattle.table_blocks.specs.Tables.{IsPackingOf, number_in}
use Rattle.lock_store.specs.declared.answers.StepNo.{StepNo}
use Rattle.lock_store.specs.Calls.{AnyBlock}
use Rattle.lock_store.specs.Events.{Did, IsRefusal, read_of}
use Rattle.lock_store.specs.Views.{LocksView, host_at}

-- the block is a spelling of the table in range
abbrev pub FitsTable : Geometry → Table → List ℕ → Type 0
FitsTable g t block = IsTable t block × HasNumbers g t block

-- a table block was read
abbrev pub ReadsTable : LocksView → ℕ → Table → Result Packing StepNo → LocksView → Type 0
ReadsTable v h t (Ok table) w =
    Did v h (read_of v (kinds.Table t)) (Shows (packed_bytes 4 table)) (host_at v h) w × IsPackingOf v.geometry t table
ReadsTable v h t (Err why) w =
    IsRefusal v h (read_of v (kinds.Table t)) (place_of v.geometry (kinds.Table t)) (FitsTable v.geometry t) why w

-- the number of a slot was read from its table
abbrev pub PeeksSlot : LocksView → ℕ → ℕ → Result ℕ StepNo → LocksView → Type 0
PeeksSlot v h s (Ok number) w =
    (table : Packing) × ReadsTable v h (table_of (Slot s)) (Ok table) w × (number ≡ number_in table (Slot s))
PeeksSlot v h s (Err why) w = ReadsTable v h (table_of (Slot s)) (Err why) w

-- the block is the one spelling of a record in range, or of none
abbrev pub FitsJournal : Geometry → List ℕ → Type 0
FitsJournal g block = (key : ℕ) × ((es : List Edit) × SpellsJournal g block key es)

-- a host's journal was read
abbrev pub ReadsJournal : LocksView → ℕ → ℕ → Result (Option JournalRecord) StepNo → LocksView → Type 0
ReadsJournal v h y (Ok entry) w =
    Did v h (read_of v (kinds.Journal y)) (Shows (journal_bytes (entry_key entry) (entry_edits entry))) (host_at v h) w
    × AreEdits v.geometry (entry_edits entry)
ReadsJournal v h y (Err why) w =
    IsRefusal v h (read_of v (kinds.Journal y)) (place_of v.geometry (kinds.Journal y)) (FitsJournal v.geometry) why w

-- the block at a place was read
abbrev pub ReadsPlace : LocksView → ℕ → ℕ → Result Block StepNo → LocksView → Type 0
ReadsPlace v h place (Ok block) w = Did v h (Reads place) (Shows block.0) (host_at v h) w
ReadsPlace v h place (Err why) w = IsRefusal v h (Reads place) place AnyBlock why w

-- the block at a place was written
abbrev pub WritesPlace : LocksView → ℕ → ℕ → List ℕ → Result Unit StepNo → LocksView → Type 0
WritesPlace v h place block (Ok done) w = Did v h (Writes place block) Done (host_at v h) w
WritesPlace v h place block (Err why) w = IsRefusal v h (Writes place block) place AnyBlock why w

-- the block at a place was tested and set; false where another one than the old was found
abbrev pub SwapsPlace : LocksView → ℕ → ℕ → List ℕ → List ℕ → Result Bool StepNo → LocksView → Type 0
SwapsPlace v h place old new (Ok true) w = Did v h (Tests place old new) Done (host_at v h) w
SwapsPlace v h place old new (Ok false) w = (found : List ℕ) × Did v h (Tests place old new) (Shows found) (host_at v h) w
SwapsPlace v h place old new (Err why) w = IsRefusal v h (Tests place old new) place AnyBlock why w
