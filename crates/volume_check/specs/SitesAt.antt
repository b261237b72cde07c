-- The sites of a stage by the block at which their faults stand, and by their entries there.
use Rattle.std.specs.Prelude.{◌≡◌, ◌+◌, ◌<◌, ℕ, List}
use Rattle.vol_layout.specs.declared.kind.Kind.{Kind}
use Rattle.vol_layout.specs.declared.kind.Kind.TheVariants as kinds
use Rattle.vol_layout.specs.declared.field.Field.TheVariants.{Pointer, Count}
use Rattle.vol_layout.specs.Fields.{table_of}
use Rattle.vol_layout.specs.Places.{place_of}
use Rattle.volume_faults.specs.declared.fault.Fault.{Fault}
use Rattle.volume_faults.specs.Faults.{IsOfStage}
use Rattle.volume_faults.specs.Sites.{Block, CountOf, LockKey, PointerOf, RecordEdit, RecordKey, Site, Size, Superblock}
use Rattle.volume_check.specs.Metadatas.{AddsOf, Metadata}

-- the block at which the fault of a site stands
abbrev pub kind_of : Site → Kind
kind_of Superblock = kinds.Super
kind_of Size = kinds.Super
kind_of (Block kind) = kind
kind_of (LockKey r) = kinds.Lock r
kind_of (RecordKey h) = kinds.Journal h
kind_of (RecordEdit h e) = kinds.Journal h
kind_of (CountOf d) = kinds.Table (table_of (Count d))
kind_of (PointerOf f i) = kinds.Table (table_of (Pointer f i))

-- its entry there
abbrev pub entry_at : Site → ℕ
entry_at Superblock = 0
entry_at Size = 0
entry_at (Block kind) = 0
entry_at (LockKey r) = 0
entry_at (RecordKey h) = 0
entry_at (RecordEdit h e) = e + 1
entry_at (CountOf d) = d
entry_at (PointerOf f i) = i

-- the sites of a stage at one block
abbrev pub IsAt : ℕ → Metadata → Kind → Site → Type 0
IsAt stage m kind site = IsOfStage m.geometry m.image stage site × (kind_of site ≡ kind)

-- those of them before an entry, and at one
abbrev pub IsAtBefore : ℕ → Metadata → Kind → ℕ → Site → Type 0
IsAtBefore stage m kind entry site = IsAt stage m kind site × (entry_at site < entry)

abbrev pub IsAtEntry : ℕ → Metadata → Kind → ℕ → Site → Type 0
IsAtEntry stage m kind entry site = IsAt stage m kind site × (entry_at site ≡ entry)

-- the sites of a stage at the blocks before a place
abbrev pub IsBefore : ℕ → Metadata → ℕ → Site → Type 0
IsBefore stage m place site = IsOfStage m.geometry m.image stage site × (place_of m.geometry (kind_of site) < place)

-- the list grew by all faults of a stage at one block
abbrev pub AddsAt : ℕ → Metadata → Kind → List Fault → List Fault → Type 0
AddsAt stage m kind old new = AddsOf (IsAt stage m kind) m old new
