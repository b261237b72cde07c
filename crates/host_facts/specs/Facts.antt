-- What a host may rely on between its calls, as data: each fact, what it says of an image, and what the host has in memory for it.
use Rattle.std.specs.Prelude.{◌≡◌, ◌≢◌, ◌+◌, ◌/◌, ◌<◌, ◌≤◌, ℕ, true, false, List, [], ◌∷◌}
use Rattle.vol_base.specs.Packing.{Packing, packed_bytes}
use Rattle.vol_layout.specs.declared.geometry.Geometry.{Geometry}
use Rattle.vol_layout.specs.declared.kind.Kind.TheVariants as kinds
use Rattle.vol_layout.specs.declared.kind.Resource.{Resource}
use Rattle.vol_layout.specs.declared.kind.Resource.TheVariants as resources
use Rattle.vol_layout.specs.declared.kind.Table.{Table}
use Rattle.vol_layout.specs.declared.field.Edit.{Edit}
use Rattle.vol_layout.specs.declared.field.Field.{Field}
use Rattle.vol_layout.specs.declared.field.Field.TheVariants.{Count, Slot}
use Rattle.vol_layout.specs.Edits.{touches}
use Rattle.vol_layout.specs.Fields.{HasField, resource_of, table_of}
use Rattle.vol_layout.specs.Ranges.{HasResource, HasTable, per_table}
use Rattle.image_view.specs.Balances.{share_of}
use Rattle.image_view.specs.HostKeys.{IsHeldBy, slot_key_at}
use Rattle.image_view.specs.Images.{Image, block_at}
use Rattle.image_view.specs.Numbers.{field, journal, logical}
use Rattle.lock_store.specs.declared.host.HostState.{HostState}
use Rattle.lock_store.specs.Memories.{claim_of, holds, key_of, may_read}
use Rattle.lock_store.specs.Views.{LocksView, counter_of}
use Rattle.disk_locks.specs.Keys.{HasEnded, IsOff, owner}

pub data Fact : Type 0 where
  -- a table that the host may read spells this packing
  TableIs : Table → Packing → Fact
  -- the host's own journal has these edits
  RecordIs : List Edit → Fact
  -- no data block of this held group is free
  NoneFree : ℕ → Fact
  -- a free data block of a held group has these bytes
  FreshIs : ℕ → List ℕ → Fact
  -- a slot of the arena names, in its table, a data block of a held group
  SlotIs : ℕ → ℕ → Fact
  -- a data block has these bytes, which a field names: one that the host may read, or such a slot
  BlockIs : Field → ℕ → List ℕ → Fact
  -- the device gave this key
  Given : ℕ → Fact
  -- the device gave this key and took it off again
  Off : ℕ → Fact
  -- the host of this key reads no file under it any more
  Ended : ℕ → Fact
  -- the journal of a host whose slot is claimed has these edits
  DeadRecord : ℕ → List Edit → Fact
  -- the table of a field that this record edits spells this packing
  DeadTable : ℕ → Field → Packing → Fact
  -- the key that a claimed slot shows holds none of the first so many locks
  Swept : ℕ → ℕ → Fact

-- the turn of a resource in the order of files, parts and groups
abbrev pub turn_of : Geometry → Resource → ℕ
turn_of g (resources.File f) = f
turn_of g (resources.Part p) = g.files + p
turn_of g (resources.Group r) = g.files + g.parts + r

-- how many locks a volume has
abbrev pub locks_of : Geometry → ℕ
locks_of g = g.files + g.parts + g.groups

-- the field names the data block: by its logical number, or a slot in its table, where the host's own record does not edit it
abbrev pub Names : Geometry → ℕ → Image → Field → ℕ → Type 0
Names g h image (Slot s) d = (field g image (Slot s) ≡ d + 1) × (touches (journal g image h) (Slot s) ≡ false)
Names g h image x d = share_of x (logical g image x) d ≡ 1

-- the first so many locks of a volume are not held by this key
abbrev pub AreUnheld : Geometry → Image → ℕ → ℕ → Type 0
AreUnheld g image k key = (r : Resource) → HasResource g r → turn_of g r < k → IsHeldBy g image r key → ⊥

-- what a fact says of an image, as host h finds it
abbrev pub Tells : LocksView → ℕ → Image → Fact → Type 0
Tells v h image (TableIs t p) = block_at v.geometry image (kinds.Table t) ≡ packed_bytes 4 p
Tells v h image (RecordIs es) = journal v.geometry image h ≡ es
Tells v h image (NoneFree r) =
    (d : ℕ) → HasField v.geometry (Count d) → d / per_table ≡ r → logical v.geometry image (Count d) ≢ 0
Tells v h image (FreshIs d bytes) =
    (block_at v.geometry image (kinds.Number d) ≡ bytes) × (logical v.geometry image (Count d) ≡ 0)
Tells v h image (SlotIs s d) = field v.geometry image (Slot s) ≡ d + 1
Tells v h image (BlockIs x d bytes) = Names v.geometry h image x d × (block_at v.geometry image (kinds.Number d) ≡ bytes)
Tells v h image (Given key) = key / 16 ≤ counter_of v
Tells v h image (Off key) = IsOff v.disk.state key
Tells v h image (Ended key) = HasEnded v key
Tells v h image (DeadRecord y es) = journal v.geometry image y ≡ es
Tells v h image (DeadTable y x p) =
    (touches (journal v.geometry image y) x ≡ true)
    × (block_at v.geometry image (kinds.Table (table_of x)) ≡ packed_bytes 4 p)
Tells v h image (Swept y k) = AreUnheld v.geometry image k (slot_key_at v.geometry image y)

-- the host has the lock that guards the block which the field names
abbrev pub MayLook : HostState → Field → ℕ → Type 0
MayLook m (Slot s) d = holds m (resources.Group (d / per_table)) ≡ true
MayLook m x d = may_read m (resource_of x) ≡ true

-- a slot is claimed
abbrev pub Claims : Geometry → HostState → ℕ → Type 0
Claims g m y = (y < g.hosts) × (claim_of m y ≢ 0)

-- a record with edits is the one in memory; of an empty journal nothing is asked, since a record of an older key does not count
abbrev pub IsInMemory : List Edit → List Edit → Type 0
IsInMemory own [] = Unit {0}
IsInMemory own (e ∷ es) = own ≡ e ∷ es

-- what the host has in memory for a fact: a hold, a read hold, a claim, its key; own are the edits of its record there
abbrev pub IsGuarded : Geometry → HostState → List Edit → Fact → Type 0
IsGuarded g m own (TableIs t p) = HasTable g t × (may_read m (owner t) ≡ true)
IsGuarded g m own (RecordIs es) = (m.joined ≡ true) × IsInMemory own es
IsGuarded g m own (NoneFree r) = (r < g.groups) × (holds m (resources.Group r) ≡ true)
IsGuarded g m own (FreshIs d bytes) = HasField g (Count d) × (holds m (resource_of (Count d)) ≡ true)
IsGuarded g m own (SlotIs s d) = HasField g (Slot s) × HasField g (Count d) × MayLook m (Slot s) d
IsGuarded g m own (BlockIs x d bytes) = HasField g x × HasField g (Count d) × MayLook m x d
IsGuarded g m own (Given key) = key_of m ≢ 0
IsGuarded g m own (Off key) = key_of m ≢ 0
IsGuarded g m own (Ended key) = key_of m ≢ 0
IsGuarded g m own (DeadRecord y es) = Claims g m y
IsGuarded g m own (DeadTable y x p) = HasField g x × Claims g m y
IsGuarded g m own (Swept y k) = Claims g m y
