-- What stands before each step of a share.
use Rattle.std.specs.Prelude.{◌≡◌, ◌≢◌, ◌⊎◌, ◌<◌, ◌≤◌, ◌+◌, ◌/◌, ℕ, true, List, [], ◌∷◌, None, Option, Some, length}
use Rattle.vol_layout.specs.declared.field.Field.TheVariants.{Count, Pointer, Slot}
use Rattle.vol_layout.specs.declared.kind.Resource.{Resource}
use Rattle.vol_layout.specs.declared.kind.Resource.TheVariants as resources
use Rattle.vol_layout.specs.declared.kind.Resource.TheVariants.{Group}
use Rattle.vol_layout.specs.Fields.{HasField, table_of}
use Rattle.vol_layout.specs.Ranges.{per_table}
use Rattle.lock_store.specs.Memories.{holds}
use Rattle.lock_store.specs.Views.{host_at}
use Rattle.host_facts.specs.Facts.Fact.{BlockIs, RecordIs, SlotIs}
use Rattle.host_facts.specs.Knows.{Knows}
use Rattle.host_facts.specs.Views.{WorldView}
use Rattle.plan_parts.specs.KeptTables.{AreKept, IsKept}
use Rattle.plan_parts.specs.TakenLocks.{IsTaking}
use Rattle.plan_parts.specs.declared.kept.Kept.{Kept}
use Rattle.share_plans.specs.Closings.{IsClosing}
use Rattle.share_plans.specs.Lefts.{missing}
use Rattle.share_plans.specs.Places.{field_of}
use Rattle.share_plans.specs.ReadTables.{Known, kept_in}
use Rattle.share_plans.specs.Spots.{IsPair, IsShown, IsUnread, IsUnreadOfSource}
use Rattle.share_plans.specs.declared.sharing.Place.{Place}
use Rattle.share_plans.specs.declared.sharing.Place.TheVariants.{Arena, File}
use Rattle.share_plans.specs.declared.stage.Core.{Core}
use Rattle.share_plans.specs.declared.stage.Pair.{Pair}
use Rattle.share_plans.specs.declared.stage.Stage.{Stage}
use Rattle.share_plans.specs.declared.stage.Stage.TheVariants as stages

-- the source is a slot of the volume, or the block of a file that the host holds
abbrev pub HasSource : WorldView → ℕ → Place → Type 0
HasSource v h (File f i) = (f < v.locks.geometry.files) × (holds (host_at v.locks h) (resources.File f) ≡ true)
HasSource v h (Arena s) = HasField v.locks.geometry (Slot s)

-- a host of the volume that is joined and holds the file
pub record IsHost (v : WorldView) (h f : ℕ) : Type 0 where
  pub host : h < v.locks.geometry.hosts
  pub file : f < v.locks.geometry.files
  pub joined : (host_at v.locks h).joined ≡ true
  pub held : holds (host_at v.locks h) (resources.File f) ≡ true

-- and has the source
pub record HasPlaces (v : WorldView) (h f : ℕ) (source : Place) : Type 0 where
  pub is_host : IsHost v h f
  pub from : HasSource v h source

-- the same while no record stands: the locks that were taken are all that the host has, and it knows the tables that were read
pub record IsBase (v : WorldView) (core : Core) : Type 0 where
  pub places : HasPlaces v core.host core.file core.source
  pub empty : Knows v core.host (RecordIs [])
  pub taking : IsTaking v core.host core.taken
  pub kept : AreKept v core.host core.tables

-- what the tables say that were read
abbrev pub known_of : Core → Known
known_of core = kept_in core.tables

-- the groups of both data blocks are locked, one or two
pub record AreLocked (v : WorldView) (h : ℕ) (taken : List Resource) (pair : Pair) : Type 0 where
  pub own : holds (host_at v.locks h) (Group (pair.own / per_table)) ≡ true
  pub from : holds (host_at v.locks h) (Group (pair.source / per_table)) ≡ true
  pub some : taken ≢ []
  pub few : length taken ≤ 2

-- two data blocks under the locks of their groups
pub record IsComparing (v : WorldView) (core : Core) (pair : Pair) : Type 0 where
  pub base : IsBase v core
  pub are_pair : IsPair v.locks.geometry (known_of core) core.file core.index core.source pair
  pub locked : AreLocked v core.host core.taken pair

-- the source is a slot
abbrev pub IsArena : Place → Type 0
IsArena (File f i) = ⊥
IsArena (Arena s) = Unit {0}

-- a slot has the data block in its table
abbrev pub IsSlotKnown : WorldView → ℕ → Place → ℕ → Type 0
IsSlotKnown v h (File f i) d = Unit {0}
IsSlotKnown v h (Arena s) d = Knows v h (SlotIs s d)

-- the two data blocks have the same bytes
abbrev pub AreEqual : WorldView → Core → Pair → Type 0
AreEqual v core pair =
    (bytes : List ℕ) × Knows v core.host (BlockIs (Pointer core.file core.index) pair.own bytes)
    × Knows v core.host (BlockIs (field_of core.source) pair.source bytes)

-- the table of the group of a data block
abbrev pub IsGroupOf : WorldView → ℕ → ℕ → Kept → Type 0
IsGroupOf v h d kept = IsKept v h kept × (kept.which ≡ table_of (Count d))

-- the table of the group of the source's data block, where it is another one
abbrev pub IsOtherGroup : WorldView → ℕ → Pair → Option Kept → Type 0
IsOtherGroup v h pair None = pair.own / per_table ≡ pair.source / per_table
IsOtherGroup v h pair (Some kept) = IsGroupOf v h pair.source kept × (pair.own / per_table ≢ pair.source / per_table)

-- what stands at each stage
abbrev pub At : WorldView → Core → Stage → Type 0
At v core (stages.Reads t) =
    IsBase v core × (core.taken ≡ [])
    × (IsUnread v.locks.geometry (known_of core) core.file core.index t ⊎ IsUnreadOfSource v.locks.geometry (known_of core) core.source t)
    × (length core.tables + missing core ≤ 4)
At v core (stages.Peeks own) =
    IsBase v core × (core.taken ≡ []) × IsShown v.locks.geometry (known_of core) core.file core.index own × IsArena core.source
At v core (stages.Locks pair) =
    IsBase v core × (core.taken ≡ []) × IsPair v.locks.geometry (known_of core) core.file core.index core.source pair
At v core (stages.LocksSource pair) =
    IsBase v core × (core.taken ≡ Group (pair.own / per_table) ∷ [])
    × IsPair v.locks.geometry (known_of core) core.file core.index core.source pair × (pair.own / per_table ≢ pair.source / per_table)
At v core (stages.PeeksAgain pair) = IsComparing v core pair × IsArena core.source
At v core (stages.ReadsSource pair) = IsComparing v core pair × IsSlotKnown v core.host core.source pair.source
At v core (stages.ReadsOwn pair block) = IsComparing v core pair × Knows v core.host (BlockIs (field_of core.source) pair.source block.0)
At v core (stages.CountsOwn pair) = IsComparing v core pair × AreEqual v core pair
At v core (stages.CountsSource pair group) =
    IsComparing v core pair × AreEqual v core pair × IsGroupOf v core.host pair.own group
    × (pair.own / per_table ≢ pair.source / per_table)
At v core (stages.Commits pair group other) =
    IsComparing v core pair × AreEqual v core pair × IsGroupOf v core.host pair.own group × IsOtherGroup v core.host pair other
At v core (stages.Closes closing answer) = HasPlaces v core.host core.file core.source × IsClosing v core.host core.taken closing
At v core stages.Over = ⊥
