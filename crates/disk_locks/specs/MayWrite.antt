-- What a host may write.
use Rattle.std.specs.Prelude.{◌≡◌, ◌≢◌, ◌⊎◌, ◌+◌, ◌/◌, ◌<◌, ℕ, true, List}
use Rattle.vol_layout.specs.declared.geometry.Geometry.{Geometry}
use Rattle.vol_layout.specs.declared.kind.Kind.{Kind}
use Rattle.vol_layout.specs.declared.kind.Kind.TheVariants as kinds
use Rattle.vol_layout.specs.declared.kind.Resource.{Resource}
use Rattle.vol_layout.specs.declared.kind.Resource.TheVariants.{Group}
use Rattle.vol_layout.specs.declared.kind.Table.{Table}
use Rattle.vol_layout.specs.declared.field.Field.{Field}
use Rattle.vol_layout.specs.declared.field.Field.TheVariants.{Count, Slot}
use Rattle.vol_layout.specs.Fields.{HasField, resource_of}
use Rattle.vol_layout.specs.Ranges.{HasKind, per_table}
use Rattle.image_view.specs.Balances.{share_of}
use Rattle.image_view.specs.HostKeys.{IsHeldBy}
use Rattle.image_view.specs.Images.{Image, written}
use Rattle.image_view.specs.Numbers.{field, logical}
use Rattle.lock_store.specs.declared.host.HostState.{HostState}
use Rattle.lock_store.specs.Memories.{claim_of, key_of}
use Rattle.disk_locks.specs.Keys.{owner}

-- a block of the volume that is no superblock, no slot and no lock
abbrev pub IsWritable : Geometry → Kind → Type 0
IsWritable g kinds.Super = ⊥
IsWritable g (kinds.Slot h) = ⊥
IsWritable g (kinds.Journal h) = HasKind g (kinds.Journal h)
IsWritable g (kinds.Lock r) = ⊥
IsWritable g (kinds.Table t) = HasKind g (kinds.Table t)
IsWritable g (kinds.Log h l) = HasKind g (kinds.Log h l)
IsWritable g (kinds.Shard s) = HasKind g (kinds.Shard s)
IsWritable g (kinds.Request f) = HasKind g (kinds.Request f)
IsWritable g (kinds.Number d) = HasKind g (kinds.Number d)

-- the resource is held by the host's key, or by the dead key of a slot that the host claimed
abbrev pub IsOwnOrClaimed : Geometry → HostState → Image → Resource → Type 0
IsOwnOrClaimed g m image r =
    IsHeldBy g image r (key_of m) ⊎ ((y : ℕ) × (y < g.hosts) × (claim_of m y ≢ 0) × IsHeldBy g image r (claim_of m y))

-- a write of one block that wrongs no other host: logical numbers change, and a free block is written, only where the host holds
-- the resource; a journal is its own or a claimed one; a table is of a resource that it holds or a dead key holds; a data block is
-- named by no field of a resource that others hold, and by no slot of the arena; and a slot's number in its table goes only where
-- the named block's group is held
pub record MayWrite (g : Geometry) (h : ℕ) (m : HostState) (image : Image) (kind : Kind) (block : List ℕ) : Type 0 where
  pub numbers : (x : Field) → HasField g x → (IsHeldBy g image (resource_of x) (key_of m) → ⊥)
      → logical g (written g image kind block) x ≡ logical g image x
  pub journal : (y : ℕ) → kind ≡ kinds.Journal y → ((y ≡ h) × (m.joined ≡ true)) ⊎ (claim_of m y ≢ 0)
  pub table : (t : Table) → kind ≡ kinds.Table t → IsOwnOrClaimed g m image (owner t)
  pub number : (d : ℕ) → kind ≡ kinds.Number d → (x : Field) → HasField g x → share_of x (logical g image x) d ≡ 1
      → IsHeldBy g image (resource_of x) (key_of m)
  pub fresh : (d : ℕ) → kind ≡ kinds.Number d → logical g image (Count d) ≡ 0 → IsHeldBy g image (resource_of (Count d)) (key_of m)
  pub slots : (s d : ℕ) → HasField g (Slot s) → field g image (Slot s) ≡ d + 1
      → (field g (written g image kind block) (Slot s) ≡ d + 1) ⊎ IsOwnOrClaimed g m image (Group (d / per_table))
  pub no_slot : (d : ℕ) → kind ≡ kinds.Number d → (s : ℕ) → HasField g (Slot s) → logical g image (Slot s) ≡ d + 1 → ⊥
