-- When a lock or a slot may be freed.
use Rattle.std.specs.Prelude.{◌≡◌, ◌≢◌, ◌⊎◌, ◌<◌, ℕ, true, false, Contains, List, []}
use Rattle.vol_layout.specs.declared.geometry.Geometry.{Geometry}
use Rattle.vol_layout.specs.declared.kind.Resource.{Resource}
use Rattle.vol_layout.specs.declared.field.Field.{Field}
use Rattle.vol_layout.specs.Edits.{touches}
use Rattle.vol_layout.specs.Fields.{resource_of}
use Rattle.vol_layout.specs.Ranges.{HasResource}
use Rattle.slot_lock_blocks.specs.declared.lock.LockWord.{LockWord}
use Rattle.slot_lock_blocks.specs.declared.lock.LockWord.TheVariants as words
use Rattle.slot_lock_blocks.specs.declared.slot.Slot.{Slot}
use Rattle.slot_lock_blocks.specs.declared.slot.Slot.TheVariants.{Free, Live, Recovering}
use Rattle.slot_lock_blocks.specs.LockWords.{lock_readers}
use Rattle.std.specs.Prelude.{slice_index}
use Rattle.image_view.specs.HostKeys.{IsHeldBy, slot_key_at}
use Rattle.image_view.specs.Images.{Image}
use Rattle.image_view.specs.Numbers.{journal}
use Rattle.lock_store.specs.declared.host.HostState.{HostState}
use Rattle.lock_store.specs.Memories.{claim_of, holds}
use Rattle.lock_store.specs.Views.{LocksView, key_at}
use Rattle.disk_locks.specs.Keys.{HasEnded}

-- no standing record edits what the resource guards
abbrev pub Unedited : Geometry → Resource → Image → Type 0
Unedited g r image = (y : ℕ) (x : Field) → y < g.hosts → touches (journal g image y) x ≡ true → resource_of x ≢ r

-- the same, where this key holds the resource
abbrev pub UneditedBy : Geometry → Resource → ℕ → Image → Type 0
UneditedBy g r key image = IsHeldBy g image r key → Unedited g r image

-- nothing needs what a host's slot shows: its journal is empty, and no lock is held by the key
pub record IsUnneeded (g : Geometry) (image : Image) (y : ℕ) : Type 0 where
  pub empty : journal g image y ≡ []
  pub unheld : (r : Resource) → HasResource g r → IsHeldBy g image r (slot_key_at g image y) → ⊥

-- a host may free a slot that it claimed, or its own one where it is joined and holds nothing of the volume
abbrev pub MayFreeSlot : Geometry → ℕ → ℕ → HostState → Type 0
MayFreeSlot g y h m =
    ((claim_of m y ≢ 0) × (y ≡ h → m.joined ≡ false))
    ⊎ ((y ≡ h) × (m.joined ≡ true) × ((r : Resource) → HasResource g r → holds m r ≡ false) × (claim_of m y ≡ 0))

-- a host enters its slot from a free one, or from the one that it claimed
abbrev pub MayEnterFrom : ℕ → ℕ → Slot → Type 0
MayEnterFrom own dead Free = Unit {0}
MayEnterFrom own dead (Live key beat) = ⊥
MayEnterFrom own dead (Recovering key by) = (by.0 ≡ own) × (key.0 ≡ dead)

-- neither the key that a slot shows nor its `by` is registered
abbrev pub IsOut : List ℕ → Slot → Type 0
IsOut keys Free = Unit {0}
IsOut keys (Live key beat) = Contains keys key.0 → ⊥
IsOut keys (Recovering key by) = (Contains keys key.0 → ⊥) × (Contains keys by.0 → ⊥)

-- a lock that nobody holds: it is free, or read
abbrev pub IsOpen : LockWord → Type 0
IsOpen words.Free = Unit {0}
IsOpen (words.Held key) = ⊥
IsOpen (words.Read readers) = Unit {0}

-- each reader's key but the host's own has ended
abbrev pub HaveEnded : LocksView → ℕ → LockWord → Type 0
HaveEnded v h word =
    (y : ℕ) → slice_index (lock_readers word) y ≢ 0 → slice_index (lock_readers word) y ≢ key_at v h
    → HasEnded v (slice_index (lock_readers word) y)
