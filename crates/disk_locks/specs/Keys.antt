-- Keys: which are off, which have entered and ended; and whose a table is.
use Rattle.std.specs.Prelude.{◌≡◌, ◌≢◌, ◌⊎◌, ◌/◌, ◌%◌, ◌≤◌, ℕ, true, Contains}
use Rattle.vol_layout.specs.declared.kind.Resource.{Resource}
use Rattle.vol_layout.specs.declared.kind.Resource.TheVariants as resources
use Rattle.vol_layout.specs.declared.kind.Table.{Table}
use Rattle.vol_layout.specs.declared.kind.Table.TheVariants as tables
use Rattle.shared_disk.specs.State.{State}
use Rattle.lock_store.specs.Views.{LocksView, counter_of, host_at, key_at, keys_of}

-- the resource that guards a table
abbrev pub owner : Table → Resource
owner (tables.File f) = resources.File f
owner (tables.Group r) = resources.Group r
owner (tables.Part p) = resources.Part p
owner (tables.More f t) = resources.File f

-- a key that the device gave and took off again
pub record IsOff (s : State) (key : ℕ) : Type 0 where
  pub some : key ≢ 0
  pub given : key / 16 ≤ s.counter
  pub off : Contains s.keys key → ⊥

-- a key was given, and if it is still its host's, the host has entered its slot under it, and may have left it
pub record HasEntered (v : LocksView) (key : ℕ) : Type 0 where
  pub some : key ≢ 0
  pub given : key / 16 ≤ counter_of v
  pub entered : key_at v (key % 16) ≡ key → ((host_at v (key % 16)).joined ≡ true) ⊎ ((host_at v (key % 16)).freed ≡ true)

-- a key was given, and its host has left its slot under it, has lost the key, or the key is off: it reads nothing any more
pub record HasEnded (v : LocksView) (key : ℕ) : Type 0 where
  pub some : key ≢ 0
  pub given : key / 16 ≤ counter_of v
  pub ended : key_at v (key % 16) ≡ key → ((host_at v (key % 16)).freed ≡ true) ⊎ (Contains (keys_of v) key → ⊥)
