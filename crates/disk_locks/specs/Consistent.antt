-- What holds of the locks between any two calls.
use Rattle.std.specs.Prelude.{◌≤◌, ℕ, IfSome}
use Rattle.vol_layout.specs.Ranges.{IsGeometry}
use Rattle.vol_layout.specs.Regions.{total}
use Rattle.lock_store.specs.Devices.{IsDevice}
use Rattle.lock_store.specs.Views.{LocksView, at, counter_of, keys_of, told_of}
use Rattle.disk_locks.specs.Agreement.{Agrees}
use Rattle.disk_locks.specs.Memories.{IsMemory}

-- the geometry is in range and the device long enough, each host's memory is in order, and where the device tells its content, the
-- image is valid and agrees with all memories
pub record Consistent (v : LocksView) : Type 0 where
  pub geometry : IsGeometry v.geometry
  pub long : total v.geometry ≤ v.disk.state.blocks
  pub device : IsDevice v.disk.state
  pub memories : (h : ℕ) → IsMemory v.geometry.hosts (counter_of v) h (at v.hosts h)
  pub told : IfSome (told_of v) (λ t. Agrees v.geometry (counter_of v) (keys_of v) v.hosts t.image)
