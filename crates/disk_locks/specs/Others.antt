-- What every other host may rely on, whatever one host's call does.
use Rattle.std.specs.Prelude.{◌≡◌, ◌≢◌, ◌≤◌, ℕ, Contains}
use Rattle.vol_layout.specs.declared.geometry.Geometry.{Geometry}
use Rattle.vol_layout.specs.declared.kind.Resource.{Resource}
use Rattle.vol_layout.specs.Ranges.{HasResource}
use Rattle.shared_disk.specs.State.{State}
use Rattle.image_view.specs.HostKeys.{IsHeldBy}
use Rattle.image_view.specs.Images.{Image}
use Rattle.lock_store.specs.Views.{LocksView, counter_of, host_at, key_at, keys_of, told_of}
use Rattle.disk_locks.specs.KeepsImage.{KeepsImage}
use Rattle.disk_locks.specs.Keys.{HasEnded, HasEntered, IsOff}
use Rattle.disk_locks.specs.Sure.{BothTold}

-- a host's memory stays, its key only falls, and while the key is registered, so does what it may rely on of the image
pub record Keeps (h : ℕ) (v w : LocksView) : Type 0 where
  pub memory : host_at w h ≡ host_at v h
  pub registered : Contains (keys_of w) (key_at v h) → Contains (keys_of v) (key_at v h)
  pub image : Contains (keys_of w) (key_at v h) → BothTold (told_of v) (told_of w) (KeepsImage v.geometry h (host_at v h))

-- no lock comes to be held by a key that is off
abbrev pub Fades : Geometry → State → Image → Image → Type 0
Fades g s old new = (r : Resource) (key : ℕ) → HasResource g r → IsOff s key → IsHeldBy g new r key → IsHeldBy g old r key

-- what lasts over every call, for the calling host too: the geometry, that the counter never falls, which keys are off, have entered
-- and have ended, and that locks of keys that are off only go
pub record Lasts (v w : LocksView) : Type 0 where
  pub geometry : w.geometry ≡ v.geometry
  pub counter : counter_of v ≤ counter_of w
  pub off : (key : ℕ) → IsOff v.disk.state key → IsOff w.disk.state key
  pub entered : (key : ℕ) → HasEntered v key → HasEntered w key
  pub ended : (key : ℕ) → HasEnded v key → HasEnded w key
  pub fades : BothTold (told_of v) (told_of w) (Fades v.geometry v.disk.state)

-- what a call of one host leaves to all others: it changes the memory of its own host alone, whether the others have keys or not
pub record Others (h : ℕ) (v w : LocksView) : Type 0 where
  pub lasts : Lasts v w
  pub memories : (x : ℕ) → x ≢ h → host_at w x ≡ host_at v x
  pub keeps : (x : ℕ) → x ≢ h → key_at v x ≢ 0 → Keeps x v w
