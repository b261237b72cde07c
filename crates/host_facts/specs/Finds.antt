-- An image as a host with a registered key finds it.
use Rattle.std.specs.Prelude.{◌≢◌, ℕ, Contains}
use Rattle.image_view.specs.Images.{Image}
use Rattle.lock_store.specs.Views.{LocksView, counter_of, key_at, keys_of}
use Rattle.disk_locks.specs.Agreement.{Agrees}
use Rattle.disk_locks.specs.Consistent.{Consistent}

-- it is valid, and agrees with the memories of all hosts
pub record Finds (v : LocksView) (h : ℕ) (image : Image) : Type 0 where
  pub consistent : Consistent v
  pub agrees : Agrees v.geometry (counter_of v) (keys_of v) v.hosts image
  pub some : key_at v h ≢ 0
  pub here : Contains (keys_of v) (key_at v h)
