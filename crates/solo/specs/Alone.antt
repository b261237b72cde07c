-- A host that is alone on a volume, and has all its files.
use Rattle.std.specs.Prelude.{◌≡◌, ◌≢◌, ◌≤◌, ◌<◌, ◌+◌, ℕ, Contains, None, true}
use Rattle.vol_layout.specs.declared.geometry.Geometry.{Geometry}
use Rattle.vol_layout.specs.declared.kind.Table.{Table}
use Rattle.held_cache.specs.Kept.{Cache, IsFileTable, kept_at}
use Rattle.vol_layout.specs.declared.kind.Resource.TheVariants.{File}
use Rattle.lock_store.specs.Memories.{holds}
use Rattle.lock_store.specs.Views.{counter_of, host_at, key_at, keys_of, told_of}
use Rattle.host_facts.specs.Views.{WorldView}
use Rattle.host_facts.specs.Wrote.{FilesStay}
use Rattle.image_view.specs.HostKeys.{slot_state_at}
use Rattle.host_runs.specs.DeviceCalls.{OnImage}
use Rattle.settle.specs.Passes.{PassesVolumes}
use Rattle.host_notes.specs.Remembered.{IsRemembered}
use Rattle.host_runs.specs.Memories.{Memory}
use Rattle.plan_parts.specs.Steps.{IsReady}

-- some notes of a run agree with what the host has in memory
abbrev pub IsNotable : WorldView → ℕ → Type 0
IsNotable v h = (memory : Memory) × IsRemembered v.locks.geometry memory (host_at v.locks h)

-- the slots of the hosts before this one are free, but the own one
abbrev pub AreFree : WorldView → ℕ → Type 0
AreFree w n =
    OnImage w.locks.disk.state
    (λ image. (y : ℕ) → y ≢ 0 → y < n → y < w.locks.geometry.hosts → slot_state_at w.locks.geometry image y ≡ 0)

-- host 0 is ready between two calls, its key is registered, it holds every file, and no other host has a slot
pub record IsAlone (v : WorldView) : Type 0 where
  pub ready : IsReady v 0
  pub registered : Contains (keys_of v.locks) (key_at v.locks 0)
  pub files : (f : ℕ) → f < v.locks.geometry.files → holds (host_at v.locks 0) (File f) ≡ true
  pub free : AreFree v v.locks.geometry.hosts
  pub notes : IsNotable v 0

-- the same volume, with the same files, somewhat later: from a valid image on, each image on the way is valid, with the files of the first;
-- at most so many keys were given
pub record IsLater (n : ℕ) (v w : WorldView) : Type 0 where
  pub files : FilesStay v w
  pub geometry : w.locks.geometry ≡ v.locks.geometry
  pub faults : v.locks.disk.faults ≤ w.locks.disk.faults
  pub counter : counter_of v.locks ≤ counter_of w.locks
  pub given : counter_of w.locks ≤ counter_of v.locks + n
  pub passes : PassesVolumes (counter_of v.locks) (counter_of w.locks) (told_of v.locks) (told_of w.locks)

-- the device's content and keys are as before
pub record LeavesDevice (v w : WorldView) : Type 0 where
  pub state : w.locks.disk.state ≡ v.locks.disk.state
  pub geometry : w.locks.geometry ≡ v.locks.geometry
  pub later : v.locks.disk.faults ≤ w.locks.disk.faults

-- nothing is kept for host 0 of the tables of a volume
pub record KeepsNothing (g : Geometry) (c : Cache) : Type 0 where
  pub volume : c.volume ≡ g
  pub none : (t : Table) → IsFileTable g t → kept_at c 0 t ≡ None
