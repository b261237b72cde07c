-- What a contract sees of the store.
use Rattle.std.specs.Prelude.{ℕ, List, Option, slice_index_or}
use Rattle.vol_layout.specs.declared.geometry.Geometry.{Geometry}
use Rattle.shared_disk.specs.Seen.{DiskSeen, disk_seen}
use Rattle.shared_disk.specs.State.{State, Told}
use Rattle.lock_store.specs.declared.host.HostState.{HostState}
use Rattle.lock_store.specs.Memories.{dropped, key_of}

-- the device, the geometry of its volume, and what each of the 16 hosts has in memory
pub record LocksView : Type 0 where
  pub disk : DiskSeen
  pub geometry : Geometry
  pub hosts : List HostState

-- a device as it shows itself, with the geometry and the hosts
abbrev pub seen : State → ℕ → ℕ → ℕ → Geometry → List HostState → LocksView
seen state faults room calls geometry hosts =
    record { disk = disk_seen state faults room calls; geometry = geometry; hosts = hosts }

-- the memory of one host
abbrev pub at : List HostState → ℕ → HostState
at hosts h = slice_index_or hosts h dropped

abbrev pub host_at : LocksView → ℕ → HostState
host_at v h = at v.hosts h

-- the key of one host, 0 for none
abbrev pub key_at : LocksView → ℕ → ℕ
key_at v h = key_of (host_at v h)

-- the registered keys, the counter, and what the device tells
abbrev pub keys_of : LocksView → List ℕ
keys_of v = v.disk.state.keys

abbrev pub counter_of : LocksView → ℕ
counter_of v = v.disk.state.counter

abbrev pub told_of : LocksView → Option Told
told_of v = v.disk.state.told
