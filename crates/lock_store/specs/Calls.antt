-- What the other calls of the store did.
use Rattle.std.specs.Prelude.{ℕ, List, Result, Ok, Err}
use Rattle.vol_base.specs.declared.block.Block.{Block}
use Rattle.vol_base.specs.declared.block.Key.{Key}
use Rattle.vol_layout.specs.declared.kind.Kind.{Kind}
use Rattle.vol_layout.specs.Places.{place_of}
use Rattle.shared_disk.specs.Events.{Done, Fences, Gives, Refuses, Registers, Shows, Writes}
use Rattle.shared_disk.specs.declared.answers.DiskNo.{DiskNo}
use Rattle.shared_disk.specs.declared.answers.Tested.{Tested}
use Rattle.shared_disk.specs.declared.answers.Tested.TheVariants.{Found, Swapped}
use Rattle.lock_store.specs.declared.answers.StepNo.{StepNo}
use Rattle.lock_store.specs.declared.host.HostState.{HostState}
use Rattle.lock_store.specs.Events.{Did, IsRefusal, read_of, swap_of}
use Rattle.lock_store.specs.Memories.{registered}
use Rattle.lock_store.specs.Views.{LocksView, host_at}

-- every block fits
abbrev pub AnyBlock : List ℕ → Type 0
AnyBlock block = Unit {0}

-- a host was given a key, or none; it is not joined
abbrev pub RegistersHost : LocksView → ℕ → Result Key DiskNo → LocksView → Type 0
RegistersHost v h (Ok key) w = Did v h (Registers h) (Gives key.0) (registered key) w
RegistersHost v h (Err why) w = Did v h (Registers h) (Refuses why) (host_at v h) w

-- a key was taken off the device
abbrev pub FencesKey : LocksView → ℕ → Key → Result Unit StepNo → LocksView → Type 0
FencesKey v h target (Ok done) w = Did v h (Fences target.0) Done (host_at v h) w
FencesKey v h target (Err why) w = IsRefusal v h (Fences target.0) 0 AnyBlock why w

-- the block of a kind was read
abbrev pub ReadsBlock : LocksView → ℕ → Kind → Result Block StepNo → LocksView → Type 0
ReadsBlock v h kind (Ok block) w = Did v h (read_of v kind) (Shows block.0) (host_at v h) w
ReadsBlock v h kind (Err why) w = IsRefusal v h (read_of v kind) (place_of v.geometry kind) AnyBlock why w

-- the block of a kind was written, after which the host's memory is m
abbrev pub WritesBlock : LocksView → ℕ → Kind → List ℕ → HostState → Result Unit StepNo → LocksView → Type 0
WritesBlock v h kind block m (Ok done) w = Did v h (Writes (place_of v.geometry kind) block) Done m w
WritesBlock v h kind block m (Err why) w =
    IsRefusal v h (Writes (place_of v.geometry kind) block) (place_of v.geometry kind) AnyBlock why w

-- the block of a kind was tested and set, after which the host's memory is m; or another block was found
abbrev pub SwapsBlock : LocksView → ℕ → Kind → List ℕ → List ℕ → HostState → Result Tested StepNo → LocksView → Type 0
SwapsBlock v h kind old new m (Ok Swapped) w = Did v h (swap_of v kind old new) Done m w
SwapsBlock v h kind old new m (Ok (Found block)) w = Did v h (swap_of v kind old new) (Shows block.0) (host_at v h) w
SwapsBlock v h kind old new m (Err why) w = IsRefusal v h (swap_of v kind old new) (place_of v.geometry kind) AnyBlock why w
