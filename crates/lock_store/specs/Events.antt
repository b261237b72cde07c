-- What one call of the store did: one event of the device, and what it left in memory.
use Rattle.std.specs.Prelude.{◌≡◌, ◌≢◌, ℕ, List}
use Rattle.vol_layout.specs.declared.kind.Kind.{Kind}
use Rattle.vol_layout.specs.Places.{place_of}
use Rattle.shared_disk.specs.Events.{Acts, Call, Reads, Reply, Tests, event}
use Rattle.shared_disk.specs.Events.{Refuses, Shows}
use Rattle.shared_disk.specs.declared.answers.DiskNo.{DiskNo}
use Rattle.shared_disk.specs.declared.answers.DiskNo.TheVariants as refusals
use Rattle.lock_store.specs.declared.answers.StepNo.{StepNo}
use Rattle.lock_store.specs.declared.answers.StepNo.TheVariants.{Bad, Failed, Fenced, NoMemory}
use Rattle.lock_store.specs.declared.host.HostState.{HostState}
use Rattle.lock_store.specs.Memories.{dropped}
use Rattle.lock_store.specs.Views.{LocksView, host_at, key_at}

-- one call under the host's key, with its reply; the host's memory is then m, and that of each other host as before
pub record Did (v : LocksView) (h : ℕ) (call : Call) (reply : Reply) (m : HostState) (w : LocksView) : Type 0 where
  pub geometry : w.geometry ≡ v.geometry
  pub mine : host_at w h ≡ m
  pub others : (x : ℕ) → x ≢ h → host_at w x ≡ host_at v x
  pub acts : Acts (event (key_at v h) call reply) v.disk w.disk

-- the host's memory is m from now on, and all else as before
pub record Notes (h : ℕ) (m : HostState) (v w : LocksView) : Type 0 where
  pub disk : w.disk ≡ v.disk
  pub geometry : w.geometry ≡ v.geometry
  pub mine : host_at w h ≡ m
  pub others : (x : ℕ) → x ≢ h → host_at w x ≡ host_at v x

-- what a refusal of the device is to a host, which is dropped but where memory was refused; no key is asked for then
abbrev pub IsRefusalOf : ℕ → DiskNo → StepNo → LocksView → LocksView → Type 0
IsRefusalOf h refusals.Fenced step v w = (step ≡ Fenced) × Notes h dropped v w
IsRefusalOf h refusals.Failed step v w = (step ≡ Failed) × Notes h dropped v w
IsRefusalOf h refusals.NoKeys step v w = (step ≡ Failed) × Notes h dropped v w
IsRefusalOf h refusals.NoMemory step v w = (step ≡ NoMemory) × (w ≡ v)

-- a step was refused as the device answered, or by a block that does not fit: the host is dropped, but where memory was refused
abbrev pub IsRefusal : LocksView → ℕ → Call → ℕ → (List ℕ → Type 0) → StepNo → LocksView → Type 0
IsRefusal v h call place Fits Fenced w = Did v h call (Refuses refusals.Fenced) dropped w
IsRefusal v h call place Fits Failed w = Did v h call (Refuses refusals.Failed) dropped w
IsRefusal v h call place Fits NoMemory w = Did v h call (Refuses refusals.NoMemory) (host_at v h) w
IsRefusal v h call place Fits (Bad at) w =
    (at ≡ place) × ((block : List ℕ) × Did v h call (Shows block) dropped w × (Fits block → ⊥))

-- the test-and-set of the block of a kind
abbrev pub swap_of : LocksView → Kind → List ℕ → List ℕ → Call
swap_of v kind old new = Tests (place_of v.geometry kind) old new

-- the read of the block of a kind
abbrev pub read_of : LocksView → Kind → Call
read_of v kind = Reads (place_of v.geometry kind)
