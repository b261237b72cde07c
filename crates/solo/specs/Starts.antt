-- What the beginning of a lone host leaves, step by step.
use Rattle.std.specs.Prelude.{◌≡◌, ◌≢◌, ◌≤◌, ◌<◌, ◌+◌, ℕ, Err, IfSome, List, None, Ok, Result, Some, false, true}
use Rattle.vol_base.specs.Faults.{Rose}
use Rattle.vol_layout.specs.Ranges.{IsGeometry}
use Rattle.vol_layout.specs.Regions.{total}
use Rattle.vol_layout.specs.declared.geometry.Geometry.{Geometry}
use Rattle.vol_layout.specs.declared.kind.Kind.TheVariants as kinds
use Rattle.vol_layout.specs.declared.kind.Resource.{Resource}
use Rattle.vol_layout.specs.declared.kind.Resource.TheVariants.{File}
use Rattle.shared_disk.specs.Calls.{last_counter}
use Rattle.shared_disk.specs.Seen.{DiskSeen}
use Rattle.shared_disk.specs.State.{State}
use Rattle.call_effects.specs.Places.{KeepsFiles}
use Rattle.image_view.specs.Images.{block_at}
use Rattle.image_view.specs.Valid.{IsValid, IsVolume}
use Rattle.lock_store.specs.Memories.{holds, reads}
use Rattle.lock_store.specs.Views.{counter_of, host_at, key_at}
use Rattle.disk_locks.specs.Sure.{BothTold}
use Rattle.host_facts.specs.Views.{WorldView}
use Rattle.host_runs.specs.DeviceCalls.{OnImage}
use Rattle.plan_parts.specs.Holds.{IsWriteTaking, write_tries}
use Rattle.plan_parts.specs.Steps.{IsReady}
use Rattle.plan_parts.specs.declared.take_write.TakeWrite.{TakeWrite}
use Rattle.recover_plan.specs.LoneSteps.{IsSlotFree}
use Rattle.recover_plan.specs.Lones.{LoneAt, keys_left}
use Rattle.recover_plan.specs.Replays.{HasKey, KeepsLocks, SlotsStay}
use Rattle.recover_plan.specs.declared.lone.Lone.{Lone}
use Rattle.recover_plan.specs.declared.lone.LoneEnd.{LoneEnd}
use Rattle.recover_plan.specs.declared.lone.LoneEnd.TheVariants as ends
use Rattle.settle.specs.Passes.{Passes}
use Rattle.solo.specs.Alone.{AreFree, IsAlone, IsLater, IsNotable}
use Rattle.solo.specs.Views.{SoloView, volume}
use Rattle.settle.specs.declared.lone.LoneNo.{LoneNo}
use Rattle.settle.specs.declared.lone.LoneNo.TheVariants as refusals

-- a told image is a valid volume
abbrev pub TellsVolume : State → Type 0
TellsVolume s = IfSome s.told (λ t. IsVolume s.counter t.image)

-- a device gave so many keys at most
pub record IsGiven (n : ℕ) (old new : State) : Type 0 where
  pub later : old.counter ≤ new.counter
  pub few : new.counter ≤ old.counter + n

-- the volume on the device is one of this geometry
pub record IsOpenAs (g : Geometry) (s : State) : Type 0 where
  pub range : IsGeometry g
  pub long : total g ≤ s.blocks
  pub valid : OnImage s (IsValid g s.counter)

-- why a host did not begin: a block that is not of its kind and a key of another host are met only where the device tells nothing, and no key
-- is given only where the counter is at its end, to which two registrations bring it
abbrev pub HasStartCause : DiskSeen → DiskSeen → LoneNo → Type 0
HasStartCause old new refusals.Failed = Rose old.faults new.faults
HasStartCause old new (refusals.Bad place) = old.state.told ≡ None
HasStartCause old new (refusals.Busy key) = old.state.told ≡ None
HasStartCause old new refusals.NoKeys = new.state.counter ≡ last_counter
HasStartCause old new refusals.NoMemory = Unit {0}
HasStartCause old new refusals.Full = ⊥

-- the host's key, where it has one, is registered
abbrev pub IsKeyOpen : WorldView → ℕ → Type 0
IsKeyOpen v h = key_at v.locks h ≢ 0 → HasKey v h

-- the host is in
pub record IsIn (v : WorldView) : Type 0 where
  pub ready : IsReady v 0
  pub registered : HasKey v 0

-- before each step of a plan that joins, or recovers a host; of so many keys the rest is asked for later
pub record IsDriven (n : ℕ) (v w : WorldView) (of : ℕ) (stage : Lone) : Type 0 where
  pub at : LoneAt w 0 of stage
  pub keyed : IsKeyOpen w 0
  pub later : IsLater n v w
  pub keys : counter_of w.locks + keys_left stage ≤ counter_of v.locks + n
  pub locks : KeepsLocks 0 v w
  pub slots : SlotsStay v w of

-- behind it: the host is in, and the slot of the other one is free
pub record IsJoined (v w : WorldView) (of : ℕ) : Type 0 where
  pub inside : IsIn w
  pub locks : KeepsLocks 0 v w
  pub slots : SlotsStay v w of
  pub free : of ≢ 0 → IsSlotFree w of

-- what an end of a plan is to the host
abbrev pub ended_by : LoneEnd → Result Unit LoneNo
ended_by (ends.Joined key) = Ok tt
ended_by ends.Recovered = Ok tt
ended_by ends.Free = Ok tt
ended_by (ends.Busy key) = Err (refusals.Busy key)
ended_by ends.NoKeys = Err refusals.NoKeys

-- the host holds and reads nothing
abbrev pub HoldsNone : WorldView → Type 0
HoldsNone w = (r : Resource) → (holds (host_at w.locks 0) r ≡ false) × (reads (host_at w.locks 0) r ≡ false)

-- the host is in, by one key, and the hosts before this one are recovered
pub record IsRecovered (v w : WorldView) (n : ℕ) : Type 0 where
  pub later : IsLater 1 v w
  pub inside : IsIn w
  pub none : HoldsNone w
  pub free : AreFree w n

-- every other host is recovered, and the host holds the files before this one
pub record IsTaking (w : WorldView) (f : ℕ) : Type 0 where
  pub inside : IsIn w
  pub notes : IsNotable w 0
  pub free : AreFree w w.locks.geometry.hosts
  pub held : (e : ℕ) → e < f → holds (host_at w.locks 0) (File e) ≡ true
  pub out : (e : ℕ) → f ≤ e → e < w.locks.geometry.files → holds (host_at w.locks 0) (File e) ≡ false

-- the word that a try of the lock found last stands there
abbrev pub FindsWord : WorldView → ℕ → TakeWrite → Type 0
FindsWord w f t =
    OnImage w.locks.disk.state
    (λ image. (word : List ℕ) → (write_tries t None).found ≡ Some word → block_at w.locks.geometry image (kinds.Lock (File f)) ≡ word)

-- before each step by which a file is taken
pub record IsTrying (v w : WorldView) (f : ℕ) (t : TakeWrite) : Type 0 where
  pub taking : IsTaking w f
  pub later : IsLater 0 v w
  pub at : IsWriteTaking w 0 f t
  pub found : FindsWord w f t

-- a host has begun: its volume is the one on the device, each image on the way was a valid volume with the files of the first, two keys were given,
-- and it is in order
pub record HasStarted (old : DiskSeen) (s : SoloView) : Type 0 where
  pub alone : IsAlone s.world
  pub going : s.stopped ≡ None
  pub began : s.began ≡ s.world.locks.disk
  pub later : old.faults ≤ s.world.locks.disk.faults
  pub files : BothTold old.state.told s.world.locks.disk.state.told KeepsFiles
  pub valid : OnImage s.world.locks.disk.state (IsValid (volume s) s.world.locks.disk.state.counter)
  pub given : IsGiven 2 old.state s.world.locks.disk.state
  pub passes : Passes old.state s.world.locks.disk.state

-- or it was refused: no file changed, the image is a valid volume, and the refusal has its cause
pub record HasRefused (old : DiskSeen) (why : LoneNo) (new : DiskSeen) : Type 0 where
  pub cause : HasStartCause old new why
  pub files : BothTold old.state.told new.state.told KeepsFiles
  pub volume : TellsVolume new.state
  pub given : IsGiven 2 old.state new.state
  pub passes : Passes old.state new.state
