-- What each step of the plan of a lone host did.
use Rattle.std.specs.Prelude.{◌≡◌, ◌≢◌, ◌<◌, ◌≤◌, ◌+◌, ℕ, None, Option, Some}
use Rattle.shared_disk.specs.Calls.{last_counter}
use Rattle.shared_disk.specs.Events.{Acts, Event}
use Rattle.image_view.specs.HostKeys.{slot_state_at}
use Rattle.lock_store.specs.declared.answers.StepNo.{StepNo}
use Rattle.lock_store.specs.declared.answers.StepNo.TheVariants.{Fenced, NoMemory}
use Rattle.lock_store.specs.Memories.{dropped}
use Rattle.lock_store.specs.Views.{counter_of, host_at, key_at, told_of}
use Rattle.host_runs.specs.DeviceCalls.{OnImage}
use Rattle.host_facts.specs.Views.{WorldView}
use Rattle.host_facts.specs.Wrote.{FilesStay, HasValidImage}
use Rattle.plan_parts.specs.Cuts.{IsCauseOf}
use Rattle.plan_parts.specs.Steps.{IsReady}
use Rattle.recover_plan.specs.Lones.{LoneAt, keys_left, lone_left}
use Rattle.recover_plan.specs.Replays.{HasKey, KeepsLocks, SlotsStay}
use Rattle.recover_plan.specs.declared.lone.Came.{Came}
use Rattle.recover_plan.specs.declared.lone.Came.TheVariants.{End, More}
use Rattle.recover_plan.specs.declared.lone.Lone.{Lone}
use Rattle.recover_plan.specs.declared.lone.Lone.TheVariants.{Ended}
use Rattle.recover_plan.specs.declared.lone.LoneEnd.{LoneEnd}
use Rattle.recover_plan.specs.declared.lone.LoneEnd.TheVariants.{Busy, Free, Joined, NoKeys, Recovered}

-- the slot is free, where the device tells it
abbrev pub IsSlotFree : WorldView → ℕ → Type 0
IsSlotFree w of = OnImage w.locks.disk.state (λ image. slot_state_at w.locks.geometry image of ≡ 0)

-- what holds at the plan's end: a host that joined is ready, and so is one that recovered another one, whose slot is free. A slot of
-- another host is met only where the device tells nothing
abbrev pub HasEnded : WorldView → ℕ → ℕ → LoneEnd → Type 0
HasEnded w h of (Joined key) = IsReady w h × (key.0 ≡ key_at w.locks h) × (of ≡ h)
HasEnded w h of Recovered = IsReady w h × IsSlotFree w of
HasEnded w h of Free = IsReady w h × IsSlotFree w of
HasEnded w h of (Busy key) = told_of w.locks ≡ None
HasEnded w h of NoKeys = (host_at w.locks h ≡ dropped) × (counter_of w.locks ≡ last_counter)

-- what is done next, and how the plan ended
abbrev pub later_of : Came → Lone
later_of (More later) = later
later_of (End end) = Ended

abbrev pub end_of : Came → Option LoneEnd
end_of (More later) = None
end_of (End end) = Some end

-- what stands behind a step
abbrev pub StandsBehind : WorldView → ℕ → ℕ → Lone → Option LoneEnd → Type 0
StandsBehind w h of later None = LoneAt w h of later
StandsBehind w h of later (Some end) = HasEnded w h of end

-- the own key is registered, but where the device had none to give
abbrev pub HasKeyBehind : WorldView → ℕ → Option LoneEnd → Type 0
HasKeyBehind w h (Some NoKeys) = Unit {0}
HasKeyBehind w h end = HasKey w h

-- a step made one device call: no file changed, the image is valid, the slots of other hosts are as before, and so is what the host holds and reads;
-- its key is registered; what comes next stands, and fewer steps are left
pub record LoneStepped (h of : ℕ) (v w : WorldView) (stage later : Lone) (end : Option LoneEnd) : Type 0 where
  pub files : FilesStay v w
  pub valid : HasValidImage w
  pub slots : SlotsStay v w of
  pub locks : KeepsLocks h v w
  pub registered : HasKeyBehind w h end
  pub event : Event
  pub acts : Acts event v.locks.disk w.locks.disk
  pub keys : counter_of w.locks + keys_left later ≤ counter_of v.locks + keys_left stage
  pub stands : StandsBehind w h of later end
  pub fewer : lone_left w.locks.geometry later < lone_left v.locks.geometry stage

abbrev pub LoneCame : ℕ → ℕ → WorldView → WorldView → Lone → Came → Type 0
LoneCame h of v w stage came = LoneStepped h of v w stage (later_of came) (end_of came)

-- a step was refused by the device, or met a block that is not of its kind, which no device that tells does: the device is as before, and
-- the host is dropped, but where memory was refused. It is refused for want of a key only where the host has one that is not registered
pub record IsRefused (h : ℕ) (v w : WorldView) (why : StepNo) : Type 0 where
  pub event : Event
  pub acts : Acts event v.locks.disk w.locks.disk
  pub cause : IsCauseOf why event v
  pub shut : why ≡ Fenced → (key_at v.locks h ≢ 0) × (HasKey v h → ⊥)
  pub state : w.locks.disk.state ≡ v.locks.disk.state
  pub geometry : w.locks.geometry ≡ v.locks.geometry
  pub memory : why ≢ NoMemory → host_at w.locks h ≡ dropped
  pub same : why ≡ NoMemory → host_at w.locks h ≡ host_at v.locks h
