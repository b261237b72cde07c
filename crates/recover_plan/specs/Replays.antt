-- What one step of the recovery of a slot does.
use Rattle.std.specs.Prelude.{◌≡◌, ◌≢◌, ◌<◌, ℕ, Contains, List, None, Option, Some}
use Rattle.vol_base.specs.declared.block.Key.{Key}
use Rattle.vol_layout.specs.declared.kind.Kind.TheVariants as kinds
use Rattle.slot_lock_blocks.specs.declared.slot.Slot.TheVariants as slots
use Rattle.host_facts.specs.Facts.Fact.{Given}
use Rattle.host_facts.specs.Knows.{Knows}
use Rattle.lock_store.specs.Memories.{claim_of, holds, reads}
use Rattle.host_runs.specs.NotedCalls.{SwapsKind}
use Rattle.vol_base.specs.declared.command.Command.{Command}
use Rattle.shared_disk.specs.Events.{Event, Shows, event}
use Rattle.slot_lock_blocks.specs.Slots.{slot_bytes}
use Rattle.slot_lock_blocks.specs.declared.slot.Slot.{Slot}
use Rattle.image_view.specs.Images.{block_at}
use Rattle.disk_locks.specs.Sure.{BothTold, Sure}
use Rattle.lock_store.specs.declared.answers.StepNo.{StepNo}
use Rattle.lock_store.specs.Views.{counter_of, host_at, key_at, keys_of, told_of}
use Rattle.lock_store.specs.SlotTries.{slot_by}
use Rattle.lock_store.specs.declared.answers.StepNo.TheVariants.{Fenced}
use Rattle.vol_layout.specs.declared.kind.Resource.{Resource}
use Rattle.watch.specs.declared.watch.Look.{Look}
use Rattle.host_facts.specs.Views.{WorldView}
use Rattle.host_notes.specs.Asked.{claim_call}
use Rattle.plan_parts.specs.Cuts.{IsCutBy}
use Rattle.plan_parts.specs.QuietCalls.{QuietCall}
use Rattle.plan_parts.specs.Steps.{IsReady}
use Rattle.recover_plan.specs.KnownTables.{KeepsTables}
use Rattle.recover_plan.specs.RecoverNotes.{GoingNoted, Recovers, StageNoted}
use Rattle.recover_plan.specs.Stages.{AreFewer, StandsBehind}
use Rattle.recover_plan.specs.declared.replay.Going.{Going}
use Rattle.recover_plan.specs.declared.replay.Going.TheVariants.{Found, More, Ready}
use Rattle.recover_plan.specs.declared.replay.Replay.{Replay}
use Rattle.recover_plan.specs.declared.replay.Replay.TheVariants.{Claim, Fence, FenceBy}

-- a claim that found another slot is the call that shows it
abbrev pub IsShownBy : ℕ → ℕ → WorldView → Event → Going → Type 0
IsShownBy h of v e (Found from found) = e ≡ event (key_at v.locks h) (claim_call v.locks h of from) (Shows (slot_bytes found))
IsShownBy h of v e going = Unit {0}

-- the step goes on, or is the last one
abbrev pub IsTaken : Going → Type 0
IsTaken (Found from found) = ⊥
IsTaken going = Unit {0}

-- where the device tells its content, this slot stands there
abbrev pub IsThere : WorldView → ℕ → ℕ → Slot → Type 0
IsThere v h of slot = Sure v.locks h (λ image. block_at v.locks.geometry image (kinds.Slot of) ≡ slot_bytes slot)

-- the slots of all hosts but one are as before
abbrev pub SlotsStay : WorldView → WorldView → ℕ → Type 0
SlotsStay v w of =
    BothTold (told_of v.locks) (told_of w.locks)
    (λ i j. (y : ℕ) → y < v.locks.geometry.hosts → y ≢ of
    → block_at v.locks.geometry j (kinds.Slot y) ≡ block_at v.locks.geometry i (kinds.Slot y))

-- it stands there, and another host recovers it, if any does
pub record IsMet (v : WorldView) (h of : ℕ) (slot : Slot) : Type 0 where
  pub there : IsThere v h of slot
  pub other : slot_by slot ≢ key_at v.locks h

-- the slot from which the claim is to be made stands there; while keys are to be taken off, none of them is the own one
abbrev pub SeesSlot : WorldView → ℕ → ℕ → Replay → Type 0
SeesSlot v h of (Fence slot) = IsMet v h of slot
SeesSlot v h of (FenceBy slot) = IsMet v h of slot
SeesSlot v h of (Claim slot) = IsThere v h of slot
SeesSlot v h of stage = Unit {0}

-- behind a step, too; and then a claim finds another slot only where the device tells nothing
abbrev pub SeesBehind : WorldView → ℕ → ℕ → Going → Type 0
SeesBehind w h of (More stage) = SeesSlot w h of stage
SeesBehind w h of (Found from found) = IsThere w h of found × (told_of w.locks ≡ None)
SeesBehind w h of (Ready dead) = Unit {0}

-- the host's key is registered
abbrev pub HasKey : WorldView → ℕ → Type 0
HasKey v h = Contains (keys_of v.locks) (key_at v.locks h)

-- the host holds and reads what it held and read
pub record KeepsLocks (h : ℕ) (v w : WorldView) : Type 0 where
  pub held : (r : Resource) → holds (host_at w.locks h) r ≡ holds (host_at v.locks h) r
  pub read : (r : Resource) → reads (host_at w.locks h) r ≡ reads (host_at v.locks h) r

-- one call was made: quiet in each command that recovers the slot; it shows no block where the slot is not claimed, but where the claim
-- found another one; it makes no slot live, and leaves the slots of other hosts. What comes next stands, with fewer steps left. The host
-- keeps its key, its holds and its reads, knows still which keys the device gave and what its tables are, and sees the slot still that it
-- is to claim; its key is registered, where the slot was seen; and if it was ready for its next command, it is ready still
pub record Went (h of : ℕ) (v w : WorldView) (stage : Replay) (going : Going) : Type 0 where
  pub event : Event
  pub shown : IsShownBy h of v event going
  pub unshown : IsTaken going → claim_of (host_at v.locks h) of ≡ 0 → (block : List ℕ) → event.reply ≢ Shows block
  pub no_entry : (old : List ℕ) (key : Key)
      → SwapsKind v.locks.geometry (kinds.Slot of) old (slot_bytes (slots.Live key 0)) (Some event) → ⊥
  pub stands : StandsBehind w h of going
  pub fewer : AreFewer v.locks.geometry stage going
  pub key : key_at w.locks h ≡ key_at v.locks h
  pub counter : counter_of w.locks ≡ counter_of v.locks
  pub given : (key : ℕ) → Knows v h (Given key) → Knows w h (Given key)
  pub tables : KeepsTables h v w
  pub slots : SlotsStay v w of
  pub sees : SeesSlot v h of stage → SeesBehind w h of going
  pub registered : SeesSlot v h of stage → HasKey w h
  pub locks : KeepsLocks h v w
  pub ready : IsReady v h → IsReady w h
  pub quiet : (command : Command) (watch : List (Option Look)) (k : ℕ) → Recovers command h of
      → QuietCall command h v w event (StageNoted command h of watch k v stage) (GoingNoted command h of watch k w going)

-- a step is refused for want of a key only where the host's key is not registered
abbrev pub IsShut : WorldView → ℕ → StepNo → Type 0
IsShut v h why = why ≡ Fenced → HasKey v h → ⊥

-- the step was refused, and cuts each such command
pub record IsCutAt (h of : ℕ) (v w : WorldView) (stage : Replay) (why : StepNo) : Type 0 where
  pub cuts : (command : Command) (watch : List (Option Look)) (k : ℕ) → Recovers command h of
      → IsCutBy command h v w why (StageNoted command h of watch k v stage)
  pub shut : IsShut v h why
