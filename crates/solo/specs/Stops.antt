-- Why a call of a lone host stopped.
use Rattle.std.specs.Prelude.{◌≡◌, ◌≤◌, ◌+◌, None}
use Rattle.solo.specs.Alone.{LeavesDevice}
use Rattle.vol_base.specs.Faults.{Rose}
use Rattle.lock_store.specs.declared.answers.StepNo.{StepNo}
use Rattle.lock_store.specs.declared.answers.StepNo.TheVariants as steps
use Rattle.lock_store.specs.Views.{told_of}
use Rattle.shared_disk.specs.Seen.{DiskSeen}
use Rattle.shared_disk.specs.declared.answers.DiskNo.{DiskNo}
use Rattle.shared_disk.specs.declared.answers.DiskNo.TheVariants as disk
use Rattle.host_facts.specs.Views.{WorldView}
use Rattle.settle.specs.declared.lone.LoneNo.{LoneNo}
use Rattle.settle.specs.declared.lone.LoneNo.TheVariants as refusals

-- the refusal of a call by that of its last step
abbrev pub refusal_of : StepNo → LoneNo
refusal_of steps.Fenced = refusals.Failed
refusal_of steps.Failed = refusals.Failed
refusal_of (steps.Bad place) = refusals.Bad place
refusal_of steps.NoMemory = refusals.NoMemory

-- and by that of the device
abbrev pub refusal_by : DiskNo → LoneNo
refusal_by disk.Fenced = refusals.Failed
refusal_by disk.Failed = refusals.Failed
refusal_by disk.NoKeys = refusals.NoKeys
refusal_by disk.NoMemory = refusals.NoMemory

-- the cause of a step's refusal, by the world at the beginning of the call and at its end: the device failed, or tells nothing where a
-- block is not of its kind; the host's key is never taken off
abbrev pub IsCause : WorldView → WorldView → StepNo → Type 0
IsCause v w steps.Fenced = ⊥
IsCause v w steps.Failed = Rose v.locks.disk.faults w.locks.disk.faults
IsCause v w (steps.Bad place) = told_of v.locks ≡ None
IsCause v w steps.NoMemory = Unit {0}

-- the same by the refusal of the call; a key of another host is met only where the device tells nothing. No key is asked for, and a full
-- volume stops no host
abbrev pub HasCause : DiskSeen → DiskSeen → LoneNo → Type 0
HasCause old new refusals.Failed = Rose old.faults new.faults
HasCause old new (refusals.Bad place) = old.state.told ≡ None
HasCause old new (refusals.Busy key) = old.state.told ≡ None
HasCause old new refusals.NoKeys = ⊥
HasCause old new refusals.Full = ⊥
HasCause old new refusals.NoMemory = Unit {0}

-- a step was refused: one call was made, which left the device as it was
pub record IsCutOff (v w : WorldView) (why : StepNo) : Type 0 where
  pub untouched : LeavesDevice v w
  pub few : w.locks.disk.calls ≤ v.locks.disk.calls + 1
  pub cause : IsCause v w why
