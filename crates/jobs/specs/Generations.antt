-- How the job that writes a generated workload ends.
use Rattle.std.specs.Prelude.{◌≡◌, ◌⊎◌, ℕ}
use Rattle.std.specs.Io.KnownBytes.{Appends}
use Rattle.gen_load.specs.Generated.{generated}
use Rattle.jobs.specs.declared.outcome.Outcome.{Outcome}
use Rattle.jobs.specs.declared.outcome.Outcome.TheVariants as outcomes
use Rattle.jobs.specs.declared.status.Status.{Status}
use Rattle.jobs.specs.declared.status.Status.TheVariants as statuses
use Rattle.jobs.specs.Endings.{Ends, HasFailed, SinkSeen}

-- it decides the text of so many rounds, or meets want of memory
abbrev pub GenDecides : ℕ → Outcome → Type 0
GenDecides rounds (outcomes.Done text) = text.items ≡ generated rounds
GenDecides rounds outcomes.Memory = Unit {0}
GenDecides rounds outcome = ⊥

-- the statuses with which it ends
abbrev pub IsGenStatus : Status → Type 0
IsGenStatus statuses.Ok = Unit {0}
IsGenStatus statuses.WriteFault = Unit {0}
IsGenStatus statuses.Memory = Unit {0}
IsGenStatus status = ⊥

-- it ends with this status
pub record GenEnds (rounds : ℕ) (before after : SinkSeen) (status : Status) : Type 0 where
  -- an outcome is decided, and then told
  pub ends : Ends (GenDecides rounds) before after status
  -- so each status has its cause
  pub among : IsGenStatus status
  pub ok : status ≡ statuses.Ok → Appends before.taken after.taken (generated rounds)
  pub write_fault : status ≡ statuses.WriteFault → HasFailed before after
  -- a sink that serves has the whole text, where memory serves
  pub complete : (HasFailed before after → ⊥) → (status ≡ statuses.Ok) ⊎ (status ≡ statuses.Memory)
