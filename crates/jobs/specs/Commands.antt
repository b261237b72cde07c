-- How the program ends, by its words.
use Rattle.std.specs.Prelude.{◌≡◌, ◌⊎◌, ℕ, List, Option, Some, None}
use Rattle.std.specs.Io.KnownBytes.{Appends}
use Rattle.shared_disk.specs.Seen.{DiskSeen}
use Rattle.vol_base.specs.Faults.{Rose}
use Rattle.jobs.specs.declared.outcome.Outcome.TheVariants as outcomes
use Rattle.jobs.specs.declared.status.Status.{Status}
use Rattle.jobs.specs.declared.status.Status.TheVariants as statuses
use Rattle.words.specs.Words.{hosts_of, job_of}
use Rattle.words.specs.declared.forms.Job.{Job}
use Rattle.words.specs.declared.forms.Job.TheVariants.{Sim, Run, Check, Settle, Gen}
use Rattle.words.specs.declared.line.LineNo.{LineNo}
use Rattle.words.specs.declared.line.LineNo.TheVariants as refusals
use Rattle.jobs.specs.Checks.{AreVisits, CheckDecides, IsCheckStatus, IsReady, PrintsRefusal, PrintsValid}
use Rattle.jobs.specs.Endings.{Ends, HasFailed, IsSmooth, IsTold, IsUnwritten, SinkSeen}
use Rattle.jobs.specs.Generations.{GenEnds}
use Rattle.jobs.specs.Outcomes.{outcome_text}
use Rattle.jobs.specs.Runs.{ByThreads, ByWords}
use Rattle.jobs.specs.Seen.{Seen}
use Rattle.jobs.specs.Settlings.{SettleEnds}
use Rattle.jobs.specs.Simulations.{SimEnds}

-- the job that checks a volume ends with this status
pub record CheckEnds (old new : DiskSeen) (before after : SinkSeen) (status : Status) : Type 0 where
  -- an outcome is decided, and then told
  pub ends : Ends (CheckDecides old new) before after status
  -- so each status has its cause
  pub among : IsCheckStatus status
  pub ok : status ≡ statuses.Ok → PrintsValid old.state new.state before.taken after.taken
  pub volume : status ≡ statuses.Volume → PrintsRefusal old.state new.state before.taken after.taken
  pub disk_fault : status ≡ statuses.DiskFault → Rose old.faults new.faults
  pub write_fault : status ≡ statuses.WriteFault → HasFailed before after
  -- whatever the status, the device holds what it held
  pub told : new.state.told ≡ old.state.told
  pub blocks : new.state.blocks ≡ old.state.blocks
  -- its keys are those that the visits of the check and of the survey leave
  pub visits : AreVisits old.state new.state
  -- without a fault a valid volume is found valid, where memory serves
  pub complete : IsReady old.state → IsSmooth old new before after → (status ≡ statuses.Ok) ⊎ (status ≡ statuses.Memory)

-- words that ask for a check: the source is untouched
pub record ChecksAlone (before after : Seen) (status : Status) : Type 0 where
  pub source : after.source ≡ before.source
  pub check : CheckEnds before.disk after.disk before.sink after.sink status

-- words that ask for a volume to be settled: the source is untouched
pub record SettlesAlone (before after : Seen) (status : Status) : Type 0 where
  pub source : after.source ≡ before.source
  pub settle : SettleEnds before.disk after.disk before.sink after.sink status

-- words that ask for a generated workload: source and device are untouched
pub record Generates (rounds : ℕ) (before after : Seen) (status : Status) : Type 0 where
  pub source : after.source ≡ before.source
  pub disk : after.disk ≡ before.disk
  pub gen : GenEnds rounds before.sink after.sink status

-- the statuses of words that are of no form
abbrev pub IsUsageStatus : Status → Type 0
IsUsageStatus statuses.Ok = ⊥
IsUsageStatus statuses.Usage = Unit {0}
IsUsageStatus statuses.Workload = ⊥
IsUsageStatus statuses.Volume = ⊥
IsUsageStatus statuses.DiskFault = ⊥
IsUsageStatus statuses.ReadFault = ⊥
IsUsageStatus statuses.WriteFault = Unit {0}
IsUsageStatus statuses.Memory = Unit {0}
IsUsageStatus statuses.Geometry = ⊥

-- words that are of no form end with this status: source and device are untouched
pub record UsageEnds (before after : Seen) (status : Status) : Type 0 where
  pub told : IsTold before.sink after.sink outcomes.Usage status
  pub among : IsUsageStatus status
  pub usage : status ≡ statuses.Usage → Appends before.sink.taken after.sink.taken (outcome_text outcomes.Usage)
  pub write_fault : status ≡ statuses.WriteFault → HasFailed before.sink after.sink
  pub source : after.source ≡ before.source
  pub disk : after.disk ≡ before.disk

-- words that give no line are refused: the usage is told for those of no form, and without memory nothing is written
abbrev pub IsRefused : LineNo → SinkSeen → SinkSeen → Status → Type 0
IsRefused refusals.Usage before after status = IsTold before after outcomes.Usage status
IsRefused refusals.NoMemory before after status = IsUnwritten before after status

-- a call without threads ends with this status, by the job that its words ask for; `run` is to it as words of no form
abbrev pub JobEnds : Option Job → List ℕ → Seen → Seen → Status → Type 0
JobEnds None hosts = UsageEnds
JobEnds (Some Sim) hosts = SimEnds (ByWords hosts)
JobEnds (Some Run) hosts = UsageEnds
JobEnds (Some Check) hosts = ChecksAlone
JobEnds (Some Settle) hosts = SettlesAlone
JobEnds (Some (Gen rounds)) hosts = Generates rounds

-- by the words behind its name
abbrev pub CommandEnds : List (List ℕ) → Seen → Seen → Status → Type 0
CommandEnds words = JobEnds (job_of words) (hosts_of words)

-- the program does that job too
abbrev pub ProgramEnds : Option Job → List ℕ → Seen → Seen → Status → Type 0
ProgramEnds (Some Run) hosts = SimEnds ByThreads
ProgramEnds job hosts = JobEnds job hosts

abbrev pub TopEnds : List (List ℕ) → Seen → Seen → Status → Type 0
TopEnds words = ProgramEnds (job_of words) (hosts_of words)
