-- How the job ends that runs a workload.
use Rattle.std.specs.Prelude.{◌≡◌, ◌⊎◌, ◌+◌, ◌++◌, ◌∷◌, [], ℕ, Err, IsSomeAnd, List, Ok, Result, codes}
use Rattle.std.specs.Io.KnownBytes.{Appends}
use Rattle.shared_disk.specs.Prefixes.{EachImage}
use Rattle.shared_disk.specs.Seen.{DiskSeen}
use Rattle.vol_base.specs.Faults.{Rose}
use Rattle.vol_io.specs.Writes.{AppendsFront}
use Rattle.volume_opening.specs.Openings.{IsOnTheWay}
use Rattle.volume_opening.specs.declared.open_no.OpenNo.{OpenNo}
use Rattle.workload.specs.declared.cause.WorkloadNo.{WorkloadNo}
use Rattle.workload.specs.declared.line.Workload.{Workload}
use Rattle.workload.specs.Grammar.{Refusal, most_bytes, workload_of}
use Rattle.cluster.specs.Starts.{HasRefused}
use Rattle.jobs.specs.declared.outcome.AfterRun.{AfterRun}
use Rattle.jobs.specs.declared.outcome.Outcome.{Outcome}
use Rattle.jobs.specs.declared.status.Status.{Status}
use Rattle.jobs.specs.declared.status.Status.TheVariants as statuses
use Rattle.jobs.specs.Endings.{HasFailed, IsSmooth}
use Rattle.jobs.specs.Outcomes.{outcome_text, status_of, survey_status, survey_text, workload_line}
use Rattle.jobs.specs.Runs.{HasSomeRun, IsDone, IsFitFor, IsRefusable, IsUnfit, IsUnsurveyed, RunDecides, Schedule, unopened}
use Rattle.jobs.specs.Seen.{Seen}
use Rattle.jobs.specs.Sources.{IsRead, IsRefusedText, SourceSeen, StopsReading, TakesAtMost}

-- no workload was read, and the device was not touched
pub record IsStopped (from to : SourceSeen) (old new : DiskSeen) (outcome : Outcome) : Type 0 where
  pub stops : StopsReading from to outcome
  pub untouched : new ≡ old

-- a workload was read, and this is what its run by this schedule decided
pub record IsRun (schedule : Schedule) (from to : SourceSeen) (old new : DiskSeen) (outcome : Outcome) : Type 0 where
  pub workload : Workload
  pub read : IsRead from to workload
  pub decides : RunDecides workload schedule old new outcome

-- what the job decides
abbrev pub SimDecides : Schedule → SourceSeen → SourceSeen → DiskSeen → DiskSeen → Outcome → Type 0
SimDecides schedule from to old new outcome = IsStopped from to old new outcome ⊎ IsRun schedule from to old new outcome

-- the source was read to its end, its text is that of a workload that was run, and the sink took the report
pub record ReportsRun (schedule : Schedule) (before after : Seen) : Type 0 where
  pub workload : Workload
  pub read : IsRead before.source after.source workload
  pub report : List ℕ
  pub done : IsDone workload schedule before.disk after.disk report
  pub text : Appends before.sink.taken after.sink.taken report

-- the workload was run, and the survey behind it was refused; the report, without a usage, stands before the cause
pub record StopsAtSurvey (schedule : Schedule) (before after : Seen) (status : Status) : Type 0 where
  pub workload : Workload
  pub read : IsRead before.source after.source workload
  pub report : List ℕ
  pub cause : AfterRun
  pub is : survey_status cause ≡ status
  pub unsurveyed : IsUnsurveyed workload schedule before.disk after.disk report cause
  pub text : Appends before.sink.taken after.sink.taken (report ++ survey_text cause)

-- a workload was read, and the device was not opened for it
pub record RefusesDevice (before after : Seen) (status : Status) : Type 0 where
  pub workload : Workload
  pub read : IsRead before.source after.source workload
  pub cause : OpenNo
  pub is : status_of (unopened cause) ≡ status
  pub refused : HasRefused workload.geometry before.disk cause after.disk
  pub text : Appends before.sink.taken after.sink.taken (outcome_text (unopened cause))

-- the text is refused at this line for this cause
pub record RefusesText (before after : Seen) : Type 0 where
  pub line : ℕ
  pub cause : WorkloadNo
  pub refused : IsRefusedText before.source after.source line cause
  pub untouched : after.disk ≡ before.disk
  pub text : Appends before.sink.taken after.sink.taken (workload_line line cause)

-- the source failed
pub record FailsToRead (before after : Seen) : Type 0 where
  pub rose : Rose before.source.faults after.source.faults
  pub untouched : after.disk ≡ before.disk
  pub text : Appends before.sink.taken after.sink.taken (codes "read fault" ++ 10 ∷ [])

-- the sink refused, behind a front of the text of what was decided
pub record CutsShort (schedule : Schedule) (before after : Seen) : Type 0 where
  pub outcome : Outcome
  pub decided : SimDecides schedule before.source after.source before.disk after.disk outcome
  pub text : AppendsFront before.sink.taken after.sink.taken (outcome_text outcome)
  pub cause : HasFailed before.sink after.sink

-- the cause of each status. Want of memory is the free answer: nothing was written then, and of the device the field `images` below
-- tells
abbrev pub CauseOf : Schedule → Seen → Seen → Status → Type 0
CauseOf schedule before after statuses.Ok = ReportsRun schedule before after
CauseOf schedule before after statuses.Usage = ⊥
CauseOf schedule before after statuses.Workload = RefusesText before after
CauseOf schedule before after statuses.Volume = RefusesDevice before after statuses.Volume ⊎ StopsAtSurvey schedule before after statuses.Volume
CauseOf schedule before after statuses.DiskFault = RefusesDevice before after statuses.DiskFault ⊎ StopsAtSurvey schedule before after statuses.DiskFault
CauseOf schedule before after statuses.ReadFault = FailsToRead before after
CauseOf schedule before after statuses.WriteFault = CutsShort schedule before after
CauseOf schedule before after statuses.Memory = Appends before.sink.taken after.sink.taken []
CauseOf schedule before after statuses.Geometry = RefusesDevice before after statuses.Geometry

-- a workload was read; its opening left the images as they may be on its way, or some run of it led to the content that is left
pub record LeavesImages (before after : Seen) : Type 0 where
  pub workload : Workload
  pub read : IsRead before.source after.source workload
  pub left : EachImage (IsOnTheWay workload.geometry before.disk.state.told) before.disk.state.told after.disk.state.told
      ⊎ HasSomeRun workload before.disk after.disk

-- the source tells a text that is read as this
abbrev pub GivesText : Seen → Result Workload Refusal → Type 0
GivesText before reading = IsSomeAnd before.source.left (λ text. workload_of text ≡ reading)

-- the statuses to which the others yield
abbrev pub IsYielding : Status → Type 0
IsYielding statuses.Ok = ⊥
IsYielding statuses.Usage = ⊥
IsYielding statuses.Workload = ⊥
IsYielding statuses.Volume = ⊥
IsYielding statuses.DiskFault = Unit {0}
IsYielding statuses.ReadFault = Unit {0}
IsYielding statuses.WriteFault = Unit {0}
IsYielding statuses.Memory = Unit {0}
IsYielding statuses.Geometry = ⊥

-- what is to be refused is refused, unless a call failed or memory was refused
pub record IsExact (before : Seen) (status : Status) : Type 0 where
  pub text : (refusal : Refusal) → GivesText before (Err refusal) → (status ≡ statuses.Workload) ⊎ IsYielding status
  pub volume : (workload : Workload) → GivesText before (Ok workload) → IsRefusable workload.geometry before.disk.state
      → (status ≡ statuses.Volume) ⊎ IsYielding status
  pub geometry : (workload : Workload) (given found : ℕ) → GivesText before (Ok workload)
      → IsUnfit workload.geometry before.disk.state given found → (status ≡ statuses.Geometry) ⊎ IsYielding status

-- the source tells the text of a workload, and the device is fit for it
pub record IsReadyToRun (before : Seen) : Type 0 where
  pub workload : Workload
  pub text : GivesText before (Ok workload)
  pub fit : IsFitFor workload before.disk.state

-- the job that runs a workload by this schedule ends with this status
pub record SimEnds (schedule : Schedule) (before after : Seen) (status : Status) : Type 0 where
  pub cause : CauseOf schedule before after status
  -- whatever the status, one byte more than a text may have is the most that the source gave
  pub taken : TakesAtMost (most_bytes + 1) before.source after.source
  -- the device is untouched, or its images are those of an opening or of a run
  pub images : (after.disk ≡ before.disk) ⊎ LeavesImages before after
  pub blocks : after.disk.state.blocks ≡ before.disk.state.blocks
  pub exact : IsExact before status
  -- without a fault a workload is run, where memory serves
  pub complete : IsReadyToRun before → (Rose before.source.faults after.source.faults → ⊥)
      → IsSmooth before.disk after.disk before.sink after.sink → (status ≡ statuses.Ok) ⊎ (status ≡ statuses.Memory)
