-- What the job that runs a workload decides, once the workload is read.
use Rattle.std.specs.Prelude.{◌≡◌, ◌≢◌, ◌⊎◌, ◌+◌, ◌<◌, ◌≤◌, ◌^◌, ℕ, All, IfSome, IsSome, IsSomeAnd, List, Option, Some, None, false, length, map}
use Rattle.std.specs.List.{range_with_len}
use Rattle.vol_base.specs.declared.answer.Answer.{Answer}
use Rattle.vol_base.specs.Faults.{Rose}
use Rattle.vol_layout.specs.declared.geometry.Geometry.{Geometry}
use Rattle.vol_layout.specs.Ranges.{limit}
use Rattle.vol_layout.specs.Regions.{total}
use Rattle.shared_disk.specs.Calls.{last_counter}
use Rattle.shared_disk.specs.Prefixes.{EachImage}
use Rattle.shared_disk.specs.Seen.{DiskSeen}
use Rattle.shared_disk.specs.State.{OnImages, State}
use Rattle.shared_disk.specs.Visits.{IsVisiting, after_visit}
use Rattle.plain_files.specs.Plain.{Plain}
use Rattle.plain_files.specs.declared.history.Placed.{Placed}
use Rattle.workload.specs.declared.line.Workload.{Workload}
use Rattle.image_view.specs.Files.{image_file}
use Rattle.image_view.specs.Images.{Image, IsBlank}
use Rattle.image_view.specs.Usages.{usage_of}
use Rattle.image_view.specs.Valid.{IsValid}
use Rattle.image_view.specs.declared.usage.Usage.{Usage}
use Rattle.histories.specs.Fit.{Fits}
use Rattle.host_runs.specs.RunStates.{RunState, opening}
use Rattle.host_runs.specs.Runs.{AreIdle, Run, RunCall}
use Rattle.host_runs.specs.Tidy.{HasFreeSlots, IsComplete, IsTidy}
use Rattle.host_runs.specs.laws.FilesLaws.{IsLed}
use Rattle.report.specs.Reports.{report}
use Rattle.schedule.specs.Plays.{IsPlayed, Move, Place}
use Rattle.volume_opening.specs.Misfits.{misfit}
use Rattle.volume_opening.specs.Openings.{IsOnTheWay, IsOpened, IsVisited, WasBlank}
use Rattle.volume_opening.specs.declared.open_no.OpenNo.{OpenNo}
use Rattle.volume_opening.specs.declared.open_no.OpenNo.TheVariants as openings
use Rattle.cluster.specs.Runs.{Facts, IsIdle}
use Rattle.cluster.specs.Starts.{HasRefused}
use Rattle.cluster.specs.Views.{ClusterView, PartsView, disk_of}
use Rattle.jobs.specs.declared.outcome.AfterRun.{AfterRun}
use Rattle.jobs.specs.declared.outcome.AfterRun.TheVariants as after_runs
use Rattle.jobs.specs.declared.outcome.Outcome.{Outcome}
use Rattle.jobs.specs.declared.outcome.Outcome.TheVariants as outcomes
use Rattle.jobs.specs.declared.outcome.VolumeNo.TheVariants as refusals
use Rattle.jobs.specs.Beyond.{KeepsBeyond}
use Rattle.jobs.specs.Checks.{FindsBad, IsAtLast}

-- the files of an image of this geometry, as plain files; a blank image has none
abbrev pub files_of : Geometry → Image → Plain
files_of g image = record { limit = limit g; files = map (λ f. image_file image f) (range_with_len 0 g.files) }

-- the device was opened: a volume of this geometry is on it, and a key was registered and fenced. Each image on the way is the one
-- handed in, or, where that one is blank, one that is blank or formatted
pub record Opens (g : Geometry) (old new : DiskSeen) : Type 0 where
  pub keys : old.state.counter ≢ last_counter
  pub long : total g ≤ old.state.blocks
  pub opened : IsOpened g old.state new.state
  pub visited : IsVisited old.state new.state
  pub images : EachImage (IsOnTheWay g old.state.told) old.state.told new.state.told
  pub used : (WasBlank old.state.told → ⊥) → new.state.told ≡ old.state.told
  pub later : old.faults ≤ new.faults

-- what holds of every run, wherever it stands: answers and history fit the workload; and, where the device tells its content, the history
-- is legal from the files of the image handed in, the last image is valid and has the files that the history leaves, and each image
-- from the one handed in on has the files of a front of the history; and from the opening on nothing is written behind the volume's blocks
pub record IsOwed (w : Workload) (old opened : DiskSeen) (last : RunState) : Type 0 where
  pub opens : Opens w.geometry old opened
  pub fits : Fits w.lines last.answers last.history
  pub led : IfSome old.state.told (λ told. IsLed w (files_of w.geometry told.image) old.state.told last)
  pub beyond : OnImages (KeepsBeyond w.geometry) opened.state.told last.device.state.told

-- the image is blank, or has no slot that is not free
abbrev pub IsUnused : Geometry → Image → Type 0
IsUnused g image = IsBlank image ⊎ HasFreeSlots g image

-- a tidy workload, a device that tells an image without a host, and no fault of it until the last state
pub record IsTidyRun (w : Workload) (old last : DiskSeen) : Type 0 where
  pub tidy : IsTidy w.lines
  pub unused : IsSomeAnd old.state.told (λ told. IsUnused w.geometry told.image)
  pub quiet : Rose old.faults last.faults → ⊥

-- who makes the next turn: the words of a schedule and then rounds say it, or threads, in any order
pub data Schedule : Type 0 where
  ByWords : List ℕ → Schedule
  ByThreads : Schedule

-- the turns of a run are those of its schedule, from the opened device to its last state; of threads nothing is said
abbrev pub IsBy : Schedule → Workload → DiskSeen → RunState → Type 0
IsBy (ByWords hosts) w opened last =
    (moves : List Move) × (end : Place) × IsPlayed w (record { words = hosts; next = 0 }) (opening w opened) moves end last
IsBy ByThreads w opened last = Unit {0}

-- the run of a workload to its end
pub record IsRunOf (w : Workload) (schedule : Schedule) (old opened : DiskSeen) (last : RunState) : Type 0 where
  pub owed : IsOwed w old opened last
  -- calls of a run lead from the opened device to the last state, in which no host has a command left, in the last phase
  pub calls : List RunCall
  pub run : Run w (opening w opened) calls last
  pub by : IsBy schedule w opened last
  pub idle : AreIdle w last
  pub ended : w.phases ≤ last.phase + 1
  -- each line has an answer
  pub positions : length last.answers ≡ length w.lines
  pub answered : All (λ answer. IsSome answer) last.answers
  -- and one that serves it, where all is in order
  pub served : IsTidyRun w old last.device → IsComplete w.lines last.answers

-- the survey of the volume that a run left counted what of it is used, under a key that was registered and fenced, and
-- these bytes are the report with that usage
pub record IsReported (w : Workload) (answers : List (Option Answer)) (history : List Placed) (closed new : DiskSeen) (bytes : List ℕ) : Type 0 where
  pub usage : Usage
  pub text : bytes ≡ report w answers history (Some usage)
  pub counted : IfSome new.state.told (λ told. usage ≡ usage_of told.image)
  pub keys : closed.state.counter ≢ last_counter
  pub left : new.state ≡ after_visit closed.state

-- why the survey of a volume of this geometry gave no usage
abbrev pub IsUnsurveyedFor : Geometry → DiskSeen → DiskSeen → AfterRun → Type 0
IsUnsurveyedFor g closed new after_runs.DiskFault = (closed.state.counter ≢ last_counter) × Rose closed.faults new.faults
IsUnsurveyedFor g closed new (after_runs.NoKeys counter) = IsAtLast closed.state counter
IsUnsurveyedFor g closed new (after_runs.Misread place) = (closed.state.counter ≢ last_counter) × FindsBad (Some g) closed.state new.state place

-- the survey was refused for this cause, its visit may have been broken off, and these bytes are the report without a
-- usage
pub record IsReportedWithout (w : Workload) (answers : List (Option Answer)) (history : List Placed) (closed new : DiskSeen) (bytes : List ℕ)
    (cause : AfterRun) : Type 0 where
  pub text : bytes ≡ report w answers history None
  pub refused : IsUnsurveyedFor w.geometry closed new cause
  pub visiting : IsVisiting closed.state new.state

-- a cluster at the end of its run: its volume is valid, each line has an answer, and each entry is of a line
pub record HasEnded (v : PartsView) : Type 0 where
  pub valid : IfSome (disk_of v).state.told (λ told. IsValid v.workload.geometry (disk_of v).state.counter told.image)
  pub positions : length v.ledger.answers ≡ length v.workload.lines
  pub answered : All (λ answer. IsSome answer) v.ledger.answers
  pub placed : All (λ entry. entry.line < length v.workload.lines) v.ledger.history

-- a cluster whose hosts are all idle in the last phase, and which was refused no memory
pub record IsOver (c : ClusterView) : Type 0 where
  pub idle : IsIdle c.parts
  pub last : c.parts.workload.phases ≤ c.parts.phase + 1
  pub live : c.spent ≡ false
  pub facts : Facts c

-- what is decided behind the last line
abbrev pub Concludes : Workload → List (Option Answer) → List Placed → DiskSeen → DiskSeen → Outcome → Type 0
Concludes w answers history closed new (outcomes.Done report) = IsReported w answers history closed new report.items
Concludes w answers history closed new (outcomes.Unsurveyed report cause) = IsReportedWithout w answers history closed new report.items cause
Concludes w answers history closed new outcomes.Memory = IsVisiting closed.state new.state
Concludes w answers history closed new outcome = ⊥

-- these bytes are the report, or there was no memory for them
abbrev pub IsReportOr : List ℕ → Outcome → Type 0
IsReportOr bytes (outcomes.Done report) = report.items ≡ bytes
IsReportOr bytes outcomes.Memory = Unit {0}
IsReportOr bytes outcome = ⊥

-- these bytes are the report without a usage, for this cause, or there was no memory for them
abbrev pub IsReportWithoutOr : List ℕ → AfterRun → Outcome → Type 0
IsReportWithoutOr bytes cause (outcomes.Unsurveyed report given) = (report.items ≡ bytes) × (given ≡ cause)
IsReportWithoutOr bytes cause outcomes.Memory = Unit {0}
IsReportWithoutOr bytes cause outcome = ⊥

-- the workload was run, and these bytes are its report
pub record IsDone (w : Workload) (schedule : Schedule) (old new : DiskSeen) (bytes : List ℕ) : Type 0 where
  pub opened : DiskSeen
  pub last : RunState
  pub ran : IsRunOf w schedule old opened last
  pub reported : IsReported w last.answers last.history last.device new bytes

-- the workload was run, the survey was refused for this cause, and these bytes are the report without a usage
pub record IsUnsurveyed (w : Workload) (schedule : Schedule) (old new : DiskSeen) (bytes : List ℕ) (cause : AfterRun) : Type 0 where
  pub opened : DiskSeen
  pub last : RunState
  pub ran : IsRunOf w schedule old opened last
  pub reported : IsReportedWithout w last.answers last.history last.device new bytes cause

-- the device was opened, and some run of the workload has all that runs are owed; the content that is left is that of its last state
pub record HasSomeRun (w : Workload) (old new : DiskSeen) : Type 0 where
  pub opened : DiskSeen
  pub last : RunState
  pub owed : IsOwed w old opened last
  pub calls : List RunCall
  pub run : Run w (opening w opened) calls last
  pub left : new.state.told ≡ last.device.state.told

-- what an opening's refusal decides
abbrev pub unopened : OpenNo → Outcome
unopened (openings.Geometry given found) = outcomes.Geometry given found
unopened (openings.Faults faults) = outcomes.Volume (refusals.Faults faults)
unopened openings.NoKeys = outcomes.Volume (refusals.NoKeys last_counter)
unopened openings.Failed = outcomes.DiskFault
unopened openings.NoMemory = outcomes.Memory

-- the device was not opened, and this is decided for the cause
pub record IsUnopened (g : Geometry) (old new : DiskSeen) (outcome : Outcome) : Type 0 where
  pub cause : OpenNo
  pub is : outcome ≡ unopened cause
  pub refused : HasRefused g old cause new

-- what the run of a workload decides
abbrev pub RunDecides : Workload → Schedule → DiskSeen → DiskSeen → Outcome → Type 0
RunDecides w schedule old new (outcomes.Done report) = IsDone w schedule old new report.items
RunDecides w schedule old new (outcomes.Unsurveyed report cause) = IsUnsurveyed w schedule old new report.items cause
RunDecides w schedule old new outcomes.Memory = IsUnopened w.geometry old new outcomes.Memory ⊎ HasSomeRun w old new
RunDecides w schedule old new outcome = IsUnopened w.geometry old new outcome

-- the device tells an image on which the geometry does not fit, as these numbers say, and its counter is not at its end
pub record IsUnfit (g : Geometry) (s : State) (given found : ℕ) : Type 0 where
  pub keys : s.counter ≢ last_counter
  pub misfit : IsSomeAnd s.told (λ told. misfit g s.blocks told.image ≡ Some (given, found))

-- the image is blank, or a valid volume of this geometry
abbrev pub MayBegin : Geometry → ℕ → Image → Type 0
MayBegin g counter image = IsBlank image ⊎ IsValid g counter image

-- the geometry fits, but no run may begin on the image
pub record IsWrong (g : Geometry) (blocks counter : ℕ) (image : Image) : Type 0 where
  pub fits : misfit g blocks image ≡ None
  pub wrong : MayBegin g counter image → ⊥

-- the device gives no key, or tells an image that is wrong under the counter behind the opening's registration
abbrev pub IsRefusable : Geometry → State → Type 0
IsRefusable g s = (s.counter ≡ last_counter) ⊎ IsSomeAnd s.told (λ told. IsWrong g s.blocks (s.counter + 1) told.image)

-- the device tells an image on which the workload may begin, and has enough blocks, and keys for the opening, for each
-- line and for the survey
pub record IsFitFor (w : Workload) (s : State) : Type 0 where
  pub long : total w.geometry ≤ s.blocks
  pub content : IsSomeAnd s.told (λ told. MayBegin w.geometry s.counter told.image)
  pub keys : s.counter + length w.lines + 2 < 2 ^ 59
