-- The status and the text of each outcome.
use Rattle.std.specs.Prelude.{ℕ, List, [], ◌∷◌, ◌++◌, codes, decimal}
use Rattle.volume_faults.specs.declared.fault.FaultKind.TheVariants.{Spelling}
use Rattle.volume_faults.specs.Texts.{faults_text}
use Rattle.workload.specs.declared.cause.WorkloadNo.{WorkloadNo}
use Rattle.workload.specs.declared.cause.WorkloadNo.TheVariants as causes
use Rattle.jobs.specs.declared.outcome.AfterRun.{AfterRun}
use Rattle.jobs.specs.declared.outcome.AfterRun.TheVariants as after_runs
use Rattle.jobs.specs.declared.outcome.Outcome.{Outcome}
use Rattle.jobs.specs.declared.outcome.Outcome.TheVariants as outcomes
use Rattle.jobs.specs.declared.outcome.VolumeNo.{VolumeNo}
use Rattle.jobs.specs.declared.outcome.VolumeNo.TheVariants as refusals
use Rattle.jobs.specs.declared.status.Status.{Status}
use Rattle.jobs.specs.declared.status.Status.TheVariants as statuses

-- the status of a run whose survey was refused
abbrev pub survey_status : AfterRun → Status
survey_status after_runs.DiskFault = statuses.DiskFault
survey_status (after_runs.NoKeys counter) = statuses.Volume
survey_status (after_runs.Misread place) = statuses.Volume

-- the status of a job that decided this
abbrev pub status_of : Outcome → Status
status_of (outcomes.Done report) = statuses.Ok
status_of (outcomes.Unsurveyed report cause) = survey_status cause
status_of outcomes.Usage = statuses.Usage
status_of (outcomes.Workload line cause) = statuses.Workload
status_of (outcomes.Volume refusal) = statuses.Volume
status_of outcomes.DiskFault = statuses.DiskFault
status_of outcomes.ReadFault = statuses.ReadFault
status_of outcomes.Memory = statuses.Memory
status_of (outcomes.Geometry given found) = statuses.Geometry

-- why a workload's line is refused, in a word
abbrev pub cause_word : WorkloadNo → List ℕ
cause_word causes.Long = codes "long"
cause_word causes.Shape = codes "shape"
cause_word causes.Volume = codes "volume"
cause_word causes.Word = codes "word"
cause_word causes.Count = codes "count"
cause_word causes.Number = codes "number"
cause_word causes.Range = codes "range"
cause_word causes.Own = codes "own"
cause_word causes.Many = codes "many"

abbrev pub workload_line : ℕ → WorkloadNo → List ℕ
workload_line line cause = codes "workload line " ++ decimal line ++ codes ": " ++ cause_word cause ++ 10 ∷ []

abbrev pub keys_line : ℕ → List ℕ
keys_line counter = codes "volume keys " ++ decimal counter ++ 10 ∷ []

abbrev pub busy_line : ℕ → List ℕ
busy_line key = codes "volume busy " ++ decimal key ++ 10 ∷ []

abbrev pub geometry_line : ℕ → ℕ → List ℕ
geometry_line given found = codes "geometry " ++ decimal given ++ codes " " ++ decimal found ++ 10 ∷ []

-- a block that is not of its kind has the line of such a fault
abbrev pub spelling_line : ℕ → List ℕ
spelling_line place = faults_text (record { place = place; kind = Spelling } ∷ [])

abbrev pub disk_fault_line : List ℕ
disk_fault_line = codes "disk fault" ++ 10 ∷ []

-- why a volume is refused
abbrev pub refusal_text : VolumeNo → List ℕ
refusal_text (refusals.Faults faults) = faults_text faults.items
refusal_text refusals.Blank = codes "volume block 0: blank" ++ 10 ∷ []
refusal_text (refusals.NoKeys counter) = keys_line counter
refusal_text (refusals.Busy key) = busy_line key.0
refusal_text (refusals.Misread place) = spelling_line place

-- why a survey was refused
abbrev pub survey_text : AfterRun → List ℕ
survey_text after_runs.DiskFault = disk_fault_line
survey_text (after_runs.NoKeys counter) = keys_line counter
survey_text (after_runs.Misread place) = spelling_line place

-- the whole text of an outcome
abbrev pub outcome_text : Outcome → List ℕ
outcome_text (outcomes.Done report) = report.items
outcome_text (outcomes.Unsurveyed report cause) = report.items ++ survey_text cause
outcome_text outcomes.Usage = codes "usage: dede VOLUME JOB [ARGS]" ++ 10 ∷ []
outcome_text (outcomes.Workload line cause) = workload_line line cause
outcome_text (outcomes.Volume refusal) = refusal_text refusal
outcome_text outcomes.DiskFault = disk_fault_line
outcome_text outcomes.ReadFault = codes "read fault" ++ 10 ∷ []
outcome_text outcomes.Memory = []
outcome_text (outcomes.Geometry given found) = geometry_line given found
