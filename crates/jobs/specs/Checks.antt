-- What the job that checks a volume decides.
use Rattle.std.specs.Prelude.{◌≡◌, ◌≢◌, ◌⊎◌, ◌+◌, ◌<◌, ◌^◌, ◌++◌, ◌∷◌, [], ℕ, List, IfSome, IsNone, IsSomeAnd, None, Option, codes}
use Rattle.std.specs.Io.KnownBytes.{Appends}
use Rattle.image_view.specs.declared.usage.Usage.{Usage}
use Rattle.image_view.specs.Images.{IsBlank}
use Rattle.image_view.specs.Usages.{usage_of}
use Rattle.image_view.specs.Valid.{IsVolume}
use Rattle.report.specs.Reports.{usage_line}
use Rattle.shared_disk.specs.Calls.{last_counter}
use Rattle.shared_disk.specs.State.{State}
use Rattle.vol_base.specs.Faults.{Rose}
use Rattle.shared_disk.specs.Visits.{IsVisiting, after_visit}
use Rattle.volume_faults.specs.declared.fault.Fault.{Fault}
use Rattle.vol_layout.specs.declared.geometry.Geometry.{Geometry}
use Rattle.volume_faults.specs.Faults.{AreFaults}
use Rattle.volume_faults.specs.ReadPlaces.{IsReadPlace}
use Rattle.jobs.specs.declared.outcome.Outcome.{Outcome}
use Rattle.jobs.specs.declared.outcome.Outcome.TheVariants as outcomes
use Rattle.jobs.specs.declared.outcome.VolumeNo.{VolumeNo}
use Rattle.jobs.specs.declared.outcome.VolumeNo.TheVariants as refusals
use Rattle.jobs.specs.declared.status.Status.{Status}
use Rattle.jobs.specs.declared.status.Status.TheVariants as statuses
use Rattle.shared_disk.specs.Seen.{DiskSeen}
use Rattle.jobs.specs.Outcomes.{refusal_text}

-- the two lines of a valid volume
abbrev pub valid_text : Usage → List ℕ
valid_text usage = codes "valid" ++ 10 ∷ [] ++ (usage_line usage ++ 10 ∷ [])

-- the counter under which a volume is checked: that behind the registration of the check
abbrev pub checked_counter : State → ℕ
checked_counter s = s.counter + 1

-- the image that the device tells, if any, is a valid volume
abbrev pub TellsVolume : State → Type 0
TellsVolume s = IfSome s.told (λ told. IsVolume (checked_counter s) told.image)

-- the report says how much of the image is used
pub record ReportsUsage (s : State) (report : List ℕ) : Type 0 where
  pub usage : Usage
  pub text : report ≡ valid_text usage
  pub counted : IfSome s.told (λ told. usage ≡ usage_of told.image)

-- the volume is valid, and two keys were registered and fenced
pub record FindsValid (old new : State) (report : List ℕ) : Type 0 where
  pub valid : TellsVolume old
  pub used : ReportsUsage old report
  pub left : new ≡ after_visit (after_visit old)

-- the volume is not blank and not valid, all its faults are listed, and one key was registered and fenced
pub record FindsFaults (old new : State) (faults : List Fault) : Type 0 where
  pub some : faults ≢ []
  pub all : IfSome old.told (λ told. AreFaults (checked_counter old) told.image faults)
  pub not_blank : IfSome old.told (λ told. IsBlank told.image → ⊥)
  pub not_valid : IfSome old.told (λ told. IsVolume (checked_counter old) told.image → ⊥)
  pub left : new ≡ after_visit old

-- the volume is blank, and one key was registered and fenced
pub record FindsBlank (old new : State) : Type 0 where
  pub blank : IfSome old.told (λ told. IsBlank told.image)
  pub left : new ≡ after_visit old

-- the registration of the check met the counter's end, or that of the survey of a valid volume did
pub record FindsNoKeys (s : State) (counter : ℕ) : Type 0 where
  pub last : counter ≡ last_counter
  pub met : (s.counter ≡ last_counter) ⊎ ((s.counter + 1 ≡ last_counter) × TellsVolume s)

-- a device that does not tell its image gave a block that is not of its kind, behind a check without a fault; the place
-- is one that is read of a volume
pub record FindsMisread (old new : State) (place : ℕ) : Type 0 where
  pub untold : IsNone old.told
  pub read : IsReadPlace None old.blocks place
  pub left : new ≡ after_visit (after_visit old)

-- why a check refuses a volume
abbrev pub CheckRefuses : State → State → VolumeNo → Type 0
CheckRefuses old new (refusals.Faults faults) = FindsFaults old new faults.items
CheckRefuses old new refusals.Blank = FindsBlank old new
CheckRefuses old new (refusals.NoKeys counter) = FindsNoKeys old counter
CheckRefuses old new (refusals.Busy key) = ⊥
CheckRefuses old new (refusals.Misread place) = FindsMisread old new place

-- what a check decides; of a want of memory nothing is said
abbrev pub CheckDecides : DiskSeen → DiskSeen → Outcome → Type 0
CheckDecides old new (outcomes.Done report) = FindsValid old.state new.state report.items
CheckDecides old new (outcomes.Unsurveyed report cause) = ⊥
CheckDecides old new outcomes.Usage = ⊥
CheckDecides old new (outcomes.Workload line cause) = ⊥
CheckDecides old new (outcomes.Volume refusal) = CheckRefuses old.state new.state refusal
CheckDecides old new outcomes.DiskFault = Rose old.faults new.faults
CheckDecides old new outcomes.ReadFault = ⊥
CheckDecides old new outcomes.Memory = Unit {0}
CheckDecides old new (outcomes.Geometry given found) = ⊥

-- the counter is at its end
pub record IsAtLast (s : State) (counter : ℕ) : Type 0 where
  pub last : counter ≡ last_counter
  pub met : s.counter ≡ last_counter

-- why a check refuses a volume at once, and what it decides of one that it does not find valid
abbrev pub JudgeRefuses : State → State → VolumeNo → Type 0
JudgeRefuses old new (refusals.Faults faults) = FindsFaults old new faults.items
JudgeRefuses old new refusals.Blank = FindsBlank old new
JudgeRefuses old new (refusals.NoKeys counter) = IsAtLast old counter
JudgeRefuses old new refusal = ⊥

abbrev pub JudgeDecides : DiskSeen → DiskSeen → Outcome → Type 0
JudgeDecides old new (outcomes.Volume refusal) = JudgeRefuses old.state new.state refusal
JudgeDecides old new outcomes.DiskFault = Rose old.faults new.faults
JudgeDecides old new outcomes.Memory = Unit {0}
JudgeDecides old new outcome = ⊥

-- a survey of a valid volume found its usage
pub record FindsUsage (old new : State) (report : List ℕ) : Type 0 where
  pub used : ReportsUsage old report
  pub left : new ≡ after_visit old

-- a device that does not tell its image gave a block that is not of its kind; the place is one that is read of a
-- volume of the expected geometry, or of any where none is expected
pub record FindsBad (expected : Option Geometry) (old new : State) (place : ℕ) : Type 0 where
  pub untold : IsNone old.told
  pub read : IsReadPlace expected old.blocks place
  pub left : new ≡ after_visit old

-- why a survey of a valid volume refuses it
abbrev pub SurveyRefuses : State → State → VolumeNo → Type 0
SurveyRefuses old new (refusals.Faults faults) = ⊥
SurveyRefuses old new refusals.Blank = ⊥
SurveyRefuses old new (refusals.NoKeys counter) = IsAtLast old counter
SurveyRefuses old new (refusals.Busy key) = ⊥
SurveyRefuses old new (refusals.Misread place) = FindsBad None old new place

-- what the survey of a valid volume decides
abbrev pub SurveyDecides : DiskSeen → DiskSeen → Outcome → Type 0
SurveyDecides old new (outcomes.Done report) = FindsUsage old.state new.state report.items
SurveyDecides old new (outcomes.Unsurveyed report cause) = ⊥
SurveyDecides old new outcomes.Usage = ⊥
SurveyDecides old new (outcomes.Workload line cause) = ⊥
SurveyDecides old new (outcomes.Volume refusal) = SurveyRefuses old.state new.state refusal
SurveyDecides old new outcomes.DiskFault = Rose old.faults new.faults
SurveyDecides old new outcomes.ReadFault = ⊥
SurveyDecides old new outcomes.Memory = Unit {0}
SurveyDecides old new (outcomes.Geometry given found) = ⊥

-- the device tells a valid volume, and its counter is not near its end
pub record IsReady (s : State) : Type 0 where
  pub valid : IsSomeAnd s.told (λ told. IsVolume s.counter told.image)
  pub keys : s.counter + 2 < 2 ^ 59

-- the sink took the two lines of a valid volume; two keys were registered and fenced
pub record PrintsValid (old new : State) (before after : Option (List ℕ)) : Type 0 where
  pub usage : Usage
  pub valid : TellsVolume old
  pub counted : IfSome old.told (λ told. usage ≡ usage_of told.image)
  pub text : Appends before after (valid_text usage)
  pub left : new ≡ after_visit (after_visit old)

-- the sink took the lines of a refusal
pub record PrintsRefusal (old new : State) (before after : Option (List ℕ)) : Type 0 where
  pub refusal : VolumeNo
  pub refused : CheckRefuses old new refusal
  pub text : Appends before after (refusal_text refusal)

-- one visit, or a whole one and then another; the last one may have been broken off
abbrev pub AreVisits : State → State → Type 0
AreVisits before after = IsVisiting before after ⊎ IsVisiting (after_visit before) after

-- the statuses with which a check ends
abbrev pub IsCheckStatus : Status → Type 0
IsCheckStatus statuses.Ok = Unit {0}
IsCheckStatus statuses.Usage = ⊥
IsCheckStatus statuses.Workload = ⊥
IsCheckStatus statuses.Volume = Unit {0}
IsCheckStatus statuses.DiskFault = Unit {0}
IsCheckStatus statuses.ReadFault = ⊥
IsCheckStatus statuses.WriteFault = Unit {0}
IsCheckStatus statuses.Memory = Unit {0}
IsCheckStatus statuses.Geometry = ⊥
