-- How the job that settles a volume ends.
use Rattle.std.specs.Prelude.{◌≡◌, ◌⊎◌, ◌≤◌, ◌+◌, ◌++◌, ◌∷◌, [], ℕ, List, IfSome, IsNone, IsSomeAnd, Option, codes, decimal}
use Rattle.std.specs.Io.KnownBytes.{Appends}
use Rattle.call_effects.specs.Places.{KeepsFiles}
use Rattle.disk_locks.specs.Sure.{BothTold}
use Rattle.image_view.specs.declared.usage.Usage.{Usage}
use Rattle.image_view.specs.Usages.{usage_of}
use Rattle.image_view.specs.Valid.{IsVolume}
use Rattle.report.specs.Reports.{usage_line}
use Rattle.settle.specs.Passes.{Passes}
use Rattle.settle.specs.declared.lone.LoneNo.{LoneNo}
use Rattle.settle.specs.declared.lone.LoneNo.TheVariants as stops
use Rattle.settle.specs.declared.settling.Settled.{Settled}
use Rattle.shared_disk.specs.Calls.{last_counter}
use Rattle.shared_disk.specs.Seen.{DiskSeen}
use Rattle.shared_disk.specs.State.{State}
use Rattle.solo.specs.Settlings.{HasSettled}
use Rattle.vol_base.specs.Faults.{Rose}
use Rattle.jobs.specs.declared.outcome.Outcome.{Outcome}
use Rattle.jobs.specs.declared.outcome.Outcome.TheVariants as outcomes
use Rattle.jobs.specs.declared.outcome.VolumeNo.{VolumeNo}
use Rattle.jobs.specs.declared.outcome.VolumeNo.TheVariants as refusals
use Rattle.jobs.specs.declared.status.Status.{Status}
use Rattle.jobs.specs.declared.status.Status.TheVariants as statuses
use Rattle.jobs.specs.Checks.{FindsBlank, FindsFaults, IsCheckStatus, TellsVolume}
use Rattle.jobs.specs.Endings.{Ends, HasFailed, IsSmooth, SinkSeen}
use Rattle.jobs.specs.Outcomes.{refusal_text}

-- the two lines of a settled volume
abbrev pub settled_text : Settled → Usage → List ℕ
settled_text counts usage =
    codes "settled " ++ decimal counts.live ++ codes " " ++ decimal counts.distinct ++ 10 ∷ [] ++ (usage_line usage ++ 10 ∷ [])

-- the volume was valid; it is settled now, and the report says how much of it is live, different and used
pub record ReportsSettled (old new : State) (report : List ℕ) : Type 0 where
  pub counts : Settled
  pub usage : Usage
  pub text : report ≡ settled_text counts usage
  pub valid : TellsVolume old
  pub settled : IfSome new.told (λ told. HasSettled counts told.image)
  pub counted : IfSome new.told (λ told. usage ≡ usage_of told.image)

-- why a volume is refused: the check does not find it valid; no key is left, of which three come before the last; or, over a device that tells nothing alone, a block was not of its
-- kind, or a key of another host was met
abbrev pub SettleRefuses : State → State → VolumeNo → Type 0
SettleRefuses old new (refusals.Faults faults) = FindsFaults old new faults.items
SettleRefuses old new refusals.Blank = FindsBlank old new
SettleRefuses old new (refusals.NoKeys counter) = (counter ≡ last_counter) × (last_counter ≤ new.counter) × (last_counter ≤ old.counter + 3)
SettleRefuses old new (refusals.Busy key) = IsNone old.told
SettleRefuses old new (refusals.Misread place) = IsNone old.told

-- what the job decides; of a want of memory nothing is said
abbrev pub SettleDecides : DiskSeen → DiskSeen → Outcome → Type 0
SettleDecides old new (outcomes.Done report) = ReportsSettled old.state new.state report.items
SettleDecides old new (outcomes.Volume refusal) = SettleRefuses old.state new.state refusal
SettleDecides old new outcomes.DiskFault = Rose old.faults new.faults
SettleDecides old new outcomes.Memory = Unit {0}
SettleDecides old new outcome = ⊥

-- the sink took the two lines of a settled volume
pub record PrintsSettled (old new : State) (before after : Option (List ℕ)) : Type 0 where
  pub report : List ℕ
  pub settled : ReportsSettled old new report
  pub text : Appends before after report

-- the sink took the lines of a refusal
pub record PrintsUnsettled (old new : State) (before after : Option (List ℕ)) : Type 0 where
  pub refusal : VolumeNo
  pub refused : SettleRefuses old new refusal
  pub text : Appends before after (refusal_text refusal)

-- the device tells a valid volume, and its counter is not near its end: a key is given for the check, two for the host, and one for the survey
pub record IsToSettle (s : State) : Type 0 where
  pub valid : IsSomeAnd s.told (λ told. IsVolume s.counter told.image)
  pub keys : s.counter + 4 ≤ last_counter

-- it ends with this status
pub record SettleEnds (old new : DiskSeen) (before after : SinkSeen) (status : Status) : Type 0 where
  -- an outcome is decided, and then told
  pub ends : Ends (SettleDecides old new) before after status
  -- so each status has its cause
  pub among : IsCheckStatus status
  pub ok : status ≡ statuses.Ok → PrintsSettled old.state new.state before.taken after.taken
  pub volume : status ≡ statuses.Volume → PrintsUnsettled old.state new.state before.taken after.taken
  pub disk_fault : status ≡ statuses.DiskFault → Rose old.faults new.faults
  pub write_fault : status ≡ statuses.WriteFault → HasFailed before after
  -- whatever the status, no file changed; and from a valid volume on each image on the way is one, with the files of the first
  pub files : BothTold old.state.told new.state.told KeepsFiles
  pub images : Passes old.state new.state
  -- without a fault a valid volume is settled, where memory serves
  pub complete : IsToSettle old.state → IsSmooth old new before after → (status ≡ statuses.Ok) ⊎ (status ≡ statuses.Memory)

-- what the refusal of a host that is alone comes to
abbrev pub refused_as : LoneNo → Outcome
refused_as stops.Failed = outcomes.DiskFault
refused_as (stops.Bad place) = outcomes.Volume (refusals.Misread place)
refused_as (stops.Busy key) = outcomes.Volume (refusals.Busy key)
refused_as stops.NoKeys = outcomes.Volume (refusals.NoKeys last_counter)
refused_as other = outcomes.Memory

-- what the survey of a settled volume decides
abbrev pub Concludes : DiskSeen → DiskSeen → Settled → Outcome → Type 0
Concludes old new counts (outcomes.Done report) =
    (usage : Usage) × (report.items ≡ settled_text counts usage) × IfSome new.state.told (λ told. usage ≡ usage_of told.image)
Concludes old new counts (outcomes.Volume (refusals.NoKeys counter)) = (counter ≡ last_counter) × (old.state.counter ≡ last_counter)
Concludes old new counts (outcomes.Volume (refusals.Misread place)) = IsNone old.state.told
Concludes old new counts outcomes.DiskFault = Rose old.faults new.faults
Concludes old new counts outcomes.Memory = Unit {0}
Concludes old new counts outcome = ⊥
