-- How a job ends: it decides an outcome, and tells it.
use Rattle.std.specs.Prelude.{◌≡◌, ◌⊎◌, ℕ, List, Option}
use Rattle.std.specs.Io.KnownBytes.{Appends}
use Rattle.shared_disk.specs.Seen.{DiskSeen}
use Rattle.vol_base.specs.Faults.{Rose}
use Rattle.vol_io.specs.Writes.{AppendsFront}
use Rattle.jobs.specs.declared.outcome.Outcome.{Outcome}
use Rattle.jobs.specs.declared.status.Status.{Status}
use Rattle.jobs.specs.declared.status.Status.TheVariants as statuses
use Rattle.jobs.specs.Outcomes.{outcome_text, status_of}

-- a sink: the bytes that it took, where it tells them, how often it failed, and how often it took nothing of a piece
-- that is not empty
pub record SinkSeen : Type 0 where
  pub taken : Option (List ℕ)
  pub faults : ℕ
  pub refusals : ℕ

-- the sink failed, or took nothing of a piece that is not empty
abbrev pub HasFailed : SinkSeen → SinkSeen → Type 0
HasFailed before after = Rose before.faults after.faults ⊎ Rose before.refusals after.refusals

-- the whole text was written
pub record IsWritten (before after : SinkSeen) (outcome : Outcome) (status : Status) : Type 0 where
  pub ends : status ≡ status_of outcome
  pub text : Appends before.taken after.taken (outcome_text outcome)

-- the sink refused, behind a front of the text
pub record IsCutShort (before after : SinkSeen) (outcome : Outcome) (status : Status) : Type 0 where
  pub ends : status ≡ statuses.WriteFault
  pub text : AppendsFront before.taken after.taken (outcome_text outcome)
  pub cause : HasFailed before after

-- there was no memory for the text, and the sink is as before
pub record IsUnwritten (before after : SinkSeen) (status : Status) : Type 0 where
  pub ends : status ≡ statuses.Memory
  pub same : after ≡ before

-- an outcome is told: its text is written, or the sink refuses, or there is no memory for the text
abbrev pub IsTold : SinkSeen → SinkSeen → Outcome → Status → Type 0
IsTold before after outcome status =
    IsWritten before after outcome status ⊎ (IsCutShort before after outcome status ⊎ IsUnwritten before after status)

-- a job that decided an outcome of this kind and told it
pub record Ends (Decided : Outcome → Type 0) (before after : SinkSeen) (status : Status) : Type 0 where
  pub outcome : Outcome
  pub decided : Decided outcome
  pub told : IsTold before after outcome status

-- no call of the device and of the sink failed, and the sink took something of each piece that is not empty
pub record IsSmooth (old new : DiskSeen) (before after : SinkSeen) : Type 0 where
  pub disk : Rose old.faults new.faults → ⊥
  pub sink : HasFailed before after → ⊥
