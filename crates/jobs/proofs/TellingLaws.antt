-- What a status says of the outcome that was told.
use Rattle.std.proofs.Common.{◌≡◌, ◌⊎◌, ◌∙◌, inl, inr, sym, subst}
use Rattle.jobs.specs.declared.outcome.AfterRun.TheVariants as after_runs
use Rattle.jobs.specs.declared.outcome.Outcome.{Outcome}
use Rattle.jobs.specs.declared.outcome.Outcome.TheVariants as outcomes
use Rattle.jobs.specs.declared.status.Status.{Status}
use Rattle.jobs.specs.declared.status.Status.TheVariants as statuses
use Rattle.jobs.specs.Endings.{HasFailed, IsCutShort, IsWritten, SinkSeen, IsTold}
use Rattle.jobs.specs.Outcomes.{status_of}

-- a sink that does not refuse lets an outcome come to its status, where memory serves
pub told_quietly : (before after : SinkSeen) (outcome : Outcome) (status : Status)
    → (HasFailed before after → ⊥) → IsTold before after outcome status → (status ≡ status_of outcome) ⊎ (status ≡ statuses.Memory)
told_quietly before after outcome status quiet (inl written) = inl written.ends
told_quietly before after outcome status quiet (inr (inl short)) = absurd (quiet short.cause)
told_quietly before after outcome status quiet (inr (inr unwritten)) = inr unwritten.ends

-- at other statuses than these two the whole text was written
pub written_of : (before after : SinkSeen) (outcome : Outcome) (status : Status)
    → (status ≡ statuses.WriteFault → ⊥) → (status ≡ statuses.Memory → ⊥) → IsTold before after outcome status → IsWritten before after outcome status
written_of before after outcome status not_cut told_some (inl written) = written
written_of before after outcome status not_cut told_some (inr (inl short)) = absurd (not_cut short.ends)
written_of before after outcome status not_cut told_some (inr (inr unwritten)) = absurd (told_some unwritten.ends)

abbrev IsWriteFault : Status → Type 0
IsWriteFault statuses.WriteFault = Unit {0}
IsWriteFault status = ⊥

-- no outcome has the status WriteFault
not_decided : (outcome : Outcome) → IsWriteFault (status_of outcome) → ⊥
not_decided (outcomes.Unsurveyed report after_runs.DiskFault) is = is
not_decided (outcomes.Unsurveyed report (after_runs.NoKeys counter)) is = is
not_decided (outcomes.Unsurveyed report (after_runs.Misread place)) is = is
not_decided _ is = is

-- so that behind it the sink refused
pub cut_of : (before after : SinkSeen) (outcome : Outcome) (status : Status)
    → IsTold before after outcome status → status ≡ statuses.WriteFault → IsCutShort before after outcome status
cut_of before after outcome status (inl written) is = absurd (not_decided outcome (subst IsWriteFault (sym is ∙ written.ends) tt))
cut_of before after outcome status (inr (inl short)) is = short
cut_of before after outcome status (inr (inr unwritten)) is = absurd (let e : statuses.WriteFault ≡ statuses.Memory = sym is ∙ unwritten.ends in cc)
