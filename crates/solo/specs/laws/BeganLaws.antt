-- What holds of a host since it began.
use Rattle.std.proofs.Common.{◌≤◌, ℕ, Some, ap, arith, sym, ◌∙◌}
use Rattle.held_cache.specs.Kept.{Cache}
use Rattle.host_facts.specs.Views.{WorldView}
use Rattle.host_facts.specs.Wrote.{FilesStay}
use Rattle.lock_store.specs.Views.{told_of}
use Rattle.lock_store.specs.declared.answers.StepNo.{StepNo}
use Rattle.lock_store.specs.declared.answers.StepNo.TheVariants as steps
use Rattle.shared_disk.specs.Seen.{DiskSeen}
use Rattle.shared_disk.specs.State.{State}
use Rattle.share_plans.specs.declared.sharing.Place.{Place}
use Rattle.solo.specs.Alone.{LeavesDevice}
use Rattle.solo.specs.Shares.{HasStopped}
use Rattle.solo.specs.Stops.{HasCause, IsCause, refusal_of}
use Rattle.solo.specs.Views.{IsInOrder, IsSince}
use Rattle.settle.specs.declared.lone.LoneNo.{LoneNo}
use Rattle.settle.specs.declared.lone.LoneNo.TheVariants as refusals
use Rattle.solo.specs.laws.AloneLaws.{none_before}
use Rattle.solo.specs.laws.OwnCalls.{risen}

pub later_here : (d : DiskSeen) → IsSince d d
later_here d = record { faults = omega arith; tells = λ none. none }

pub later_then : (a b c : DiskSeen) → IsSince a b → IsSince b c → IsSince a c
later_then a b c first last =
    record { faults = let x = first.faults in let y = last.faults in omega (arith, x, y); tells = λ none. first.tells (last.tells none) }

-- where no file changed, a device that tells nothing told nothing before
pub later_files : (v w : WorldView) → v.locks.disk.faults ≤ w.locks.disk.faults → FilesStay v w → IsSince v.locks.disk w.locks.disk
later_files v w faults stay = record {
  faults = faults;
  tells = λ none. none_before (told_of v.locks) (told_of w.locks) stay none;
}

pub later_same : (v w : WorldView) → LeavesDevice v w → IsSince v.locks.disk w.locks.disk
later_same v w same = record { faults = same.later; tells = λ none. sym (ap (λ (s : State). s.told) same.state) ∙ none }

-- what stopped a call has its cause since the beginning
pub refusal_since : (began old new : DiskSeen) (why : LoneNo) → IsSince began old → HasCause old new why → HasCause began new why
refusal_since began old new refusals.Failed later cause = risen began.faults old.faults new.faults later.faults cause
refusal_since began old new refusals.Full later cause = cause
refusal_since began old new (refusals.Bad place) later cause = later.tells cause
refusal_since began old new (refusals.Busy key) later cause = later.tells cause
refusal_since began old new refusals.NoKeys later cause = cause
refusal_since began old new refusals.NoMemory later cause = tt

-- a host that was stopped by a call
pub stopped_since : (began : DiskSeen) (v w : WorldView) (c : Cache) (why : LoneNo) → IsSince began v.locks.disk → IsSince v.locks.disk w.locks.disk
    → HasCause v.locks.disk w.locks.disk why → IsInOrder w c began (Some why)
stopped_since began v w c why first last cause = record {
  later = later_then began v.locks.disk w.locks.disk first last;
  ready = refusal_since began v.locks.disk w.locks.disk why first cause;
}

-- the cause of a step's refusal is that of the call
cause_of : (v w : WorldView) (why : StepNo) → IsCause v w why → HasCause v.locks.disk w.locks.disk (refusal_of why)
cause_of v w steps.Fenced cause = absurd cause
cause_of v w steps.Failed cause = cause
cause_of v w (steps.Bad place) cause = cause
cause_of v w steps.NoMemory cause = tt

-- a host whose share was refused
pub refused_since : (began : DiskSeen) (v w : WorldView) (c : Cache) (f i : ℕ) (source : Place) (why : StepNo) → IsSince began v.locks.disk
    → HasStopped v w f i source why → IsInOrder w c began (Some (refusal_of why))
refused_since began v w c f i source why later stopped =
    stopped_since began v w c (refusal_of why) later (later_files v w stopped.later.faults stopped.later.files) (cause_of v w why stopped.cause)
