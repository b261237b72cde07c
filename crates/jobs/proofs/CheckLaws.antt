-- What a check decides.
use Rattle.std.proofs.Common.{◌≡◌, ◌⊎◌, ◌+◌, ℕ, List, Option, Some, None, IsNone, IsSomeAnd, IfSome, inl, inr, refl, sym, subst, ◌∙◌, arith}
use Rattle.std.specs.Io.KnownBytes.{Appends}
use Rattle.std.proofs.lemmas.Bool.{false≢true}
use Rattle.std.proofs.lemmas.Slice.Eq.{bytes_eq-Decides}
use Rattle.image_view.specs.laws.GeometryLaws.{not_blank}
use Rattle.image_view.specs.Images.{Image, IsBlank, first_block, geometry_of}
use Rattle.image_view.specs.Valid.{IsVolume}
use Rattle.image_view.specs.laws.ValidLaws.{IsValid-later}
use Rattle.shared_disk.specs.State.{State, Told}
use Rattle.vol_base.specs.Bytes.{zeros}
use Rattle.vol_base.specs.Faults.{Rose}
use Rattle.jobs.specs.declared.outcome.Outcome.{Outcome}
use Rattle.jobs.specs.declared.outcome.Outcome.TheVariants as outcomes
use Rattle.jobs.specs.declared.outcome.VolumeNo.{VolumeNo}
use Rattle.jobs.specs.declared.outcome.VolumeNo.TheVariants as refusals
use Rattle.jobs.specs.declared.status.Status.{Status}
use Rattle.jobs.specs.declared.status.Status.TheVariants as statuses
use Rattle.jobs.specs.Checks.{AreVisits, CheckDecides, CheckRefuses, IsCheckStatus, IsReady, PrintsRefusal, PrintsValid}
use Rattle.shared_disk.specs.Seen.{DiskSeen}
use Rattle.jobs.specs.Commands.{CheckEnds}
use Rattle.jobs.specs.Endings.{Ends, HasFailed, IsSmooth, SinkSeen, IsTold}
use Rattle.jobs.specs.Outcomes.{outcome_text, status_of}
use Rattle.jobs.proofs.TellingLaws.{cut_of, told_quietly, written_of}

-- what is told is not what contradicts it
pub contradicted : (o : Option Told) (P Q : Told → Type 0) → ((t : Told) → P t → Q t → ⊥) → IsSomeAnd o P → IfSome o Q → ⊥
contradicted (Some t) P Q clash is other = clash t is other
contradicted None P Q clash is other = absurd is

pub untold : (o : Option Told) (P : Told → Type 0) → IsSomeAnd o P → IsNone o → ⊥
untold (Some t) P is none = false≢true (sym none)
untold None P is none = absurd is

-- a valid volume is valid under the next counter
pub valid_next : (counter : ℕ) (image : Image) → IsVolume counter image → IsVolume (counter + 1) image
valid_next counter image valid = IsValid-later (geometry_of image) counter (counter + 1) image (omega arith) valid

-- a valid volume is not blank
pub valid_is_not_blank : (counter : ℕ) (image : Image) → IsVolume counter image → IsBlank image → ⊥
valid_is_not_blank counter image valid blank =
    false≢true (sym (not_blank (geometry_of image) image valid.geometry) ∙ (bytes_eq-Decides (first_block image) (zeros 4096)).1 blank)

-- a check does not refuse a volume on a device that is ready
ready_not_refused : (s new : State) (refusal : VolumeNo) → IsReady s → CheckRefuses s new refusal → ⊥
ready_not_refused s new (refusals.Faults faults) ready h =
    contradicted s.told _ _ (λ t valid invalid. invalid (valid_next s.counter t.image valid)) ready.valid h.not_valid
ready_not_refused s new refusals.Blank ready h =
    contradicted s.told _ _ (λ t valid blank. valid_is_not_blank s.counter t.image valid blank) ready.valid h.blank
ready_not_refused s new (refusals.NoKeys counter) ready h =
    let keys = ready.keys in
    elim h.met [ inl at ↦ absurd (omega (arith, at, keys)) | inr next ↦ let at = next.0 in absurd (omega (arith, at, keys)) ]
ready_not_refused s new (refusals.Busy key) ready h = h
ready_not_refused s new (refusals.Misread place) ready h = untold s.told _ ready.valid h.untold

-- on such a device a check without a fault finds the volume valid, or has no memory
ready_decides : (old new : DiskSeen) (outcome : Outcome)
    → IsReady old.state → (Rose old.faults new.faults → ⊥) → CheckDecides old new outcome
    → (status_of outcome ≡ statuses.Ok) ⊎ (status_of outcome ≡ statuses.Memory)
ready_decides old new (outcomes.Done report) ready quiet h = inl refl
ready_decides old new (outcomes.Unsurveyed report cause) ready quiet h = absurd h
ready_decides old new outcomes.Usage ready quiet h = absurd h
ready_decides old new (outcomes.Workload line cause) ready quiet h = absurd h
ready_decides old new (outcomes.Volume refusal) ready quiet h = absurd (ready_not_refused old.state new.state refusal ready h)
ready_decides old new outcomes.DiskFault ready quiet h = absurd (quiet h)
ready_decides old new outcomes.ReadFault ready quiet h = absurd h
ready_decides old new outcomes.Memory ready quiet h = inr refl
ready_decides old new (outcomes.Geometry given found) ready quiet h = absurd h

check_completes : (old new : DiskSeen) (before after : SinkSeen) (status : Status)
    → Ends (CheckDecides old new) before after status
    → IsReady old.state → IsSmooth old new before after
    → (status ≡ statuses.Ok) ⊎ (status ≡ statuses.Memory)
check_completes old new before after status ends ready smooth =
    elim (told_quietly before after ends.outcome status smooth.sink ends.told) [
      | inl is ↦ elim (ready_decides old new ends.outcome ready smooth.disk ends.decided) [
        | inl ok ↦ inl (is ∙ ok)
        | inr memory ↦ inr (is ∙ memory)
      ]
      | inr memory ↦ inr memory
    ]

-- the outcome behind the status Ok
done_printed : (old new : DiskSeen) (before after : Option (List ℕ)) (outcome : Outcome)
    → statuses.Ok ≡ status_of outcome → CheckDecides old new outcome → Appends before after (outcome_text outcome)
    → PrintsValid old.state new.state before after
done_printed old new before after (outcomes.Done report) is h text = record {
  usage = h.used.usage;
  valid = h.valid;
  counted = h.used.counted;
  text = let P : List ℕ → Type 0 = λ xs. Appends before after xs in subst P h.used.text text;
  left = h.left;
}
done_printed old new before after (outcomes.Unsurveyed report cause) is h text = absurd h
done_printed old new before after outcomes.Usage is h text = absurd h
done_printed old new before after (outcomes.Workload line cause) is h text = absurd h
done_printed old new before after (outcomes.Volume refusal) is h text = absurd (let e : statuses.Ok ≡ statuses.Volume = is in cc)
done_printed old new before after outcomes.DiskFault is h text = absurd (let e : statuses.Ok ≡ statuses.DiskFault = is in cc)
done_printed old new before after outcomes.ReadFault is h text = absurd h
done_printed old new before after outcomes.Memory is h text = absurd (let e : statuses.Ok ≡ statuses.Memory = is in cc)
done_printed old new before after (outcomes.Geometry given found) is h text = absurd h

check_valid : (old new : DiskSeen) (before after : SinkSeen) (status : Status)
    → Ends (CheckDecides old new) before after status → status ≡ statuses.Ok → PrintsValid old.state new.state before.taken after.taken
check_valid old new before after status ends is =
    let written = written_of before after ends.outcome status (λ e. cc) (λ e. cc) ends.told in
    done_printed old new before.taken after.taken ends.outcome (sym is ∙ written.ends) ends.decided written.text

-- the outcome behind the status Volume
refusal_printed : (old new : DiskSeen) (before after : Option (List ℕ)) (outcome : Outcome)
    → statuses.Volume ≡ status_of outcome → CheckDecides old new outcome → Appends before after (outcome_text outcome)
    → PrintsRefusal old.state new.state before after
refusal_printed old new before after (outcomes.Done report) is h text = absurd (let e : statuses.Volume ≡ statuses.Ok = is in cc)
refusal_printed old new before after (outcomes.Unsurveyed report cause) is h text = absurd h
refusal_printed old new before after outcomes.Usage is h text = absurd h
refusal_printed old new before after (outcomes.Workload line cause) is h text = absurd h
refusal_printed old new before after (outcomes.Volume refusal) is h text = record { refusal = refusal; refused = h; text = text }
refusal_printed old new before after outcomes.DiskFault is h text = absurd (let e : statuses.Volume ≡ statuses.DiskFault = is in cc)
refusal_printed old new before after outcomes.ReadFault is h text = absurd h
refusal_printed old new before after outcomes.Memory is h text = absurd (let e : statuses.Volume ≡ statuses.Memory = is in cc)
refusal_printed old new before after (outcomes.Geometry given found) is h text = absurd h

check_refused : (old new : DiskSeen) (before after : SinkSeen) (status : Status)
    → Ends (CheckDecides old new) before after status → status ≡ statuses.Volume → PrintsRefusal old.state new.state before.taken after.taken
check_refused old new before after status ends is =
    let written = written_of before after ends.outcome status (λ e. cc) (λ e. cc) ends.told in
    refusal_printed old new before.taken after.taken ends.outcome (sym is ∙ written.ends) ends.decided written.text

-- the outcome behind the status DiskFault
fault_rose : (old new : DiskSeen) (outcome : Outcome) → statuses.DiskFault ≡ status_of outcome → CheckDecides old new outcome → Rose old.faults new.faults
fault_rose old new (outcomes.Done report) is h = absurd (let e : statuses.DiskFault ≡ statuses.Ok = is in cc)
fault_rose old new (outcomes.Unsurveyed report cause) is h = absurd h
fault_rose old new outcomes.Usage is h = absurd h
fault_rose old new (outcomes.Workload line cause) is h = absurd h
fault_rose old new (outcomes.Volume refusal) is h = absurd (let e : statuses.DiskFault ≡ statuses.Volume = is in cc)
fault_rose old new outcomes.DiskFault is h = h
fault_rose old new outcomes.ReadFault is h = absurd h
fault_rose old new outcomes.Memory is h = absurd (let e : statuses.DiskFault ≡ statuses.Memory = is in cc)
fault_rose old new (outcomes.Geometry given found) is h = absurd h

check_failed : (old new : DiskSeen) (before after : SinkSeen) (status : Status)
    → Ends (CheckDecides old new) before after status → status ≡ statuses.DiskFault → Rose old.faults new.faults
check_failed old new before after status ends is =
    let written = written_of before after ends.outcome status (λ e. cc) (λ e. cc) ends.told in
    fault_rose old new ends.outcome (sym is ∙ written.ends) ends.decided

-- the statuses of the outcomes that a check decides
decided_status : (old new : DiskSeen) (outcome : Outcome) → CheckDecides old new outcome → IsCheckStatus (status_of outcome)
decided_status old new (outcomes.Done report) h = tt
decided_status old new (outcomes.Unsurveyed report cause) h = absurd h
decided_status old new outcomes.Usage h = h
decided_status old new (outcomes.Workload line cause) h = h
decided_status old new (outcomes.Volume refusal) h = tt
decided_status old new outcomes.DiskFault h = tt
decided_status old new outcomes.ReadFault h = h
decided_status old new outcomes.Memory h = tt
decided_status old new (outcomes.Geometry given found) h = h

told_status : (old new : DiskSeen) (before after : SinkSeen) (outcome : Outcome) (status : Status)
    → CheckDecides old new outcome → IsTold before after outcome status → IsCheckStatus status
told_status old new before after outcome status decided (inl written) = subst IsCheckStatus (sym written.ends) (decided_status old new outcome decided)
told_status old new before after outcome status decided (inr (inl short)) = subst IsCheckStatus (sym short.ends) tt
told_status old new before after outcome status decided (inr (inr unwritten)) = subst IsCheckStatus (sym unwritten.ends) tt

check_status : (old new : DiskSeen) (before after : SinkSeen) (status : Status)
    → Ends (CheckDecides old new) before after status → IsCheckStatus status
check_status old new before after status ends = told_status old new before after ends.outcome status ends.decided ends.told

check_cut_short : (old new : DiskSeen) (before after : SinkSeen) (status : Status)
    → Ends (CheckDecides old new) before after status → status ≡ statuses.WriteFault → HasFailed before after
check_cut_short old new before after status ends is = (cut_of before after ends.outcome status ends.told is).cause

-- so an outcome that was decided and told has all that the job ends with, where the device holds what it held
pub check_ends : (old new : DiskSeen) (before after : SinkSeen) (status : Status)
    → Ends (CheckDecides old new) before after status → new.state.told ≡ old.state.told → new.state.blocks ≡ old.state.blocks
    → AreVisits old.state new.state → CheckEnds old new before after status
check_ends old new before after status ends told blocks visits = record {
  ends = ends;
  among = check_status old new before after status ends;
  ok = check_valid old new before after status ends;
  volume = check_refused old new before after status ends;
  disk_fault = check_failed old new before after status ends;
  write_fault = check_cut_short old new before after status ends;
  told = told;
  blocks = blocks;
  visits = visits;
  complete = check_completes old new before after status ends;
}
