-- How the settling of a volume ends, by what it decided and how that was told.
use Rattle.std.proofs.Common.{◌≡◌, ◌⊎◌, ◌≤◌, ◌+◌, ◌∙◌, None, Option, Some, IfSome, IsNone, ap, arith, inl, inr, refl, sym, subst}
use Rattle.std.proofs.lemmas.Bool.{false≢true}
use Rattle.call_effects.specs.Places.{KeepsFiles}
use Rattle.disk_locks.specs.Sure.{BothTold}
use Rattle.image_view.specs.Valid.{IsVolume}
use Rattle.settle.specs.Passes.{Passes, PassesVolumes}
use Rattle.settle.specs.laws.PassLaws.{passes_same, passes_then}
use Rattle.settle.specs.declared.lone.LoneNo.{LoneNo}
use Rattle.settle.specs.declared.lone.LoneNo.TheVariants as stops
use Rattle.settle.specs.declared.settling.Settled.{Settled}
use Rattle.shared_disk.specs.Seen.{DiskSeen}
use Rattle.shared_disk.specs.State.{State, Told}
use Rattle.shared_disk.specs.Visits.{IsVisiting, after_visit}
use Rattle.solo.specs.Settlings.{HasSettled}
use Rattle.solo.specs.Starts.{HasStartCause, IsGiven}
use Rattle.solo.specs.laws.OwnCalls.{risen}
use Rattle.vol_base.specs.Faults.{Rose}
use Rattle.jobs.specs.declared.outcome.Outcome.{Outcome}
use Rattle.jobs.specs.declared.outcome.Outcome.TheVariants as outcomes
use Rattle.jobs.specs.declared.outcome.VolumeNo.{VolumeNo}
use Rattle.jobs.specs.declared.outcome.VolumeNo.TheVariants as refusals
use Rattle.jobs.specs.declared.status.Status.{Status}
use Rattle.jobs.specs.declared.status.Status.TheVariants as statuses
use Rattle.jobs.specs.Checks.{IsCheckStatus, JudgeDecides, TellsVolume}
use Rattle.jobs.specs.Endings.{Ends, IsSmooth, IsTold, SinkSeen}
use Rattle.jobs.specs.Outcomes.{status_of}
use Rattle.jobs.specs.Settlings.{Concludes, IsToSettle, PrintsSettled, PrintsUnsettled, SettleDecides, SettleEnds, SettleRefuses, refused_as}
use Rattle.jobs.proofs.CheckLaws.{contradicted, untold, valid_is_not_blank, valid_next}
use Rattle.jobs.proofs.TellingLaws.{cut_of, told_quietly}

-- what a check decides at once, settling decides
visited_counter : (s t : State) → IsVisiting s t → s.counter ≤ t.counter
visited_counter s t (inl same) = let e = ap (λ (u : State). u.counter) same in omega (arith, e)
visited_counter s t (inr (inl entered)) = let e = ap (λ (u : State). u.counter) entered in omega (arith, e)
visited_counter s t (inr (inr visited)) = let e = ap (λ (u : State). u.counter) visited in omega (arith, e)

pub judged : (old new : DiskSeen) (o : Outcome) → IsVisiting old.state new.state → JudgeDecides old new o → SettleDecides old new o
judged old new (outcomes.Volume (refusals.Faults faults)) visiting decided = decided
judged old new (outcomes.Volume refusals.Blank) visiting decided = decided
judged old new (outcomes.Volume (refusals.NoKeys counter)) visiting decided =
    let met = decided.met in
    let more = visited_counter old.state new.state visiting in
    (decided.last, omega (arith, met, more), omega (arith, met))
judged old new outcomes.DiskFault visiting decided = decided
judged old new outcomes.Memory visiting decided = tt
judged old new o visiting decided = absurd decided

pub told_still : (old new : Option Told) → new ≡ old → BothTold old new KeepsFiles
told_still old new same = subst (λ (o : Option Told). BothTold old o KeepsFiles) (sym same) (here old)
  where
    here : (o : Option Told) → BothTold o o KeepsFiles
    here None = tt
    here (Some t) = λ f. refl

none_back : (old new : Option Told) → BothTold old new KeepsFiles → IsNone new → IsNone old
none_back None new files none = refl
none_back (Some t) None files none = absurd files
none_back (Some t) (Some u) files none = absurd (false≢true (sym none))

none_is : (o : Option Told) → o ≡ None → IsNone o
none_is o is = subst (λ (p : Option Told). IsNone p) (sym is) refl

-- nothing was written
pub passes_told : (s t : State) → s.counter ≤ t.counter → t.told ≡ s.told → Passes s t
passes_told s t le same =
    subst (λ (o : Option Told). PassesVolumes s.counter t.counter s.told o) (sym same) (passes_same s.counter t.counter s.told le)

pub judged_passes : (s t : State) → IsVisiting s t → t.told ≡ s.told → Passes s t
judged_passes s t visiting same = passes_told s t (visited_counter s t visiting) same

-- a volume was settled between a check and a survey
pub settled_passes : (old mid closed last : State) → IsVisiting old mid → mid.told ≡ old.told → IsGiven 2 mid closed → Passes mid closed
    → closed.counter ≤ last.counter → last.told ≡ closed.told → Passes old last
settled_passes old mid closed last visiting same given passes later told =
    passes_then old.counter closed.counter last.counter old.told closed.told last.told later
    (passes_then old.counter mid.counter closed.counter old.told mid.told closed.told given.later (judged_passes old mid visiting same) passes)
    (passes_told closed last later told)

-- a volume that the check found valid
module _ (old mid : DiskSeen) (left : mid.state ≡ after_visit old.state)
    (valid : IfSome mid.state.told (λ told. IsVolume mid.state.counter told.image)) (later : old.faults ≤ mid.faults) where
  tells : TellsVolume old.state
  tells = subst (λ (s : State). IfSome s.told (λ told. IsVolume s.counter told.image)) left valid

  same_told : mid.state.told ≡ old.state.told
  same_told = ap (λ (s : State). s.told) left

  pub files_since : (last : Option Told) → BothTold mid.state.told last KeepsFiles → BothTold old.state.told last KeepsFiles
  files_since last files = subst (λ (o : Option Told). BothTold o last KeepsFiles) same_told files

  one_key : mid.state.counter ≡ old.state.counter + 1
  one_key = ap (λ (s : State). s.counter) left

  pub passes_since : (last : State) → IsGiven 2 mid.state last → Passes mid.state last → Passes old.state last
  passes_since last given passes =
      passes_then old.state.counter mid.state.counter last.counter old.state.told mid.state.told last.told given.later
      (passes_told old.state mid.state (omega (arith, one_key)) same_told) passes

  -- a refusal of the host that settles
  pub stopped : (last : DiskSeen) (why : LoneNo) → IsGiven 2 mid.state last.state → HasStartCause mid last why
      → SettleDecides old last (refused_as why)
  stopped last stops.Failed given cause = risen old.faults mid.faults last.faults later cause
  stopped last stops.Full given cause = absurd cause
  stopped last (stops.Bad place) given cause = none_is old.state.told (sym same_told ∙ cause)
  stopped last (stops.Busy key) given cause = none_is old.state.told (sym same_told ∙ cause)
  stopped last stops.NoKeys given cause =
      let few = given.few in (refl, omega (arith, cause), omega (arith, cause, few, one_key))
  stopped last stops.NoMemory given cause = tt

  -- the survey of the volume that was settled
  module _ (closed last : DiskSeen) (counts : Settled) (given : IsGiven 2 mid.state closed.state) (settled : IfSome closed.state.told (λ told. HasSettled counts told.image))
      (files : BothTold mid.state.told closed.state.told KeepsFiles) (more : mid.faults ≤ closed.faults)
      (told : last.state.told ≡ closed.state.told) (counter : closed.state.counter ≤ last.state.counter) where
    pub concluded : (o : Outcome) → Concludes closed last counts o → SettleDecides old last o
    concluded (outcomes.Done report) is = record {
      counts = counts;
      usage = is.0;
      text = is.1;
      valid = tells;
      settled = subst (λ (o : Option Told). IfSome o (λ t. HasSettled counts t.image)) (sym told) settled;
      counted = is.2;
    }
    concluded (outcomes.Volume (refusals.NoKeys n)) is =
        let met = is.1 in
        let few = given.few in
        (is.0, omega (arith, met, counter), omega (arith, met, few, one_key))
    concluded (outcomes.Volume (refusals.Misread place)) is =
        none_back old.state.told closed.state.told (files_since closed.state.told files) is
    concluded outcomes.DiskFault is =
        risen old.faults closed.faults last.faults (omega (arith, later, more)) is
    concluded outcomes.Memory is = tt
    concluded o is = absurd is

    pub files_after : BothTold old.state.told last.state.told KeepsFiles
    files_after = subst (λ (o : Option Told). BothTold old.state.told o KeepsFiles) (sym told) (files_since closed.state.told files)

-- a valid volume is not refused, where keys enough are left
to_settle_not_refused : (s new : State) (refusal : VolumeNo) → IsToSettle s → SettleRefuses s new refusal → ⊥
to_settle_not_refused s new (refusals.Faults faults) ready h =
    contradicted s.told _ _ (λ t valid invalid. invalid (valid_next s.counter t.image valid)) ready.valid h.not_valid
to_settle_not_refused s new refusals.Blank ready h =
    contradicted s.told _ _ (λ t valid blank. valid_is_not_blank s.counter t.image valid blank) ready.valid h.blank
to_settle_not_refused s new (refusals.NoKeys counter) ready h =
    let keys = ready.keys in
    let near = h.2 in
    omega (arith, keys, near)
to_settle_not_refused s new (refusals.Busy key) ready h = untold s.told _ ready.valid h
to_settle_not_refused s new (refusals.Misread place) ready h = untold s.told _ ready.valid h

-- so that without a fault it is settled, or there is no memory
to_settle_decides : (old new : DiskSeen) (o : Outcome) → IsToSettle old.state → (Rose old.faults new.faults → ⊥) → SettleDecides old new o
    → (status_of o ≡ statuses.Ok) ⊎ (status_of o ≡ statuses.Memory)
to_settle_decides old new (outcomes.Done report) ready quiet h = inl refl
to_settle_decides old new (outcomes.Volume refusal) ready quiet h = absurd (to_settle_not_refused old.state new.state refusal ready h)
to_settle_decides old new outcomes.DiskFault ready quiet h = absurd (quiet h)
to_settle_decides old new outcomes.Memory ready quiet h = inr refl
to_settle_decides old new o ready quiet h = absurd h

module _ (old new : DiskSeen) (before after : SinkSeen) (status : Status) where
  among_of : (o : Outcome) → SettleDecides old new o → IsTold before after o status → IsCheckStatus status
  among_of (outcomes.Done text) decided (inl written) = subst IsCheckStatus (sym written.ends) tt
  among_of (outcomes.Volume refusal) decided (inl written) = subst IsCheckStatus (sym written.ends) tt
  among_of outcomes.DiskFault decided (inl written) = subst IsCheckStatus (sym written.ends) tt
  among_of outcomes.Memory decided (inl written) = subst IsCheckStatus (sym written.ends) tt
  among_of o decided (inr (inl short)) = subst IsCheckStatus (sym short.ends) tt
  among_of o decided (inr (inr unwritten)) = subst IsCheckStatus (sym unwritten.ends) tt
  among_of _ decided (inl written) = absurd decided

  ok_of : (o : Outcome) → SettleDecides old new o → IsTold before after o status → status ≡ statuses.Ok
      → PrintsSettled old.state new.state before.taken after.taken
  ok_of (outcomes.Done text) decided (inl written) is = record { report = text.items; settled = decided; text = written.text }
  ok_of (outcomes.Volume refusal) decided (inl written) is = let e : statuses.Volume ≡ statuses.Ok = sym written.ends ∙ is in absurd cc
  ok_of outcomes.DiskFault decided (inl written) is = let e : statuses.DiskFault ≡ statuses.Ok = sym written.ends ∙ is in absurd cc
  ok_of outcomes.Memory decided (inl written) is = let e : statuses.Memory ≡ statuses.Ok = sym written.ends ∙ is in absurd cc
  ok_of o decided (inr (inl short)) is = let e : statuses.WriteFault ≡ statuses.Ok = sym short.ends ∙ is in absurd cc
  ok_of o decided (inr (inr unwritten)) is = let e : statuses.Memory ≡ statuses.Ok = sym unwritten.ends ∙ is in absurd cc
  ok_of _ decided (inl written) is = absurd decided

  volume_of : (o : Outcome) → SettleDecides old new o → IsTold before after o status → status ≡ statuses.Volume
      → PrintsUnsettled old.state new.state before.taken after.taken
  volume_of (outcomes.Done text) decided (inl written) is = let e : statuses.Ok ≡ statuses.Volume = sym written.ends ∙ is in absurd cc
  volume_of (outcomes.Volume refusal) decided (inl written) is = record { refusal = refusal; refused = decided; text = written.text }
  volume_of outcomes.DiskFault decided (inl written) is = let e : statuses.DiskFault ≡ statuses.Volume = sym written.ends ∙ is in absurd cc
  volume_of outcomes.Memory decided (inl written) is = let e : statuses.Memory ≡ statuses.Volume = sym written.ends ∙ is in absurd cc
  volume_of o decided (inr (inl short)) is = let e : statuses.WriteFault ≡ statuses.Volume = sym short.ends ∙ is in absurd cc
  volume_of o decided (inr (inr unwritten)) is = let e : statuses.Memory ≡ statuses.Volume = sym unwritten.ends ∙ is in absurd cc
  volume_of _ decided (inl written) is = absurd decided

  fault_of : (o : Outcome) → SettleDecides old new o → IsTold before after o status → status ≡ statuses.DiskFault → Rose old.faults new.faults
  fault_of (outcomes.Done text) decided (inl written) is = let e : statuses.Ok ≡ statuses.DiskFault = sym written.ends ∙ is in absurd cc
  fault_of (outcomes.Volume refusal) decided (inl written) is = let e : statuses.Volume ≡ statuses.DiskFault = sym written.ends ∙ is in absurd cc
  fault_of outcomes.DiskFault decided (inl written) is = decided
  fault_of outcomes.Memory decided (inl written) is = let e : statuses.Memory ≡ statuses.DiskFault = sym written.ends ∙ is in absurd cc
  fault_of o decided (inr (inl short)) is = let e : statuses.WriteFault ≡ statuses.DiskFault = sym short.ends ∙ is in absurd cc
  fault_of o decided (inr (inr unwritten)) is = let e : statuses.Memory ≡ statuses.DiskFault = sym unwritten.ends ∙ is in absurd cc
  fault_of _ decided (inl written) is = absurd decided

  complete_of : Ends (SettleDecides old new) before after status → IsToSettle old.state → IsSmooth old new before after
      → (status ≡ statuses.Ok) ⊎ (status ≡ statuses.Memory)
  complete_of ends ready smooth =
      elim (told_quietly before after ends.outcome status smooth.sink ends.told) [
        | inl is ↦ elim (to_settle_decides old new ends.outcome ready smooth.disk ends.decided) [
          | inl ok ↦ inl (is ∙ ok)
          | inr memory ↦ inr (is ∙ memory)
        ]
        | inr memory ↦ inr memory
      ]

  pub settle_ends : Ends (SettleDecides old new) before after status → BothTold old.state.told new.state.told KeepsFiles
      → Passes old.state new.state → SettleEnds old new before after status
  settle_ends ends files images = record {
    ends = ends;
    among = among_of ends.outcome ends.decided ends.told;
    ok = ok_of ends.outcome ends.decided ends.told;
    volume = volume_of ends.outcome ends.decided ends.told;
    disk_fault = fault_of ends.outcome ends.decided ends.told;
    write_fault = λ is. (cut_of before after ends.outcome status ends.told is).cause;
    files = files;
    images = images;
    complete = complete_of ends;
  }
