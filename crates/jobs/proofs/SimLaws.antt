-- How the job that runs a workload ends, by what it decided.
use Rattle.std.proofs.Common.{◌≡◌, ◌⊎◌, ◌++◌, ◌∙◌, ◌+◌, ◌<◌, ℕ, List, [], Option, Some, None, Ok, Err, Result, IsSomeAnd, inl, inr, refl, sym, ap, subst, length, append-nil, length-append, arith}
use Rattle.std.specs.Io.KnownBytes.{Appends, Consumes, IsAtEnd}
use Rattle.vol_base.specs.Faults.{Rose}
use Rattle.shared_disk.specs.Prefixes.{EachImage}
use Rattle.shared_disk.specs.Seen.{DiskSeen}
use Rattle.shared_disk.specs.State.{State}
use Rattle.volume_opening.specs.Openings.{IsOnTheWay}
use Rattle.volume_opening.specs.declared.open_no.OpenNo.{OpenNo}
use Rattle.volume_opening.specs.declared.open_no.OpenNo.TheVariants as openings
use Rattle.workload.specs.declared.line.Workload.{Workload}
use Rattle.workload.specs.Grammar.{Refusal, most_bytes, workload_of}
use Rattle.jobs.specs.declared.outcome.AfterRun.TheVariants as after_runs
use Rattle.jobs.specs.declared.outcome.Outcome.{Outcome}
use Rattle.jobs.specs.declared.outcome.Outcome.TheVariants as outcomes
use Rattle.jobs.specs.declared.status.Status.{Status}
use Rattle.jobs.specs.declared.status.Status.TheVariants as statuses
use Rattle.jobs.specs.Endings.{Ends, IsSmooth, IsTold, SinkSeen}
use Rattle.jobs.specs.Outcomes.{outcome_text, status_of}
use Rattle.jobs.specs.Runs.{HasSomeRun, IsRefusable, IsUnfit, IsUnopened, RunDecides, Schedule, unopened}
use Rattle.jobs.specs.Seen.{Seen}
use Rattle.jobs.specs.Simulations.{CauseOf, GivesText, IsExact, IsReadyToRun, IsRun, IsYielding, LeavesImages, RefusesDevice, SimDecides, SimEnds}
use Rattle.jobs.specs.Sources.{StopsReading, TakesAtMost}
use Rattle.jobs.proofs.ClusterLaws.{some_run}
use Rattle.jobs.proofs.Conclusions.{visiting_told}
use Rattle.jobs.proofs.ReadingLaws.{too_long}
use Rattle.jobs.proofs.RunLaws.{Gets, IsYieldedTo, run_completes, run_refusable, run_unfit}
use Rattle.jobs.proofs.TellingLaws.{told_quietly}

-- one reading gives one workload
abbrev reads_as : Workload → Result Workload Refusal
reads_as w = Ok w

ok_same : (v w : Workload) → reads_as v ≡ reads_as w → v ≡ w
ok_same v w e = cc

-- what was decided, and then told
abbrev Decided : Schedule → Seen → Seen → Outcome → Type 0
Decided schedule before after outcome = SimDecides schedule before.source after.source before.disk after.disk outcome

abbrev EndsSo : Schedule → Seen → Seen → Status → Type 0
EndsSo schedule before after status = Ends (Decided schedule before after) before.sink after.sink status

abbrev RunsTo : Schedule → Seen → Seen → Outcome → Type 0
RunsTo schedule before after outcome = IsRun schedule before.source after.source before.disk after.disk outcome

abbrev Prints : Seen → Seen → Outcome → Type 0
Prints before after outcome = Appends before.sink.taken after.sink.taken (outcome_text outcome)

-- an opening's refusal is told with its own status
device_refused : (schedule : Schedule) (before after : Seen) (outcome : Outcome) → (run : RunsTo schedule before after outcome)
    → IsUnopened run.workload.geometry before.disk after.disk outcome → Prints before after outcome → RefusesDevice before after (status_of outcome)
device_refused schedule before after outcome run refused text = record {
  workload = run.workload;
  read = run.read;
  cause = refused.cause;
  is = ap status_of (sym refused.is);
  refused = refused.refused;
  text = subst (λ (o : Outcome). Appends before.sink.taken after.sink.taken (outcome_text o)) refused.is text;
}

-- no refusal of an opening is one of these outcomes
abbrev IsOpening : Outcome → Type 0
IsOpening (outcomes.Volume refusal) = Unit {0}
IsOpening outcomes.DiskFault = Unit {0}
IsOpening outcomes.Memory = Unit {0}
IsOpening (outcomes.Geometry given found) = Unit {0}
IsOpening outcome = ⊥

unopened_is : (outcome : Outcome) (w : Workload) (old new : DiskSeen) → IsUnopened w.geometry old new outcome → IsOpening outcome
unopened_is outcome w old new h = subst IsOpening (sym h.is) (each h.cause)
  where
    each : (cause : OpenNo) → IsOpening (unopened cause)
    each (openings.Geometry given found) = tt
    each (openings.Faults faults) = tt
    each openings.NoKeys = tt
    each openings.Failed = tt
    each openings.NoMemory = tt

-- an outcome that is told has the cause of its status
cause_of : (schedule : Schedule) (before after : Seen) (outcome : Outcome) → Decided schedule before after outcome → Prints before after outcome
    → CauseOf schedule before after (status_of outcome)
cause_of schedule before after (outcomes.Done report) (inr run) text =
    record { workload = run.workload; read = run.read; report = report.items; done = run.decides; text = text }
cause_of schedule before after (outcomes.Unsurveyed report after_runs.DiskFault) (inr run) text =
    inr (record { workload = run.workload; read = run.read; report = report.items; cause = after_runs.DiskFault; is = refl; unsurveyed = run.decides; text = text })
cause_of schedule before after (outcomes.Unsurveyed report (after_runs.NoKeys counter)) (inr run) text =
    inr (record { workload = run.workload; read = run.read; report = report.items; cause = after_runs.NoKeys counter; is = refl; unsurveyed = run.decides; text = text })
cause_of schedule before after (outcomes.Unsurveyed report (after_runs.Misread place)) (inr run) text =
    inr (record { workload = run.workload; read = run.read; report = report.items; cause = after_runs.Misread place; is = refl; unsurveyed = run.decides; text = text })
cause_of schedule before after (outcomes.Volume refusal) (inr run) text = inl (device_refused schedule before after (outcomes.Volume refusal) run run.decides text)
cause_of schedule before after outcomes.DiskFault (inr run) text = inl (device_refused schedule before after outcomes.DiskFault run run.decides text)
cause_of schedule before after (outcomes.Geometry given found) (inr run) text = device_refused schedule before after (outcomes.Geometry given found) run run.decides text
cause_of schedule before after outcomes.Memory decided text = text
cause_of schedule before after (outcomes.Workload line cause) (inl stopped) text =
    record { line = line; cause = cause; refused = stopped.stops; untouched = stopped.untouched; text = text }
cause_of schedule before after outcomes.ReadFault (inl stopped) text = record { rose = stopped.stops; untouched = stopped.untouched; text = text }
cause_of schedule before after outcome (inl stopped) text = absurd stopped.stops
cause_of schedule before after outcome (inr run) text = absurd (unopened_is outcome run.workload before.disk after.disk run.decides)

-- a sink that is as before took nothing
pub takes_nothing : (taken : Option (List ℕ)) → Appends taken taken []
takes_nothing None = tt
takes_nothing (Some bytes) = sym (append-nil bytes)

took_nothing : (before after : SinkSeen) → after ≡ before → Appends before.taken after.taken []
took_nothing before after same = subst (λ (s : SinkSeen). Appends before.taken s.taken []) (sym same) (takes_nothing before.taken)

told_cause : (schedule : Schedule) (before after : Seen) (outcome : Outcome) (status : Status) → Decided schedule before after outcome
    → IsTold before.sink after.sink outcome status → CauseOf schedule before after status
told_cause schedule before after outcome status decided (inl written) =
    subst (CauseOf schedule before after) (sym written.ends) (cause_of schedule before after outcome decided written.text)
told_cause schedule before after outcome status decided (inr (inl short)) =
    subst (CauseOf schedule before after) (sym short.ends) (record { outcome = outcome; decided = decided; text = short.text; cause = short.cause })
told_cause schedule before after outcome status decided (inr (inr unwritten)) =
    subst (CauseOf schedule before after) (sym unwritten.ends) (took_nothing before.sink after.sink unwritten.same)

abbrev Leaves : Workload → DiskSeen → DiskSeen → Type 0
Leaves w old new = EachImage (IsOnTheWay w.geometry old.state.told) old.state.told new.state.told ⊎ HasSomeRun w old new

leaves : (w : Workload) (schedule : Schedule) (old new : DiskSeen) (outcome : Outcome) → RunDecides w schedule old new outcome → Leaves w old new
leaves w schedule old new (outcomes.Done report) h =
    inr (some_run w schedule old h.opened new h.last h.ran (ap (λ (s : State). s.told) h.reported.left))
leaves w schedule old new (outcomes.Unsurveyed report cause) h =
    inr (some_run w schedule old h.opened new h.last h.ran (visiting_told h.last.device.state new.state h.reported.visiting))
leaves w schedule old new outcomes.Memory (inl unopened) = inl unopened.refused.images
leaves w schedule old new outcomes.Memory (inr some) = inr some
leaves w schedule old new outcome h = inl h.refused.images

images_left : (schedule : Schedule) (before after : Seen) (outcome : Outcome) → Decided schedule before after outcome
    → (after.disk ≡ before.disk) ⊎ LeavesImages before after
images_left schedule before after outcome (inl stopped) = inl stopped.untouched
images_left schedule before after outcome (inr run) =
    inr (record { workload = run.workload; read = run.read; left = leaves run.workload schedule before.disk after.disk outcome run.decides })

-- a text that the source gave whole, or too long, reads as the text that it told
text_reads : (left rest : Option (List ℕ)) (text : List ℕ) (reading : Result Workload Refusal) → IsSomeAnd left (λ bytes. workload_of bytes ≡ reading)
    → Consumes left rest text → IsAtEnd rest ⊎ (most_bytes < length text) → workload_of text ≡ reading
text_reads None rest text reading gives consumed whole = absurd gives
text_reads (Some bytes) None text reading gives consumed whole = absurd consumed
text_reads (Some bytes) (Some rest) text reading gives consumed (inl ended) =
    let all : bytes ≡ text = consumed ∙ ap (λ xs. text ++ xs) ended ∙ append-nil text in
    ap workload_of (sym all) ∙ gives
text_reads (Some bytes) (Some rest) text reading gives consumed (inr long) =
    let longer : most_bytes < length bytes = rw (ap length consumed, length-append text rest) (omega (arith, long)) in
    too_long text long ∙ (sym (too_long bytes longer) ∙ gives)

-- one text has one reading
clash : (line : Refusal) (w : Workload) (text : List ℕ) → workload_of text ≡ Err line → workload_of text ≡ Ok w → ⊥
clash line w text refused read = cc

-- a reading that was stopped while the source tells a workload's text is a fault or a want of memory
stopped_yields : (before after : Seen) (w : Workload) (outcome : Outcome) → GivesText before (Ok w) → StopsReading before.source after.source outcome
    → IsYielding (status_of outcome)
stopped_yields before after w (outcomes.Workload line cause) gives stops =
    absurd (clash (line, cause) w stops.text stops.is (text_reads before.source.left after.source.left stops.text (Ok w) gives stops.consumed stops.whole))
stopped_yields before after w outcomes.ReadFault gives stops = tt
stopped_yields before after w outcomes.Memory gives stops = tt
stopped_yields before after w _ gives stops = absurd stops

-- the workload that was run is the one whose text the source told
same_workload : (schedule : Schedule) (before after : Seen) (w : Workload) (outcome : Outcome) → GivesText before (Ok w) → RunsTo schedule before after outcome
    → RunDecides w schedule before.disk after.disk outcome
same_workload schedule before after w outcome gives run =
    let reads = text_reads before.source.left after.source.left run.read.text (Ok w) gives run.read.consumed (inl run.read.ended) in
    let same : run.workload ≡ w = ok_same run.workload w (sym run.read.is ∙ reads) in
    let P : Workload → Type 0 = λ w. RunDecides w schedule before.disk after.disk outcome in
    subst P same run.decides

-- what was decided yields, and so does what was told
told_or : (before after : SinkSeen) (outcome : Outcome) (status wanted : Status) → IsTold before after outcome status
    → (status_of outcome ≡ wanted) ⊎ IsYielding (status_of outcome) → (status ≡ wanted) ⊎ IsYielding status
told_or before after outcome status wanted (inl written) (inl is) = inl (written.ends ∙ is)
told_or before after outcome status wanted (inl written) (inr yields) = inr (subst IsYielding (sym written.ends) yields)
told_or before after outcome status wanted (inr (inl short)) decided = inr (subst IsYielding (sym short.ends) tt)
told_or before after outcome status wanted (inr (inr unwritten)) decided = inr (subst IsYielding (sym unwritten.ends) tt)

yielding : (status : Status) → IsYieldedTo status → IsYielding status
yielding statuses.DiskFault yields = tt
yielding statuses.Memory yields = tt
yielding _ yields = absurd yields

or_yielding : (outcome : Outcome) (wanted : Status) → Gets wanted outcome → (status_of outcome ≡ wanted) ⊎ IsYielding (status_of outcome)
or_yielding outcome wanted (inl is) = inl is
or_yielding outcome wanted (inr yields) = inr (yielding (status_of outcome) yields)

-- a text that is refused
refusable_text : (schedule : Schedule) (before after : Seen) (refusal : Refusal) (outcome : Outcome) → GivesText before (Err refusal)
    → Decided schedule before after outcome → (status_of outcome ≡ statuses.Workload) ⊎ IsYielding (status_of outcome)
refusable_text schedule before after refusal (outcomes.Workload line cause) gives (inl stopped) = inl refl
refusable_text schedule before after refusal outcomes.ReadFault gives (inl stopped) = inr tt
refusable_text schedule before after refusal outcomes.Memory gives (inl stopped) = inr tt
refusable_text schedule before after refusal _ gives (inl stopped) = absurd stopped.stops
refusable_text schedule before after refusal outcome gives (inr run) =
    absurd (clash refusal run.workload run.read.text
    (text_reads before.source.left after.source.left run.read.text (Err refusal) gives run.read.consumed (inl run.read.ended)) run.read.is)

-- a volume that is refused, or does not fit
refusable_volume : (schedule : Schedule) (before after : Seen) (w : Workload) (outcome : Outcome) → GivesText before (Ok w)
    → IsRefusable w.geometry before.disk.state → Decided schedule before after outcome
    → (status_of outcome ≡ statuses.Volume) ⊎ IsYielding (status_of outcome)
refusable_volume schedule before after w outcome gives refusable (inl stopped) = inr (stopped_yields before after w outcome gives stopped.stops)
refusable_volume schedule before after w outcome gives refusable (inr run) =
    or_yielding outcome statuses.Volume (run_refusable w schedule before.disk after.disk outcome refusable (same_workload schedule before after w outcome gives run))

unfit_geometry : (schedule : Schedule) (before after : Seen) (w : Workload) (given found : ℕ) (outcome : Outcome) → GivesText before (Ok w)
    → IsUnfit w.geometry before.disk.state given found → Decided schedule before after outcome
    → (status_of outcome ≡ statuses.Geometry) ⊎ IsYielding (status_of outcome)
unfit_geometry schedule before after w given found outcome gives unfit (inl stopped) = inr (stopped_yields before after w outcome gives stopped.stops)
unfit_geometry schedule before after w given found outcome gives unfit (inr run) =
    or_yielding outcome statuses.Geometry (run_unfit w schedule before.disk after.disk given found outcome unfit (same_workload schedule before after w outcome gives run))

exact : (schedule : Schedule) (before after : Seen) (status : Status) → EndsSo schedule before after status → IsExact before status
exact schedule before after status ends = record {
  text = λ refusal gives.
      told_or before.sink after.sink ends.outcome status statuses.Workload ends.told
      (refusable_text schedule before after refusal ends.outcome gives ends.decided);
  volume = λ w gives refusable.
      told_or before.sink after.sink ends.outcome status statuses.Volume ends.told
      (refusable_volume schedule before after w ends.outcome gives refusable ends.decided);
  geometry = λ w given found gives unfit.
      told_or before.sink after.sink ends.outcome status statuses.Geometry ends.told
      (unfit_geometry schedule before after w given found ends.outcome gives unfit ends.decided);
}

-- a workload without a fault
quiet_reading : (before after : Seen) (w : Workload) (outcome : Outcome) → GivesText before (Ok w) → (Rose before.source.faults after.source.faults → ⊥)
    → StopsReading before.source after.source outcome → status_of outcome ≡ statuses.Memory
quiet_reading before after w (outcomes.Workload line cause) gives quiet stops =
    absurd (clash (line, cause) w stops.text stops.is (text_reads before.source.left after.source.left stops.text (Ok w) gives stops.consumed stops.whole))
quiet_reading before after w outcomes.ReadFault gives quiet stops = absurd (quiet stops)
quiet_reading before after w outcomes.Memory gives quiet stops = refl
quiet_reading before after w _ gives quiet stops = absurd stops

completes : (schedule : Schedule) (before after : Seen) (outcome : Outcome) → IsReadyToRun before → (Rose before.source.faults after.source.faults → ⊥)
    → (Rose before.disk.faults after.disk.faults → ⊥) → Decided schedule before after outcome
    → (status_of outcome ≡ statuses.Ok) ⊎ (status_of outcome ≡ statuses.Memory)
completes schedule before after outcome ready quiet sound (inl stopped) = inr (quiet_reading before after ready.workload outcome ready.text quiet stopped.stops)
completes schedule before after outcome ready quiet sound (inr run) =
    run_completes ready.workload schedule before.disk after.disk outcome ready.fit sound (same_workload schedule before after ready.workload outcome ready.text run)

complete : (schedule : Schedule) (before after : Seen) (status : Status) → EndsSo schedule before after status → IsReadyToRun before
    → (Rose before.source.faults after.source.faults → ⊥) → IsSmooth before.disk after.disk before.sink after.sink
    → (status ≡ statuses.Ok) ⊎ (status ≡ statuses.Memory)
complete schedule before after status ends ready quiet smooth =
    elim (told_quietly before.sink after.sink ends.outcome status smooth.sink ends.told) [
      | inl is ↦ elim (completes schedule before after ends.outcome ready quiet smooth.disk ends.decided) [
        | inl ok ↦ inl (is ∙ ok)
        | inr memory ↦ inr (is ∙ memory)
      ]
      | inr memory ↦ inr memory
    ]

pub sim_ends : (schedule : Schedule) (before after : Seen) (status : Status) → EndsSo schedule before after status
    → after.disk.state.blocks ≡ before.disk.state.blocks → TakesAtMost (most_bytes + 1) before.source after.source → SimEnds schedule before after status
sim_ends schedule before after status ends blocks taken = record {
  cause = told_cause schedule before after ends.outcome status ends.decided ends.told;
  taken = taken;
  images = images_left schedule before after ends.outcome ends.decided;
  blocks = blocks;
  exact = exact schedule before after status ends;
  complete = complete schedule before after status ends;
}
