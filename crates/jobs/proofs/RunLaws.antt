-- When which outcome of a run comes.
use Rattle.std.proofs.Common.{◌≡◌, ◌≢◌, ◌⊎◌, ◌≤◌, ◌+◌, ◌∙◌, ℕ, List, [], Option, Some, None, refl, sym, ap, subst, inl, inr, arith}
use Rattle.std.specs.Prelude.{IfSome, IsNone, IsSomeAnd}
use Rattle.std.proofs.lemmas.Bool.{false≢true}
use Rattle.vol_base.specs.Faults.{Rose}
use Rattle.vol_layout.specs.declared.geometry.Geometry.{Geometry}
use Rattle.vol_layout.specs.Regions.{total}
use Rattle.shared_disk.specs.Prefixes.{Prefixes}
use Rattle.shared_disk.specs.Seen.{DiskSeen}
use Rattle.shared_disk.specs.State.{State, Told}
use Rattle.plain_files.specs.Plain.{Plain}
use Rattle.histories.specs.Fronts.{AreFrontsUpTo}
use Rattle.histories.specs.LineCalls.{calls_of}
use Rattle.workload.specs.declared.line.Workload.{Workload}
use Rattle.image_view.specs.laws.GeometryLaws.{IsVolume-valid}
use Rattle.image_view.specs.Images.{IsBlank}
use Rattle.image_view.specs.Valid.{IsValid}
use Rattle.image_view.specs.laws.ValidLaws.{IsValid-later}
use Rattle.volume_faults.specs.declared.fault.Fault.{Fault}
use Rattle.volume_faults.specs.Faults.{AreFaults}
use Rattle.volume_faults.specs.laws.ValidityLaws.{valid_has_no_fault}
use Rattle.volume_opening.specs.laws.MisfitLaws.{blank_fits, volume_fits}
use Rattle.volume_opening.specs.Misfits.{misfit}
use Rattle.volume_opening.specs.declared.open_no.OpenNo.{OpenNo}
use Rattle.volume_opening.specs.declared.open_no.OpenNo.TheVariants as openings
use Rattle.host_runs.specs.RunStates.{RunState, opening}
use Rattle.host_runs.specs.laws.CounterLaws.{counter-run}
use Rattle.host_runs.specs.laws.DeviceLaws.{faults-run}
use Rattle.host_runs.specs.laws.FilesLaws.{IsLed}
use Rattle.cluster.specs.Starts.{HasRefused}
use Rattle.jobs.specs.declared.outcome.AfterRun.{AfterRun}
use Rattle.jobs.specs.declared.outcome.AfterRun.TheVariants as after_runs
use Rattle.jobs.specs.declared.outcome.Outcome.{Outcome}
use Rattle.jobs.specs.declared.outcome.Outcome.TheVariants as outcomes
use Rattle.jobs.specs.declared.status.Status.{Status}
use Rattle.jobs.specs.declared.status.Status.TheVariants as statuses
use Rattle.jobs.specs.Outcomes.{status_of}
use Rattle.jobs.specs.Runs.{IsFitFor, IsRefusable, IsRunOf, IsUnfit, IsUnopened, IsUnsurveyedFor, IsWrong, MayBegin, Opens, RunDecides, Schedule, files_of, unopened}
use Rattle.jobs.proofs.CheckLaws.{contradicted}

-- a count that rose later rose since before
rose_since : (a b c : ℕ) → a ≤ b → Rose b c → Rose a c
rose_since a b c le rose = omega (arith, le, rose)

begins_without_fault : (g : Geometry) (s t : State) (told : Told) (xs : List Fault) → t.counter ≡ s.counter + 1 → MayBegin g s.counter told.image
    → xs ≢ [] → (IsBlank told.image → ⊥) → AreFaults t.counter told.image xs → ⊥
begins_without_fault g s t told xs risen (inl blank) some used are = used blank
begins_without_fault g s t told xs risen (inr valid) some used are =
    let later = IsValid-later g s.counter t.counter told.image (omega (arith, risen)) valid in
    some (valid_has_no_fault t.counter told.image xs (IsVolume-valid g t.counter told.image later) are)

no_faults : (g : Geometry) (s t : State) (told : Option Told) (xs : List Fault) → t.counter ≡ s.counter + 1
    → IsSomeAnd told (λ u. MayBegin g s.counter u.image) → xs ≢ []
    → IfSome told (λ u. IsBlank u.image → ⊥) → IfSome told (λ u. AreFaults t.counter u.image xs) → ⊥
no_faults g s t None xs risen begins some used are = begins
no_faults g s t (Some u) xs risen begins some used are = begins_without_fault g s t u xs risen begins some used are

begins_fitting : (g : Geometry) (counter blocks : ℕ) (told : Told) → total g ≤ blocks → MayBegin g counter told.image → misfit g blocks told.image ≡ None
begins_fitting g counter blocks told long (inl blank) = blank_fits g blocks told.image blank long
begins_fitting g counter blocks told long (inr valid) = volume_fits g blocks told.image valid.geometry long

none_is_not_some : (o : Option (ℕ × ℕ)) (pair : ℕ × ℕ) → o ≡ None → o ≡ Some pair → ⊥
none_is_not_some o pair none some = cc

fit_geometry : (g : Geometry) (s : State) (given found : ℕ) → total g ≤ s.blocks → IsSomeAnd s.told (λ t. MayBegin g s.counter t.image)
    → IfSome s.told (λ t. misfit g s.blocks t.image ≡ Some (given, found)) → ⊥
fit_geometry g s given found long begins is =
    contradicted s.told (λ t. MayBegin g s.counter t.image) (λ t. misfit g s.blocks t.image ≡ Some (given, found))
    (λ t b some. none_is_not_some (misfit g s.blocks t.image) (given, found) (begins_fitting g s.counter s.blocks t long b) some) begins is

-- a device that is fit for the workload, and does not fail, is opened for it, where memory serves
fit_opened : (w : Workload) (old new : DiskSeen) (cause : OpenNo) → IsFitFor w old.state → (Rose old.faults new.faults → ⊥)
    → HasRefused w.geometry old cause new → status_of (unopened cause) ≡ statuses.Memory
fit_opened w old new (openings.Geometry given found) fit quiet h = absurd (fit_geometry w.geometry old.state given found fit.long fit.content h.refused)
fit_opened w old new (openings.Faults faults) fit quiet h =
    absurd (no_faults w.geometry old.state new.state old.state.told faults.items (ap (λ (s : State). s.counter) h.left) fit.content h.refused.some
    h.refused.used h.refused.faults)
fit_opened w old new openings.NoKeys fit quiet h = absurd (let at = h.no_keys refl in let keys = fit.keys in omega (arith, at, keys))
fit_opened w old new openings.Failed fit quiet h = absurd (quiet (h.failed refl))
fit_opened w old new openings.NoMemory fit quiet h = refl

-- a device that told its image when it was handed in tells one at the end of a run
told_fronts : (w : Workload) (p : Plain) (t : Told) (told : Option Told) (last : RunState)
    → AreFrontsUpTo last.device.state.counter (calls_of w.lines) p (Some t) told last.history → IsNone told → ⊥
unfolding AreFrontsUpTo Prefixes
told_fronts w p t None last fronts none = fronts
told_fronts w p t (Some u) last fronts none = false≢true (sym none)

told_led : (w : Workload) (first : Option Told) (begins : Told → Type 0) (last : RunState) → IsSomeAnd first begins
    → IfSome first (λ t. IsLed w (files_of w.geometry t.image) first last) → IsNone last.device.state.told → ⊥
told_led w None begins last is led none = is
told_led w (Some t) begins last is led none = told_fronts w (files_of w.geometry t.image) t last.device.state.told last led.fronts none

-- and it is surveyed
fit_surveyed : (w : Workload) (schedule : Schedule) (old opened new : DiskSeen) (last : RunState) (cause : AfterRun) → IsFitFor w old.state
    → (Rose old.faults new.faults → ⊥) → IsRunOf w schedule old opened last → IsUnsurveyedFor w.geometry last.device new cause → ⊥
fit_surveyed w schedule old opened new last after_runs.DiskFault fit quiet ran refused =
    let a = ran.owed.opens.later in
    let b = faults-run w (opening w opened) ran.calls last ran.run in
    quiet (rose_since old.faults last.device.faults new.faults (omega (arith, a, b)) refused.1)
fit_surveyed w schedule old opened new last (after_runs.NoKeys counter) fit quiet ran refused =
    let visited = ap (λ (s : State). s.counter) ran.owed.opens.visited in
    let most = counter-run w opened ran.calls last ran.run in
    let met = refused.met in
    let keys = fit.keys in
    omega (arith, visited, most, met, keys)
fit_surveyed w schedule old opened new last (after_runs.Misread place) fit quiet ran refused =
    told_led w old.state.told (λ t. MayBegin w.geometry old.state.counter t.image) last fit.content ran.owed.led refused.1.untold

unopened_memory : (w : Workload) (old new : DiskSeen) (outcome : Outcome) → IsFitFor w old.state → (Rose old.faults new.faults → ⊥)
    → IsUnopened w.geometry old new outcome → status_of outcome ≡ statuses.Memory
unopened_memory w old new outcome fit quiet h = ap status_of h.is ∙ fit_opened w old new h.cause fit quiet h.refused

-- on a device that is fit for the workload, and that does not fail, the run is done, where memory serves
pub run_completes : (w : Workload) (schedule : Schedule) (old new : DiskSeen) (outcome : Outcome) → IsFitFor w old.state
    → (Rose old.faults new.faults → ⊥) → RunDecides w schedule old new outcome
    → (status_of outcome ≡ statuses.Ok) ⊎ (status_of outcome ≡ statuses.Memory)
run_completes w schedule old new (outcomes.Done report) fit quiet h = inl refl
run_completes w schedule old new (outcomes.Unsurveyed report cause) fit quiet h =
    absurd (fit_surveyed w schedule old h.opened new h.last cause fit quiet h.ran h.reported.refused)
run_completes w schedule old new outcomes.Memory fit quiet h = inr refl
run_completes w schedule old new outcome fit quiet h = inr (unopened_memory w old new outcome fit quiet h)

-- the statuses to which the others of a run yield
abbrev pub IsYieldedTo : Status → Type 0
IsYieldedTo statuses.DiskFault = Unit {0}
IsYieldedTo statuses.Memory = Unit {0}
IsYieldedTo status = ⊥

no_misfit : (told : Option Told) (m : Told → Option (ℕ × ℕ)) (pair : ℕ × ℕ) → IsSomeAnd told (λ t. m t ≡ Some pair) → IfSome told (λ t. m t ≡ None) → ⊥
no_misfit told m pair is none = contradicted told (λ t. m t ≡ Some pair) (λ t. m t ≡ None) (λ t some fits. none_is_not_some (m t) pair fits some) is none

no_fit : (g : Geometry) (s : State) (given found : ℕ) → IsUnfit g s given found → IfSome s.told (λ t. misfit g s.blocks t.image ≡ None) → ⊥
no_fit g s given found unfit fits = no_misfit s.told (λ t. misfit g s.blocks t.image) (given, found) unfit.misfit fits

-- where the geometry does not fit, it is refused
unfit_opened : (g : Geometry) (old new : DiskSeen) (given found : ℕ) (cause : OpenNo) → IsUnfit g old.state given found → HasRefused g old cause new
    → (status_of (unopened cause) ≡ statuses.Geometry) ⊎ IsYieldedTo (status_of (unopened cause))
unfit_opened g old new given found (openings.Geometry a b) unfit h = inl refl
unfit_opened g old new given found (openings.Faults faults) unfit h = absurd (no_fit g old.state given found unfit h.refused.fits)
unfit_opened g old new given found openings.NoKeys unfit h = absurd (unfit.keys (h.no_keys refl))
unfit_opened g old new given found openings.Failed unfit h = inr tt
unfit_opened g old new given found openings.NoMemory unfit h = inr tt

abbrev pub Gets : Status → Outcome → Type 0
Gets status outcome = (status_of outcome ≡ status) ⊎ IsYieldedTo (status_of outcome)

gets_unopened : (g : Geometry) (old new : DiskSeen) (status : Status) (outcome : Outcome)
    → ((cause : OpenNo) → HasRefused g old cause new → Gets status (unopened cause)) → IsUnopened g old new outcome → Gets status outcome
gets_unopened g old new status outcome each h = subst (λ (o : Outcome). Gets status o) (sym h.is) (each h.cause h.refused)

-- a geometry that does not fit is refused, unless the device fails or memory is refused
pub run_unfit : (w : Workload) (schedule : Schedule) (old new : DiskSeen) (given found : ℕ) (outcome : Outcome) → IsUnfit w.geometry old.state given found
    → RunDecides w schedule old new outcome → Gets statuses.Geometry outcome
run_unfit w schedule old new given found (outcomes.Done report) unfit h =
    absurd (no_fit w.geometry old.state given found unfit h.ran.owed.opens.opened.fits)
run_unfit w schedule old new given found (outcomes.Unsurveyed report cause) unfit h =
    absurd (no_fit w.geometry old.state given found unfit h.ran.owed.opens.opened.fits)
run_unfit w schedule old new given found outcomes.Memory unfit h = inr tt
run_unfit w schedule old new given found outcome unfit h =
    gets_unopened w.geometry old new statuses.Geometry outcome (λ cause refused. unfit_opened w.geometry old new given found cause unfit refused) h

-- where a device was opened that is not blank, the image may begin
began_told : (g : Geometry) (s t : State) (first last : Option Told) → t.counter ≡ s.counter + 1 → ((IfSome first (λ u. IsBlank u.image) → ⊥) → last ≡ first)
    → IfSome last (λ u. IsValid g t.counter u.image) → IsSomeAnd first (λ u. IsWrong g s.blocks (s.counter + 1) u.image) → ⊥
began_told g s t None last risen used valid wrong = wrong
began_told g s t (Some u) last risen used valid wrong =
    let same : last ≡ Some u = used (λ blank. wrong.wrong (inl blank)) in
    let valid_first = rw (same, risen) at valid in
    wrong.wrong (inr valid_first)

-- a device that has given all its keys, or whose image is wrong, is not opened
refusable_opened : (g : Geometry) (old opened : DiskSeen) → IsRefusable g old.state → Opens g old opened → ⊥
refusable_opened g old opened (inl at) opens = opens.keys at
refusable_opened g old opened (inr wrong) opens =
    began_told g old.state opened.state old.state.told opened.state.told (ap (λ (s : State). s.counter) opens.visited) opens.used opens.opened.valid wrong

wrong_fits : (g : Geometry) (s : State) (given found : ℕ) → IsSomeAnd s.told (λ t. IsWrong g s.blocks (s.counter + 1) t.image)
    → IfSome s.told (λ t. misfit g s.blocks t.image ≡ Some (given, found)) → ⊥
wrong_fits g s given found wrong is =
    contradicted s.told (λ t. IsWrong g s.blocks (s.counter + 1) t.image) (λ t. misfit g s.blocks t.image ≡ Some (given, found))
    (λ t w some. none_is_not_some (misfit g s.blocks t.image) (given, found) w.fits some) wrong is

-- but refused for that
refusable_unopened : (g : Geometry) (old new : DiskSeen) (cause : OpenNo) → IsRefusable g old.state → HasRefused g old cause new
    → Gets statuses.Volume (unopened cause)
refusable_unopened g old new (openings.Geometry given found) (inl at) h = absurd (keyless_geometry given found (h.keys at))
  where
    keyless_geometry : (given found : ℕ) → (openings.Geometry given found ≡ openings.NoKeys) ⊎ (openings.Geometry given found ≡ openings.NoMemory) → ⊥
    keyless_geometry given found (inl e) = cc
    keyless_geometry given found (inr e) = cc
refusable_unopened g old new (openings.Geometry given found) (inr wrong) h = absurd (wrong_fits g old.state given found wrong h.refused)
refusable_unopened g old new (openings.Faults faults) refusable h = inl refl
refusable_unopened g old new openings.NoKeys refusable h = inl refl
refusable_unopened g old new openings.Failed refusable h = inr tt
refusable_unopened g old new openings.NoMemory refusable h = inr tt

-- a volume that is to be refused is refused, unless the device fails or memory is refused
pub run_refusable : (w : Workload) (schedule : Schedule) (old new : DiskSeen) (outcome : Outcome) → IsRefusable w.geometry old.state
    → RunDecides w schedule old new outcome → Gets statuses.Volume outcome
run_refusable w schedule old new (outcomes.Done report) refusable h = absurd (refusable_opened w.geometry old h.opened refusable h.ran.owed.opens)
run_refusable w schedule old new (outcomes.Unsurveyed report cause) refusable h = absurd (refusable_opened w.geometry old h.opened refusable h.ran.owed.opens)
run_refusable w schedule old new outcomes.Memory refusable h = inr tt
run_refusable w schedule old new outcome refusable h =
    gets_unopened w.geometry old new statuses.Volume outcome (λ cause refused. refusable_unopened w.geometry old new cause refusable refused) h
