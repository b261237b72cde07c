-- What the device is that a host hands back.
use Rattle.std.proofs.Common.{◌≡◌, ◌≤◌, arith, [], None, Ok, Err, Result, refl, ap, subst, ◌∙◌}
use Rattle.std.specs.Prelude.{IfErr, IfSome, OnOk}
use Rattle.vol_layout.specs.declared.geometry.Geometry.{Geometry}
use Rattle.call_effects.specs.Changes.{Changes}
use Rattle.call_effects.specs.Places.{KeepsFiles}
use Rattle.disk_locks.specs.Consistent.{Consistent}
use Rattle.disk_locks.specs.Sure.{BothTold}
use Rattle.host_facts.specs.Views.{WorldView}
use Rattle.host_facts.specs.Wrote.{FilesStay}
use Rattle.host_facts.specs.laws.ToldLaws.{both_same}
use Rattle.image_view.specs.HostKeys.{slot_state_at}
use Rattle.image_view.specs.Valid.{IsValid}
use Rattle.lock_store.specs.Views.{counter_of, told_of}
use Rattle.plan_parts.specs.laws.QuietCallLaws.{valid_now}
use Rattle.recover_plan.specs.KeptVolumes.{KeepsVolume}
use Rattle.recover_plan.specs.LoneSteps.{IsSlotFree}
use Rattle.shared_disk.specs.Seen.{DiskSeen}
use Rattle.settle.specs.Passes.{GoesOn}
use Rattle.solo.specs.Alone.{IsLater}
use Rattle.solo.specs.Stops.{HasCause}
use Rattle.solo.specs.Views.{IsSince, SoloView, state_of, told, volume}
use Rattle.settle.specs.declared.lone.LoneNo.{LoneNo}
use Rattle.solo.specs.laws.BeganLaws.{refusal_since}
use Rattle.solo.specs.laws.LaterLaws.{goes_later}

module _ (s : SoloView) (v w : WorldView) (d : DiskSeen) (same : v ≡ s.world) (disk : w.locks.disk ≡ d) where
  pub closed_files : FilesStay v w → BothTold (told s) d.state.told KeepsFiles
  closed_files files =
      subst (λ (x : DiskSeen). BothTold (told s) x.state.told KeepsFiles) disk
      (subst (λ (x : WorldView). BothTold (told_of x.locks) (told_of w.locks) KeepsFiles) same files)

  pub closed_valid : w.locks.geometry ≡ v.locks.geometry → Consistent w.locks
      → IfSome d.state.told (λ t. IsValid (volume s) d.state.counter t.image)
  closed_valid geometry is =
      subst (λ (x : DiskSeen). IfSome x.state.told (λ t. IsValid (volume s) x.state.counter t.image)) disk
      (subst (λ (g : Geometry). IfSome (told_of w.locks) (λ t. IsValid g (counter_of w.locks) t.image))
      (geometry ∙ ap (λ (x : WorldView). x.locks.geometry) same) (valid_now w is))

  pub closed_goes : IsLater 0 v w → GoesOn (state_of s).counter d.state.counter (told s) d.state.told
  closed_goes later =
      subst (λ (x : DiskSeen). GoesOn (state_of s).counter x.state.counter (told s) x.state.told) disk
      (subst (λ (x : WorldView). GoesOn (counter_of x.locks) (counter_of w.locks) (told_of x.locks) (told_of w.locks)) same
      (goes_later v w later))

  pub closed_volume : (r : Result Unit LoneNo) → OnOk r (KeepsVolume v w)
      → OnOk r (BothTold (told s) d.state.told (Changes (volume s) [] None))
  closed_volume (Ok done) kept =
      subst (λ (x : DiskSeen). BothTold (told s) x.state.told (Changes (volume s) [] None)) disk
      (subst (λ (x : WorldView). BothTold (told_of x.locks) (told_of w.locks) (Changes x.locks.geometry [] None)) same kept)
  closed_volume (Err no') kept = tt

  pub closed_free : (r : Result Unit LoneNo) → w.locks.geometry ≡ v.locks.geometry → OnOk r (IsSlotFree w 0)
      → OnOk r (IfSome d.state.told (λ t. slot_state_at (volume s) t.image 0 ≡ 0))
  closed_free (Ok done) geometry free =
      subst (λ (x : DiskSeen). IfSome x.state.told (λ t. slot_state_at (volume s) t.image 0 ≡ 0)) disk
      (subst (λ (g : Geometry). IfSome (told_of w.locks) (λ t. slot_state_at g t.image 0 ≡ 0))
      (geometry ∙ ap (λ (x : WorldView). x.locks.geometry) same) free)
  closed_free (Err no') geometry free = tt

-- what holds in any case holds where a host left
pub on_left : {P : Type 0} (r : Result Unit LoneNo) → P → OnOk r P
on_left (Ok done) holds = holds
on_left (Err no') holds = tt

-- since the host began
pub closed_since : (began : DiskSeen) (v w : WorldView) (d : DiskSeen) (r : Result Unit LoneNo) → IsSince began v.locks.disk → w.locks.disk ≡ d
    → IfErr r (HasCause v.locks.disk w.locks.disk) → IfErr r (HasCause began d)
closed_since began v w d (Ok done) later disk cause = tt
closed_since began v w d (Err no') later disk cause =
    subst (λ (x : DiskSeen). HasCause began x no') disk (refusal_since began v.locks.disk w.locks.disk no' later cause)

pub closed_later : (began : DiskSeen) (v w : WorldView) (d : DiskSeen) → IsSince began v.locks.disk → w.locks.disk ≡ d
    → v.locks.disk.faults ≤ w.locks.disk.faults → began.faults ≤ d.faults
closed_later began v w d later disk faults =
    subst (λ (x : DiskSeen). began.faults ≤ x.faults) disk (let first = later.faults in omega (arith, first, faults))

-- a host that was stopped hands its device back as it is
pub closed_still : (s : SoloView) (v : WorldView) (d : DiskSeen) → v ≡ s.world → v.locks.disk ≡ d → BothTold (told s) d.state.told KeepsFiles
closed_still s v d same disk =
    closed_files s v v d same disk (both_same (told_of v.locks) (told_of v.locks) KeepsFiles refl (λ image f. refl))
