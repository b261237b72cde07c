-- What a cluster that was started and closed tells of the run of its workload.
use Rattle.std.proofs.Common.{◌≡◌, ◌⊎◌, ◌∙◌, List, Option, Some, None, IfSome, refl, sym, ap, subst, inl, inr}
use Rattle.std.specs.Prelude.{IsSome, IsSomeAnd}
use Rattle.std.proofs.lemmas.Option.{IfSome_then}
use Rattle.vol_base.specs.declared.answer.Answer.{Answer}
use Rattle.vol_layout.specs.declared.geometry.Geometry.{Geometry}
use Rattle.shared_disk.specs.Prefixes.{EachImage, Prefixes}
use Rattle.shared_disk.specs.Seen.{DiskSeen}
use Rattle.shared_disk.specs.State.{OnImages, State, Told}
use Rattle.plain_files.specs.Plain.{Plain}
use Rattle.plain_files.specs.declared.history.Placed.{Placed}
use Rattle.workload.specs.declared.line.Workload.{Workload}
use Rattle.image_view.specs.Files.{HasFiles}
use Rattle.image_view.specs.Formatted.{IsFormatted}
use Rattle.image_view.specs.Images.{IsBlank}
use Rattle.image_view.specs.Valid.{IsValid}
use Rattle.histories.specs.Fit.{Fits}
use Rattle.host_runs.specs.DeviceCalls.{OnImage}
use Rattle.host_runs.specs.Notes.{no_notes}
use Rattle.host_runs.specs.RunStates.{RunState, opening}
use Rattle.host_runs.specs.Runs.{Run}
use Rattle.host_runs.specs.Tidy.{HasFreeSlots, IsReady}
use Rattle.host_runs.specs.laws.DeviceLaws.{blocks-run}
use Rattle.host_runs.specs.laws.FilesLaws.{IsLed, IsPlainOf}
use Rattle.host_runs.specs.laws.OpenedLaws.{formatted_free}
use Rattle.cluster.specs.Runs.{Facts, SameStart, showing}
use Rattle.cluster.specs.Starts.{HasStarted}
use Rattle.cluster.specs.Views.{ClusterView, disk_of, state_of}
use Rattle.volume_opening.specs.Openings.{IsOnTheWay, WasBlank}
use Rattle.jobs.specs.Beyond.{KeepsBeyond}
use Rattle.jobs.specs.Runs.{HasSomeRun, IsOwed, IsRunOf, IsUnused, Opens, Schedule}
use Rattle.jobs.proofs.BeyondLaws.{run_beyond}
use Rattle.jobs.proofs.FilesSince.{Leads, blank_or_same, ends_valid, led_moved, led_told}

pub opens_of : (w : Workload) (old : DiskSeen) (c : ClusterView) → HasStarted old w c → Opens w.geometry old c.began
opens_of w old c h = record {
  keys = h.keys;
  long = h.long;
  opened = h.opened;
  visited = h.visited;
  images = h.images;
  used = h.used;
  later = h.later;
}

-- a cluster of the same start has the workload
pub same_workload : (w : Workload) (old : DiskSeen) (c d : ClusterView) → HasStarted old w c → SameStart c d → d.parts.workload ≡ w
same_workload w old c d h same = same.workload ∙ h.workload

-- what it keeps, in the words of the workload and of the opened device, at a state with its content and history
leads_of : (w : Workload) (old : DiskSeen) (c d : ClusterView) (last : RunState) → HasStarted old w c → SameStart c d → Facts d
    → last.device.state ≡ (disk_of d.parts).state → last.history ≡ d.parts.ledger.history → Leads w c.began.state.told last
leads_of w old c d last h same facts state history =
    let L : Workload → DiskSeen → Type 0 = λ v b.
    (p : Plain) → IsPlainOf v.geometry p → OnImage b.state (λ image. HasFiles image p) → IsLed v p b.state.told last in
    let kept : L d.parts.workload d.began = λ p plain has. led_moved d.parts.workload p d.began.state.told _ last state history (facts.led p plain has) in
    let began : L d.parts.workload c.began = subst (λ (b : DiskSeen). L d.parts.workload b) same.began kept in
    subst (λ (v : Workload). L v c.began) (same_workload w old c d h same) began

fits_of : (w : Workload) (old : DiskSeen) (c d : ClusterView) (last : RunState) → HasStarted old w c → SameStart c d → Facts d
    → last.answers ≡ d.parts.ledger.answers → last.history ≡ d.parts.ledger.history → Fits w.lines last.answers last.history
fits_of w old c d last h same facts answers history =
    let F : Workload → List (Option Answer) → List Placed → Type 0 = λ v xs ys. Fits v.lines xs ys in
    let one : F w d.parts.ledger.answers d.parts.ledger.history =
    subst (λ (v : Workload). F v d.parts.ledger.answers d.parts.ledger.history) (same_workload w old c d h same) facts.fits in
    let two : F w last.answers d.parts.ledger.history = subst (λ (xs : List (Option Answer)). F w xs d.parts.ledger.history) (sym answers) one in
    subst (λ (ys : List Placed). F w last.answers ys) (sym history) two

beyond_of : (w : Workload) (old : DiskSeen) (c d : ClusterView) (last : RunState) → HasStarted old w c → SameStart c d → Facts d
    → last.device.state ≡ (disk_of d.parts).state → OnImages (KeepsBeyond w.geometry) c.began.state.told last.device.state.told
beyond_of w old c d last h same facts state =
    let run = facts.run in
    let end = state_of (showing run.last d.parts) run.notes in
    let B : Workload → DiskSeen → State → Type 0 = λ v b s. OnImages (KeepsBeyond v.geometry) b.state.told s.told in
    let kept : B d.parts.workload d.began run.last.state =
    run_beyond d.parts.workload (opening d.parts.workload d.began) run.calls end run.leads in
    let here : B d.parts.workload d.began last.device.state = subst (λ (s : State). B d.parts.workload d.began s) (run.shown ∙ sym state) kept in
    let began : B d.parts.workload c.began last.device.state = subst (λ (b : DiskSeen). B d.parts.workload b last.device.state) same.began here in
    subst (λ (v : Workload). B v c.began last.device.state) (same_workload w old c d h same) began

-- so its run is owed all, since the image handed in
pub owed_of : (w : Workload) (old : DiskSeen) (c d : ClusterView) (last : RunState) → HasStarted old w c → SameStart c d → Facts d
    → last.device.state ≡ (disk_of d.parts).state → last.answers ≡ d.parts.ledger.answers → last.history ≡ d.parts.ledger.history
    → IsOwed w old c.began last
owed_of w old c d last h same facts state answers history = record {
  opens = opens_of w old c h;
  fits = fits_of w old c d last h same facts answers history;
  led = led_told w c.began.state.counter old.state.told c.began.state.told last h.images h.used h.opened.valid
      (leads_of w old c d last h same facts state history);
  beyond = beyond_of w old c d last h same facts state;
}

-- and the volume that it leaves is valid
pub closed_valid : (w : Workload) (old : DiskSeen) (c d : ClusterView) → HasStarted old w c → SameStart c d → Facts d
    → OnImage (disk_of d.parts).state (IsValid w.geometry (disk_of d.parts).state.counter)
closed_valid w old c d h same facts =
    let last : RunState = state_of d.parts (λ host. no_notes) in
    ends_valid w c.began.state.counter c.began.state.told last h.opened.valid (leads_of w old c d last h same facts refl refl)

-- which has as many blocks as the device handed in
pub blocks_stay : (w : Workload) (old : DiskSeen) (c d : ClusterView) → HasStarted old w c → SameStart c d → Facts d
    → (disk_of d.parts).state.blocks ≡ old.state.blocks
blocks_stay w old c d h same facts =
    let run = facts.run in
    let last = state_of (showing run.last d.parts) run.notes in
    let stayed = blocks-run d.parts.workload (opening d.parts.workload d.began) run.calls last run.leads in
    ap (λ (s : State). s.blocks) (sym run.shown) ∙ stayed ∙ ap (λ (b : DiskSeen). b.state.blocks) same.began ∙ h.blocks

-- memory was refused: what it keeps of its run
pub broken_off : (w : Workload) (old new : DiskSeen) (c d : ClusterView) → HasStarted old w c → SameStart c d → Facts d
    → new.state.told ≡ (disk_of d.parts).state.told → HasSomeRun w old new
broken_off w old new c d h same facts left =
    let run = facts.run in
    let last : RunState = state_of (showing run.last d.parts) run.notes in
    let R : Workload → DiskSeen → Type 0 = λ v b. Run v (opening v b) run.calls last in
    let began : R d.parts.workload c.began = subst (λ (b : DiskSeen). R d.parts.workload b) same.began run.leads in
    record {
      opened = c.began;
      last = last;
      owed = owed_of w old c d last h same facts run.shown refl refl;
      calls = run.calls;
      run = subst (λ (v : Workload). R v c.began) (same_workload w old c d h same) began;
      left = left ∙ ap (λ (s : State). s.told) (sym run.shown);
    }

-- an image that was handed in blank, or without a host, is one without a host when it is opened
free_of : (g : Geometry) (t : Told) (middle : Option Told) → IsBlank t.image ⊎ (middle ≡ Some t) → IsUnused g t.image
    → (IsBlank t.image → IfSome middle (λ u. IsFormatted g u.image)) → IfSome middle (λ u. HasFreeSlots g u.image)
free_of g t middle or_same (inl blank) formatted = IfSome_then middle (formatted blank) (λ u is. formatted_free g u.image is)
free_of g t middle (inl blank) (inr free) formatted = IfSome_then middle (formatted blank) (λ u is. formatted_free g u.image is)
free_of g t middle (inr same) (inr free) formatted =
    let F : Option Told → Type 0 = λ o. IfSome o (λ u. HasFreeSlots g u.image) in subst F (sym same) free

free_told : (g : Geometry) (first middle : Option Told) → ((WasBlank first → ⊥) → middle ≡ first)
    → (WasBlank first → IfSome middle (λ u. IsFormatted g u.image)) → IsSomeAnd first (λ t. IsUnused g t.image) → IfSome middle (λ u. HasFreeSlots g u.image)
free_told g None middle used formatted unused = absurd unused
free_told g (Some t) middle used formatted unused = free_of g t middle (blank_or_same t middle used) unused formatted

-- a device that told its image tells one
told_on : (g : Geometry) (first middle : Option Told) → EachImage (IsOnTheWay g first) first middle → IsSomeAnd first (λ t. IsUnused g t.image) → IsSome middle
unfolding EachImage Prefixes
told_on g None middle images unused = absurd unused
told_on g (Some t) None images unused = absurd images
told_on g (Some t) (Some u) images unused = refl

-- a device that is ready for a tidy run
pub ready_of : (w : Workload) (old opened : DiskSeen) → Opens w.geometry old opened → IsSomeAnd old.state.told (λ t. IsUnused w.geometry t.image)
    → IsReady w opened
ready_of w old opened opens unused = record {
  told = told_on w.geometry old.state.told opened.state.told opens.images unused;
  valid = opens.opened.valid;
  free = free_told w.geometry old.state.told opened.state.told opens.used opens.opened.formatted unused;
}

-- a run to its end is some run
pub some_run : (w : Workload) (schedule : Schedule) (old opened new : DiskSeen) (last : RunState) → IsRunOf w schedule old opened last
    → new.state.told ≡ last.device.state.told → HasSomeRun w old new
some_run w schedule old opened new last ran left =
    record { opened = opened; last = last; owed = ran.owed; calls = ran.calls; run = ran.run; left = left }
