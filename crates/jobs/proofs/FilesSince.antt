-- What a run owes to the files that its opened device has, it owes to those of the image handed in.
use Rattle.std.proofs.Common.{◌≡◌, ◌⊎◌, ◌≤◌, ◌∙◌, ℕ, List, [], Option, Some, None, IfSome, refl, sym, subst, inl, inr, arith, bytes_eq}
use Rattle.std.proofs.lemmas.Bool.{cases_lt, cases_Bool, true≢false}
use Rattle.std.proofs.lemmas.List.{get_or_past}
use Rattle.std.proofs.lemmas.List.FromFn.{get_or-map-range_with_len, length-map-range_with_len}
use Rattle.std.proofs.lemmas.Option.{IfSome_then}
use Rattle.std.proofs.lemmas.Slice.Eq.{bytes_eq-Decides}
use Rattle.vol_base.specs.Bytes.{zeros}
use Rattle.vol_base.specs.declared.plain.PlainCall.{PlainCall}
use Rattle.vol_layout.specs.declared.geometry.Geometry.{Geometry}
use Rattle.shared_disk.specs.Prefixes.{EachImage, Prefixes}
use Rattle.shared_disk.specs.State.{State, Told}
use Rattle.shared_disk.specs.laws.PrefixLaws.{Prefixes-forgets, Prefixes-joined, Prefixes-starts, EachImage-ends}
use Rattle.plain_files.specs.Plain.{Plain}
use Rattle.plain_files.specs.declared.history.Placed.{Placed}
use Rattle.image_view.specs.Files.{HasFiles, image_file}
use Rattle.image_view.specs.Images.{Image, IsBlank, first_block}
use Rattle.image_view.specs.Valid.{IsBlankOrValid, IsValid}
use Rattle.image_view.specs.laws.GeometryLaws.{image_file-blank, image_file-past}
use Rattle.histories.specs.Fronts.{AreFrontsUpTo, IsImageUpTo}
use Rattle.histories.specs.LineCalls.{calls_of}
use Rattle.workload.specs.declared.line.Workload.{Workload}
use Rattle.host_runs.specs.DeviceCalls.{OnImage}
use Rattle.host_runs.specs.RunStates.{RunState}
use Rattle.host_runs.specs.laws.FilesLaws.{IsLed, IsLedTo, IsPlainOf}
use Rattle.volume_opening.specs.Openings.{IsOnTheWay, WasBlank}
use Rattle.volume_opening.specs.laws.OpeningLaws.{opening_keeps_files, opening_keeps_valid}
use Rattle.jobs.specs.Runs.{MayBegin, files_of}

-- the plain files of an image are plain files of its volume
pub plain_of : (g : Geometry) (image : Image) → IsPlainOf g (files_of g image)
plain_of g image = record { limit = refl; files = length-map-range_with_len (λ f. image_file image f) 0 g.files }

none_past : (g : Geometry) (counter f : ℕ) (image : Image) → MayBegin g counter image → g.files ≤ f → image_file image f ≡ None
none_past g counter f image (inl blank) past = image_file-blank image f blank
none_past g counter f image (inr valid) past = image_file-past g image f valid.geometry past

-- an image that is blank or a volume of the geometry has its files
pub has_its_files : (g : Geometry) (counter : ℕ) (image : Image) → MayBegin g counter image → HasFiles image (files_of g image)
has_its_files g counter image is f =
    elim (cases_lt f g.files) [
      | inl below ↦ sym (get_or-map-range_with_len (λ k. image_file image k) 0 g.files f f None below (omega arith))
      | inr past ↦
          let long = (plain_of g image).files in
          none_past g counter f image is past ∙ sym (get_or_past (files_of g image).files f None (omega (arith, past, long)))
    ]

-- the image handed in is blank, or the opening left it
pub blank_or_same : (t : Told) (middle : Option Told) → ((WasBlank (Some t) → ⊥) → middle ≡ Some t) → IsBlank t.image ⊎ (middle ≡ Some t)
blank_or_same t middle used =
    let decides = bytes_eq-Decides (first_block t.image) (zeros 4096) in
    elim (cases_Bool (bytes_eq (first_block t.image) (zeros 4096))) [
      | inl is ↦ inl (decides.0 is)
      | inr other ↦ inr (used (λ blank. true≢false (sym (decides.1 blank) ∙ other)))
    ]

began_as : (g : Geometry) (counter : ℕ) (t : Told) (middle : Option Told) → IsBlank t.image ⊎ (middle ≡ Some t)
    → IfSome middle (λ u. IsValid g counter u.image) → MayBegin g counter t.image
began_as g counter t middle (inl blank) valid = inl blank
began_as g counter t middle (inr same) valid = inr (let V : Option Told → Type 0 = λ o. IfSome o (λ u. IsValid g counter u.image) in subst V same valid)

-- under the last counter the image handed in is blank or valid
was_valid : (counter : ℕ) (calls : List (Option PlainCall)) (p : Plain) (t : Told) (middle last : Option Told) (history : List Placed)
    → IsBlank t.image ⊎ (middle ≡ Some t) → AreFrontsUpTo counter calls p middle last history → IsBlankOrValid counter t.image
unfolding AreFrontsUpTo
was_valid counter calls p t middle last history (inl blank) fronts = inl blank
was_valid counter calls p t middle last history (inr same) fronts =
    let begins : Prefixes (IsImageUpTo counter calls p) (Some t) last history =
    subst (λ (o : Option Told). Prefixes (IsImageUpTo counter calls p) o last history) same fronts in
    (Prefixes-starts (IsImageUpTo counter calls p) (Some t) last history begins).1.volume

-- each image of the opening stands for the empty history
stands_on_the_way : (g : Geometry) (counter : ℕ) (calls : List (Option PlainCall)) (p : Plain) (t : Told) (image : Image)
    → IsBlankOrValid counter t.image → HasFiles t.image p → IsOnTheWay g (Some t) image → IsImageUpTo counter calls p image []
stands_on_the_way g counter calls p t image was has on = record {
  volume = opening_keeps_valid g counter t image was on;
  files = λ f. opening_keeps_files g t image f on ∙ has f;
}

-- so the fronts of a run are those since the image handed in
fronts_since : (g : Geometry) (counter : ℕ) (calls : List (Option PlainCall)) (p : Plain) (t : Told) (middle last : Option Told) (history : List Placed)
    → IsBlankOrValid counter t.image → HasFiles t.image p → EachImage (IsOnTheWay g (Some t)) (Some t) middle
    → AreFrontsUpTo counter calls p middle last history → AreFrontsUpTo counter calls p (Some t) last history
unfolding AreFrontsUpTo EachImage
fronts_since g counter calls p t middle last history was has images fronts =
    let Stands = IsImageUpTo counter calls p in
    let opening : Prefixes Stands (Some t) middle [] =
    Prefixes-forgets {E = ℕ} {F = Placed} (λ image _. IsOnTheWay g (Some t) image) Stands (Some t) middle []
    (λ image h on. stands_on_the_way g counter calls p t image was has on) images in
    Prefixes-joined Stands (Some t) middle last [] history opening fronts

-- what a run owes to all files that its first image has
abbrev pub Leads : Workload → Option Told → RunState → Type 0
Leads w first last = (p : Plain) → IsPlainOf w.geometry p → IfSome first (λ u. HasFiles u.image p) → IsLed w p first last

led_since : (w : Workload) (counter : ℕ) (t : Told) (middle : Option Told) (last : RunState)
    → EachImage (IsOnTheWay w.geometry (Some t)) (Some t) middle → ((WasBlank (Some t) → ⊥) → middle ≡ Some t)
    → IfSome middle (λ u. IsValid w.geometry counter u.image) → Leads w middle last
    → IsLed w (files_of w.geometry t.image) (Some t) last
led_since w counter t middle last images used valid leads =
    let g = w.geometry in
    let p = files_of g t.image in
    let or_same = blank_or_same t middle used in
    let has = has_its_files g counter t.image (began_as g counter t middle or_same valid) in
    let ends = EachImage-ends (IsOnTheWay g (Some t)) (Some t) middle images in
    let led = leads p (plain_of g t.image) (IfSome_then middle ends (λ u on f. opening_keeps_files g t u.image f on ∙ has f)) in
    let was = was_valid last.device.state.counter (calls_of w.lines) p t middle last.device.state.told last.history or_same led.fronts in
    record {
      last = led.last;
      fronts = fronts_since g last.device.state.counter (calls_of w.lines) p t middle last.device.state.told last.history was has images led.fronts;
    }

pub led_told : (w : Workload) (counter : ℕ) (first middle : Option Told) (last : RunState)
    → EachImage (IsOnTheWay w.geometry first) first middle → ((WasBlank first → ⊥) → middle ≡ first)
    → IfSome middle (λ u. IsValid w.geometry counter u.image) → Leads w middle last
    → IfSome first (λ t. IsLed w (files_of w.geometry t.image) first last)
led_told w counter None middle last images used valid leads = tt
led_told w counter (Some t) middle last images used valid leads = led_since w counter t middle last images used valid leads

-- a state with the same content and history
pub led_moved : (w : Workload) (p : Plain) (first : Option Told) (s t : RunState) → t.device.state ≡ s.device.state → t.history ≡ s.history
    → IsLed w p first s → IsLed w p first t
led_moved w p first s t state history led =
    let L : State → List Placed → Type 0 = λ a h.
    OnImage a (IsLedTo w p a.counter h) × AreFrontsUpTo a.counter (calls_of w.lines) p first a.told h in
    let moved : L t.device.state s.history = subst (λ (a : State). L a s.history) (sym state) (led.last, led.fronts) in
    let both : L t.device.state t.history = subst (λ (h : List Placed). L t.device.state h) (sym history) moved in
    record { last = both.0; fronts = both.1 }

-- the last image of a run is valid, whatever the files of the first one are
some_plain : (g : Geometry) (counter : ℕ) (first : Option Told) → IfSome first (λ u. IsValid g counter u.image)
    → (p : Plain) × IsPlainOf g p × IfSome first (λ u. HasFiles u.image p)
some_plain g counter None valid = (files_of g [], plain_of g [], tt)
some_plain g counter (Some u) valid = (files_of g u.image, plain_of g u.image, has_its_files g counter u.image (inr valid))

pub ends_valid : (w : Workload) (counter : ℕ) (first : Option Told) (last : RunState) → IfSome first (λ u. IsValid w.geometry counter u.image)
    → Leads w first last → OnImage last.device.state (IsValid w.geometry last.device.state.counter)
ends_valid w counter first last valid leads =
    let some = some_plain w.geometry counter first valid in
    IfSome_then last.device.state.told (leads some.0 some.1 some.2).last (λ u led. led.valid)
