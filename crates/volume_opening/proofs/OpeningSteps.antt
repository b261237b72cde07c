-- What an opening leaves, by what it found.
use Rattle.std.proofs.Common.{◌≡◌, ◌≢◌, ◌⊎◌, ℕ, List, [], Option, Some, None, refl, sym, ap, ◌∙◌, subst, inl, inr}
use Rattle.std.specs.Global.{Global}
use Rattle.std.specs.Prelude.{Err, IfErr, IfOk, IfSome, IsOkAnd, Ok, OnOk, Result, Vec}
use Rattle.std.proofs.lemmas.Option.{IfSome_then}
use Rattle.vol_layout.specs.declared.geometry.Geometry.{Geometry}
use Rattle.image_view.specs.laws.FormatLaws.{formatted_is_valid}
use Rattle.image_view.specs.Formatted.{IsFormatted}
use Rattle.image_view.specs.laws.GeometryLaws.{geometry_of-spelled}
use Rattle.image_view.specs.Images.{Image, IsBlank, first_block, geometry_of}
use Rattle.image_view.specs.Valid.{IsValid, IsVolume}
use Rattle.shared_disk.specs.declared.answers.DiskNo.{DiskNo}
use Rattle.shared_disk.specs.declared.answers.DiskNo.TheVariants as disk_refusals
use Rattle.shared_disk.specs.Prefixes.{EachImage}
use Rattle.shared_disk.specs.State.{State, Told}
use Rattle.shared_disk.specs.laws.PrefixLaws.{EachImage-begun, EachImage-weaker}
use Rattle.volume_faults.specs.declared.fault.Fault.{Fault}
use Rattle.volume_faults.specs.Faults.{AreFaults}
use Rattle.volume_faults.specs.laws.ValidityLaws.{faultless_is_valid}
use Rattle.volume_opening.specs.declared.block_zero.Found.{Found}
use Rattle.volume_opening.specs.declared.block_zero.Found.TheVariants.{Blank, Volume, Other}
use Rattle.volume_opening.specs.declared.open_no.OpenNo.{OpenNo}
use Rattle.volume_opening.specs.declared.open_no.OpenNo.TheVariants as openings
use Rattle.volume_opening.specs.Found.{IsFound, found_geometry}
use Rattle.volume_opening.specs.laws.MisfitLaws.{misfit_none-same, zeros_spell_none}
use Rattle.volume_opening.specs.Misfits.{misfit, misfit_with}
use Rattle.volume_opening.specs.Openings.{IsOnTheWay, IsOpened, IsStillBlank, WasBlank}
use Rattle.volume_opening.proofs.FoundLaws.{superblock_of-found}
use Rattle.volume_opening.specs.Refusals.{HasFaults, IfFaults, IfGeometry, IsRefused, refusal_of}

pub same_size : (s t : State) (n : ℕ) → n ≡ t.blocks → t ≡ s → n ≡ s.blocks
same_size s t n is same = is ∙ ap (λ (u : State). u.blocks) same

-- where nothing was written
itself_on_the_way : (g : Geometry) (told : Option Told) → IfSome told (λ t. IsOnTheWay g told t.image)
itself_on_the_way g None = tt
itself_on_the_way g (Some t) = inl refl

pub unchanged_images : (g : Geometry) (s t : State) → t ≡ s → EachImage (IsOnTheWay g s.told) s.told t.told
unchanged_images g s t same = rw (ap (λ (u : State). u.told) same) (EachImage-begun (IsOnTheWay g s.told) s.told (itself_on_the_way g s.told))

itself_still_blank : (told : Option Told) → IfSome told (λ t. IsStillBlank told t.image)
itself_still_blank None = tt
itself_still_blank (Some t) = inl refl

pub unchanged_blank : (s t : State) → t ≡ s → EachImage (IsStillBlank s.told) s.told t.told
unchanged_blank s t same = rw (ap (λ (u : State). u.told) same) (EachImage-begun (IsStillBlank s.told) s.told (itself_still_blank s.told))

-- where a blank device was formatted, or was to be
pub images_formatted : (g : Geometry) (first last : Option Told) → WasBlank first → EachImage (λ image. IsBlank image ⊎ IsFormatted g image) first last
    → EachImage (IsOnTheWay g first) first last
images_formatted g None last blank images = EachImage-weaker (λ image. IsBlank image ⊎ IsFormatted g image) (IsOnTheWay g None) None last (λ image p. tt) images
images_formatted g (Some t) last blank images = EachImage-weaker (λ image. IsBlank image ⊎ IsFormatted g image) (IsOnTheWay g (Some t)) (Some t) last (λ image p. inr (blank, p)) images

pub images_blank : (g : Geometry) (first last : Option Told) → WasBlank first → EachImage IsBlank first last → EachImage (IsOnTheWay g first) first last
images_blank g None last blank images = EachImage-weaker IsBlank (IsOnTheWay g None) None last (λ image p. tt) images
images_blank g (Some t) last blank images = EachImage-weaker IsBlank (IsOnTheWay g (Some t)) (Some t) last (λ image p. inr (blank, inl p)) images

still_blank : (first last : Option Told) → WasBlank first → EachImage IsBlank first last → EachImage (IsStillBlank first) first last
still_blank None last blank images = EachImage-weaker IsBlank (IsStillBlank None) None last (λ image p. tt) images
still_blank (Some t) last blank images = EachImage-weaker IsBlank (IsStillBlank (Some t)) (Some t) last (λ image p. inr (blank, p)) images

-- what was found says what does not fit
pub told_fits : (g : Geometry) (blocks : ℕ) (told : Option Told) (found : Found) (answer : Option (ℕ × ℕ)) → IfSome told (λ t. IsFound (first_block t.image) found)
    → misfit_with g blocks (found_geometry found) ≡ answer → IfSome told (λ t. misfit g blocks t.image ≡ answer)
told_fits g blocks None found answer is fits = tt
told_fits g blocks (Some t) found answer is fits = ap (misfit_with g blocks) (superblock_of-found t.image found is) ∙ fits

-- whether the device is blank
pub blank_found : (told : Option Told) (found : Found) → found ≡ Blank → IfSome told (λ t. IsFound (first_block t.image) found) → WasBlank told
blank_found None found blank is = tt
blank_found (Some t) found blank is = rw blank at is

not_blank : (image : Image) (found : Found) → found ≢ Blank → IsFound (first_block image) found → IsBlank image → ⊥
not_blank image Blank some is blank = some refl
not_blank image (Volume h) some is blank = zeros_spell_none 4096 h (is.0, sym blank ∙ is.1)
not_blank image Other some is blank = is.0 blank

pub used_found : (told : Option Told) (found : Found) → found ≢ Blank → IfSome told (λ t. IsFound (first_block t.image) found) → IfSome told (λ t. IsBlank t.image → ⊥)
used_found None found some is = tt
used_found (Some t) found some is = not_blank t.image found some is

-- a formatted device is opened
pub opened_formatted : (g : Geometry) (s t : State) (found : Found) → IfSome s.told (λ told. IsFound (first_block told.image) found)
    → misfit_with g s.blocks (found_geometry found) ≡ None → IfSome t.told (λ told. IsFormatted g told.image) → IsOpened g s t
opened_formatted g s t found is fits formatted = record {
  fits = told_fits g s.blocks s.told found None is fits;
  valid = IfSome_then t.told formatted (λ told f. formatted_is_valid g t.counter told.image f);
  formatted = λ blank. formatted;
}

-- a refusal while a blank device was to be formatted
pub refused_format : (g : Geometry) (s t : State) (refusal : DiskNo) (answer : OpenNo) → answer ≡ refusal_of refusal → WasBlank s.told → EachImage IsBlank s.told t.told
    → refusal ≢ disk_refusals.NoKeys → IsRefused g s t answer
refused_format g s t disk_refusals.Fenced answer is blank images keys = rw is tt
refused_format g s t disk_refusals.Failed answer is blank images keys = rw is tt
refused_format g s t disk_refusals.NoKeys answer is blank images keys = absurd (keys refl)
refused_format g s t disk_refusals.NoMemory answer is blank images keys = rw is (still_blank s.told t.told blank images)

-- a refusal of the registration
pub refused_entry : (g : Geometry) (s t : State) (refusal : DiskNo) (answer : OpenNo) → answer ≡ refusal_of refusal → t ≡ s → IsRefused g s t answer
refused_entry g s t disk_refusals.Fenced answer is same = rw is tt
refused_entry g s t disk_refusals.Failed answer is same = rw is tt
refused_entry g s t disk_refusals.NoKeys answer is same = rw is tt
refused_entry g s t disk_refusals.NoMemory answer is same = rw is (unchanged_blank s t same)

-- a volume without a fault is one of the geometry that fits
valid_of : (g h : Geometry) (counter : ℕ) (image : Image) → geometry_of image ≡ h → g ≡ h → IsVolume counter image → IsValid g counter image
valid_of g h counter image is same valid = let P : Geometry → Type 0 = λ k. IsValid k counter image in subst P (is ∙ sym same) valid

volume_valid : (g : Geometry) (counter blocks : ℕ) (image : Image) (found : Found) → found ≢ Blank → IsFound (first_block image) found
    → misfit_with g blocks (found_geometry found) ≡ None → IsVolume counter image → IsValid g counter image
volume_valid g counter blocks image Blank some is fits valid = absurd (some refl)
volume_valid g counter blocks image (Volume h) some is fits valid = valid_of g h counter image (geometry_of-spelled h image is) (misfit_none-same g h blocks fits) valid
volume_valid g counter blocks image Other some is fits valid = absurd (is.1 (geometry_of image) valid.geometry)

told_valid : (g : Geometry) (counter blocks : ℕ) (told : Option Told) (found : Found) (xs : List Fault) → found ≢ Blank → IfSome told (λ t. IsFound (first_block t.image) found)
    → misfit_with g blocks (found_geometry found) ≡ None → xs ≡ [] → IfSome told (λ t. AreFaults counter t.image xs) → IfSome told (λ t. IsValid g counter t.image)
told_valid g counter blocks None found xs some is fits none are = tt
told_valid g counter blocks (Some t) found xs some is fits none are =
    volume_valid g counter blocks t.image found some is fits (faultless_is_valid counter t.image (rw none at are))

told_used : (g : Geometry) (told : Option Told) → IfSome told (λ t. IsBlank t.image → ⊥) → WasBlank told → IfSome told (λ t. IsFormatted g t.image)
told_used g None used blank = tt
told_used g (Some t) used blank = absurd (used blank)

opened_volume : (g : Geometry) (s t : State) (found : Found) (xs : List Fault) → t ≡ s → found ≢ Blank → IfSome s.told (λ told. IsFound (first_block told.image) found)
    → misfit_with g s.blocks (found_geometry found) ≡ None → xs ≡ [] → IfSome s.told (λ told. AreFaults s.counter told.image xs) → IsOpened g s t
opened_volume g s t found xs same some is fits none are =
    let told = ap (λ (u : State). u.told) same in
    let counter = ap (λ (u : State). u.counter) same in
    record {
      fits = told_fits g s.blocks s.told found None is fits;
      valid = rw (told, counter) (told_valid g s.counter s.blocks s.told found xs some is fits none are);
      formatted = λ blank. rw told (told_used g s.told (used_found s.told found some is) blank);
    }

-- a device that is not blank is judged by its faults
pub opened_judged : {E : Type 0} (g : Geometry) (s t : State) (found : Found) (listed : Result (Vec Fault Global) E) (result : Result (Unit {0}) OpenNo)
    → t ≡ s → found ≢ Blank → IfSome s.told (λ told. IsFound (first_block told.image) found) → misfit_with g s.blocks (found_geometry found) ≡ None
    → IfOk listed (λ xs. IfSome s.told (λ told. AreFaults s.counter told.image xs.items))
    → OnOk result (IsOkAnd listed (λ xs. xs.items ≡ [])) → OnOk result (IsOpened g s t)
opened_judged g s t found (Ok xs) (Ok x) same some is fits are none = opened_volume g s t found xs.items same some is fits none are
opened_judged g s t found (Err e) (Ok x) same some is fits are none = absurd none
opened_judged g s t found listed (Err answer) same some is fits are none = tt

has_faults : {E : Type 0} (g : Geometry) (s t : State) (found : Found) (listed : Result (Vec Fault Global) E) (xs : List Fault)
    → t ≡ s → found ≢ Blank → IfSome s.told (λ told. IsFound (first_block told.image) found) → misfit_with g s.blocks (found_geometry found) ≡ None
    → IfOk listed (λ ys. IfSome s.told (λ told. AreFaults s.counter told.image ys.items))
    → IsOkAnd listed (λ ys. (ys.items ≡ xs) × (xs ≢ [])) → HasFaults g s t xs
has_faults g s t found (Err e) xs same some is fits are one = absurd one
has_faults g s t found (Ok ys) xs same some is fits are one = record {
  fits = told_fits g s.blocks s.told found None is fits;
  used = used_found s.told found some is;
  some = one.1;
  faults = rw (ap (λ (u : State). u.counter) same) (rw one.0 at are);
}

pub refused_judged : {E : Type 0} (g : Geometry) (s t : State) (found : Found) (listed : Result (Vec Fault Global) E) (result : Result (Unit {0}) OpenNo)
    → t ≡ s → found ≢ Blank → IfSome s.told (λ told. IsFound (first_block told.image) found) → misfit_with g s.blocks (found_geometry found) ≡ None
    → IfOk listed (λ ys. IfSome s.told (λ told. AreFaults s.counter told.image ys.items))
    → IfErr result (λ answer. IfFaults answer (λ xs. IsOkAnd listed (λ ys. (ys.items ≡ xs) × (xs ≢ []))))
    → IfErr result (λ answer. IfGeometry answer (λ _ _. ⊥)) → result ≢ Err openings.NoKeys
    → IfErr result (IsRefused g s t)
refused_judged g s t found listed (Ok x) same some is fits are faults geometry keys = tt
refused_judged g s t found listed (Err (openings.Geometry a b)) same some is fits are faults geometry keys = absurd geometry
refused_judged g s t found listed (Err (openings.Faults xs)) same some is fits are faults geometry keys = has_faults g s t found listed xs.items same some is fits are faults
refused_judged g s t found listed (Err openings.NoKeys) same some is fits are faults geometry keys = absurd (keys refl)
refused_judged g s t found listed (Err openings.Failed) same some is fits are faults geometry keys = tt
refused_judged g s t found listed (Err openings.NoMemory) same some is fits are faults geometry keys = unchanged_blank s t same

-- what was matched on is not blank
pub not_blank_arm : (found : Found) → ((h : Geometry) × found ≡ Volume h) ⊎ (found ≡ Other) → found ≢ Blank
not_blank_arm found (inl volume) blank = let is = volume.1 in cc
not_blank_arm found (inr other) blank = cc
