-- What stands on a device that is opened for a lone host.
use Rattle.std.proofs.Common.{◌≡◌, ◌≤◌, ◌<◌, ◌+◌, ℕ, List, [], None, Some, sym, subst, arith}
use Rattle.std.specs.Prelude.{◌≢◌, ◌↔◌, Contains, Err, IfSome, Result, slice_get}
use Rattle.vol_base.specs.Faults.{Rose}
use Rattle.shared_disk.specs.declared.answers.DiskNo.{DiskNo}
use Rattle.shared_disk.specs.declared.answers.DiskNo.TheVariants as refusals
use Rattle.std.proofs.lemmas.Option.{get_or_from_slice_get}
use Rattle.vol_layout.specs.Regions.{regions, total}
use Rattle.vol_layout.specs.Superblock.{SpellsGeometry}
use Rattle.vol_layout.specs.declared.geometry.Geometry.{Geometry}
use Rattle.shared_disk.specs.Calls.{after_register}
use Rattle.shared_disk.specs.State.{HasWholeImage, Stands, State}
use Rattle.shared_disk.specs.Visits.{after_visit}
use Rattle.image_view.specs.Images.{Image, first_block, geometry_of}
use Rattle.image_view.specs.Valid.{IsValid, IsVolume}
use Rattle.image_view.specs.laws.GeometryLaws.{geometry_of-spelled}
use Rattle.image_view.specs.laws.ValidLaws.{IsValid-later}
use Rattle.host_facts.specs.laws.ToldLaws.{join_told, map_told}
use Rattle.recover_plan.specs.laws.StepLaws.{none_told}
use Rattle.solo.specs.Starts.{IsOpenAs, TellsVolume}

first_is : (image : Image) (block : List ℕ) → slice_get image 0 ≡ Some block → first_block image ≡ block
first_is image block stands = get_or_from_slice_get image 0 block [] stands

some_total : (g : Geometry) → 0 < total g
unfolding total regions
some_total g = omega arith

-- a device of no block tells nothing
pub empty_untold : (s : State) → s.blocks ≡ 0 → HasWholeImage s → TellsVolume s → s.told ≡ None
empty_untold s none whole volume =
    none_told s.told (join_told s.told _ _ _ whole volume (λ t long is.
    let few = is.long in
    let some = some_total (geometry_of t.image) in
    absurd (omega (arith, few, some, long, none))))

-- nor does one whose block 0 says no geometry
pub other_untold : (s : State) (block : List ℕ) → Stands s 0 block → ((g : Geometry) → SpellsGeometry block g → ⊥) → TellsVolume s
    → s.told ≡ None
other_untold s block stands none volume =
    none_told s.told (join_told s.told _ _ _ stands volume (λ t there is.
    none (geometry_of t.image) (subst (λ (b : List ℕ). SpellsGeometry b (geometry_of t.image)) (first_is t.image block there) is.geometry)))

-- the image is a valid volume of the geometry that its block 0 says
valid_as : (g : Geometry) (counter : ℕ) (image : Image) (block : List ℕ) → SpellsGeometry block g → slice_get image 0 ≡ Some block
    → IsVolume counter image → IsValid g counter image
valid_as g counter image block spells there volume =
    let spelled = subst (λ (b : List ℕ). SpellsGeometry b g) (sym (first_is image block there)) spells in
    subst (λ (x : Geometry). IsValid x counter image) (geometry_of-spelled g image spelled) volume

pub told_valid : (s : State) (g : Geometry) (block : List ℕ) → SpellsGeometry block g → Stands s 0 block → TellsVolume s
    → IfSome s.told (λ t. IsValid g s.counter t.image)
told_valid s g block spells stands volume =
    join_told s.told _ _ _ stands volume (λ t there is. valid_as g s.counter t.image block spells there is)

-- nor one that is too short for its volume
pub short_untold : (s : State) (g : Geometry) (block : List ℕ) → SpellsGeometry block g → Stands s 0 block → HasWholeImage s → s.blocks < total g
    → TellsVolume s → s.told ≡ None
short_untold s g block spells stands whole short volume =
    none_told s.told (join_told s.told _ _ _ whole (told_valid s g block spells stands volume) (λ t long is.
    let few = is.long in absurd (omega (arith, few, long, short))))

-- a registration and a fence leave the volume
pub volume_later : (s : State) (counter : ℕ) → s.counter ≤ counter → TellsVolume s → IfSome s.told (λ t. IsVolume counter t.image)
volume_later s counter later volume =
    map_told s.told _ _ volume (λ t is. IsValid-later (geometry_of t.image) s.counter counter t.image later is)

pub visited_volume : (s t : State) → t ≡ after_visit s → TellsVolume s → TellsVolume t
visited_volume s t is volume = subst TellsVolume (sym is) (volume_later s (s.counter + 1) (omega arith) volume)

pub registered_volume : (s t : State) → t ≡ after_register 0 s → TellsVolume s → TellsVolume t
registered_volume s t is volume = subst TellsVolume (sym is) (volume_later s (s.counter + 1) (omega arith) volume)

pub visited_open : (s t : State) (g : Geometry) → t ≡ after_visit s → IsOpenAs g (after_register 0 s) → IsOpenAs g t
visited_open s t g is opened = subst (IsOpenAs g) (sym is) (record { range = opened.range; long = opened.long; valid = opened.valid })

-- a fence under a registered key is refused only where the device fails
pub fence_failed : (result : Result Unit DiskNo) (why : DiskNo) (keys : List ℕ) (key a b : ℕ) → result ≡ Err why → Contains keys key
    → ((result ≡ Err refusals.Fenced) ↔ (Contains keys key → ⊥)) → result ≢ Err refusals.NoKeys → result ≢ Err refusals.NoMemory
    → (result ≡ Err refusals.Failed → Rose a b) → Rose a b
fence_failed result refusals.Fenced keys key a b is here fenced spent full failed = absurd (fenced.0 is here)
fence_failed result refusals.Failed keys key a b is here fenced spent full failed = failed is
fence_failed result refusals.NoKeys keys key a b is here fenced spent full failed = absurd (spent is)
fence_failed result refusals.NoMemory keys key a b is here fenced spent full failed = absurd (full is)
