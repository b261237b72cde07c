-- What was found in the blocks that were read, said of the image that the device tells.
use Rattle.std.proofs.Common.{◌≡◌, ◌<◌, ◌≤◌, ℕ, List, [], ◌∷◌, Option, Some, None, length, refl, sym, ap, ◌∙◌, arith}
use Rattle.std.specs.Prelude.{IfSome, IsNone, slice_get}
use Rattle.std.proofs.lemmas.Option.{IfSome_then, get_or_from_slice_get}
use Rattle.vol_base.specs.Bytes.{zeros}
use Rattle.vol_base.specs.laws.BytesLaws.{length-zeros}
use Rattle.vol_layout.specs.declared.geometry.Geometry.{Geometry}
use Rattle.vol_layout.specs.Regions.{regions, total}
use Rattle.vol_layout.specs.Superblock.{SpellsGeometry}
use Rattle.shared_disk.specs.State.{HasWholeImage, Stands, State, Told}
use Rattle.image_view.specs.laws.GeometryLaws.{geometry_of-spelled}
use Rattle.image_view.specs.Images.{Image, IsBlank, first_block, geometry_of}
use Rattle.image_view.specs.Usages.{usage_in, usage_of}
use Rattle.volume_faults.specs.declared.fault.Fault.{Fault}
use Rattle.volume_faults.specs.declared.fault.FaultKind.TheVariants as faults
use Rattle.volume_faults.specs.laws.AgreeLaws.{Agrees, Agrees-sym, IsPassed_kept, table_faults_same, usage_same}
use Rattle.volume_faults.specs.Faults.{AreFaults, AreTableFaults}
use Rattle.volume_faults.specs.laws.ValidityLaws.{no_block_is_the_fault, no_superblock_is_the_fault, table_faults_are_faults, too_short_is_the_fault}
use Rattle.volume_check.specs.Metadatas.{Metadata, Passes}
use Rattle.volume_faults.specs.Readable.{IsReadable, IsReadableVolume}

both_told : {T : Type 0} (P Q : T → Type 0) (told : Option T) → IfSome told P → IfSome told Q → IfSome told (λ t. P t × Q t)
both_told P Q None p q = tt
both_told P Q (Some t) p q = (p, q)

pub none_told : {T : Type 0} (told : Option T) → IfSome told (λ _. ⊥) → IsNone told
none_told None none = refl
none_told (Some t) none = absurd none

-- the block that stands at place 0 is the first block
first_is : (image : Image) (block : List ℕ) → slice_get image 0 ≡ Some block → first_block image ≡ block
first_is image block stands = get_or_from_slice_get image 0 block [] stands

no_image : (image : Image) → length image ≡ 0 → image ≡ []
no_image [] none = refl
no_image (x ∷ xs) none = absurd (omega (arith, none))

0_lt_total : (g : Geometry) → 0 < total g
unfolding total regions
0_lt_total g = omega arith

-- a device of no block has no superblock, and is not blank
pub empty_device : (s : State) (counter : ℕ) → s.blocks ≡ 0 → HasWholeImage s
    → IfSome s.told (λ t. AreFaults counter t.image (record { place = 0; kind = faults.Superblock } ∷ []))
empty_device s counter none whole =
    IfSome_then s.told whole (λ t long. rw (no_image t.image (long ∙ none)) (no_block_is_the_fault counter))

pub empty_is_not_blank : (s : State) → s.blocks ≡ 0 → HasWholeImage s → IfSome s.told (λ t. IsBlank t.image → ⊥)
empty_is_not_blank s none whole =
    IfSome_then s.told whole (λ t long blank.
    let bytes : [] ≡ zeros 4096 = sym (ap first_block (no_image t.image (long ∙ none))) ∙ blank in
    let long : 0 ≡ 4096 = ap length bytes ∙ length-zeros 4096 in
    absurd (omega (arith, long)))

pub empty_is_not_readable : (s : State) → s.blocks ≡ 0 → HasWholeImage s → IfSome s.told (λ t. IsReadableVolume s.counter t.image) → IsNone s.told
empty_is_not_readable s none whole readable =
    none_told s.told (IfSome_then s.told (both_told _ _ s.told whole readable) (λ t is.
    let long = is.1.long in
    let some : 0 < total (geometry_of t.image) = 0_lt_total (geometry_of t.image) in
    omega (arith, long, some, is.0, none)))

-- a block 0 that spells no geometry
pub bad_superblock : (s : State) (counter : ℕ) (block : List ℕ) → Stands s 0 block → ((g : Geometry) → SpellsGeometry block g → ⊥)
    → IfSome s.told (λ t. AreFaults counter t.image (record { place = 0; kind = faults.Superblock } ∷ []))
bad_superblock s counter block stands none =
    IfSome_then s.told stands (λ t is. no_superblock_is_the_fault counter t.image (λ g spelled. none g (rw (first_is t.image block is) at spelled)))

-- a device that is too short for its volume
pub short_device : (s : State) (counter : ℕ) (block : List ℕ) (g : Geometry) (need found : ℕ) → Stands s 0 block → HasWholeImage s → SpellsGeometry block g
    → need ≡ total g → found ≡ s.blocks → found < need
    → IfSome s.told (λ t. AreFaults counter t.image (record { place = 0; kind = faults.Size need found } ∷ []))
short_device s counter block g need found stands whole spelled need_is found_is short =
    IfSome_then s.told (both_told _ _ s.told stands whole) (λ t is.
    let spells : SpellsGeometry (first_block t.image) g = rw (first_is t.image block is.0) spelled in
    let long : length t.image ≡ found = is.1 ∙ sym found_is in
    let fault = too_short_is_the_fault g counter t.image spells (omega (arith, long, need_is, short)) in
    rw (need_is, ← long) fault)

-- a whole volume has the faults of its tables
pub whole_device : (s : State) (counter : ℕ) (block : List ℕ) (g : Geometry) (xs : List Fault) → Stands s 0 block → HasWholeImage s → SpellsGeometry block g → total g ≤ s.blocks
    → IfSome s.told (λ t. AreTableFaults g counter t.image xs) → IfSome s.told (λ t. AreFaults counter t.image xs)
whole_device s counter block g xs stands whole spelled enough are =
    IfSome_then s.told (both_told _ _ s.told (both_told _ _ s.told stands whole) are) (λ t is.
    let spells : SpellsGeometry (first_block t.image) g = rw (first_is t.image block is.0.0) spelled in
    let long = is.0.1 in
    table_faults_are_faults g counter t.image xs spells (omega (arith, long, enough)) is.1)

-- the faults of what was read are those of the image
pub told_table_faults : (g : Geometry) (counter : ℕ) (told : Option Told) (m : Metadata) (xs : List Fault) → m.geometry ≡ g → m.counter ≡ counter
    → IfSome told (λ t. Agrees g t.image m.image) → AreTableFaults m.geometry m.counter m.image xs → IfSome told (λ t. AreTableFaults g counter t.image xs)
told_table_faults g counter told m xs g_is counter_is agree are =
    let of_g : AreTableFaults g counter m.image xs = rw (g_is, counter_is) at are in
    IfSome_then told agree (λ t same. table_faults_same g counter m.image t.image xs (Agrees-sym g t.image m.image same) of_g)

-- and so is the usage
pub told_usage : (s : State) (block : List ℕ) (g : Geometry) (m : Metadata) → Stands s 0 block → SpellsGeometry block g → m.geometry ≡ g
    → IfSome s.told (λ t. Agrees g t.image m.image) → IfSome s.told (λ t. usage_in m.geometry m.image ≡ usage_of t.image)
told_usage s block g m stands spelled g_is agree =
    IfSome_then s.told (both_told _ _ s.told stands agree) (λ t is.
    let spells : SpellsGeometry (first_block t.image) g = rw (first_is t.image block is.0) spelled in
    ap (λ (k : Geometry). usage_in k m.image) g_is ∙ sym (usage_same g t.image m.image is.1) ∙ ap (λ (k : Geometry). usage_in k t.image) (sym (geometry_of-spelled g t.image spells)))

-- of a readable image each block that was read is of its kind
pub told_passes : (s : State) (block : List ℕ) (g : Geometry) (m : Metadata) → Stands s 0 block → SpellsGeometry block g → m.geometry ≡ g → m.counter ≡ s.counter
    → IfSome s.told (λ t. Agrees g t.image m.image) → IfSome s.told (λ t. IsReadableVolume s.counter t.image) → IfSome s.told (λ t. Passes 2 m)
told_passes s block g m stands spelled g_is counter_is agree readable =
    IfSome_then s.told (both_told _ _ s.told (both_told _ _ s.told stands agree) readable) (λ t is.
    let spells : SpellsGeometry (first_block t.image) g = rw (first_is t.image block is.0.0) spelled in
    let of_g : IsReadable g s.counter t.image = rw (geometry_of-spelled g t.image spells) at is.1 in
    rw (g_is, counter_is) (IsPassed_kept g s.counter t.image m.image is.0.1 2 (omega arith) of_g.blocks))
