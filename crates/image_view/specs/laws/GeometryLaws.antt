-- What block 0 says of an image as a whole.
use Rattle.std.proofs.Common.{◌≡◌, ◌<◌, ◌≤◌, ◌==◌, ℕ, Bool, true, false, List, None, take, if◌then◌else◌, refl, sym, ap, ◌∙◌, subst, inl, inr, arith}
use Rattle.std.specs.Prelude.{codes}
use Rattle.std.specs.Str.{bytes_eq}
use Rattle.std.proofs.lemmas.Bool.{cases_lt, eqb-false, eqb-true, false_from_ne_true, le-ltb, lt-ltb}
use Rattle.std.proofs.lemmas.Slice.Eq.{bytes_eq-Decides}
use Rattle.vol_base.specs.Bytes.{u32_at, zeros}
use Rattle.vol_base.specs.laws.BytesLaws.{number_at-zeros}
use Rattle.vol_layout.specs.declared.geometry.Geometry.{Geometry}
use Rattle.vol_layout.specs.declared.kind.Kind.TheVariants as kinds
use Rattle.vol_layout.specs.Places.{place_of}
use Rattle.vol_layout.specs.Ranges.{IsGeometry}
use Rattle.vol_layout.specs.Regions.{regions}
use Rattle.vol_layout.specs.Superblock.{SpellsGeometry, superblock_bytes}
use Rattle.vol_layout.specs.laws.SuperblockLaws.{superblock_reads_back, superblock-tables, take-superblock}
use Rattle.image_view.specs.Images.{Image, IsBlank, block_at, first_block, geometry_in, geometry_of, is_blank}
use Rattle.image_view.specs.Files.{image_file, volume_file}
use Rattle.image_view.specs.Valid.{IsValid, IsVolume}

-- the superblock stands at place 0
pub first_block-is : (g : Geometry) (image : Image) → block_at g image kinds.Super ≡ first_block image
unfolding block_at place_of regions
first_block-is g image = refl

tables_in : (g : Geometry) → IsGeometry g → (b : Bool) → (g.tables == 1) ≡ b
    → (if bytes_eq (if b then codes "DEDEVOL1" else codes "DEDEVOL2") (codes "DEDEVOL2") then u32_at (superblock_bytes g) 32 else 1) ≡ g.tables
tables_in g h true is = sym (eqb-true g.tables 1 is)
tables_in g h false is = superblock-tables g h (eqb-false g.tables 1 is)

-- a superblock says its geometry
pub geometry_in-superblock : (g : Geometry) → IsGeometry g → geometry_in (superblock_bytes g) ≡ g
unfolding geometry_in
geometry_in-superblock g h =
    let r = superblock_reads_back g h in
    let magic = take-superblock g in
    let tables : (if bytes_eq (take 8 (superblock_bytes g)) (codes "DEDEVOL2") then u32_at (superblock_bytes g) 32 else 1) ≡ g.tables =
    rw magic (tables_in g h (g.tables == 1) refl) in
    rw (tables, r.hosts, r.files, r.groups, r.parts, r.shards, r.logs) refl

pub geometry_of-spelled : (g : Geometry) (image : Image) → SpellsGeometry (first_block image) g → geometry_of image ≡ g
geometry_of-spelled g image h = ap geometry_in h.1 ∙ geometry_in-superblock g h.0

-- an image with a superblock is not blank
pub not_blank : (g : Geometry) (image : Image) → SpellsGeometry (first_block image) g → is_blank image ≡ false
not_blank g image h =
    false_from_ne_true (is_blank image) (λ blank.
    let zero = sym h.1 ∙ (bytes_eq-Decides (first_block image) (zeros 4096)).0 blank in
    let hosts : g.hosts ≡ 0 = sym (superblock_reads_back g h.0).hosts ∙ ap (λ (xs : List ℕ). u32_at xs 8) zero ∙ number_at-zeros 4 8 4096 in
    absurd (omega (arith, h.0.hosts)))

-- a valid volume is a valid image
pub IsVolume-valid : (g : Geometry) (counter : ℕ) (image : Image) → IsValid g counter image → IsVolume counter image
IsVolume-valid g counter image valid = let P : Geometry → Type 0 = λ k. IsValid k counter image in subst P (sym (geometry_of-spelled g image valid.geometry)) valid

-- the files of an image are those of its volume, and a blank image has none
pub image_file-volume : (g : Geometry) (image : Image) (f : ℕ) → SpellsGeometry (first_block image) g → f < g.files
    → image_file image f ≡ volume_file g image f
unfolding image_file
image_file-volume g image f h below = rw (not_blank g image h, geometry_of-spelled g image h, lt-ltb f g.files below) refl

pub image_file-past : (g : Geometry) (image : Image) (f : ℕ) → SpellsGeometry (first_block image) g → g.files ≤ f
    → image_file image f ≡ None
unfolding image_file
image_file-past g image f h past = rw (not_blank g image h, geometry_of-spelled g image h, le-ltb f g.files past) refl

pub image_file-blank : (image : Image) (f : ℕ) → IsBlank image → image_file image f ≡ None
unfolding image_file
image_file-blank image f blank = rw ((bytes_eq-Decides (first_block image) (zeros 4096)).1 blank) refl

-- where block 0 and each file of the volume stay, all files stay
pub image_file_kept : (g : Geometry) (old new : Image) → SpellsGeometry (first_block old) g → first_block new ≡ first_block old
    → ((f : ℕ) → f < g.files → volume_file g new f ≡ volume_file g old f)
    → (f : ℕ) → image_file new f ≡ image_file old f
image_file_kept g old new h same files f =
    let h' : SpellsGeometry (first_block new) g = (h.0, same ∙ h.1) in
    elim (cases_lt f g.files) [
      | inl below ↦ image_file-volume g new f h' below ∙ files f below ∙ sym (image_file-volume g old f h below)
      | inr past ↦ image_file-past g new f h' past ∙ sym (image_file-past g old f h past)
    ]
