-- When a geometry fits a device.
use Rattle.std.proofs.Common.{◌≡◌, ◌≤◌, ◌==◌, ◌&&◌, ℕ, Bool, true, false, List, [], ◌∷◌, Option, Some, None, length, refl, sym, ap, ◌∙◌, inl, inr, arith}
use Rattle.std.specs.Prelude.{find, not}
use Rattle.std.specs.List.{zip}
use Rattle.std.specs.Option.{option_or}
use Rattle.std.specs.Str.{bytes_eq}
use Rattle.std.proofs.lemmas.Bool.{cases_Bool, eqb-true, le-ltb}
use Rattle.std.proofs.lemmas.Bool.Decides.{nat_tests}
use Rattle.std.proofs.lemmas.Slice.Eq.{bytes_eq-Decides}
use Rattle.vol_base.specs.Bytes.{u32_at, zeros}
use Rattle.vol_base.specs.laws.BytesLaws.{number_at-zeros}
use Rattle.vol_layout.specs.declared.geometry.Geometry.{Geometry}
use Rattle.vol_layout.specs.Ranges.{is_geometry}
use Rattle.vol_layout.specs.laws.GeometryLaws.{is_geometry-IsGeometry}
use Rattle.vol_layout.specs.Regions.{total}
use Rattle.vol_layout.specs.Superblock.{SpellsGeometry, superblock_bytes}
use Rattle.vol_layout.specs.laws.SuperblockLaws.{superblock_reads_back}
use Rattle.image_view.specs.laws.GeometryLaws.{geometry_of-spelled}
use Rattle.image_view.specs.Images.{Image, IsBlank, first_block, geometry_of}
use Rattle.volume_opening.specs.Misfits.{difference, geometry_numbers, misfit, misfit_with, shortfall, superblock_of}

-- two tests that both pass
both : (a b : Bool) → (a && b) ≡ true → (a ≡ true) × (b ≡ true)
both true true e = (refl, refl)
both true false e = cc
both false b e = cc

-- a superblock says its geometry, and no other block says one
pub superblock_of-spelled : (g : Geometry) (image : Image) → SpellsGeometry (first_block image) g → superblock_of image ≡ Some g
unfolding superblock_of
superblock_of-spelled g image h =
    let is = geometry_of-spelled g image h in
    rw (is, (is_geometry-IsGeometry g).1 h.0, (bytes_eq-Decides (first_block image) (superblock_bytes g)).1 h.1) refl

pub superblock_of-none : (image : Image) → ((g : Geometry) → SpellsGeometry (first_block image) g → ⊥) → superblock_of image ≡ None
unfolding superblock_of
superblock_of-none image none =
    let g = geometry_of image in
    let test = is_geometry g && bytes_eq (first_block image) (superblock_bytes g) in
    elim (cases_Bool test) [
      | inl passed ↦
          let t = both (is_geometry g) (bytes_eq (first_block image) (superblock_bytes g)) passed in
          absurd (none g ((is_geometry-IsGeometry g).0 t.0, (bytes_eq-Decides (first_block image) (superblock_bytes g)).0 t.1))
      | inr failed ↦ rw failed refl
    ]

-- zeros are no superblock
pub zeros_spell_none : (n : ℕ) (g : Geometry) → SpellsGeometry (zeros n) g → ⊥
zeros_spell_none n g h =
    let hosts : g.hosts ≡ 0 = sym (superblock_reads_back g h.0).hosts ∙ ap (λ (xs : List ℕ). u32_at xs 8) (sym h.1) ∙ number_at-zeros 4 8 n in
    absurd (omega (arith, h.0.hosts))

pub superblock_of-blank : (image : Image) → IsBlank image → superblock_of image ≡ None
superblock_of-blank image blank = superblock_of-none image (λ g h. zeros_spell_none 4096 g (h.0, sym blank ∙ h.1))

some_is_not_none : (pair : ℕ × ℕ) → Some pair ≡ None → ⊥
some_is_not_none pair e = cc

-- two lists that do not differ are the same
same_where_none_differs : (xs ys : List ℕ) → length xs ≡ length ys → find (λ pair. not (pair.0 == pair.1)) (zip xs ys) ≡ None → xs ≡ ys
same_where_none_differs [] [] long none = refl
same_where_none_differs [] (y ∷ ys) long none = absurd (omega (arith, long))
same_where_none_differs (x ∷ xs) [] long none = absurd (omega (arith, long))
same_where_none_differs (x ∷ xs) (y ∷ ys) long none =
    elim (cases_Bool (x == y)) [
      | inl same ↦
          let rest = same_where_none_differs xs ys (omega (arith, long)) (rw same at none) in
          let first = eqb-true x y same in
          cc
      | inr other ↦ absurd (some_is_not_none (x, y) (rw other at none))
    ]

geometry_with : ℕ → ℕ → ℕ → ℕ → ℕ → ℕ → ℕ → Geometry
geometry_with h f g p s l t = record { hosts = h; files = f; groups = g; parts = p; shards = s; logs = l; tables = t }

same_geometry : (g h : Geometry) → geometry_numbers g ≡ geometry_numbers h
    → geometry_with g.hosts g.files g.groups g.parts g.shards g.logs g.tables ≡ geometry_with h.hosts h.files h.groups h.parts h.shards h.logs h.tables
same_geometry g h e = cc

-- geometries that do not differ are the same
pub difference_none : (g h : Geometry) → difference g h ≡ None → g ≡ h
unfolding geometry_with
difference_none g h none = same_geometry g h (same_where_none_differs (geometry_numbers g) (geometry_numbers h) refl none)

-- a volume that is not too long for the device
pub shortfall_none : (g : Geometry) (blocks : ℕ) → shortfall g blocks ≡ None → total g ≤ blocks
shortfall_none g blocks none = grind (arith, nat_tests)

pub shortfall_where : (g : Geometry) (blocks : ℕ) → total g ≤ blocks → shortfall g blocks ≡ None
shortfall_where g blocks long = rw (le-ltb blocks (total g) long) refl

neither : (p q : Option (ℕ × ℕ)) → option_or p q ≡ None → (p ≡ None) × (q ≡ None)
neither None q none = (refl, none)
neither (Some x) q none = cc

-- where a geometry fits a device, the device is long enough and a superblock there is its own
pub misfit_none-long : (g : Geometry) (blocks : ℕ) (found : Option Geometry) → misfit_with g blocks found ≡ None → total g ≤ blocks
misfit_none-long g blocks None none = shortfall_none g blocks none
misfit_none-long g blocks (Some h) none = shortfall_none g blocks (neither (difference g h) (shortfall g blocks) none).1

pub misfit_none-same : (g h : Geometry) (blocks : ℕ) → misfit_with g blocks (Some h) ≡ None → g ≡ h
misfit_none-same g h blocks none = difference_none g h (neither (difference g h) (shortfall g blocks) none).0

-- a geometry fits a blank device that is long enough, and a volume of its own
pub blank_fits : (g : Geometry) (blocks : ℕ) (image : Image) → IsBlank image → total g ≤ blocks → misfit g blocks image ≡ None
blank_fits g blocks image blank long = ap (misfit_with g blocks) (superblock_of-blank image blank) ∙ shortfall_where g blocks long

none_differs : (xs : List ℕ) → find (λ pair. not (pair.0 == pair.1)) (zip xs xs) ≡ None
none_differs [] = refl
none_differs (x ∷ xs) = let itself : (x == x) ≡ true = grind (arith, nat_tests) in rw itself (none_differs xs)

pub volume_fits : (g : Geometry) (blocks : ℕ) (image : Image) → SpellsGeometry (first_block image) g → total g ≤ blocks
    → misfit g blocks image ≡ None
volume_fits g blocks image spelled long =
    ap (misfit_with g blocks) (superblock_of-spelled g image spelled)
    ∙ ap (λ (d : Option (ℕ × ℕ)). option_or d (shortfall g blocks)) (none_differs (geometry_numbers g))
    ∙ shortfall_where g blocks long
