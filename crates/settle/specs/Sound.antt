-- What settling needs of an image; a valid volume has it.
use Rattle.std.specs.Prelude.{◌≡◌, ◌+◌, ◌<◌, ◌≤◌, ℕ, Some}
use Rattle.vol_layout.specs.declared.field.Field.TheVariants.{Count, Head, Pointer}
use Rattle.vol_layout.specs.declared.geometry.Geometry.{Geometry}
use Rattle.vol_layout.specs.Fields.{HasField}
use Rattle.vol_layout.specs.Ranges.{limit}
use Rattle.vol_layout.specs.Superblock.{SpellsGeometry}
use Rattle.image_view.specs.Images.{Image, first_block}
use Rattle.image_view.specs.Numbers.{logical}
use Rattle.image_view.specs.Pointers.{named}

-- a volume of this geometry: no file is longer than it may be, and each pointer names a data block of the volume, or none
pub record IsSound (g : Geometry) (image : Image) : Type 0 where
  pub spelled : SpellsGeometry (first_block image) g
  pub heads : (f : ℕ) → f < g.files → logical g image (Head f) ≤ limit g + 1
  pub names : (f i d : ℕ) → HasField g (Pointer f i) → named (logical g image (Pointer f i)) ≡ Some d → HasField g (Count d)
