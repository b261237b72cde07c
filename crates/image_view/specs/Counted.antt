-- Each count is how often its data number is mapped.
use Rattle.std.specs.Prelude.{◌≡◌, ◌-◌, ℕ}
use Rattle.vol_layout.specs.declared.geometry.Geometry.{Geometry}
use Rattle.vol_layout.specs.declared.field.Field.TheVariants.{Pointer, Count}
use Rattle.vol_layout.specs.Fields.{HasField}
use Rattle.image_view.specs.Images.{Image}
use Rattle.image_view.specs.Numbers.{logical}
use Rattle.image_view.specs.Pointers.{IsUnmarked}
use Rattle.image_view.specs.Mappings.{uses}

-- the logical count of each data number is how often it is mapped, and one that a pointer names without
-- the mark is mapped once
pub record IsCounted (g : Geometry) (image : Image) : Type 0 where
  pub counts : (d : ℕ) → HasField g (Count d) → logical g image (Count d) ≡ uses g image d
  pub unmarked : (f i : ℕ) → HasField g (Pointer f i) → IsUnmarked (logical g image (Pointer f i))
      → uses g image (logical g image (Pointer f i) - 1) ≡ 1
