-- Images in which no two live blocks are equal.
use Rattle.std.specs.Prelude.{◌≡◌, ◌+◌, ◌<◌, ℕ, Some}
use Rattle.vol_layout.specs.declared.geometry.Geometry.{Geometry}
use Rattle.vol_layout.specs.declared.kind.Kind.TheVariants as kinds
use Rattle.vol_layout.specs.declared.field.Field.TheVariants.{Head, Pointer}
use Rattle.image_view.specs.Images.{Image, block_at, geometry_of}
use Rattle.image_view.specs.Numbers.{logical}
use Rattle.image_view.specs.Pointers.{named}

-- the place of a file below its length, which is no hole, shows this data block
pub record IsLive (g : Geometry) (image : Image) (f i d : ℕ) : Type 0 where
  pub file : f < g.files
  pub below : i + 1 < logical g image (Head f)
  pub shows : named (logical g image (Pointer f i)) ≡ Some d

-- any two live places with equal bytes show one data block
abbrev pub IsSettledIn : Geometry → Image → Type 0
IsSettledIn g image =
    (f i d f' i' d' : ℕ) → IsLive g image f i d → IsLive g image f' i' d'
    → block_at g image (kinds.Number d) ≡ block_at g image (kinds.Number d')
    → d ≡ d'

abbrev pub IsSettled : Image → Type 0
IsSettled image = IsSettledIn (geometry_of image) image
