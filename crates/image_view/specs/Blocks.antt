-- An image that is held in memory.
use Rattle.std.specs.Prelude.{◌≤◌, ◌<◌, ◌+◌, ℕ, List, map, length, Option, Some, None}
use Rattle.vol_base.specs.declared.block.Block.{Block}
use Rattle.vol_layout.specs.declared.geometry.Geometry.{Geometry}
use Rattle.vol_layout.specs.Regions.{total}
use Rattle.vol_layout.specs.Superblock.{SpellsGeometry}
use Rattle.image_view.specs.Images.{Image, first_block}
use Rattle.vol_layout.specs.declared.field.Field.TheVariants.{Head, Pointer}
use Rattle.vol_layout.specs.Fields.{IsPointer}
use Rattle.vol_layout.specs.Ranges.{limit}
use Rattle.image_view.specs.Numbers.{logical}
use Rattle.image_view.specs.Balances.{share}
use Rattle.image_view.specs.laws.UseLaws.{names_one}

-- the image of blocks in memory
abbrev pub image_of : List Block → Image
image_of blocks = map (λ block. block.0) blocks

-- block 0 spells the geometry, and all blocks of the volume are there
pub record IsVolumeOf (g : Geometry) (image : Image) : Type 0 where
  pub spelled : SpellsGeometry (first_block image) g
  pub long : total g ≤ length image

-- 1 where a number names a data number, and this one where one is asked for; else 0
abbrev pub hits : Option ℕ → ℕ → ℕ
hits None n = names_one n
hits (Some d) n = share n d

-- the file's head is in range, and so is each pointer below its length
pub record IsFileInRange (g : Geometry) (image : Image) (f : ℕ) : Type 0 where
  pub head : logical g image (Head f) ≤ limit g + 1
  pub pointers : (i : ℕ) → i + 1 < logical g image (Head f) → IsPointer g (logical g image (Pointer f i))
