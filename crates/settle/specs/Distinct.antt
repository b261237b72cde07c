-- The different contents of a volume.
use Rattle.std.specs.Prelude.{◌≡◌, ℕ, List, Some, length, slice_get}
use Rattle.vol_base.specs.declared.block.Block.{Block}
use Rattle.vol_layout.specs.declared.field.Field.TheVariants.{Pointer}
use Rattle.vol_layout.specs.declared.geometry.Geometry.{Geometry}
use Rattle.vol_layout.specs.Fields.{HasField}
use Rattle.image_view.specs.Images.{Image}
use Rattle.settle.specs.Contents.{held}

-- some place of a file holds this block
abbrev pub IsHeld : Geometry → Image → Block → Type 0
IsHeld g image block = (f : ℕ) × (i : ℕ) × HasField g (Pointer f i) × (held g image f i ≡ Some block)

-- the blocks that places of files hold, each once
pub record AreContents (g : Geometry) (image : Image) (blocks : List Block) : Type 0 where
  pub once : (j k : ℕ) (block : Block) → slice_get blocks j ≡ Some block → slice_get blocks k ≡ Some block → j ≡ k
  pub are : (j : ℕ) (block : Block) → slice_get blocks j ≡ Some block → IsHeld g image block
  pub all : (block : Block) → IsHeld g image block → (j : ℕ) × (slice_get blocks j ≡ Some block)

-- so many different blocks are held by places of files
abbrev pub HasContents : Geometry → Image → ℕ → Type 0
HasContents g image n = (blocks : List Block) × AreContents g image blocks × (length blocks ≡ n)
