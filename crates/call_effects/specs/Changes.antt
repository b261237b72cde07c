-- What a step of a command changes of an image.
use Rattle.std.specs.Prelude.{◌≡◌, ◌==◌, ℕ, List, None, Option, Some, if◌then◌else◌}
use Rattle.vol_layout.specs.declared.geometry.Geometry.{Geometry}
use Rattle.vol_layout.specs.declared.kind.Kind.TheVariants as kinds
use Rattle.vol_layout.specs.declared.field.Edit.{Edit}
use Rattle.vol_layout.specs.declared.field.Field.TheVariants.{Count}
use Rattle.vol_layout.specs.Fields.{HasField}
use Rattle.image_view.specs.Images.{Image, block_at, first_block}
use Rattle.image_view.specs.Records.{IsEdited}

-- the data block that a step writes, with its bytes; most steps write none
abbrev pub Data : Type 0
Data = Option (ℕ × List ℕ)

-- the bytes of a data block behind the step, where it had these before
abbrev pub stored : Data → ℕ → List ℕ → List ℕ
stored None e block = block
stored (Some put) e block = if put.0 == e then put.1 else block

-- the logical numbers are edited, one data block at most is written, and the superblock stays. Nothing is said of the
-- tables, journals and locks by which this is done.
pub record Changes (g : Geometry) (es : List Edit) (put : Data) (old new : Image) : Type 0 where
  pub super : first_block new ≡ first_block old
  pub numbers : IsEdited g old new es
  pub blocks : (d : ℕ) → HasField g (Count d) → block_at g new (kinds.Number d) ≡ stored put d (block_at g old (kinds.Number d))
