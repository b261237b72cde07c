-- The places of a share on an image: the block of a file, and the source.
use Rattle.std.specs.Prelude.{◌≡◌, ◌+◌, ℕ, None, Option, Some, if◌then◌else◌, nat_lt}
use Rattle.vol_layout.specs.declared.field.Field.{Field}
use Rattle.vol_layout.specs.declared.field.Field.TheVariants.{Head, Pointer, Slot}
use Rattle.vol_layout.specs.declared.geometry.Geometry.{Geometry}
use Rattle.image_view.specs.Images.{Image}
use Rattle.image_view.specs.Numbers.{field, logical}
use Rattle.image_view.specs.Pointers.{named}
use Rattle.share_plans.specs.declared.sharing.Place.{Place}
use Rattle.share_plans.specs.declared.sharing.Place.TheVariants.{Arena, File}

-- the data block that a file has at an index: none at a hole, at or past its length, and where the file is not there
abbrev pub shown_at : Geometry → Image → ℕ → ℕ → Option ℕ
shown_at g image f i = if nat_lt (i + 1) (logical g image (Head f)) then named (logical g image (Pointer f i)) else None

-- the field by which a source names its data block
abbrev pub field_of : Place → Field
field_of (File f i) = Pointer f i
field_of (Arena s) = Slot s

-- the source has this data block: a file at its index, a slot in its table
abbrev pub HasBlock : Geometry → Image → Place → ℕ → Type 0
HasBlock g image (File f i) d = shown_at g image f i ≡ Some d
HasBlock g image (Arena s) d = field g image (Slot s) ≡ d + 1
