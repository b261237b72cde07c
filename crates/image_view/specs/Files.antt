-- The files of an image.
use Rattle.std.specs.Prelude.{◌≡◌, ◌-◌, ◌==◌, ℕ, List, map, nat_lt, Option, Some, None, if◌then◌else◌}
use Rattle.std.specs.Option.{option_map_or}
use Rattle.std.specs.List.{range_with_len}
use Rattle.vol_base.specs.declared.block.Block.{Block}
use Rattle.vol_layout.specs.declared.geometry.Geometry.{Geometry}
use Rattle.vol_layout.specs.declared.kind.Kind.TheVariants as kinds
use Rattle.vol_layout.specs.declared.field.Field.TheVariants.{Head, Pointer}
use Rattle.plain_files.specs.Block.{zero_block}
use Rattle.plain_files.specs.Plain.{Plain, file_of}
use Rattle.image_view.specs.Images.{Image, block_at, geometry_of, is_blank}
use Rattle.image_view.specs.Numbers.{logical}
use Rattle.image_view.specs.Pointers.{named}

-- the data block of a number
abbrev pub data_block : Geometry → Image → ℕ → Block
data_block g image d = record { 0 = block_at g image (kinds.Number d) }

-- what a pointer shows: the data block that it names, and zeros for a hole
abbrev pub content : Geometry → Image → ℕ → Block
content g image pointer = option_map_or (data_block g image) (named pointer) zero_block

-- a file is there exactly where its logical head is not 0; its length is the head less 1, and block i
-- is what its logical pointer i shows
unfoldable pub volume_file : Geometry → Image → ℕ → Option (List Block)
volume_file g image f =
    if logical g image (Head f) == 0 then None
    else Some (map (λ i. content g image (logical g image (Pointer f i))) (range_with_len 0 (logical g image (Head f) - 1)))

-- file f of an image; a blank image has none
unfoldable pub image_file : Image → ℕ → Option (List Block)
image_file image f =
    if is_blank image then None
    else (if nat_lt f (geometry_of image).files then volume_file (geometry_of image) image f else None)

-- the files of the image are these plain files; nothing is said of their greatest length
abbrev pub HasFiles : Image → Plain → Type 0
HasFiles image plain = (f : ℕ) → image_file image f ≡ file_of plain f
