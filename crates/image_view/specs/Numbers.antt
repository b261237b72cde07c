-- The number that stands for a field, in its table and with the journals applied.
use Rattle.std.specs.Prelude.{ℕ, List}
use Rattle.std.specs.List.{flat_map, range_with_len}
use Rattle.vol_base.specs.Bytes.{u32_at}
use Rattle.vol_layout.specs.declared.geometry.Geometry.{Geometry}
use Rattle.vol_layout.specs.declared.kind.Kind.TheVariants as kinds
use Rattle.vol_layout.specs.declared.field.Field.{Field}
use Rattle.vol_layout.specs.declared.field.Edit.{Edit}
use Rattle.vol_layout.specs.Edits.{edited}
use Rattle.vol_layout.specs.Fields.{byte_of, table_of}
use Rattle.vol_layout.specs.Journal.{edits_of}
use Rattle.image_view.specs.Images.{Image, block_at}

-- the number that stands in the field's table
unfoldable pub field : Geometry → Image → Field → ℕ
field g image x = u32_at (block_at g image (kinds.Table (table_of x))) (byte_of x)

-- the edits of the record that stands in a host's journal; none where the journal is empty
unfoldable pub journal : Geometry → Image → ℕ → List Edit
journal g image h = edits_of (block_at g image (kinds.Journal h))

-- the standing edits of all journals
unfoldable pub standing : Geometry → Image → List Edit
standing g image = flat_map (λ h. journal g image h) (range_with_len 0 g.hosts)

-- a field's logical number: that of the standing edit of the field, and else that in its table
unfoldable pub logical : Geometry → Image → Field → ℕ
logical g image x = edited (standing g image) x (field g image x)
