-- What a table block says: the packing that it spells, and the numbers of its fields.
use Rattle.std.specs.Prelude.{◌≡◌, ℕ, Option, Some, None, length, slice_index, slice_set}
use Rattle.vol_base.specs.Bytes.{bytes_of}
use Rattle.vol_base.specs.Packing.{IsPacking, Packing, numbers, packed_bytes}
use Rattle.vol_layout.specs.declared.geometry.Geometry.{Geometry}
use Rattle.vol_layout.specs.declared.kind.Kind.TheVariants as kinds
use Rattle.vol_layout.specs.declared.kind.Table.{Table}
use Rattle.vol_layout.specs.declared.field.Field.{Field}
use Rattle.vol_layout.specs.Blank.{table_magic}
use Rattle.vol_layout.specs.Fields.{HasField, IsInRange, entry_of, table_of}
use Rattle.vol_layout.specs.Ranges.{per_table}
use Rattle.image_view.specs.Images.{Image, block_at}
use Rattle.image_view.specs.Spelled.{IsTable, MayHaveWord}
use Rattle.volume_faults.specs.Sites.{HasNumbers}

-- the number at an entry of a packing, or its word
abbrev pub number_at_entry : Packing → Option ℕ → ℕ
number_at_entry p None = p.word
number_at_entry p (Some e) = slice_index (numbers p) e

-- the number of a field in the packing of its table
abbrev pub number_in : Packing → Field → ℕ
number_in p x = number_at_entry p (entry_of x)

-- the packing with another number at an entry, or another word
abbrev pub with_entry : Packing → Option ℕ → ℕ → Packing
with_entry p None n = record p { word = n }
with_entry p (Some e) n = record p { entries = slice_set p.entries e (bytes_of 4 n) }

-- the packing with another number of one field
abbrev pub with_number : Packing → Field → ℕ → Packing
with_number p x n = with_entry p (entry_of x) n

-- what a block of the table may spell: each number of its fields may stand there
pub record IsPackingOf (g : Geometry) (t : Table) (p : Packing) : Type 0 where
  pub fits : IsPacking 4 p
  pub magic : p.magic ≡ table_magic t
  pub word : MayHaveWord t p.word
  pub entries : length p.entries ≡ per_table
  pub range : (x : Field) → HasField g x → table_of x ≡ t → IsInRange g x (number_in p x)

-- the table of an image spells this packing
pub record IsTableOf (g : Geometry) (image : Image) (t : Table) (p : Packing) : Type 0 where
  pub packing : IsPackingOf g t p
  pub spelled : block_at g image (kinds.Table t) ≡ packed_bytes 4 p

-- the table of an image is a spelling in range
abbrev pub IsSpelledTable : Geometry → Image → Table → Type 0
IsSpelledTable g image t = IsTable t (block_at g image (kinds.Table t)) × HasNumbers g t (block_at g image (kinds.Table t))
