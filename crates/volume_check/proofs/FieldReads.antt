-- The number of a field by the bytes of its table block.
use Rattle.std.proofs.Common.{◌≡◌, ◌+◌, ◌*◌, ℕ, List, Some, None, refl}
use Rattle.vol_base.specs.Bytes.{u32_at}
use Rattle.vol_layout.specs.declared.geometry.Geometry.{Geometry}
use Rattle.vol_layout.specs.declared.field.Field.{Field}
use Rattle.vol_layout.specs.declared.field.Field.TheVariants.{Head, Pointer, Slot, Count}
use Rattle.vol_layout.specs.declared.kind.Table.{Table}
use Rattle.vol_layout.specs.Fields.{byte_of, entry_of, table_of}
use Rattle.vol_layout.specs.declared.kind.Kind.TheVariants as kinds
use Rattle.image_view.specs.Images.{Image, block_at}
use Rattle.image_view.specs.Numbers.{field}

-- the number of a field, in the table where it stands
pub field_in_table : (g : Geometry) (image : Image) (x : Field) (t : Table) (block : List ℕ) (at : ℕ) → block ≡ block_at g image (kinds.Table t) → t ≡ table_of x → byte_of x ≡ at
    → u32_at block at ≡ field g image x
unfolding field
field_in_table g image x t block at is table here = rw (is, table, here) refl

-- a head is the word of its block, and another field stands at its entry
pub byte_of-word : (x : Field) → entry_of x ≡ None → byte_of x ≡ 12
byte_of-word (Head f) e = refl
byte_of-word (Pointer f i) e = cc
byte_of-word (Slot s) e = cc
byte_of-word (Count d) e = cc

pub byte_of-entry : (x : Field) (k : ℕ) → entry_of x ≡ Some k → byte_of x ≡ 64 + 4 * k
byte_of-entry (Head f) k e = cc
byte_of-entry (Pointer f i) k e = cc
byte_of-entry (Slot s) k e = cc
byte_of-entry (Count d) k e = cc
