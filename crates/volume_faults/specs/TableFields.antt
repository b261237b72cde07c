-- The fields of a table, by the entries of its block.
use Rattle.std.specs.Prelude.{◌+◌, ◌*◌, ◌<◌, ℕ, List}
use Rattle.vol_base.specs.Bytes.{u32_at}
use Rattle.vol_layout.specs.declared.geometry.Geometry.{Geometry}
use Rattle.vol_layout.specs.declared.kind.Table.{Table}
use Rattle.vol_layout.specs.declared.kind.Table.TheVariants as tables
use Rattle.vol_layout.specs.declared.field.Field.{Field}
use Rattle.vol_layout.specs.declared.field.Field.TheVariants.{Head, Pointer, Slot, Count}
use Rattle.vol_layout.specs.Fields.{IsInRange}
use Rattle.vol_layout.specs.Ranges.{per_table}

-- the field that stands at an entry
abbrev pub entry_field : Table → ℕ → Field
entry_field (tables.File f) e = Pointer f e
entry_field (tables.More f t) e = Pointer f (per_table * t + e)
entry_field (tables.Group r) e = Count (per_table * r + e)
entry_field (tables.Part p) e = Slot (per_table * p + e)

-- the numbers of all entries may stand there
abbrev pub HasEntries : Geometry → Table → List ℕ → Type 0
HasEntries g t block = (e : ℕ) → e < per_table → IsInRange g (entry_field t e) (u32_at block (64 + 4 * e))

-- the head of a file may stand there; only a file's first table block has one
abbrev pub HasHead : Geometry → Table → List ℕ → Type 0
HasHead g (tables.File f) block = IsInRange g (Head f) (u32_at block 12)
HasHead g (tables.More f t) block = Unit {0}
HasHead g (tables.Group r) block = Unit {0}
HasHead g (tables.Part p) block = Unit {0}
