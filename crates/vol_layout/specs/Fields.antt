use Rattle.std.specs.Prelude.{◌≡◌, ◌+◌, ◌*◌, ◌/◌, ◌%◌, ◌^◌, ◌<◌, ◌≤◌, ◌==◌, ℕ, Option, Some, None, if◌then◌else◌}
use Rattle.vol_layout.specs.declared.geometry.Geometry.{Geometry}
use Rattle.vol_layout.specs.declared.field.Field.{Field}
use Rattle.vol_layout.specs.declared.field.Field.TheVariants.{Head, Pointer, Slot, Count}
use Rattle.vol_layout.specs.declared.kind.Resource.{Resource}
use Rattle.vol_layout.specs.declared.kind.Resource.TheVariants as resources
use Rattle.vol_layout.specs.declared.kind.Table.{Table}
use Rattle.vol_layout.specs.declared.kind.Table.TheVariants as tables
use Rattle.vol_layout.specs.Ranges.{per_table, limit, data_blocks, arena_slots}

-- a field that the volume's tables have
abbrev pub HasField : Geometry → Field → Type 0
HasField g (Head f) = f < g.files
HasField g (Pointer f i) = (f < g.files) × (i < limit g)
HasField g (Slot s) = s < arena_slots g
HasField g (Count d) = d < data_blocks g

-- how often a data block can be named at most; a volume with one table block a file has the bound
-- of the greatest such volume
unfoldable pub greatest_count : Geometry → ℕ
greatest_count g = if g.tables == 1 then 80640 else per_table * (g.files * g.tables + g.parts)

-- a pointer: 0 for a hole, else data number + 1 in the low 31 bits, and the mark of a shared block above
pub record IsPointer (g : Geometry) (number : ℕ) : Type 0 where
  pub width : number < 2 ^ 32
  pub hole : number % 2 ^ 31 ≡ 0 → number ≡ 0
  pub names : number % 2 ^ 31 ≤ data_blocks g

-- the numbers that may stand in a field, in a table and in an edit alike
abbrev pub IsInRange : Geometry → Field → ℕ → Type 0
IsInRange g (Head f) n = n ≤ limit g + 1
IsInRange g (Pointer f i) n = IsPointer g n
IsInRange g (Slot s) n = n ≤ data_blocks g
IsInRange g (Count d) n = n ≤ greatest_count g

-- the table block in which a field stands
abbrev pub table_of : Field → Table
table_of (Head f) = tables.File f
table_of (Pointer f i) = if i / per_table == 0 then tables.File f else tables.More f (i / per_table)
table_of (Slot s) = tables.Part (s / per_table)
table_of (Count d) = tables.Group (d / per_table)

-- the entry of its table block in which a field stands; a head is the word of its block
abbrev pub entry_of : Field → Option ℕ
entry_of (Head f) = None
entry_of (Pointer f i) = Some (i % per_table)
entry_of (Slot s) = Some (s % per_table)
entry_of (Count d) = Some (d % per_table)

-- the table block and the entry of a file's pointer
abbrev pub pointer_at : Geometry → ℕ → ℕ → Table × ℕ
pointer_at g f i = (table_of (Pointer f i), i % per_table)

-- the byte of its table block at which a field's number begins
abbrev pub byte_of : Field → ℕ
byte_of (Head f) = 12
byte_of (Pointer f i) = 64 + 4 * (i % per_table)
byte_of (Slot s) = 64 + 4 * (s % per_table)
byte_of (Count d) = 64 + 4 * (d % per_table)

-- the resource whose lock guards a field
abbrev pub resource_of : Field → Resource
resource_of (Head f) = resources.File f
resource_of (Pointer f i) = resources.File f
resource_of (Slot s) = resources.Part (s / per_table)
resource_of (Count d) = resources.Group (d / per_table)
