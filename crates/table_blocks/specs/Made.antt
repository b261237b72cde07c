-- The edits of a record that are of one table, made in it.
use Rattle.std.specs.Prelude.{◌/◌, ◌==◌, ◌&&◌, Bool, false, List, [], ◌∷◌, if◌then◌else◌, nat_lt}
use Rattle.vol_base.specs.Packing.{Packing}
use Rattle.vol_layout.specs.declared.kind.Table.{Table}
use Rattle.vol_layout.specs.declared.kind.Table.TheVariants as tables
use Rattle.vol_layout.specs.declared.field.Field.{Field}
use Rattle.vol_layout.specs.declared.field.Field.TheVariants.{Head, Pointer, Slot, Count}
use Rattle.vol_layout.specs.declared.field.Edit.{Edit}
use Rattle.vol_layout.specs.Ranges.{per_table}
use Rattle.table_blocks.specs.Tables.{with_number}

-- whether a field stands in this table block; of a file's further blocks the first is number 1
abbrev pub stands_in : Field → Table → Bool
stands_in (Head f) (tables.File e) = f == e
stands_in (Pointer f i) (tables.File e) = (f == e) && (i / per_table == 0)
stands_in (Pointer f i) (tables.More e t) = (f == e) && nat_lt 0 t && (i / per_table == t)
stands_in (Slot s) (tables.Part p) = s / per_table == p
stands_in (Count d) (tables.Group r) = d / per_table == r
stands_in _ _ = false

-- the packing of a table with all edits of that table made; the first edit of a field counts
abbrev pub made : Table → List Edit → Packing → Packing
made t [] p = p
made t (e ∷ es) p = if stands_in e.field t then with_number (made t es p) e.field e.number else made t es p
