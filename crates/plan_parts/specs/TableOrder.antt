-- The order in which the tables of a record are written.
use Rattle.std.specs.Prelude.{◌==◌, ◌&&◌, ◌∷◌, Bool, List, [], false, if◌then◌else◌}
use Rattle.vol_layout.specs.declared.field.Edit.{Edit}
use Rattle.vol_layout.specs.declared.kind.Table.{Table}
use Rattle.vol_layout.specs.declared.kind.Table.TheVariants.{File, Group, More, Part}
use Rattle.vol_layout.specs.Fields.{table_of}

-- whether two tables are one
abbrev pub same_table : Table → Table → Bool
same_table (File f) (File e) = f == e
same_table (Group f) (Group e) = f == e
same_table (Part f) (Part e) = f == e
same_table (More f t) (More e u) = (f == e) && (t == u)
same_table _ _ = false

-- the tables without one of them
abbrev pub tables_else : Table → List Table → List Table
tables_else t [] = []
tables_else t (u ∷ more) = if same_table u t then tables_else t more else u ∷ tables_else t more

-- the tables of the edits in the order of their first edits, each once
abbrev pub tables_of : List Edit → List Table
tables_of [] = []
tables_of (e ∷ es) = table_of e.field ∷ tables_else (table_of e.field) (tables_of es)
