use Rattle.std.specs.Prelude.{◌+◌, ◌*◌, ℕ}
use Rattle.vol_layout.specs.declared.geometry.Geometry.{Geometry}
use Rattle.vol_layout.specs.Ranges.{limit, arena_slots}

-- how many table blocks the files have
abbrev pub file_tables : Geometry → ℕ
file_tables g = g.files * g.tables

-- how many pointers and slots there are
abbrev pub references : Geometry → ℕ
references g = g.files * limit g + arena_slots g

-- how many entries the log blocks of a host hold
abbrev pub log_entries : Geometry → ℕ
log_entries g = 126 * g.logs
