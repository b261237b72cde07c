use Rattle.std.specs.Prelude.{ℕ, List, ◌++◌, codes, replicate}
use Rattle.vol_base.specs.Bytes.{zeros}
use Rattle.vol_base.specs.Packing.{packed_bytes}
use Rattle.vol_layout.specs.declared.geometry.Geometry.{Geometry}
use Rattle.vol_layout.specs.declared.kind.Table.{Table}
use Rattle.vol_layout.specs.declared.kind.Table.TheVariants as tables
use Rattle.vol_layout.specs.declared.kind.Kind.{Kind}
use Rattle.vol_layout.specs.declared.kind.Kind.TheVariants as kinds
use Rattle.std.specs.Option.{option_map_or}
use Rattle.vol_layout.specs.Places.{kind_at}
use Rattle.vol_layout.specs.Ranges.{per_table}
use Rattle.vol_layout.specs.Superblock.{superblock_bytes}

-- the first eight bytes of a table block; a file's further table blocks have those of its first
abbrev pub table_magic : Table → List ℕ
table_magic (tables.File f) = codes "DEDEFILE"
table_magic (tables.More f t) = codes "DEDEFILE"
table_magic (tables.Group r) = codes "DEDECNTS"
table_magic (tables.Part p) = codes "DEDEAREN"

-- a table block whose word and numbers are 0
unfoldable pub blank_table : Table → List ℕ
blank_table t = packed_bytes 4 (record { magic = table_magic t; word = 0; entries = replicate per_table (zeros 4) })

-- the block that formatting leaves: the superblock, free slots and locks, empty journals, tables
-- of zeros; a hint block or data block that nobody wrote is zeros
abbrev pub blank_bytes : Geometry → Kind → List ℕ
blank_bytes g kinds.Super = superblock_bytes g
blank_bytes g (kinds.Slot h) = codes "DEDESLOT" ++ zeros 4088
blank_bytes g (kinds.Journal h) = codes "DEDEJRNL" ++ zeros 4088
blank_bytes g (kinds.Lock r) = codes "DEDELOCK" ++ zeros 4088
blank_bytes g (kinds.Table t) = blank_table t
blank_bytes g (kinds.Log h l) = zeros 4096
blank_bytes g (kinds.Shard s) = zeros 4096
blank_bytes g (kinds.Request f) = zeros 4096
blank_bytes g (kinds.Number d) = zeros 4096

-- what formatting leaves at a place
abbrev pub blank_at : Geometry → ℕ → List ℕ
blank_at g p = option_map_or (blank_bytes g) (kind_at g p) (zeros 4096)
