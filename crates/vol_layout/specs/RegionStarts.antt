use Rattle.std.specs.Prelude.{◌≡◌, ◌+◌, ◌-◌, ◌*◌}
use Rattle.vol_layout.specs.declared.geometry.Geometry.{Geometry}
use Rattle.vol_layout.specs.declared.place.Starts.{Starts}
use Rattle.vol_layout.specs.Regions.{regions, start, total}

-- each region begins where the one before it ends; the first behind the superblock are the slots
pub record AreStarts (g : Geometry) (s : Starts) : Type 0 where
  pub slots : s.slots ≡ 1
  pub journals : s.journals ≡ s.slots + g.hosts
  pub file_locks : s.file_locks ≡ s.journals + g.hosts
  pub part_locks : s.part_locks ≡ s.file_locks + g.files
  pub group_locks : s.group_locks ≡ s.part_locks + g.parts
  pub file_tables : s.file_tables ≡ s.group_locks + g.groups
  pub group_tables : s.group_tables ≡ s.file_tables + g.files
  pub part_tables : s.part_tables ≡ s.group_tables + g.groups
  pub logs : s.logs ≡ s.part_tables + g.parts
  pub shards : s.shards ≡ s.logs + g.hosts * g.logs
  pub requests : s.requests ≡ s.shards + g.shards
  pub numbers : s.numbers ≡ s.requests + g.files
  pub more_tables : s.more_tables ≡ s.numbers + 1008 * g.groups
  pub end : s.end ≡ s.more_tables + g.files * (g.tables - 1)

-- they are where the regions of the volume begin
pub record Begin (g : Geometry) (s : Starts) : Type 0 where
  pub first : start (regions g) 0 ≡ 0
  pub slots : start (regions g) 1 ≡ s.slots
  pub journals : start (regions g) 2 ≡ s.journals
  pub file_locks : start (regions g) 3 ≡ s.file_locks
  pub part_locks : start (regions g) 4 ≡ s.part_locks
  pub group_locks : start (regions g) 5 ≡ s.group_locks
  pub file_tables : start (regions g) 6 ≡ s.file_tables
  pub group_tables : start (regions g) 7 ≡ s.group_tables
  pub part_tables : start (regions g) 8 ≡ s.part_tables
  pub logs : start (regions g) 9 ≡ s.logs
  pub shards : start (regions g) 10 ≡ s.shards
  pub requests : start (regions g) 11 ≡ s.requests
  pub numbers : start (regions g) 12 ≡ s.numbers
  pub more_tables : start (regions g) 13 ≡ s.more_tables
  pub end : start (regions g) 14 ≡ s.end
  pub blocks : total g ≡ s.end
