use Rattle.std.proofs.Common.{refl, arith}
use Rattle.vol_layout.specs.declared.geometry.Geometry.{Geometry}
use Rattle.vol_layout.specs.declared.place.Starts.{Starts}
use Rattle.vol_layout.specs.Ranges.{data_blocks, per_table}
use Rattle.vol_layout.specs.Regions.{regions, total}
use Rattle.vol_layout.specs.RegionStarts.{AreStarts, Begin}

-- what the code adds up is where the regions begin
pub starts_begin : (g : Geometry) (s : Starts) → AreStarts g s → Begin g s
unfolding regions data_blocks per_table total
starts_begin g s h = record {
  first = refl;
  slots = omega arith;
  journals = omega arith;
  file_locks = omega arith;
  part_locks = omega arith;
  group_locks = omega arith;
  file_tables = omega arith;
  group_tables = omega arith;
  part_tables = omega arith;
  logs = omega arith;
  shards = omega arith;
  requests = omega arith;
  numbers = omega arith;
  more_tables = omega arith;
  end = omega arith;
  blocks = omega arith;
}
