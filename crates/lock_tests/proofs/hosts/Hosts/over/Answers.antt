use Rattle.std.proofs.Common.{arith}
use Rattle.vol_layout.specs.Ranges.{data_blocks, per_table}
use Rattle.vol_layout.specs.Regions.{regions, total}
use Rattle.lock_tests.proofs.hosts.Hosts.over.Goals as goal

pub new-requires-clause-long : goal.new-requires-clause-long
unfolding total regions data_blocks per_table
new-requires-clause-long c = omega arith
