use Rattle.std.proofs.Common.{arith}
use Rattle.vol_layout.specs.Ranges.{data_blocks, per_table}
use Rattle.vol_layout.specs.Regions.{regions, total}
use Rattle.lock_tests.proofs.store.a_lock_is_taken_where_it_is_free.Goals as goal

pub new-store-requires-clause-long : goal.new-store-requires-clause-long
unfolding total regions data_blocks per_table
new-store-requires-clause-long g c = omega (arith, c.in_ok-disk.ensures.blocks)
