use Rattle.std.proofs.Common.{arith}
use Rattle.vol_layout.specs.Ranges.{per_table}
use Rattle.lock_tests.proofs.hosts.Hosts.rewrite.Goals as goal

pub rewrite-requires-clause-first : goal.rewrite-requires-clause-first
unfolding per_table
rewrite-requires-clause-first c = omega arith
