use Rattle.std.proofs.Common.{arith}
use Rattle.vol_base.specs.laws.PackingLaws.{entry_fits}
use Rattle.vol_base.proofs.packed.place.Goals as goal

pub overflow_mul-result : goal.overflow_mul-result
overflow_mul-result c = let within = entry_fits c.args.width c.args.count c.args.k c.requires.counted c.requires.room in omega arith

pub returns-clause-within : goal.returns-clause-within
returns-clause-within c = entry_fits c.args.width c.args.count c.args.k c.requires.counted c.requires.room
