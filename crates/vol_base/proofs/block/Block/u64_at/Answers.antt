use Rattle.vol_base.specs.Bytes.{number_at}
use Rattle.vol_base.proofs.block.Block.u64_at.Goals as goal

pub returns-clause-number : goal.returns-clause-number
unfolding number_at
returns-clause-number c = rw c.from.ensures.rest at c.read_u64.ensures
