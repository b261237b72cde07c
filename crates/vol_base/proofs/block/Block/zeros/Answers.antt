use Rattle.std.proofs.Common.{refl}
use Rattle.vol_base.specs.Bytes.{zeros}
use Rattle.vol_base.proofs.block.Block.zeros.Goals as goal

pub returns : goal.returns
unfolding zeros
returns c = refl
