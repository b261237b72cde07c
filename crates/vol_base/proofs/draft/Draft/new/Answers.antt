use Rattle.std.proofs.Common.{refl, arith}
use Rattle.vol_base.specs.Bytes.{zeros}
use Rattle.vol_base.proofs.draft.Draft.new.Goals as goal

pub invariant_of-result : goal.invariant_of-result
unfolding zeros
invariant_of-result c = (omega arith, refl)
