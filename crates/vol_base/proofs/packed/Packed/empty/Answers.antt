use Rattle.std.proofs.Common.{refl}
use Rattle.vol_base.specs.Packing.{entries_of}
use Rattle.vol_base.proofs.packed.Packed.empty.Goals as goal

pub returns : goal.returns
unfolding entries_of
returns g c = refl
