use Rattle.std.proofs.Common.{refl}
use Rattle.slot_lock_blocks.specs.ReaderKeys.{nobody}
use Rattle.slot_lock_blocks.proofs.readers.Readers.none.Goals as goal

pub returns : goal.returns
unfolding nobody
returns c = refl
