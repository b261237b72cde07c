use Rattle.std.proofs.Common.{◌≡◌}
use Rattle.vol_base.specs.Bytes.{bytes_of}
use Rattle.vol_base.specs.NumberBlock.{repeated}
use Rattle.vol_base.proofs.filled.number_block.Given as goal

abbrev pub invariant-loop-copy : goal.invariant-loop-copy
invariant-loop-copy l = l.draft ≡ repeated l._copy (bytes_of 8 l.fn.n)
