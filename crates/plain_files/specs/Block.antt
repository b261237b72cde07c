-- Blocks.
use Rattle.vol_base.specs.Bytes.{zeros}
use Rattle.vol_base.specs.declared.block.Block.{Block}

-- the block of 4,096 zero bytes
abbrev pub zero_block : Block
zero_block = record { 0 = zeros 4096 }
