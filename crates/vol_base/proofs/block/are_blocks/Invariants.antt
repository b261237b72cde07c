use Rattle.std.specs.Prelude.{All, take}
use Rattle.vol_base.specs.Bytes.{IsBlock}
use Rattle.vol_base.proofs.block.are_blocks.Given as goal

-- the blocks that were passed are blocks
abbrev pub invariant-loop-block : goal.invariant-loop-block
invariant-loop-block l = All (λ block. IsBlock block.0) (take l.block-index l.fn.blocks)
