use Rattle.std.proofs.Common.{◌<◌, ◌+◌, ℕ, List, get_or, length, subst, take, arith}
use Rattle.std.specs.Prelude.{All}
use Rattle.std.proofs.lemmas.List.{take_all, take_more}
use Rattle.std.proofs.lemmas.List.Elements.{All-push}
use Rattle.vol_base.specs.Bytes.{IsBlock}
use Rattle.vol_base.specs.declared.block.Block.{Block}
use Rattle.vol_base.proofs.block.are_blocks.Goals as goal

one_more : (blocks : List Block) (i : ℕ) (d : Block) → i < length blocks → All (λ block. IsBlock block.0) (take i blocks)
    → IsBlock (get_or blocks i d).0 → All (λ block. IsBlock block.0) (take (i + 1) blocks)
one_more blocks i d below before this =
    rw (take_more blocks i d below) (All-push (λ block. IsBlock block.0) (take i blocks) (get_or blocks i d) before this)

pub loop-block-preserved : goal.loop-block-preserved
loop-block-preserved c =
    one_more c.args.blocks.now c.loop-block.block-index _ c.loop-block-test.true c.loop-block.invariant c.bytes-bytes.ensures.block

pub returns : goal.returns
returns c =
    subst (λ (blocks : List Block). All (λ block. IsBlock block.0) blocks)
    (take_all c.loop-block.block-index c.args.blocks.now (omega (arith, c.loop-block-test.false))) c.loop-block.invariant
