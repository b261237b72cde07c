use Rattle.std.proofs.Common.{ℕ, List, ap}
use Rattle.vol_base.specs.declared.block.Block.{Block}
use Rattle.plain_files.proofs.content.zero_block.Goals as goal

pub returns : goal.returns
returns c = ap (λ (xs : List ℕ). let b : Block = record { 0 = xs } in b) c.zeros.ensures
