use Rattle.std.proofs.Common.{arith}
use Rattle.volume_opening.proofs.FoundLaws.{nothing_found}
use Rattle.volume_opening.proofs.block_zero.read_block_zero.Goals as goal

pub returns-then-blocks-eq0-clause-found : goal.returns-then-blocks-eq0-clause-found
returns-then-blocks-eq0-clause-found g c = nothing_found _ _ (g.met.D.Device.whole_image c.args.disk.now) (let is = c.blocks-2.ensures in let none = c.if-blocks-eq0.true in omega arith)
