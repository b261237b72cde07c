use Rattle.std.proofs.Common.{◌∷◌, [], arith}
use Rattle.gen_load.specs.Generated.{write_line}
use Rattle.gen_load.proofs.Gaining.{all_below, line, more_below, none_below}
use Rattle.gen_load.proofs.generating.write_blocks.Goals as goal

pub loop-k-init : goal.loop-k-init
loop-k-init c = none_below c.args.text.now (λ k. write_line c.args.round c.args.host k ∷ [])

pub loop-k-preserved : goal.loop-k-preserved
loop-k-preserved c = more_below c.loop-k.k (λ k. write_line c.args.round c.args.host k ∷ []) c.loop-k.invariant (line c.in_ok-write_block.ensures)

pub returns : goal.returns
returns c = all_below c.loop-k.k 10 (λ k. write_line c.args.round c.args.host k ∷ []) (omega arith) c.loop-k.invariant
