use Rattle.std.proofs.Common.{◌-◌, arith}
use Rattle.share_plans.specs.laws.SpentLaws.{frees_not}
use Rattle.share_plans.proofs.spending.frees.Goals as goal

pub loop-k-preserved : goal.loop-k-preserved
loop-k-preserved c =
    let some = c.loop-k-test.true in
    frees_not c.args.part.now c.args.slots.now.edits (c.loop-k.k - 1) c.loop-k.k c.args.block c.number.result c.get.result c.loop-k.found
    (omega (arith, some)) c.get.ensures c.number.ensures c.if-number-block.false c.loop-k.invariant
