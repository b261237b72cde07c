use Rattle.merge_steps.proofs.Sweeping.{one_on, one_passed}
use Rattle.merge_steps.proofs.sweep.passes.Goals as goal

pub loop-due-preserved : goal.loop-due-preserved
loop-due-preserved g c =
    let one = c.in_default.ensures.passed in (
      one_on c.args.world.now c.args.host c.args.room.now c.args.number c.args.sweep.now.at c.loop-due.sweep c.passes_one.new.sweep one
          c.loop-due.invariant.0,
      one_passed c.args.world.now c.args.host c.args.room.now c.args.number c.args.sweep.now c.loop-due.sweep c.passes_one.new.sweep
          c.loop-due.invariant.0 c.loop-due.invariant.1 one,
      c.in_default.ensures.sweep,
    )
