use Rattle.std.proofs.Common.{subst, sym}
use Rattle.share_plans.specs.Closings.{Closes}
use Rattle.share_plans.specs.declared.closing.Closing.TheVariants.{Frees}
use Rattle.share_plans.specs.laws.ClosingLaws.{lock_closes}
use Rattle.share_plans.proofs.closing.frees.Goals as goal

pub returns-in-Ok-clause-went : goal.returns-in-Ok-clause-went
returns-in-Ok-clause-went g c =
    subst (Closes c.args.host c.args.world.now c.free_last.new.world c.args.taken.now c.free_last.new.self Frees) (sym c.rested.ensures)
    (lock_closes c.args.host c.args.world.now c.free_last.new.world c.args.taken.now c.free_last.new.self c.in-Ok._freed c.requires.stands
    c.in-Ok.ensures.went c.in-Ok.ensures.so)
