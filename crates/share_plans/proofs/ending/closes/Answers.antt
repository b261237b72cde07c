use Rattle.std.proofs.Common.{subst, sym}
use Rattle.share_plans.specs.declared.stage.Stage.TheVariants as stages
use Rattle.share_plans.specs.Went.{Went}
use Rattle.share_plans.specs.laws.EndLaws.{closes_went}
use Rattle.share_plans.specs.laws.StillLaws.{with_taken}
use Rattle.share_plans.proofs.ending.closes.Goals as goal

pub returns-in-Ok-clause-went : goal.returns-in-Ok-clause-went
returns-in-Ok-clause-went g c =
    subst (Went c.args.world.now c.next-came.new.world c.args.core.now (with_taken c.args.core.now c.next-came.new.taken)
    (stages.Closes c.args.closing c.args.answer)) (sym c.closed.ensures)
    (closes_went c.args.world.now c.next-came.new.world c.args.core.now c.next-came.new.taken c.args.closing c.args.answer c.in-Ok.next
    c.requires.stands c.in-Ok.ensures.went)
