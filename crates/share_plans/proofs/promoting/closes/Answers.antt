use Rattle.std.proofs.Common.{subst, sym}
use Rattle.share_plans.specs.declared.promotion.Doing.TheVariants as doings
use Rattle.share_plans.specs.Promotions.{Went}
use Rattle.share_plans.specs.laws.PromoteStages.{with_taken}
use Rattle.share_plans.specs.laws.PromoteStays.{promotion_closes}
use Rattle.share_plans.proofs.promoting.closes.Goals as goal

pub returns-in-Ok-clause-went : goal.returns-in-Ok-clause-went
returns-in-Ok-clause-went g c =
    subst (Went c.args.world.now c.next-came.new.world c.args.core.now (with_taken c.args.core.now c.next-came.new.taken)
    (doings.Closes c.args.closing c.args.answer)) (sym c.closed.ensures)
    (promotion_closes c.args.world.now c.next-came.new.world c.args.core.now c.next-came.new.taken c.args.closing c.args.answer c.in-Ok.next
    c.requires.stands c.in-Ok.ensures.went)
