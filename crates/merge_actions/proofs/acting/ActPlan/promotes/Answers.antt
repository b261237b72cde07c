use Rattle.std.proofs.Common.{ℕ, subst, sym}
use Rattle.disk_locks.specs.Consistent.{Consistent}
use Rattle.plan_parts.specs.Cuts.{IsCut}
use Rattle.merge_actions.specs.Acts.{with_acting}
use Rattle.merge_actions.specs.Steps.{StepsTo}
use Rattle.merge_actions.specs.declared.acting.Acting.TheVariants.{Promotes}
use Rattle.merge_actions.specs.laws.PromoteLaws.{promoted_went}
use Rattle.merge_actions.proofs.acting.ActPlan.promotes.Goals as goal

pub returns-in-Ok-clause-went : goal.returns-in-Ok-clause-went
returns-in-Ok-clause-went g c =
    subst (StepsTo c.args.world.now c.next-came.new.world (with_acting c.args.self.now (Promotes c.args.promotion))) (sym c.behind_promotion.ensures)
    (promoted_went c.args.world.now c.next-came.new.world c.args.self.now c.args.promotion c.next-came.new.self
    (subst Consistent c.locks.ensures c.geometry-geometry.ensures.consistent) c.requires.stands c.in-Ok.answer c.in-Ok.ensures.went)

pub returns-in-Err-clause-cut : goal.returns-in-Err-clause-cut
returns-in-Err-clause-cut g c =
    subst (λ (x : ℕ). IsCut x c.args.world.now c.next-came.new.world c.in-Err.why) c.requires.stands.at.host c.in-Err.ensures.cut
