use Rattle.std.proofs.Common.{subst, sym}
use Rattle.vol_base.specs.declared.answer.Step.{Step}
use Rattle.disk_locks.specs.Consistent.{Consistent}
use Rattle.plan_parts.specs.declared.outcome.Outcome.TheVariants.{Placed}
use Rattle.file_plans.specs.Went.{Went}
use Rattle.file_plans.specs.declared.stage.Stage.TheVariants.{Sees}
use Rattle.file_plans.specs.laws.SeeLaws.{confirm_went}
use Rattle.file_plans.specs.laws.WriteEndLaws.{cut_at}
use Rattle.file_plans.proofs.seeing.confirms.Goals as goal
use Rattle.file_plans.specs.laws.TurnKnownLaws.{placed_rests}
use Rattle.file_plans.specs.Turns.{IsSooner}
use Rattle.std.proofs.Common.{refl}

pub returns-in-Ok-clause-went : goal.returns-in-Ok-clause-went
returns-in-Ok-clause-went g c =
    subst (λ (s : Step). Went c.args.world.now c.confirm.new.world c.args.cache.now c.args.core.now
    (record c.args.core.now { outcome = Placed c.args.reply }) Sees s c.rested-next.result.1) (sym c.made.ensures)
    (confirm_went c.args.world.now c.confirm.new.world c.args.cache.now c.args.core.now c.args.reply c.rested-next.result.0
    c.rested-next.result.1 c.requires.stands (subst Consistent c.locks.ensures c.geometry-geometry.ensures.consistent)
    (subst Consistent c.locks-in-Ok.ensures c.geometry-geometry-in-Ok.ensures.consistent) c.requires.sight c.in-Ok.ensures.went
    c.rested-next.ensures)

pub returns-in-Err-clause-cut : goal.returns-in-Err-clause-cut
returns-in-Err-clause-cut g c =
    cut_at c.args.world.now c.confirm.new.world c.args.core.now Sees c.in-Err.why c.in-Err.ensures.cut

pub returns-in-Ok-clause-sooner : goal.returns-in-Ok-clause-sooner
returns-in-Ok-clause-sooner g c =
    subst (λ (s : Step). IsSooner c.args.world.now c.args.cache.now c.args.core.now Sees c.confirm.new.world c.args.cache.now
    (record c.args.core.now { outcome = Placed c.args.reply }) s.next c.rested-next.result.1) (sym c.made.ensures)
    (placed_rests c.args.world.now c.confirm.new.world c.args.cache.now c.args.cache.now c.args.core.now _ c.args.reply c.rested-next.result.0
    c.rested-next.result.1
    c.in-Ok.ensures.went.looks.geometry c.requires.stands.1 refl c.rested-next.ensures)
