use Rattle.std.proofs.Common.{refl, subst}
use Rattle.disk_locks.specs.Consistent.{Consistent}
use Rattle.file_plans.specs.declared.stage.Stage.TheVariants as stages
use Rattle.file_plans.specs.laws.ApplyStageLaws.{lock_freed}
use Rattle.file_plans.specs.laws.WriteEndLaws.{cut_at}
use Rattle.file_plans.proofs.closing.frees.Goals as goal
use Rattle.file_plans.specs.laws.TurnKnownLaws.{freed_sooner}

pub returns-in-Ok-clause-went : goal.returns-in-Ok-clause-went
returns-in-Ok-clause-went g c =
    lock_freed c.args.world.now c.free_last-came.new.world c.args.cache.now c.args.core.now _ c.free_last-came.new.self _ _ _
    (subst Consistent c.locks.ensures c.geometry-geometry.ensures.consistent)
    (subst Consistent c.locks-2.ensures c.geometry-geometry-2.ensures.consistent) c.requires.stands c.in-Ok.ensures.went refl
    c.rests.ensures.step c.rests.ensures.rest

pub returns-in-Err-clause-cut : goal.returns-in-Err-clause-cut
returns-in-Err-clause-cut g c =
    cut_at c.args.world.now c.free_last-came.new.world c.args.core.now stages.Frees c.in-Err.why c.in-Err.ensures.cut

pub returns-in-Ok-clause-sooner : goal.returns-in-Ok-clause-sooner
returns-in-Ok-clause-sooner g c =
    freed_sooner c.args.world.now c.free_last-came.new.world c.args.cache.now c.args.core.now _ c.free_last-came.new.self _ _ _
    c.in-Ok.ensures.others.locks.lasts.geometry c.requires.stands.2 c.in-Ok.ensures.went refl c.rests.ensures.rest
