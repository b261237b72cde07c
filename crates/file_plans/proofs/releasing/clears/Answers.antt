use Rattle.std.proofs.Common.{subst, sym}
use Rattle.vol_base.specs.declared.answer.Step.{Step}
use Rattle.vol_layout.specs.declared.kind.Resource.TheVariants.{File}
use Rattle.disk_locks.specs.Consistent.{Consistent}
use Rattle.plan_parts.specs.TakenLocks.{LockFreed}
use Rattle.file_plans.specs.Forgets.{ForgetsFile}
use Rattle.file_plans.specs.Went.{Went}
use Rattle.file_plans.specs.declared.stage.Stage.TheVariants.{Over, Sees}
use Rattle.file_plans.specs.laws.CloseLaws.{clears_went}
use Rattle.file_plans.specs.laws.WriteEndLaws.{cut_at}
use Rattle.file_plans.proofs.releasing.clears.Goals as goal

pub returns-in-Ok-clause-went : goal.returns-in-Ok-clause-went
returns-in-Ok-clause-went g c =
    subst (λ (s : Step). Went c.args.world.now c.free_lock.new.world c.forget_file.new.cache c.args.core.now c.args.core.now Sees s Over)
    (sym c.made.ensures)
    (clears_went c.args.world.now c.free_lock.new.world c.args.cache.now c.forget_file.new.cache c.args.core.now c.requires.stands
    (subst Consistent c.locks.ensures c.geometry-geometry.ensures.consistent)
    (subst Consistent c.locks-in-Ok.ensures c.geometry.ensures.consistent) c.requires.sight
    (subst (λ f. LockFreed c.args.core.now.host c.args.world.now c.free_lock.new.world (File f)) c.file-file.ensures c.in-Ok.ensures.went)
    (subst (λ f. ForgetsFile c.args.cache.now c.forget_file.new.cache c.args.core.now.host f) c.file-file.ensures c.forget_file.ensures))

pub returns-in-Err-clause-cut : goal.returns-in-Err-clause-cut
returns-in-Err-clause-cut g c =
    cut_at c.args.world.now c.free_lock.new.world c.args.core.now Sees c.in-Err.why c.in-Err.ensures.cut
