use Rattle.std.proofs.Common.{refl, subst}
use Rattle.disk_locks.specs.Consistent.{Consistent}
use Rattle.plan_parts.specs.Applies as apply
use Rattle.file_plans.specs.declared.stage.Stage.TheVariants as stages
use Rattle.file_plans.specs.laws.ApplyStageLaws.{record_finished, table_applied}
use Rattle.file_plans.specs.laws.WriteEndLaws.{cut_at, went_as}
use Rattle.file_plans.proofs.closing.applies.Goals as goal
use Rattle.file_plans.specs.laws.TurnKnownLaws.{finished_sooner, written_sooner}

pub returns-in-Ok-Wrote-clause-went : goal.returns-in-Ok-Wrote-clause-went
returns-in-Ok-Wrote-clause-went g c =
    went_as c.args.world.now c.next-came.new.world c.keep.new.cache c.args.core.now _ (stages.Applies c.args.applying) _ _ _ _
    c.made.ensures refl
    (table_applied c.args.world.now c.next-came.new.world c.args.cache.now c.keep.new.cache c.args.core.now c.args.applying
    c.next-came.new.self c.in-Ok-Wrote.kept (subst Consistent c.locks.ensures c.geometry-geometry.ensures.consistent)
    (subst Consistent c.locks-2.ensures c.geometry-geometry-2.ensures.consistent) c.requires.stands c.in-Ok-Wrote.ensures.entry
    (subst (apply.Went c.args.core.now.host c.args.world.now c.next-came.new.world c.args.applying.entry.edits c.args.applying.left
    c.next-came.new.self.left) c.in-Ok-Wrote.field-0-is c.in-Ok-Wrote.ensures.went) c.keep.ensures)

pub returns-in-Ok-Finished-clause-went : goal.returns-in-Ok-Finished-clause-went
returns-in-Ok-Finished-clause-went g c =
    record_finished c.args.world.now c.next-came.new.world c.args.cache.now c.args.core.now _ c.args.applying _ _
    (subst Consistent c.locks.ensures c.geometry-geometry.ensures.consistent)
    (subst Consistent c.locks-2.ensures c.geometry-geometry-2.ensures.consistent) c.requires.stands
    (subst (apply.Went c.args.core.now.host c.args.world.now c.next-came.new.world c.args.applying.entry.edits c.args.applying.left
    c.next-came.new.self.left) c.in-Ok-Finished.field-0-is c.in-Ok-Finished.ensures.went) refl c.rests.ensures.step c.rests.ensures.rest

pub returns-in-Err-clause-cut : goal.returns-in-Err-clause-cut
returns-in-Err-clause-cut g c =
    cut_at c.args.world.now c.next-came.new.world c.args.core.now (stages.Applies c.args.applying) c.in-Err.why c.in-Err.ensures.cut

pub returns-in-Ok-Wrote-clause-sooner : goal.returns-in-Ok-Wrote-clause-sooner
returns-in-Ok-Wrote-clause-sooner g c =
    written_sooner c.args.world.now c.next-came.new.world c.args.cache.now c.keep.new.cache c.args.core.now c.args.applying
    c.next-came.new.self c.in-Ok-Wrote.kept _ (subst Consistent c.locks.ensures c.geometry-geometry.ensures.consistent).geometry
    c.requires.stands c.in-Ok-Wrote.ensures.entry
    (subst (apply.Went c.args.core.now.host c.args.world.now c.next-came.new.world c.args.applying.entry.edits c.args.applying.left
    c.next-came.new.self.left) c.in-Ok-Wrote.field-0-is c.in-Ok-Wrote.ensures.went) c.keep.ensures

pub returns-in-Ok-Finished-clause-sooner : goal.returns-in-Ok-Finished-clause-sooner
returns-in-Ok-Finished-clause-sooner g c =
    let did = subst (apply.Went c.args.core.now.host c.args.world.now c.next-came.new.world c.args.applying.entry.edits c.args.applying.left
    c.next-came.new.self.left) c.in-Ok-Finished.field-0-is c.in-Ok-Finished.ensures.went in
    finished_sooner c.args.world.now c.next-came.new.world c.args.cache.now c.args.core.now _ c.args.applying _ _
    did.wrote.geometry c.requires.stands did.none refl c.rests.ensures.rest
