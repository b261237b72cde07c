use Rattle.std.proofs.Common.{subst}
use Rattle.vol_layout.specs.declared.kind.Resource.TheVariants.{File}
use Rattle.disk_locks.specs.Consistent.{Consistent}
use Rattle.plan_parts.specs.laws.CutCallLaws.{cut_unlock}
use Rattle.plan_parts.specs.laws.TakenLaws.{others_locks}
use Rattle.recover_plan.specs.laws.UnlockLaws.{file_unedited, unlock_came}
use Rattle.recover_plan.proofs.leave.free_file.Goals as goal

pub unlock-requires-clause-unedited : goal.unlock-requires-clause-unedited
unlock-requires-clause-unedited g c =
    file_unedited c.args.world.now c.args.host c.args.file (subst Consistent c.locks.ensures c.geometry-geometry.ensures.consistent)
    c.requires.ready c.requires.file c.requires.held

pub returns-in-Ok-clause-came : goal.returns-in-Ok-clause-came
returns-in-Ok-clause-came g c watch stands =
    unlock_came c.args.world.now c.unlock.new.world c.args.host c.args.file watch
    (subst Consistent c.locks.ensures c.geometry-geometry.ensures.consistent) c.in-Ok.ensures.consistent c.requires.file
    c.in-Ok.ensures.others c.in-Ok.ensures.standing c.in-Ok.field-0 c.in-Ok.ensures.did stands c.requires.held

pub returns-in-Ok-clause-others : goal.returns-in-Ok-clause-others
returns-in-Ok-clause-others g c =
    others_locks c.args.world.now c.unlock.new.world c.args.host
    (subst Consistent c.locks.ensures c.geometry-geometry.ensures.consistent) c.in-Ok.ensures.others c.in-Ok.ensures.standing

pub returns-in-Err-clause-others : goal.returns-in-Err-clause-others
returns-in-Err-clause-others g c =
    others_locks c.args.world.now c.unlock.new.world c.args.host
    (subst Consistent c.locks.ensures c.geometry-geometry.ensures.consistent) c.in-Err.ensures.others c.in-Err.ensures.standing

pub returns-in-Err-clause-cut : goal.returns-in-Err-clause-cut
returns-in-Err-clause-cut g c =
    cut_unlock c.args.world.now c.unlock.new.world c.args.host (File c.args.file) c.in-Err.why
    (subst Consistent c.locks.ensures c.geometry-geometry.ensures.consistent) c.requires.file (returns-in-Err-clause-others g c)
    c.in-Err.ensures.did
