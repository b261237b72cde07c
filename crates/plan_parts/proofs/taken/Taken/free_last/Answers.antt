use Rattle.std.proofs.Common.{subst}
use Rattle.disk_locks.specs.Consistent.{Consistent}
use Rattle.plan_parts.specs.laws.CutCallLaws.{cut_unlock}
use Rattle.plan_parts.specs.laws.MadeCallLaws.{freed_so}
use Rattle.plan_parts.specs.laws.TakenLaws.{last_freed, last_has, last_unedited, others_locks}
use Rattle.plan_parts.proofs.taken.Taken.free_last.Goals as goal

pub unlock-requires-clause-unedited : goal.unlock-requires-clause-unedited
unlock-requires-clause-unedited g c =
    last_unedited c.args.world.now c.args.host c.in-Some.what c.args.self.now c.pop.new.self
    (subst Consistent c.locks.ensures c.geometry-geometry.ensures.consistent) c.in-Some.ensures.some c.requires.taking c.requires.empty

pub returns-in-Ok-clause-went : goal.returns-in-Ok-clause-went
returns-in-Ok-clause-went g c =
    last_freed c.args.world.now c.unlock.new.world c.args.host c.in-Some.what c.args.self.now c.pop.new.self c.in-Ok.field-0
    (subst Consistent c.locks.ensures c.geometry-geometry.ensures.consistent) c.in-Ok.ensures.consistent c.in-Some.ensures.some
    c.requires.taking c.requires.empty c.in-Ok.ensures.did c.in-Ok.ensures.others c.in-Ok.ensures.standing

pub returns-in-Ok-clause-others : goal.returns-in-Ok-clause-others
returns-in-Ok-clause-others g c =
    others_locks c.args.world.now c.unlock.new.world c.args.host
    (subst Consistent c.locks.ensures c.geometry-geometry.ensures.consistent) c.in-Ok.ensures.others c.in-Ok.ensures.standing

pub returns-in-Err-clause-others : goal.returns-in-Err-clause-others
returns-in-Err-clause-others g c =
    others_locks c.args.world.now c.unlock.new.world c.args.host
    (subst Consistent c.locks.ensures c.geometry-geometry.ensures.consistent) c.in-Err.ensures.others c.in-Err.ensures.standing

pub returns-in-Err-clause-cut : goal.returns-in-Err-clause-cut
returns-in-Err-clause-cut g c =
    cut_unlock c.args.world.now c.unlock.new.world c.args.host c.in-Some.what c.in-Err.why
    (subst Consistent c.locks.ensures c.geometry-geometry.ensures.consistent)
    (last_has c.args.world.now c.args.host c.in-Some.what c.args.self.now c.pop.new.self c.in-Some.ensures.some c.requires.taking)
    (returns-in-Err-clause-others g c) c.in-Err.ensures.did

pub returns-in-Ok-clause-so : goal.returns-in-Ok-clause-so
returns-in-Ok-clause-so g c =
    freed_so c.args.world.now c.unlock.new.world c.args.host c.in-Some.what c.args.self.now c.pop.new.self c.in-Ok.field-0
    (subst Consistent c.locks.ensures c.geometry-geometry.ensures.consistent) c.in-Ok.ensures.consistent c.in-Some.ensures.some
    c.requires.taking c.requires.empty c.in-Ok.ensures.did c.in-Ok.ensures.others c.in-Ok.ensures.standing
