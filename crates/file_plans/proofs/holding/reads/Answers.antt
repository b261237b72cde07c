use Rattle.std.proofs.Common.{subst, sym}
use Rattle.disk_locks.specs.Consistent.{Consistent}
use Rattle.plan_parts.specs.Holds.{TakesRead, ReadsFile}
use Rattle.file_plans.specs.laws.HoldStageLaws.{reads_went, reads_file}
use Rattle.file_plans.proofs.holding.reads.Goals as goal
use Rattle.file_plans.specs.laws.TurnHoldLaws.{reads_sooner}

pub returns-in-Ok-clause-went : goal.returns-in-Ok-clause-went
returns-in-Ok-clause-went g c =
    reads_went c.args.world.now c.take.new.world c.args.cache.now c.args.core.now c.read.new.core c.read.result.0 c.read.result.1
    (subst Consistent c.locks.ensures c.geometry-geometry.ensures.consistent)
    (subst Consistent c.locks-in-Ok.ensures c.geometry-geometry-in-Ok.ensures.consistent) c.args.taking c.in-Ok.taken c.requires.stands
    (subst (λ f. TakesRead c.args.core.now.host f c.args.world.now c.take.new.world c.args.taking c.in-Ok.taken) c.file.ensures
    c.in-Ok.ensures.went) c.read.ensures

pub returns-in-Err-clause-cut : goal.returns-in-Err-clause-cut
returns-in-Err-clause-cut g c command runs =
    c.in-Err.ensures.cut command
    (subst (λ f. ReadsFile f command) (sym c.file.ensures) (reads_file command c.args.core.now.call runs c.requires.stands.2))

pub returns-in-Ok-clause-sooner : goal.returns-in-Ok-clause-sooner
returns-in-Ok-clause-sooner g c =
    reads_sooner c.args.world.now c.take.new.world c.args.cache.now c.args.core.now c.read.new.core c.read.result.0 c.read.result.1
    (subst Consistent c.locks.ensures c.geometry-geometry.ensures.consistent).geometry c.in-Ok.ensures.others.locks.lasts.geometry
    c.args.taking c.in-Ok.taken c.requires.stands
    (subst (λ f. TakesRead c.args.core.now.host f c.args.world.now c.take.new.world c.args.taking c.in-Ok.taken) c.file.ensures
    c.in-Ok.ensures.went) c.read.ensures
