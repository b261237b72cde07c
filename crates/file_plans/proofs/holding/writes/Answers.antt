use Rattle.std.proofs.Common.{subst, sym}
use Rattle.disk_locks.specs.Consistent.{Consistent}
use Rattle.plan_parts.specs.Holds.{TakesWrite, WritesFile}
use Rattle.file_plans.specs.laws.HoldStageLaws.{writes_went, writes_file}
use Rattle.file_plans.proofs.holding.writes.Goals as goal
use Rattle.file_plans.specs.laws.TurnHoldLaws.{writes_sooner}

pub returns-in-Ok-clause-went : goal.returns-in-Ok-clause-went
returns-in-Ok-clause-went g c =
    writes_went c.args.world.now c.next.new.world c.args.cache.now c.args.core.now c.held.new.core c.held.result.0 c.held.result.1
    (subst Consistent c.locks.ensures c.geometry-geometry.ensures.consistent)
    (subst Consistent c.locks-in-Ok.ensures c.geometry-geometry-in-Ok.ensures.consistent) c.args.taking c.in-Ok.taken c.requires.stands
    (subst (λ f. TakesWrite c.args.core.now.host f c.args.world.now c.next.new.world c.args.taking c.in-Ok.taken) c.file.ensures
    c.in-Ok.ensures.went) c.held.ensures

pub returns-in-Err-clause-cut : goal.returns-in-Err-clause-cut
returns-in-Err-clause-cut g c command runs =
    c.in-Err.ensures.cut command
    (subst (λ f. WritesFile f command) (sym c.file.ensures) (writes_file command c.args.core.now.call runs c.requires.stands.2))

pub returns-in-Ok-clause-sooner : goal.returns-in-Ok-clause-sooner
returns-in-Ok-clause-sooner g c =
    writes_sooner c.args.world.now c.next.new.world c.args.cache.now c.args.core.now c.held.new.core c.held.result.0 c.held.result.1
    (subst Consistent c.locks.ensures c.geometry-geometry.ensures.consistent).geometry c.in-Ok.ensures.others.locks.lasts.geometry
    c.args.taking c.in-Ok.taken c.requires.stands
    (subst (λ f. TakesWrite c.args.core.now.host f c.args.world.now c.next.new.world c.args.taking c.in-Ok.taken) c.file.ensures
    c.in-Ok.ensures.went) c.held.ensures
