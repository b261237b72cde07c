use Rattle.std.proofs.Common.{subst}
use Rattle.disk_locks.specs.Consistent.{Consistent}
use Rattle.plan_parts.specs.laws.SearchLaws.{group_counted, group_shown, groups_shown}
use Rattle.plan_parts.proofs.searching.count.Goals as goal

pub returns-in-Ok-clause-went : goal.returns-in-Ok-clause-went
returns-in-Ok-clause-went g c =
    group_counted c.args.world.now c.fetch.new.world c.args.host c.args.k c.args.taken.now c.in-Ok.kept
    (subst Consistent c.locks.ensures c.geometry-geometry.ensures.consistent)
    (subst Consistent c.locks-in-Ok.ensures c.geometry-geometry-in-Ok.ensures.consistent) c.requires.stands c.group_at-group.result
    c.geometry-geometry.result.now.groups
    (group_shown c.args.world.now.locks c.locks.result.now c.geometry-geometry.result.now c.args.host c.args.k c.group_at-group.result
    c.locks.ensures c.geometry-geometry.ensures.geometry c.group_at-group.ensures)
    (groups_shown c.args.world.now.locks c.locks.result.now c.geometry-geometry.result.now c.locks.ensures
    c.geometry-geometry.ensures.geometry) c.in-Ok.ensures.went c.counted.result c.counted.ensures
