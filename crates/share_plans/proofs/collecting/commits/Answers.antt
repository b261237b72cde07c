use Rattle.std.proofs.Common.{◌+◌, refl, subst}
use Rattle.disk_locks.specs.Consistent.{Consistent}
use Rattle.share_plans.specs.laws.GatheringRecords.{committed, count_fits, edits_in_range, key_right, record_right, two_order}
use Rattle.share_plans.proofs.collecting.commits.Goals as goal

pub commit-came-requires-clause-key : goal.commit-came-requires-clause-key
commit-came-requires-clause-key g c =
    key_right c.args.world.now c.args.core.now c.args.emptying c.args.part c.args.group
    (subst Consistent c.locks.ensures c.geometry-geometry.ensures.consistent) c.requires.stands

pub commit-came-requires-clause-edits : goal.commit-came-requires-clause-edits
commit-came-requires-clause-edits g c =
    edits_in_range c.args.world.now c.args.core.now c.args.emptying c.args.part c.args.group
    (subst Consistent c.locks.ensures c.geometry-geometry.ensures.consistent) c.requires.stands

pub commit-came-requires-clause-may : goal.commit-came-requires-clause-may
commit-came-requires-clause-may g c =
    record_right c.args.world.now c.args.core.now c.args.emptying c.args.part c.args.group
    (subst Consistent c.locks.ensures c.geometry-geometry.ensures.consistent) c.requires.stands

pub commit-came-requires-clause-order : goal.commit-came-requires-clause-order
commit-came-requires-clause-order g c =
    two_order c.args.world.now c.args.core.now c.args.emptying c.args.part c.args.group
    (subst Consistent c.locks.ensures c.geometry-geometry.ensures.consistent) c.requires.stands c.new-left.result c.new-left.ensures

pub overflow_add-core : goal.overflow_add-core
overflow_add-core g c =
    record {
      fits = count_fits c.args.world.now c.args.core.now c.args.emptying c.args.part c.args.group
          (subst Consistent c.locks.ensures c.geometry-geometry.ensures.consistent) c.requires.stands;
    }

pub returns-in-Ok-clause-went : goal.returns-in-Ok-clause-went
returns-in-Ok-clause-went g c =
    committed c.args.world.now c.args.core.now c.args.emptying c.args.part c.args.group
    (subst Consistent c.locks.ensures c.geometry-geometry.ensures.consistent) c.requires.stands c.commit-came.new.world c.new-left.result
    (record { entry = c.args.emptying.entry; left = c.new-left.result }) c.edited-part_behind.result c.edited-group_behind.result
    (c.args.core.now.count + c.args.emptying.slots) c.new-left.ensures c.in-Ok.ensures.went c.in-Ok.ensures.so refl refl
    c.edited-part_behind.ensures c.edited-group_behind.ensures refl
