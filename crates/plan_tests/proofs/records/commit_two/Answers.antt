use Rattle.std.proofs.Common.{subst}
use Rattle.disk_locks.specs.Consistent.{Consistent}
use Rattle.plan_tests.proofs.WorldLaws.{taken_out}
use Rattle.plan_tests.proofs.records.commit_two.Goals as goal

pub take-requires-clause-out : goal.take-requires-clause-out
take-requires-clause-out g c =
    taken_out c.args.world.now c.args.host 0 c.requires.taking
    (subst Consistent c.locks.ensures c.geometry-geometry.ensures.consistent).geometry.groups.0
