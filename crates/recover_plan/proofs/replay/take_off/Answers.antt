use Rattle.std.proofs.Common.{refl, subst}
use Rattle.disk_locks.specs.Consistent.{Consistent}
use Rattle.host_facts.specs.Views.{with_locks}
use Rattle.plan_parts.specs.laws.TakenLaws.{others_locks}
use Rattle.recover_plan.proofs.replay.take_off.Goals as goal

pub returns-clause-others : goal.returns-clause-others
returns-clause-others g c =
    others_locks c.args.world.now (with_locks c.args.world.now c.fence-done.new.self) c.args.host
    (subst Consistent c.locks.ensures c.geometry-geometry.ensures.consistent)
    (rw c.locks_mut.ensures.now at c.fence-done.ensures.others) refl
