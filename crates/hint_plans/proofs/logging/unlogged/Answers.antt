use Rattle.std.proofs.Common.{subst}
use Rattle.disk_locks.specs.Consistent.{Consistent}
use Rattle.hint_plans.specs.laws.LogLaws.{unlogged_came}
use Rattle.hint_plans.proofs.logging.unlogged.Goals as goal

pub returns : goal.returns
returns g c =
    unlogged_came c.args.world.now c.args.host c.args.log c.args.pending.now
    (subst Consistent c.locks.ensures c.geometry-geometry.ensures.consistent) c.requires.stands c.requires.none
