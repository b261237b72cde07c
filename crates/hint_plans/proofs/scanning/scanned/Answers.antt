use Rattle.std.proofs.Common.{subst}
use Rattle.disk_locks.specs.Consistent.{Consistent}
use Rattle.hint_plans.specs.laws.ScanBlocks.{scanned_came}
use Rattle.hint_plans.proofs.scanning.scanned.Goals as goal

pub returns : goal.returns
returns g c =
    scanned_came c.args.world.now c.args.host c.args.count c.args.scan c.args.pending.now
    (subst Consistent c.locks.ensures c.geometry-geometry.ensures.consistent) c.requires.stands c.requires.all c.requires.count
