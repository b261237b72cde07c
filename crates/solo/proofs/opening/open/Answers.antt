use Rattle.std.proofs.Common.{◌∙◌, arith}
use Rattle.shared_disk.specs.laws.VisitLaws.{next_registered}
use Rattle.solo.specs.laws.OpenLaws.{fence_failed, registered_volume}
use Rattle.solo.specs.laws.OwnCalls.{risen}
use Rattle.solo.proofs.opening.open.Goals as goal

pub returns-in-Err-fence-clause-volume : goal.returns-in-Err-fence-clause-volume
returns-in-Err-fence-clause-volume g c =
    registered_volume (g.D.Device.state c.args.disk.now) (g.D.Device.state c.fence.new.self)
    (c.in-Err-fence.ensures.same ∙ c.find-found.ensures.same ∙ c.in-Ok.ensures.done) c.requires.volume

pub returns-in-Err-fence-clause-cause : goal.returns-in-Err-fence-clause-cause
returns-in-Err-fence-clause-cause g c =
    let a = c.in-Ok.ensures.later in
    let b = c.find-found.ensures.later in
    risen (g.D.Device.faults c.args.disk.now) (g.D.Device.faults c.find-found.new.disk) (g.D.Device.faults c.fence.new.self) (omega (arith, a, b))
    (fence_failed c.fence.result c.in-Err-fence.field-0 (g.D.Device.state c.find-found.new.disk).keys c.in-Ok.key.0
    (g.D.Device.faults c.find-found.new.disk) (g.D.Device.faults c.fence.new.self) c.in-Err-fence.is
    (rw (c.find-found.ensures.same, c.in-Ok.ensures.done) (next_registered (g.D.Device.state c.args.disk.now) c.in-Ok.key.0 c.in-Ok.ensures.key))
    c.fence.ensures.fenced c.fence.ensures.no_keys c.fence.ensures.memory c.fence.ensures.failed)
