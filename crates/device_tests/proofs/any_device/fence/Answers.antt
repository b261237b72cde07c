use Rattle.shared_disk.specs.laws.EventLaws.{fence_acts}
use Rattle.device_tests.proofs.any_device.fence.Goals as goal

pub returns : goal.returns
returns g c =
    let of = c.fence.ensures in
    fence_acts _ _ c.fence.result _ _ of.done of.same of.fenced of.registered of.failed of.no_keys of.memory of.count of.later of.spends
