use Rattle.shared_disk.specs.laws.EventLaws.{register_acts}
use Rattle.device_tests.proofs.any_device.register.Goals as goal

pub returns : goal.returns
returns g c =
    let of = c.register.ensures in
    register_acts _ c.register.result _ _ c.requires of.key of.done of.same of.no_keys of.failed of.fenced of.memory of.count of.later of.spends
