use Rattle.shared_disk.specs.laws.EventLaws.{write_acts}
use Rattle.device_tests.proofs.any_device.write.Goals as goal

pub returns : goal.returns
returns g c =
    let of = c.write.ensures in
    write_acts _ _ _ c.write.result _ _ c.requires of.done of.same of.fenced of.registered of.failed of.no_keys of.memory of.count of.later of.spends
