use Rattle.shared_disk.specs.laws.EventLaws.{read_acts}
use Rattle.device_tests.proofs.any_device.read.Goals as goal

pub returns : goal.returns
returns g c =
    let of = c.read.ensures in
    read_acts _ _ c.read.result _ _ c.requires of.block of.same of.fenced of.registered of.failed of.no_keys of.memory of.count of.later of.spends
