use Rattle.shared_disk.specs.laws.EventLaws.{test_acts}
use Rattle.device_tests.proofs.any_device.test_and_set.Goals as goal

pub returns : goal.returns
returns g c =
    let of = c.test_and_set.ensures in
    test_acts _ _ _ _ c.test_and_set.result _ _ c.requires of.done of.same of.fenced of.registered of.failed of.no_keys of.memory of.count of.later of.spends
