use Rattle.std.proofs.Common.{◌≡◌, length, arith}
use Rattle.std.proofs.lemmas.Bool.Decides.{nat_tests}
use Rattle.std.proofs.lemmas.List.{nil_from_length}
use Rattle.volume_faults.specs.laws.ReadableLaws.{IsReadable-valid}
use Rattle.volume_tests.proofs.faults.expect_usage.Goals as goal

pub survey-found-requires-clause-readable : goal.survey-found-requires-clause-readable
survey-found-requires-clause-readable g c =
    let none : length c.in_ok-faults.faults.items ≡ 0 = grind (arith, nat_tests) in
    IsReadable-valid _ _ _ (c.in_ok-faults.ensures.valid.0 (nil_from_length c.in_ok-faults.faults.items none))
