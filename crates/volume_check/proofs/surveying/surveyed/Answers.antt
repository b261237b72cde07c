use Rattle.std.proofs.Common.{◌≡◌, ◌<◌, length, subst, arith}
use Rattle.volume_faults.specs.ReadPlaces.{IsCheckedPlace}
use Rattle.volume_check.proofs.FirstLaws.{first_place}
use Rattle.volume_check.proofs.surveying.surveyed.Goals as goal

pub returns-in-Some-clause-place : goal.returns-in-Some-clause-place
returns-in-Some-clause-place c place is =
    let here : c.in-Some.fault.now.place ≡ place = cc in
    let at = rw c.deref.ensures.value at c.in-Some.ensures.item in
    let first = at.0 in
    let some : 0 < length c.in-Ok.faults.items = omega (arith, first) in
    subst (IsCheckedPlace c.args.metadata.now.geometry) here
    (first_place c.args.metadata.now c.in-Ok.faults.items c.in-Some.fault.now c.in-Ok.ensures some at.1)
