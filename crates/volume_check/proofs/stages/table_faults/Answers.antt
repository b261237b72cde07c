use Rattle.std.proofs.Common.{◌≡◌, ◌<◌, length, arith}
use Rattle.std.proofs.lemmas.Bool.Decides.{nat_tests}
use Rattle.volume_check.proofs.FirstLaws.{ends_at_fourth, ends_at_second, ends_at_third}
use Rattle.vol_base.specs.laws.ResultLaws.{if_ok_then}
use Rattle.volume_check.proofs.stages.table_faults.Goals as goal

pub returns-then-not-is_empty : goal.returns-then-not-is_empty
returns-then-not-is_empty c =
    let some : 0 < length c.in_ok-faults.faults.items = grind (arith, nat_tests) in
    ends_at_second c.args.metadata.now c.in_ok-faults.faults.items c.in_ok-faults.ensures some

pub returns-then-not-is_empty-2 : goal.returns-then-not-is_empty-2
returns-then-not-is_empty-2 c =
    let none : length c.in_ok-faults.faults.items ≡ 0 = grind (arith, nat_tests) in
    let some : 0 < length c.in_ok-faults-2.faults.items = grind (arith, nat_tests) in
    ends_at_third c.args.metadata.now c.in_ok-faults.faults.items c.in_ok-faults-2.faults.items c.in_ok-faults.ensures none c.in_ok-faults-2.ensures some

pub returns : goal.returns
returns c =
    let none : length c.in_ok-faults.faults.items ≡ 0 = grind (arith, nat_tests) in
    let still_none : length c.in_ok-faults-2.faults.items ≡ 0 = grind (arith, nat_tests) in
    if_ok_then c.miscounted.result c.miscounted.ensures
    (λ faults adds. ends_at_fourth c.args.metadata.now c.in_ok-faults.faults.items c.in_ok-faults-2.faults.items faults.items c.in_ok-faults.ensures none c.in_ok-faults-2.ensures still_none adds)
