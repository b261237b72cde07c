use Rattle.plan_tests.proofs.RecordLaws.{edits_more, edits_one}
use Rattle.plan_tests.proofs.RecordLaws.{count_fits, pointer_fits}
use Rattle.std.proofs.Common.{arith}
use Rattle.plan_tests.proofs.records.two.Goals as goal

pub returns-clause-edits : goal.returns-clause-edits
returns-clause-edits c =
    let g = c.args.geometry.now in
    let f = c.args.file in
    let first = edits_one g _ _ _ _ c.new-entry.ensures c.edit.ensures
    (pointer_fits g f 0 1 c.requires.range c.requires.file (omega arith) (omega arith) (omega arith)) in
    let second = edits_more g _ _ c.edit-2.ensures (c.with-entry.ensures.edits g first)
    (pointer_fits g f 1 2 c.requires.range c.requires.file (omega arith) (omega arith) (omega arith)) in
    let third = edits_more g _ _ c.edit-3.ensures (c.with-entry-2.ensures.edits g second)
    (count_fits g 0 c.requires.range (omega arith)) in
    edits_more g _ _ c.edit-4.ensures (c.with.ensures.edits g third) (count_fits g 1 c.requires.range (omega arith))
