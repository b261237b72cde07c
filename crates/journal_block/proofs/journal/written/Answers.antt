use Rattle.std.proofs.Common.{arith}
use Rattle.journal_block.proofs.JournalWalk.{longer}
use Rattle.journal_block.proofs.journal.written.Goals as goal

pub push_edit-requires : goal.push_edit-requires
push_edit-requires c =
    let long = longer _ _ _ _ c.loop-edit.invariant (omega arith) in
    omega (arith, c.requires, c.skip_to-2.ensures.long)

pub returns-clause-long : goal.returns-clause-long
returns-clause-long c =
    let long = longer _ _ _ _ c.loop-edit.invariant (omega arith) in
    omega (arith, c.skip_to-2.ensures.long)
