use Rattle.volume_faults.proofs.SpelledLaws.{journal_of}
use Rattle.volume_faults.proofs.spelling.journals.is_journal.Goals as goal

pub returns-then-is_some : goal.returns-then-is_some
returns-then-is_some c =
    journal_of c.args.geometry.now c.args.counter c.args.block.now.0 c.read_journal.result c.u64_at.result c.is_given.result c.requires c.if-is_some.ensures c.read_journal.ensures.spelled
    c.u64_at.ensures.number c.is_given.ensures
