use Rattle.volume_check.proofs.JournalReads.{entry_read}
use Rattle.volume_check.proofs.records.record_of.Goals as goal

pub returns-clause-key : goal.returns-clause-key
returns-clause-key c =
    (entry_read c.args.metadata.now c.args.host c.geometry.result c.block-journal.result.now.0 c.read_journal.result c.flatten.result c.requires.passed c.requires.host c.geometry.ensures.geometry c.block-journal.ensures.bytes c.read_journal.ensures.only c.flatten.ensures).key

pub returns-clause-edits : goal.returns-clause-edits
returns-clause-edits c =
    (entry_read c.args.metadata.now c.args.host c.geometry.result c.block-journal.result.now.0 c.read_journal.result c.flatten.result c.requires.passed c.requires.host c.geometry.ensures.geometry c.block-journal.ensures.bytes c.read_journal.ensures.only c.flatten.ensures).edits
