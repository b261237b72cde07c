use Rattle.std.proofs.Common.{◌<◌, ◌^◌, subst}
use Rattle.journal_block.proofs.JournalWalk.{journal_written, record_written, spells_none, spells_record}
use Rattle.journal_block.proofs.journal.write_journal.Goals as goal

pub returns-in-None-clause-empty : goal.returns-in-None-clause-empty
returns-in-None-clause-empty c = rw c.in-None.is (journal_written _ _ _ _ c.written.ensures.bytes c.written.ensures.long c.finish.ensures.bytes)

pub returns-in-None-clause-reads_empty : goal.returns-in-None-clause-reads_empty
returns-in-None-clause-reads_empty c = rw c.in-None.is (λ g. spells_none g _ (journal_written _ _ _ _ c.written.ensures.bytes c.written.ensures.long c.finish.ensures.bytes))

pub returns-in-Some-clause-bytes : goal.returns-in-Some-clause-bytes
returns-in-Some-clause-bytes c =
    rw c.in-Some.is (record_written _ _ _ _ _ (journal_written _ _ _ _ c.written-in-Some.ensures.bytes c.written-in-Some.ensures.long c.finish-in-Some.ensures.bytes) c.key.ensures c.edits.ensures.edits)

pub returns-in-Some-clause-reads : goal.returns-in-Some-clause-reads
returns-in-Some-clause-reads c =
    rw c.in-Some.is
    (λ g each. spells_record g _ _ (subst (λ n. n < 2 ^ 64) c.key.ensures c.written-in-Some.ensures.width) c.edits.ensures.well_formed each
    (record_written _ _ _ _ _ (journal_written _ _ _ _ c.written-in-Some.ensures.bytes c.written-in-Some.ensures.long c.finish-in-Some.ensures.bytes) c.key.ensures c.edits.ensures.edits))
