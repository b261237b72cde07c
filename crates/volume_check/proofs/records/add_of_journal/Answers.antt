use Rattle.std.proofs.Common.{sym}
use Rattle.volume_check.proofs.HoldLaws.{empty_journal}
use Rattle.volume_check.proofs.records.add_of_journal.Goals as goal

pub add_of_record-requires-clause-entry : goal.add_of_record-requires-clause-entry
add_of_record-requires-clause-entry c = record { host = c.requires.host; key = c.in-Some.ensures.key; edits = c.in-Some.ensures.edits }

pub returns-in-None : goal.returns-in-None
returns-in-None c = empty_journal c.args.metadata.now c.args.host c.args.faults.now.items (sym c.in-None.ensures.edits)
