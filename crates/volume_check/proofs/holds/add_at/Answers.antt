use Rattle.volume_check.proofs.HoldLaws.{unheld_elsewhere}
use Rattle.volume_check.proofs.holds.add_at.Goals as goal

pub add_of_journal-requires-clause-host : goal.add_of_journal-requires-clause-host
add_of_journal-requires-clause-host c = rw c.in-Journal.is at c.requires.kind

pub add_of_lock-requires : goal.add_of_lock-requires
add_of_lock-requires c = rw c.in-Lock.is at c.requires.kind

pub returns-in-Journal : goal.returns-in-Journal
returns-in-Journal c = rw c.in-Journal.is c.add_of_journal.ensures

pub returns-in-Lock : goal.returns-in-Lock
returns-in-Lock c = rw c.in-Lock.is c.add_of_lock.ensures

pub returns-in_default : goal.returns-in_default
returns-in_default c = unheld_elsewhere c.args.metadata.now c.args.kind c.args.faults.now.items c.in_default.not-Journal c.in_default.not-Lock
