use Rattle.std.proofs.Common.{sym, append-nil}
use Rattle.volume_check.proofs.standing.push_edits.Goals as goal

pub returns-in-None : goal.returns-in-None
returns-in-None c = rw c.in-None.is (sym (append-nil c.args.edits.now.items))

pub returns-in-Some : goal.returns-in-Some
returns-in-Some c = rw c.in-Some.is c.push_record.ensures
