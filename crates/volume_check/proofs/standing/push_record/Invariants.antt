use Rattle.std.proofs.Common.{◌≡◌, ◌++◌, take}
use Rattle.volume_check.proofs.standing.push_record.Given as goal

abbrev pub invariant-loop-index : goal.invariant-loop-index
invariant-loop-index l = l.edits.items ≡ l.initial.edits.items ++ take l.index l.entry.edits
