use Rattle.std.proofs.Common.{◌≡◌, None, replicate}
use Rattle.plain_files.proofs.files.PlainFiles.with_limit.Given as goal

abbrev pub invariant-loop : goal.invariant-loop
invariant-loop l = l.table.items ≡ replicate l.counter None
