use Rattle.std.proofs.Common.{map, string_bytes}
use Rattle.jobs.proofs.MemoryLaws.{command_line, command_refused}
use Rattle.jobs.proofs.commands.command.Goals as goal

pub returns-in-Ok : goal.returns-in-Ok
returns-in-Ok g c = record { ends = command_line (map string_bytes c.args.words.now) c.in-Ok.line _ _ _ c.in-Ok.ensures c.perform.ensures.ends }

pub returns-in-Err : goal.returns-in-Err
returns-in-Err g c = record { ends = command_refused (map string_bytes c.args.words.now) _ _ _ _ _ c.in-Err.why c.in-Err.ensures c.refuse.ensures }
