use Rattle.std.proofs.Common.{Some, ap, map, refl, string_bytes}
use Rattle.words.specs.declared.forms.Job.TheVariants.{Run}
use Rattle.jobs.proofs.CommandLaws.{program_ends, usage_ends}
use Rattle.jobs.proofs.MemoryLaws.{program_line, program_refused}
use Rattle.jobs.proofs.entry.top.Goals as goal

pub returns-in-Err : goal.returns-in-Err
returns-in-Err g c = record { ends = program_refused (map string_bytes c.args.words.now) _ _ _ _ _ c.in-Err.why c.in-Err.ensures c.refuse.ensures }

pub returns-in-Run : goal.returns-in-Run
returns-in-Run g c = record {
  ends = program_line (map string_bytes c.args.words.now) c.in-Ok.line _ _ _ c.in-Ok.ensures
      (program_ends _ (Some Run) c.in-Ok.line.hosts.items _ _ _ (ap Some c.in-Run.is) c.run.ensures.ends);
}
