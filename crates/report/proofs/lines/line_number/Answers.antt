use Rattle.std.proofs.Common.{sym}
use Rattle.std.proofs.lemmas.List.{get_or-map}
use Rattle.vol_base.specs.declared.command.Command.TheVariants.{Join}
use Rattle.workload.specs.declared.line.Line.{Line}
use Rattle.report.specs.Reports.{line_number}
use Rattle.report.proofs.lines.line_number.Goals as goal

pub returns : goal.returns
unfolding line_number
returns c =
    let first : Line = record { at = 0; phase = 0; host = 0; command = Join } in
    sym (get_or-map (λ (line : Line). line.at) c.args.lines.now c.args.position first 0 c.requires)
