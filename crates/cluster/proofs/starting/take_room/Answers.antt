use Rattle.std.proofs.Common.{◌<◌, List, length, sym, subst}
use Rattle.workload.specs.declared.line.Line.{Line}
use Rattle.cluster.specs.laws.StartLaws.{few_lines}
use Rattle.cluster.proofs.starting.take_room.Goals as goal

pub new-requires : goal.new-requires
new-requires c =
    subst (λ (lines : List Line). length lines < 4294967296) (sym c.as_slice-lines.ensures) (few_lines c.args.workload.now.lines c.requires.few)

pub first_lines-requires : goal.first_lines-requires
first_lines-requires c =
    subst (λ (lines : List Line). length lines < 4294967296) (sym c.as_slice-lines.ensures) (few_lines c.args.workload.now.lines c.requires.few)
