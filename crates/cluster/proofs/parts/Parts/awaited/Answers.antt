use Rattle.std.proofs.Common.{sym, ◌∙◌}
use Rattle.cluster.specs.laws.PartsLaws.{line_below, line_within}
use Rattle.cluster.proofs.parts.Parts.awaited.Goals as goal

pub command-requires : goal.command-requires
command-requires g c =
    line_within c.args.self.now c.args.host c.requires.sound c.in-Some.position (sym c.next_line.ensures ∙ c.in-Some.is)

pub asked-requires-clause-host : goal.asked-requires-clause-host
asked-requires-clause-host g c =
    line_below c.args.self.now c.args.host c.requires.sound c.in-Some.position (sym c.next_line.ensures ∙ c.in-Some.is)
