use Rattle.std.proofs.Common.{sym, ◌∙◌}
use Rattle.cluster.specs.laws.PartsLaws.{line_below, line_within}
use Rattle.cluster.specs.laws.SoonerLaws.{asked_there}
use Rattle.cluster.specs.laws.WaitLaws.{waits_turn}
use Rattle.cluster.proofs.parts.Parts.turn_at.Goals as goal

pub command-command-requires : goal.command-command-requires
command-command-requires g c = line_within c.args.self.now c.args.host c.requires.sound c.args.position c.requires.at

pub asked-requires-clause-host : goal.asked-requires-clause-host
asked-requires-clause-host g c = line_below c.args.self.now c.args.host c.requires.sound c.args.position c.requires.at

pub returns-in-Some-clause-turned : goal.returns-in-Some-clause-turned
returns-in-Some-clause-turned g c =
    waits_turn c.args.self.now c.args.host c.args.position c.requires.sound c.requires.standing c.requires.steady c.requires.at
    c.command-command.result c.command-command.ensures c.in-Some.block (sym c.asked.ensures ∙ c.in-Some.is)

pub returns-in-Some-clause-tells : goal.returns-in-Some-clause-tells
returns-in-Some-clause-tells g c =
    asked_there c.args.self.now c.args.host c.args.position c.requires.at c.command-command.result c.command-command.ensures
    ∙ sym c.asked.ensures ∙ c.in-Some.is
