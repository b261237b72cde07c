use Rattle.std.proofs.Common.{ap, is_some, sym, ◌∙◌}
use Rattle.cluster.specs.laws.PartsLaws.{line_below, line_within}
use Rattle.cluster.specs.laws.SoonerLaws.{begun_turns, unasked_turns}
use Rattle.cluster.specs.laws.SupplyLaws.{begun_sound, begun_standing, begun_supplied, is_some_of, may_take, none_of, unasked_supplied}
use Rattle.cluster.proofs.parts.Parts.supply_at.Goals as goal

pub command-command-requires : goal.command-command-requires
command-command-requires g c = line_within c.args.self.now c.args.host c.requires.sound c.args.position c.requires.at

pub asked-requires-clause-host : goal.asked-requires-clause-host
asked-requires-clause-host g c = line_below c.args.self.now c.args.host c.requires.sound c.args.position c.requires.at

pub hand_in-requires-clause-may : goal.hand_in-requires-clause-may
hand_in-requires-clause-may g c =
    may_take c.args.self.now c.args.host c.args.position c.requires.sound c.requires.standing c.requires.steady c.requires.at
    c.command-command.result c.command-command.ensures c.args.digest
    (is_some_of _ (ap is_some (sym c.asked.ensures) ∙ sym c.is_some.ensures ∙ c.if-is_some.true))

pub returns-then-is_some-clause-supplied : goal.returns-then-is_some-clause-supplied
returns-then-is_some-clause-supplied g c =
    begun_supplied c.args.self.now c.args.host c.args.position c.requires.sound c.requires.standing c.requires.steady c.requires.at
    c.command-command.result c.command-command.ensures c.args.digest c.known.ensures
    (is_some_of _ (ap is_some (sym c.asked.ensures) ∙ sym c.is_some.ensures ∙ c.if-is_some.true)) c.hand_in.new.self c.hand_in.ensures

pub returns-then-is_some-clause-standing : goal.returns-then-is_some-clause-standing
returns-then-is_some-clause-standing g c =
    begun_standing c.args.self.now c.args.host c.args.position c.requires.sound c.requires.standing c.requires.steady c.requires.at
    c.command-command.result c.command-command.ensures c.args.digest c.known.ensures
    (is_some_of _ (ap is_some (sym c.asked.ensures) ∙ sym c.is_some.ensures ∙ c.if-is_some.true)) c.hand_in.new.self c.hand_in.ensures

pub returns-then-is_some-clause-sound : goal.returns-then-is_some-clause-sound
returns-then-is_some-clause-sound g c =
    begun_sound c.args.self.now c.args.host c.args.position c.requires.sound c.requires.standing c.requires.steady c.requires.at
    c.command-command.result c.command-command.ensures c.args.digest c.known.ensures
    (is_some_of _ (ap is_some (sym c.asked.ensures) ∙ sym c.is_some.ensures ∙ c.if-is_some.true)) c.hand_in.new.self c.hand_in.ensures

pub returns-else-is_some-clause-supplied : goal.returns-else-is_some-clause-supplied
returns-else-is_some-clause-supplied g c =
    unasked_supplied c.args.self.now c.args.host c.args.position c.requires.sound c.requires.standing c.requires.steady c.requires.at
    c.command-command.result c.command-command.ensures c.args.digest
    (none_of _ (ap is_some (sym c.asked.ensures) ∙ sym c.is_some.ensures ∙ c.if-is_some.false))

pub returns-then-is_some-clause-turns : goal.returns-then-is_some-clause-turns
returns-then-is_some-clause-turns g c =
    begun_turns c.args.self.now c.args.host c.args.position c.requires.sound c.requires.standing c.requires.steady c.requires.at
    c.command-command.result c.command-command.ensures c.args.digest c.known.ensures
    (is_some_of _ (ap is_some (sym c.asked.ensures) ∙ sym c.is_some.ensures ∙ c.if-is_some.true)) c.hand_in.new.self c.hand_in.ensures

pub returns-else-is_some-clause-turns : goal.returns-else-is_some-clause-turns
returns-else-is_some-clause-turns g c =
    unasked_turns c.args.self.now c.args.host c.args.position c.requires.sound c.requires.standing c.requires.steady c.requires.at
    c.command-command.result c.command-command.ensures c.args.digest
    (none_of _ (ap is_some (sym c.asked.ensures) ∙ sym c.is_some.ensures ∙ c.if-is_some.false))
