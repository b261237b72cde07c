use Rattle.std.proofs.Common.{None, Some, is_some, slice_get, ap, ◌∙◌, arith}
use Rattle.host_runs.specs.laws.NextLineLaws.{next-at}
use Rattle.cluster.specs.laws.ActLaws.{entries_there, events_there, may_step, sound_then, standing_then, turned_as}
use Rattle.cluster.specs.laws.PartsLaws.{line_below, line_within}
use Rattle.cluster.specs.laws.SoonerLaws.{asked_there, ended_now, gone_on}
use Rattle.cluster.proofs.parts.Parts.act.Goals as goal

pub step-requires-clause-host : goal.step-requires-clause-host
step-requires-clause-host g c = line_below c.args.self.now c.args.host c.requires.sound c.args.position c.requires.at

pub step-requires-clause-may : goal.step-requires-clause-may
step-requires-clause-may g c =
    rw c.requires.command.command_is
    (may_step c.args.self.now c.args.host c.args.position c.requires.command.line c.requires.sound c.requires.standing c.requires.steady c.requires.at
    c.requires.command.is (rw c.requires.command.command_is at c.requires.asks))

pub note-requires-clause-host : goal.note-requires-clause-host
note-requires-clause-host g c =
    let below = line_below c.args.self.now c.args.host c.requires.sound c.args.position c.requires.at in
    let heads = c.in-Ok.ensures.sound.heads in
    let same = ap (λ w. w.geometry.hosts) c.in-Ok.ensures.workload in
    omega (arith, below, heads, same)

pub note-requires-clause-without : goal.note-requires-clause-without
note-requires-clause-without g c =
    let same = ap (λ v. v.ledger.answers) c.in-Ok.ensures.stepped.is in
    let at = next-at c.args.self.now.workload.lines c.args.self.now.ledger.answers c.args.self.now.phase c.args.host c.args.position c.requires.at in
    ap (λ answers. slice_get answers c.args.position) same ∙ at.without

pub note-requires-clause-position : goal.note-requires-clause-position
note-requires-clause-position g c =
    rw c.in-Ok.ensures.workload (line_within c.args.self.now c.args.host c.requires.sound c.args.position c.requires.at)

pub note-requires-clause-entries : goal.note-requires-clause-entries
note-requires-clause-entries g c =
    entries_there c.args.self.now c.step.new.self c.args.host c.args.position c.args.command.now c.in-Ok.done c.requires.sound c.requires.standing
    c.requires.steady c.known.ensures c.requires.at c.requires.command c.in-Ok.ensures.stepped

pub note-requires-clause-events : goal.note-requires-clause-events
note-requires-clause-events g c =
    events_there c.args.self.now c.step.new.self c.args.host c.args.position c.args.command.now c.in-Ok.done c.requires.sound c.requires.standing
    c.requires.steady c.known.ensures c.requires.at c.requires.command c.in-Ok.ensures.stepped

pub returns-in-Some-clause-turned : goal.returns-in-Some-clause-turned
returns-in-Some-clause-turned g c =
    turned_as c.args.self.now c.step.new.self c.args.host c.args.position c.args.command.now c.in-Ok.done c.requires.sound c.requires.standing
    c.requires.steady c.known.ensures c.requires.at c.requires.command c.in-Ok.ensures.stepped c.note.new.self c.note.ensures
    (Some c.in-Some.answer) c.in-Some.is

pub returns-in-Some-clause-standing : goal.returns-in-Some-clause-standing
returns-in-Some-clause-standing g c =
    standing_then c.args.self.now c.step.new.self c.args.host c.args.position c.args.command.now c.in-Ok.done c.requires.sound c.requires.standing
    c.requires.steady c.known.ensures c.requires.at c.requires.command c.in-Ok.ensures.stepped c.note.new.self c.note.ensures

pub returns-in-Some-clause-sound : goal.returns-in-Some-clause-sound
returns-in-Some-clause-sound g c =
    sound_then c.args.self.now c.step.new.self c.args.host c.args.position c.args.command.now c.in-Ok.done c.requires.sound c.requires.standing
    c.requires.steady c.known.ensures c.requires.at c.requires.command c.in-Ok.ensures.stepped c.note.new.self c.note.ensures

pub returns-in-None-clause-turned : goal.returns-in-None-clause-turned
returns-in-None-clause-turned g c =
    turned_as c.args.self.now c.step.new.self c.args.host c.args.position c.args.command.now c.in-Ok.done c.requires.sound c.requires.standing
    c.requires.steady c.known.ensures c.requires.at c.requires.command c.in-Ok.ensures.stepped c.note.new.self c.note.ensures
    None c.in-None.is

pub returns-in-None-clause-standing : goal.returns-in-None-clause-standing
returns-in-None-clause-standing g c =
    standing_then c.args.self.now c.step.new.self c.args.host c.args.position c.args.command.now c.in-Ok.done c.requires.sound c.requires.standing
    c.requires.steady c.known.ensures c.requires.at c.requires.command c.in-Ok.ensures.stepped c.note.new.self c.note.ensures

pub returns-in-None-clause-sound : goal.returns-in-None-clause-sound
returns-in-None-clause-sound g c =
    sound_then c.args.self.now c.step.new.self c.args.host c.args.position c.args.command.now c.in-Ok.done c.requires.sound c.requires.standing
    c.requires.steady c.known.ensures c.requires.at c.requires.command c.in-Ok.ensures.stepped c.note.new.self c.note.ensures

pub returns-in-Some-clause-sooner : goal.returns-in-Some-clause-sooner
returns-in-Some-clause-sooner g c =
    ended_now c.args.self.now c.step.new.self c.args.host c.args.command.now c.in-Ok.done c.requires.sound c.requires.standing c.known.ensures
    (line_below c.args.self.now c.args.host c.requires.sound c.args.position c.requires.at) c.in-Ok.ensures.stepped c.args.position c.requires.at
    c.note.new.self c.note.ensures c.in-Some.answer c.in-Some.is

pub returns-in-None-clause-sooner : goal.returns-in-None-clause-sooner
returns-in-None-clause-sooner g c =
    gone_on c.args.self.now c.step.new.self c.args.host c.args.command.now c.in-Ok.done c.requires.sound c.requires.standing c.known.ensures
    (line_below c.args.self.now c.args.host c.requires.sound c.args.position c.requires.at) c.in-Ok.ensures.stepped c.args.position c.requires.at
    c.note.new.self c.note.ensures c.in-Ok.ensures.sooner c.in-None.is

pub returns-in-Some-clause-tells : goal.returns-in-Some-clause-tells
returns-in-Some-clause-tells g c =
    record {
      at = ap is_some c.requires.at;
      asks = asked_there c.args.self.now c.args.host c.args.position c.requires.at c.args.command.now c.requires.command ∙ c.requires.asks;
    }

pub returns-in-None-clause-tells : goal.returns-in-None-clause-tells
returns-in-None-clause-tells g c =
    record {
      at = ap is_some c.requires.at;
      asks = asked_there c.args.self.now c.args.host c.args.position c.requires.at c.args.command.now c.requires.command ∙ c.requires.asks;
    }
