use Rattle.std.proofs.Common.{sym, ◌∙◌, arith}
use Rattle.cluster.specs.laws.PartsLaws.{head_within, line_nobody, line_none, line_some}
use Rattle.cluster.proofs.parts.Parts.next_line.Goals as goal

pub returns-then-host-hosts : goal.returns-then-host-hosts
returns-then-host-hosts g c =
    line_nobody c.args.self.now c.args.host c.requires.sound (let hosts = c.hosts.ensures in omega (arith, hosts))

pub of_phase-requires : goal.of_phase-requires
of_phase-requires g c =
    record {
      within = head_within c.args.self.now c.args.host c.requires.sound (let hosts = c.hosts.ensures in omega (arith, hosts)) c.in-Some.position
          (sym c.head.ensures ∙ c.in-Some.is);
    }

pub returns-in-Some : goal.returns-in-Some
returns-in-Some g c =
    c.of_phase.ensures
    ∙ line_some c.args.self.now c.args.host c.requires.sound (let hosts = c.hosts.ensures in omega (arith, hosts)) c.in-Some.position
    (sym c.head.ensures ∙ c.in-Some.is)

pub returns-in-None : goal.returns-in-None
returns-in-None g c =
    line_none c.args.self.now c.args.host c.requires.sound (let hosts = c.hosts.ensures in omega (arith, hosts))
    (sym c.head.ensures ∙ c.in-None.is)
