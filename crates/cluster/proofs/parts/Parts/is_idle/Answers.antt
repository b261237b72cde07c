use Rattle.std.proofs.Common.{refl, sym, ◌∙◌, arith}
use Rattle.cluster.specs.laws.PhaseLaws.{idle_all, idle_more, none_there}
use Rattle.cluster.proofs.parts.Parts.is_idle.Goals as goal

pub loop-host-preserved : goal.loop-host-preserved
loop-host-preserved g c =
    idle_more c.args.self.now c.loop-host.host c.loop-host.invariant
    (sym c.next_line.ensures ∙ none_there c.next_line.result (sym c.is_some.ensures ∙ c.if-is_some.false))

pub returns : goal.returns
returns g c =
    let all = c.loop-host-test.false in
    let hosts = c.hosts-host-end.ensures in
    (λ _. idle_all c.args.self.now c.loop-host.host c.requires.sound (omega (arith, all, hosts)) c.loop-host.invariant, λ _. refl)
