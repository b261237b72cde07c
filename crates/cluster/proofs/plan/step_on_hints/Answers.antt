use Rattle.std.proofs.Common.{◌<◌, subst, sym}
use Rattle.vol_base.specs.declared.command.Command.{Command}
use Rattle.vol_layout.specs.declared.geometry.Geometry.{Geometry}
use Rattle.host_runs.specs.Notes.{Notes}
use Rattle.cluster.specs.Plans.{HasStepped, PlanNoted}
use Rattle.cluster.specs.declared.plan.Plan.TheVariants.{Hints}
use Rattle.cluster.specs.laws.HintSteps.{hint_sooner, hint_step}
use Rattle.cluster.specs.laws.SlotSteps.{leaves_behind}
use Rattle.cluster.proofs.plan.step_on_hints.Goals as goal

pub forget_behind-requires : goal.forget_behind-requires
forget_behind-requires g c =
    subst (λ (volume : Geometry). c.args.plan.now.host < volume.hosts) (sym c.requires.at.1.cached.volume) c.requires.at.0.is_host.host

pub returns-in-Ok-clause-stepped : goal.returns-in-Ok-clause-stepped
returns-in-Ok-clause-stepped g c =
    let noted = subst (λ (command : Command). (n : Notes) × PlanNoted command c.args.world.now c.args.plan.now.host c.args.carried.now
    (Hints c.args.plan.now) n) (sym c.requires.of) c.requires.noted in
    subst
    (λ (command : Command).
    HasStepped command c.args.plan.now.host c.args.world.now c.next.new.world c.forget_behind.new.cache c.args.carried.now
    c.forget_slots.new.self (Hints c.args.plan.now) (Hints c.next.new.self) c.in-Ok.step) c.requires.of
    (hint_step c.args.world.now c.next.new.world c.args.cache.now c.forget_behind.new.cache c.args.plan.now.host c.args.carried.now
    c.next.new.pending c.args.plan.now c.next.new.self c.next.ensures.host c.next.ensures.others c.requires.at noted c.in-Ok.step
    c.forget_slots.new.self c.requires.unasked c.forget_slots.ensures c.forget_behind.ensures c.in-Ok.ensures.step)

pub returns-in-Ok-clause-leaves : goal.returns-in-Ok-clause-leaves
returns-in-Ok-clause-leaves g c =
    leaves_behind c.in-Ok.step.next c.args.cache.now c.forget_behind.new.cache c.args.plan.now.host c.forget_behind.ensures

pub returns-in-Ok-clause-sooner : goal.returns-in-Ok-clause-sooner
returns-in-Ok-clause-sooner g c =
    let noted = subst (λ (command : Command). (n : Notes) × PlanNoted command c.args.world.now c.args.plan.now.host c.args.carried.now
    (Hints c.args.plan.now) n) (sym c.requires.of) c.requires.noted in
    hint_sooner c.args.world.now c.next.new.world c.args.cache.now c.forget_behind.new.cache c.args.plan.now.host c.args.carried.now
    c.next.new.pending c.args.plan.now c.next.new.self c.next.ensures.host c.next.ensures.others c.requires.at noted c.in-Ok.step
    c.forget_slots.new.self c.in-Ok.ensures.step
