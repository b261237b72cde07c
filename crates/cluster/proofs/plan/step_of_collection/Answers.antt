use Rattle.std.proofs.Common.{◌≡◌, ◌<◌, refl, subst, sym}
use Rattle.vol_layout.specs.declared.geometry.Geometry.{Geometry}
use Rattle.share_plans.specs.laws.GatheringStays.{collect_on}
use Rattle.vol_base.specs.declared.command.Command.{Command}
use Rattle.host_runs.specs.Notes.{Notes}
use Rattle.cluster.specs.Carries.{carried_behind}
use Rattle.cluster.specs.Plans.{HasStepped, PlanNoted}
use Rattle.cluster.specs.declared.plan.Plan.TheVariants.{Collects}
use Rattle.cluster.specs.laws.CollectSteps.{collect_step}
use Rattle.cluster.specs.laws.PendingLaws.{IsQuiet, carried_is, may_note, quiet_place}
use Rattle.cluster.specs.laws.PlanTurnLaws.{collect_sooner}
use Rattle.cluster.specs.laws.SlotSteps.{leaves_behind}
use Rattle.cluster.proofs.plan.step_of_collection.Goals as goal

pub forget_behind-requires : goal.forget_behind-requires
forget_behind-requires g c =
    subst (λ (volume : Geometry). c.args.plan.now.core.host < volume.hosts) (sym c.requires.at.1.cached.volume)
    (collect_on c.args.world.now c.args.plan.now.core c.args.plan.now.stage c.requires.at.0).host

pub note-requires-clause-may : goal.note-requires-clause-may
note-requires-clause-may g c =
    may_note c.geometry.result.now c.args.command.now c.in-Ok.step.next
    (quiet_place c.geometry.result.now c.args.command.now (subst IsQuiet c.requires.of tt))

pub returns-in-Ok-clause-stepped : goal.returns-in-Ok-clause-stepped
returns-in-Ok-clause-stepped g c =
    let noted = subst (λ (command : Command). (n : Notes) × PlanNoted command c.args.world.now c.args.plan.now.core.host c.args.carried.now
    (Collects c.args.plan.now) n) (sym c.requires.of) c.requires.noted in
    subst
    (λ (command : Command).
    HasStepped command c.args.plan.now.core.host c.args.world.now c.next.new.world c.forget_behind.new.cache c.args.carried.now
    c.forget_slots.new.self (Collects c.args.plan.now) (Collects c.next.new.self) c.in-Ok.step) c.requires.of
    (collect_step c.args.world.now c.next.new.world c.args.cache.now c.forget_behind.new.cache c.args.plan.now.core.host c.args.carried.now
    c.args.plan.now c.next.new.self refl c.next.ensures.others c.requires.at noted c.forget_slots.new.self c.in-Ok.step
    (subst (λ (command : Command). c.forget_slots.new.self ≡ carried_behind command c.in-Ok.step.next c.args.carried.now) (sym c.requires.of)
    (carried_is c.args.command.now c.in-Ok.step.next c.args.carried.now c.note.new.self c.forget_slots.new.self c.note.ensures
    c.forget_slots.ensures))
    c.forget_behind.ensures c.in-Ok.ensures.step)

pub returns-in-Ok-clause-leaves : goal.returns-in-Ok-clause-leaves
returns-in-Ok-clause-leaves g c =
    leaves_behind c.in-Ok.step.next c.args.cache.now c.forget_behind.new.cache c.args.plan.now.core.host c.forget_behind.ensures

pub returns-in-Ok-clause-sooner : goal.returns-in-Ok-clause-sooner
returns-in-Ok-clause-sooner g c =
    collect_sooner c.args.world.now c.next.new.world c.args.cache.now c.forget_behind.new.cache c.args.carried.now c.forget_slots.new.self
    c.args.plan.now c.next.new.self c.in-Ok.step
    c.in-Ok.ensures.step
