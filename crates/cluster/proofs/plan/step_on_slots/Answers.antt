use Rattle.std.proofs.Common.{◌<◌, subst, sym, ◌∙◌}
use Rattle.vol_layout.specs.declared.geometry.Geometry.{Geometry}
use Rattle.cluster.specs.laws.PlanTurnLaws.{slots_sooner}
use Rattle.cluster.specs.laws.PendingLaws.{IsQuiet, may_note, quiet_place}
use Rattle.cluster.specs.laws.SlotSteps.{leaves_behind, leaves_for, slots_cached, slots_quiet, slots_stepped}
use Rattle.file_plans.specs.laws.BeginLaws.{leaves_then}
use Rattle.recover_plan.specs.KnownTables.{TablesStay}
use Rattle.cluster.proofs.plan.step_on_slots.Goals as goal

pub note-requires-clause-may : goal.note-requires-clause-may
note-requires-clause-may g c =
    may_note c.geometry.result.now c.args.command.now c.in-Ok.step.next
    (quiet_place c.geometry.result.now c.args.command.now (subst IsQuiet c.requires.of (slots_quiet c.args.plan.now.doing)))

pub returns-in-Ok-clause-stepped : goal.returns-in-Ok-clause-stepped
returns-in-Ok-clause-stepped g c =
    rw c.note.ensures
    (slots_stepped c.args.command.now c.args.world.now c.next.new.world c.forget_behind.new.cache c.args.plan.now.host c.args.carried.now
    c.next.new.watch c.args.plan.now c.next.new.self c.in-Ok.step c.next.ensures.host c.requires.of c.next.ensures.others
    (slots_cached c.args.world.now c.next.new.world c.args.cache.now c.forget_for.new.cache c.forget_behind.new.cache c.args.plan.now.host
    c.next.ensures.others c.requires.at.1 c.args.command.now c.in-Ok.step c.forget_for.ensures
    (subst (λ k. TablesStay c.args.plan.now.host c.args.world.now c.next.new.world k c.in-Ok.step) c.requires.of c.in-Ok.ensures.step.tables)
    c.forget_behind.ensures) c.requires.at.2 c.in-Ok.ensures.step)

pub forget_behind-requires : goal.forget_behind-requires
forget_behind-requires g c =
    subst (λ (volume : Geometry). c.args.plan.now.host < volume.hosts)
    (sym ((leaves_for c.args.command.now c.args.cache.now c.forget_for.new.cache c.args.plan.now.host c.forget_for.ensures).volume
    ∙ c.requires.at.1.volume)) c.requires.at.0.host

pub returns-in-Err-clause-leaves : goal.returns-in-Err-clause-leaves
returns-in-Err-clause-leaves g c =
    leaves_for c.args.command.now c.args.cache.now c.forget_for.new.cache c.args.plan.now.host c.forget_for.ensures

pub returns-in-Ok-clause-leaves : goal.returns-in-Ok-clause-leaves
returns-in-Ok-clause-leaves g c =
    leaves_then c.args.cache.now c.forget_for.new.cache c.forget_behind.new.cache c.args.plan.now.host
    (leaves_for c.args.command.now c.args.cache.now c.forget_for.new.cache c.args.plan.now.host c.forget_for.ensures)
    (leaves_behind c.in-Ok.step.next c.forget_for.new.cache c.forget_behind.new.cache c.args.plan.now.host c.forget_behind.ensures)

pub returns-in-Ok-clause-sooner : goal.returns-in-Ok-clause-sooner
returns-in-Ok-clause-sooner g c =
    slots_sooner c.args.world.now c.next.new.world c.args.cache.now c.forget_behind.new.cache c.args.carried.now c.note.new.self
    c.args.plan.now c.next.new.self c.in-Ok.step.next
    c.next.ensures.host c.in-Ok.ensures.step.fewer
