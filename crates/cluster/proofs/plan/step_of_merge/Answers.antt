use Rattle.std.proofs.Common.{◌≡◌, ◌<◌, subst, sym, ◌∙◌}
use Rattle.vol_base.specs.declared.command.Command.{Command}
use Rattle.vol_layout.specs.declared.geometry.Geometry.{Geometry}
use Rattle.file_plans.specs.laws.BeginLaws.{leaves_then}
use Rattle.host_runs.specs.Notes.{Notes}
use Rattle.cluster.specs.Carries.{carried_behind}
use Rattle.cluster.specs.Plans.{ForgetsFor, HasStepped, PlanNoted}
use Rattle.cluster.specs.declared.carried.Carried.{Carried}
use Rattle.cluster.specs.declared.plan.Plan.TheVariants.{Merges}
use Rattle.cluster.specs.laws.MergeSteps.{merge_sooner, merge_step, unasked_merge}
use Rattle.cluster.specs.laws.PendingLaws.{IsQuiet, carried_is, may_note, quiet_place}
use Rattle.cluster.specs.laws.SlotSteps.{leaves_behind, leaves_for}
use Rattle.cluster.proofs.plan.step_of_merge.Goals as goal

pub forget_for-requires : goal.forget_for-requires
forget_for-requires g c =
    subst (λ (volume : Geometry). c.args.plan.now.host < volume.hosts) (sym c.requires.at.1.cached.volume) c.requires.at.0.0

pub next-requires-clause-unasked : goal.next-requires-clause-unasked
next-requires-clause-unasked g c = unasked_merge c.args.plan.now.doing c.requires.unasked

pub forget_behind-requires : goal.forget_behind-requires
forget_behind-requires g c =
    subst (λ (volume : Geometry). c.args.plan.now.host < volume.hosts)
    (sym ((leaves_for c.args.command.now c.args.cache.now c.forget_for.new.cache c.args.plan.now.host c.forget_for.ensures).volume
    ∙ c.requires.at.1.cached.volume)) c.requires.at.0.0

pub note-requires-clause-may : goal.note-requires-clause-may
note-requires-clause-may g c =
    may_note c.geometry.result.now c.args.command.now c.in-Ok.step.next
    (quiet_place c.geometry.result.now c.args.command.now (subst IsQuiet c.requires.of tt))

pub returns-in-Ok-clause-stepped : goal.returns-in-Ok-clause-stepped
returns-in-Ok-clause-stepped g c =
    let noted = subst (λ (command : Command). (n : Notes) × PlanNoted command c.args.world.now c.args.plan.now.host c.args.carried.now
    (Merges c.args.plan.now) n) (sym c.requires.of) c.requires.noted in
    let mid : Carried = record c.args.carried.now { room = c.next.new.room } in
    subst
    (λ (command : Command).
    HasStepped command c.args.plan.now.host c.args.world.now c.next.new.world c.forget_behind.new.cache c.args.carried.now
    c.forget_slots.new.self (Merges c.args.plan.now) (Merges c.next.new.self) c.in-Ok.step) c.requires.of
    (merge_step c.args.world.now c.next.new.world c.args.cache.now c.forget_for.new.cache c.forget_behind.new.cache c.args.plan.now.host
    c.args.carried.now c.next.new.room c.args.plan.now c.next.new.self c.next.ensures.host c.next.ensures.others c.requires.at noted
    (subst (λ (command : Command). ForgetsFor command c.args.plan.now.host c.args.cache.now c.forget_for.new.cache) (sym c.requires.of)
    c.forget_for.ensures) c.in-Ok.step c.forget_slots.new.self
    (subst (λ (command : Command). c.forget_slots.new.self ≡ carried_behind command c.in-Ok.step.next mid) (sym c.requires.of)
    (carried_is c.args.command.now c.in-Ok.step.next mid c.note.new.self c.forget_slots.new.self c.note.ensures
    c.forget_slots.ensures))
    c.forget_behind.ensures c.in-Ok.ensures.step)

pub returns-in-Err-clause-leaves : goal.returns-in-Err-clause-leaves
returns-in-Err-clause-leaves g c =
    leaves_for c.args.command.now c.args.cache.now c.forget_for.new.cache c.args.plan.now.host c.forget_for.ensures

pub returns-in-Ok-clause-leaves : goal.returns-in-Ok-clause-leaves
returns-in-Ok-clause-leaves g c =
    leaves_then c.args.cache.now c.forget_for.new.cache c.forget_behind.new.cache c.args.plan.now.host
    (leaves_for c.args.command.now c.args.cache.now c.forget_for.new.cache c.args.plan.now.host c.forget_for.ensures)
    (leaves_behind c.in-Ok.step.next c.forget_for.new.cache c.forget_behind.new.cache c.args.plan.now.host c.forget_behind.ensures)

pub returns-in-Ok-clause-sooner : goal.returns-in-Ok-clause-sooner
returns-in-Ok-clause-sooner g c =
    let noted = subst (λ (command : Command). (n : Notes) × PlanNoted command c.args.world.now c.args.plan.now.host c.args.carried.now
    (Merges c.args.plan.now) n) (sym c.requires.of) c.requires.noted in
    let mid : Carried = record c.args.carried.now { room = c.next.new.room } in
    merge_sooner c.args.world.now c.next.new.world c.args.cache.now c.forget_for.new.cache c.forget_behind.new.cache c.args.plan.now.host
    c.args.carried.now c.next.new.room c.args.plan.now c.next.new.self c.next.ensures.host c.next.ensures.others c.requires.at noted
    (subst (λ (command : Command). ForgetsFor command c.args.plan.now.host c.args.cache.now c.forget_for.new.cache) (sym c.requires.of)
    c.forget_for.ensures) c.in-Ok.step c.forget_slots.new.self
    (subst (λ (command : Command). c.forget_slots.new.self ≡ carried_behind command c.in-Ok.step.next mid) (sym c.requires.of)
    (carried_is c.args.command.now c.in-Ok.step.next mid c.note.new.self c.forget_slots.new.self c.note.ensures
    c.forget_slots.ensures))
    c.in-Ok.ensures.step
