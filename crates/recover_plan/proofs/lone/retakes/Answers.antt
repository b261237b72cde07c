use Rattle.std.proofs.Common.{ap, arith, refl, subst, sym, ◌∙◌, ◌<◌}
use Rattle.std.specs.Prelude.{Err}
use Rattle.vol_base.specs.declared.command.Command.TheVariants.{Join}
use Rattle.vol_layout.specs.declared.geometry.Geometry.{Geometry}
use Rattle.vol_layout.specs.declared.kind.Kind.TheVariants as kinds
use Rattle.vol_layout.specs.Places.{place_of}
use Rattle.slot_lock_blocks.specs.declared.slot.Slot.TheVariants.{Recovering}
use Rattle.lock_store.specs.Views.{LocksView}
use Rattle.disk_locks.specs.Consistent.{Consistent}
use Rattle.plan_parts.specs.laws.TakenLaws.{others_locks}
use Rattle.watch.specs.Looks.{nothing}
use Rattle.recover_plan.specs.declared.lone.Lone.TheVariants.{Last}
use Rattle.recover_plan.specs.laws.JoinFinds.{others_dropped}
use Rattle.recover_plan.specs.laws.JoinOver.{retake_cut, retake_from, retake_slot, retake_unneeded}
use Rattle.recover_plan.specs.laws.JoinSteps.{entry_cut}
use Rattle.recover_plan.specs.laws.LoneEnds.{retakes}
use Rattle.recover_plan.specs.laws.LoneLaws.{entered_came, refused_by}
use Rattle.recover_plan.proofs.lone.retakes.Goals as goal
use Rattle.recover_plan.specs.laws.StepLaws.{shut_out}

pub key-own-requires-clause-host : goal.key-own-requires-clause-host
key-own-requires-clause-host g c = c.requires.at.0.base.host

pub key-own-requires-clause-some : goal.key-own-requires-clause-some
key-own-requires-clause-some g c = c.requires.at.0.base.key

pub set_live-requires-clause-host : goal.set_live-requires-clause-host
set_live-requires-clause-host g c = c.requires.at.0.base.host

pub set_live-requires-clause-key : goal.set_live-requires-clause-key
set_live-requires-clause-key g c = c.requires.at.0.base.key

pub set_live-requires-clause-out : goal.set_live-requires-clause-out
set_live-requires-clause-out g c = (c.requires.at.0.base.apart refl).0

pub set_live-requires-clause-stays : goal.set_live-requires-clause-stays
set_live-requires-clause-stays g c = (c.requires.at.0.base.apart refl).1

pub set_live-requires-clause-slot : goal.set_live-requires-clause-slot
set_live-requires-clause-slot g c =
    retake_slot c.args.world.now c.args.host nothing c.args.dead c.key-own.result (subst Consistent c.locks.ensures c.geometry.ensures.consistent) (retakes c.args.world.now c.args.host c.args.dead c.requires.at) c.key-own.ensures

pub set_live-requires-clause-from : goal.set_live-requires-clause-from
set_live-requires-clause-from g c =
    retake_from c.args.world.now c.args.host nothing c.args.dead c.key-own.result (subst Consistent c.locks.ensures c.geometry.ensures.consistent) (retakes c.args.world.now c.args.host c.args.dead c.requires.at) c.key-own.ensures

pub set_live-requires-clause-unneeded : goal.set_live-requires-clause-unneeded
set_live-requires-clause-unneeded g c =
    retake_unneeded c.args.world.now c.args.host nothing c.args.dead c.key-own.result (subst Consistent c.locks.ensures c.geometry.ensures.consistent) (retakes c.args.world.now c.args.host c.args.dead c.requires.at) c.key-own.ensures
    (Recovering c.args.dead c.key-own.result)

pub forget-requires : goal.forget-requires
forget-requires g c = record {
  host = subst (λ (x : Geometry). c.args.host < x.hosts) (sym c.in-Ok-Found.ensures.others.lasts.geometry) c.requires.at.0.base.host;
}

pub returns-in-Ok-Claimed-clause-came : goal.returns-in-Ok-Claimed-clause-came
returns-in-Ok-Claimed-clause-came g c =
    entered_came c.args.world.now c.set_live.new.world c.args.host c.args.host (Recovering c.args.dead c.key-own.result) c.key-own.result
    (Last c.args.dead) (subst Consistent c.locks.ensures c.geometry.ensures.consistent) c.in-Ok-Claimed.ensures.consistent c.in-Ok-Claimed.ensures.others
    c.in-Ok-Claimed.ensures.standing c.requires.at.0.base
    (retake_slot c.args.world.now c.args.host nothing c.args.dead c.key-own.result (subst Consistent c.locks.ensures c.geometry.ensures.consistent) (retakes c.args.world.now c.args.host c.args.dead c.requires.at) c.key-own.ensures)
    c.key-own.ensures (λ some. c.requires.at.1.empty) (rw c.in-Ok-Claimed.field-0-is at c.in-Ok-Claimed.ensures.did) refl
    (omega arith)

pub returns-in-Ok-Found-clause-refused : goal.returns-in-Ok-Found-clause-refused
returns-in-Ok-Found-clause-refused g c =
    refused_by Join c.args.host c.args.world.now c.forget.new.world _ _ c.requires.at.0.base.key (λ fenced. absurd cc)
    (retake_cut c.args.world.now c.args.host nothing c.args.dead c.key-own.result (subst Consistent c.locks.ensures c.geometry.ensures.consistent) (retakes c.args.world.now c.args.host c.args.dead c.requires.at) c.key-own.ensures
    c.set_live.new.world c.forget.new.world c.in-Ok-Found.field-0-0 c.place-place.result c.in-Ok-Found.ensures.consistent
    c.in-Ok-Found.ensures.others c.in-Ok-Found.ensures.standing (rw c.in-Ok-Found.field-0-is at c.in-Ok-Found.ensures.did) c.forget.ensures
    (c.place-place.ensures.place
    ∙ ap (λ (x : Geometry). place_of x (kinds.Slot c.args.host)) (c.geometry.ensures.geometry ∙ ap (λ (l : LocksView). l.geometry) c.locks.ensures)))

pub returns-in-Ok-Found-clause-others : goal.returns-in-Ok-Found-clause-others
returns-in-Ok-Found-clause-others g c =
    others_dropped c.args.world.now c.set_live.new.world c.forget.new.world c.args.host (subst Consistent c.locks.ensures c.geometry.ensures.consistent)
    c.in-Ok-Found.ensures.consistent
    (others_locks c.args.world.now c.set_live.new.world c.args.host (subst Consistent c.locks.ensures c.geometry.ensures.consistent) c.in-Ok-Found.ensures.others c.in-Ok-Found.ensures.standing)
    c.forget.ensures

pub returns-in-Err-clause-others : goal.returns-in-Err-clause-others
returns-in-Err-clause-others g c =
    others_locks c.args.world.now c.set_live.new.world c.args.host
    (subst Consistent c.locks.ensures c.geometry.ensures.consistent) c.in-Err.ensures.others c.in-Err.ensures.standing

pub returns-in-Err-clause-refused : goal.returns-in-Err-clause-refused
returns-in-Err-clause-refused g c =
    refused_by Join c.args.host c.args.world.now c.set_live.new.world c.in-Err.why (λ n. Unit {0}) c.requires.at.0.base.key
    (shut_out c.args.world.now c.set_live.new.world c.args.host _ _ _ c.in-Err.why c.in-Err.ensures.did)
    (entry_cut c.args.world.now c.set_live.new.world c.args.host (Recovering c.args.dead c.key-own.result) c.in-Err.why (λ n. Unit {0})
    (subst Consistent c.locks.ensures c.geometry.ensures.consistent) c.requires.at.0.base (returns-in-Err-clause-others g c) c.in-Err.ensures.did
    (λ at is. c.in-Err.ensures.sound at (ap Err is)))

pub returns-in-Ok-Claimed-clause-others : goal.returns-in-Ok-Claimed-clause-others
returns-in-Ok-Claimed-clause-others g c =
    others_locks c.args.world.now c.set_live.new.world c.args.host
    (subst Consistent c.locks.ensures c.geometry.ensures.consistent) c.in-Ok-Claimed.ensures.others c.in-Ok-Claimed.ensures.standing
