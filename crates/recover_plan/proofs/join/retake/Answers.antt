use Rattle.std.proofs.Common.{ap, subst, ◌∙◌}
use Rattle.std.specs.Prelude.{Err}
use Rattle.vol_layout.specs.declared.geometry.Geometry.{Geometry}
use Rattle.vol_layout.specs.declared.kind.Kind.TheVariants as kinds
use Rattle.vol_layout.specs.Places.{place_of}
use Rattle.slot_lock_blocks.specs.declared.slot.Slot.TheVariants.{Recovering}
use Rattle.lock_store.specs.Views.{LocksView}
use Rattle.disk_locks.specs.Consistent.{Consistent}
use Rattle.plan_parts.specs.laws.TakenLaws.{others_locks}
use Rattle.recover_plan.specs.laws.JoinFinds.{others_dropped}
use Rattle.recover_plan.specs.laws.JoinOver.{retake_came, retake_cut, retake_from, retake_slot, retake_unneeded}
use Rattle.recover_plan.specs.laws.JoinSteps.{entry_cut}
use Rattle.recover_plan.proofs.join.retake.Goals as goal

pub set_live-requires-clause-slot : goal.set_live-requires-clause-slot
set_live-requires-clause-slot g c =
    retake_slot c.args.world.now c.args.host c.args.watch.now c.args.dead c.key-own.result (subst Consistent c.locks.ensures c.geometry.ensures.consistent) c.requires.stands c.key-own.ensures

pub set_live-requires-clause-from : goal.set_live-requires-clause-from
set_live-requires-clause-from g c =
    retake_from c.args.world.now c.args.host c.args.watch.now c.args.dead c.key-own.result (subst Consistent c.locks.ensures c.geometry.ensures.consistent) c.requires.stands c.key-own.ensures

pub set_live-requires-clause-unneeded : goal.set_live-requires-clause-unneeded
set_live-requires-clause-unneeded g c =
    retake_unneeded c.args.world.now c.args.host c.args.watch.now c.args.dead c.key-own.result (subst Consistent c.locks.ensures c.geometry.ensures.consistent) c.requires.stands c.key-own.ensures
    (Recovering c.args.dead c.key-own.result)

pub returns-in-Ok-Claimed-clause-came : goal.returns-in-Ok-Claimed-clause-came
returns-in-Ok-Claimed-clause-came g c =
    rw c.new.ensures (retake_came c.args.world.now c.args.host c.args.watch.now c.args.dead c.key-own.result (subst Consistent c.locks.ensures c.geometry.ensures.consistent) c.requires.stands c.key-own.ensures
    c.set_live.new.world c.in-Ok-Claimed.ensures.consistent c.in-Ok-Claimed.ensures.others c.in-Ok-Claimed.ensures.standing
    (rw c.in-Ok-Claimed.field-0-is at c.in-Ok-Claimed.ensures.did))

pub returns-in-Ok-Claimed-clause-others : goal.returns-in-Ok-Claimed-clause-others
returns-in-Ok-Claimed-clause-others g c =
    others_locks c.args.world.now c.set_live.new.world c.args.host (subst Consistent c.locks.ensures c.geometry.ensures.consistent) c.in-Ok-Claimed.ensures.others c.in-Ok-Claimed.ensures.standing

pub returns-in-Ok-Found-clause-cut : goal.returns-in-Ok-Found-clause-cut
returns-in-Ok-Found-clause-cut g c =
    retake_cut c.args.world.now c.args.host c.args.watch.now c.args.dead c.key-own.result (subst Consistent c.locks.ensures c.geometry.ensures.consistent) c.requires.stands c.key-own.ensures
    c.set_live.new.world c.forget.new.world c.in-Ok-Found.field-0-0 c.place-place.result c.in-Ok-Found.ensures.consistent
    c.in-Ok-Found.ensures.others c.in-Ok-Found.ensures.standing (rw c.in-Ok-Found.field-0-is at c.in-Ok-Found.ensures.did) c.forget.ensures
    (c.place-place.ensures.place
    ∙ ap (λ (x : Geometry). place_of x (kinds.Slot c.args.host)) (c.geometry.ensures.geometry ∙ ap (λ (l : LocksView). l.geometry) c.locks.ensures))

pub returns-in-Ok-Found-clause-others : goal.returns-in-Ok-Found-clause-others
returns-in-Ok-Found-clause-others g c =
    others_dropped c.args.world.now c.set_live.new.world c.forget.new.world c.args.host (subst Consistent c.locks.ensures c.geometry.ensures.consistent) c.in-Ok-Found.ensures.consistent
    (others_locks c.args.world.now c.set_live.new.world c.args.host (subst Consistent c.locks.ensures c.geometry.ensures.consistent) c.in-Ok-Found.ensures.others c.in-Ok-Found.ensures.standing)
    c.forget.ensures

pub returns-in-Err-clause-others : goal.returns-in-Err-clause-others
returns-in-Err-clause-others g c =
    others_locks c.args.world.now c.set_live.new.world c.args.host (subst Consistent c.locks.ensures c.geometry.ensures.consistent) c.in-Err.ensures.others c.in-Err.ensures.standing

pub returns-in-Err-clause-cut : goal.returns-in-Err-clause-cut
returns-in-Err-clause-cut g c =
    entry_cut c.args.world.now c.set_live.new.world c.args.host (Recovering c.args.dead c.key-own.result) c.in-Err.why _ (subst Consistent c.locks.ensures c.geometry.ensures.consistent)
    c.requires.stands.at.claimed.base (returns-in-Err-clause-others g c) c.in-Err.ensures.did
    (λ at is. c.in-Err.ensures.sound at (ap Err is))
