use Rattle.std.proofs.Common.{ap, refl, subst}
use Rattle.std.specs.Prelude.{Err}
use Rattle.vol_base.specs.declared.command.Command.TheVariants.{Join}
use Rattle.slot_lock_blocks.specs.declared.slot.Slot.TheVariants.{Free}
use Rattle.disk_locks.specs.Consistent.{Consistent}
use Rattle.host_facts.specs.laws.ToldLaws.{sure_all}
use Rattle.plan_parts.specs.laws.TakenLaws.{others_locks}
use Rattle.recover_plan.specs.laws.JoinSteps.{entry_cut}
use Rattle.recover_plan.specs.laws.LoneLaws.{entered_came, entry_base, entry_some, found_came, refused_by, entry_own}
use Rattle.recover_plan.specs.Lones.{entry_by}
use Rattle.recover_plan.proofs.lone.enters.Goals as goal
use Rattle.recover_plan.specs.laws.StepLaws.{shut_out}

pub key-own-requires-clause-host : goal.key-own-requires-clause-host
key-own-requires-clause-host g c = (entry_base c.args.world.now c.args.host c.args.of c.args.again c.requires.at).0.host

pub key-own-requires-clause-some : goal.key-own-requires-clause-some
key-own-requires-clause-some g c = (entry_base c.args.world.now c.args.host c.args.of c.args.again c.requires.at).0.key

pub set_live-requires-clause-host : goal.set_live-requires-clause-host
set_live-requires-clause-host g c = (entry_base c.args.world.now c.args.host c.args.of c.args.again c.requires.at).0.host

pub set_live-requires-clause-key : goal.set_live-requires-clause-key
set_live-requires-clause-key g c = (entry_base c.args.world.now c.args.host c.args.of c.args.again c.requires.at).0.key

pub set_live-requires-clause-out : goal.set_live-requires-clause-out
set_live-requires-clause-out g c = ((entry_base c.args.world.now c.args.host c.args.of c.args.again c.requires.at).0.apart refl).0

pub set_live-requires-clause-stays : goal.set_live-requires-clause-stays
set_live-requires-clause-stays g c = ((entry_base c.args.world.now c.args.host c.args.of c.args.again c.requires.at).0.apart refl).1

pub set_live-requires-clause-unneeded : goal.set_live-requires-clause-unneeded
set_live-requires-clause-unneeded g c = sure_all c.args.world.now.locks c.args.host _ (λ image some. absurd (some refl))

pub returns-in-Ok-Claimed-clause-came : goal.returns-in-Ok-Claimed-clause-came
returns-in-Ok-Claimed-clause-came g c =
    entered_came c.args.world.now c.set_live.new.world c.args.host c.args.of Free c.key-own.result (entry_by c.args.again) (subst Consistent c.locks.ensures c.geometry-geometry.ensures.consistent)
    c.in-Ok-Claimed.ensures.consistent c.in-Ok-Claimed.ensures.others c.in-Ok-Claimed.ensures.standing
    (entry_base c.args.world.now c.args.host c.args.of c.args.again c.requires.at).0 tt c.key-own.ensures (λ taken. absurd (taken refl))
    (rw c.in-Ok-Claimed.field-0-is at c.in-Ok-Claimed.ensures.did)
    (entry_own c.args.world.now c.args.host c.args.of c.args.again c.requires.at) (entry_some c.args.world.now.locks.geometry c.args.again)

pub returns-in-Ok-Found-clause-came : goal.returns-in-Ok-Found-clause-came
returns-in-Ok-Found-clause-came g c =
    rw c.found_own.ensures
    (found_came c.args.world.now c.set_live.new.world c.args.host c.args.of c.in-Ok-Found.slot (subst Consistent c.locks.ensures c.geometry-geometry.ensures.consistent)
    c.in-Ok-Found.ensures.consistent c.in-Ok-Found.ensures.others c.in-Ok-Found.ensures.standing
    (rw c.in-Ok-Found.field-0-is at c.in-Ok-Found.ensures.did) c.args.again c.requires.at)

pub returns-in-Err-clause-others : goal.returns-in-Err-clause-others
returns-in-Err-clause-others g c =
    others_locks c.args.world.now c.set_live.new.world c.args.host
    (subst Consistent c.locks.ensures c.geometry-geometry.ensures.consistent) c.in-Err.ensures.others c.in-Err.ensures.standing

pub returns-in-Err-clause-refused : goal.returns-in-Err-clause-refused
returns-in-Err-clause-refused g c =
    refused_by Join c.args.host c.args.world.now c.set_live.new.world c.in-Err.why (λ n. Unit {0})
    (entry_base c.args.world.now c.args.host c.args.of c.args.again c.requires.at).0.key
    (shut_out c.args.world.now c.set_live.new.world c.args.host _ _ _ c.in-Err.why c.in-Err.ensures.did)
    (entry_cut c.args.world.now c.set_live.new.world c.args.host Free c.in-Err.why (λ n. Unit {0}) (subst Consistent c.locks.ensures c.geometry-geometry.ensures.consistent)
    (entry_base c.args.world.now c.args.host c.args.of c.args.again c.requires.at).0 (returns-in-Err-clause-others g c) c.in-Err.ensures.did
    (λ at is. c.in-Err.ensures.sound at (ap Err is)))

pub returns-in-Ok-Claimed-clause-others : goal.returns-in-Ok-Claimed-clause-others
returns-in-Ok-Claimed-clause-others g c =
    others_locks c.args.world.now c.set_live.new.world c.args.host
    (subst Consistent c.locks.ensures c.geometry-geometry.ensures.consistent) c.in-Ok-Claimed.ensures.others c.in-Ok-Claimed.ensures.standing

pub returns-in-Ok-Found-clause-others : goal.returns-in-Ok-Found-clause-others
returns-in-Ok-Found-clause-others g c =
    others_locks c.args.world.now c.set_live.new.world c.args.host
    (subst Consistent c.locks.ensures c.geometry-geometry.ensures.consistent) c.in-Ok-Found.ensures.others c.in-Ok-Found.ensures.standing
