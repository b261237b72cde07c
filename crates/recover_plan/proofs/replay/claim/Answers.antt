use Rattle.std.proofs.Common.{Ok, Result, ap, refl, subst, ◌∙◌}
use Rattle.lock_store.specs.declared.answers.Claim.{Claim}
use Rattle.lock_store.specs.declared.answers.StepNo.{StepNo}
use Rattle.disk_locks.specs.Calls.{ClaimsSlot}
use Rattle.disk_locks.specs.Consistent.{Consistent}
use Rattle.host_facts.specs.Views.{with_locks}
use Rattle.host_facts.specs.laws.KeptLaws.{others_lent}
use Rattle.recover_plan.specs.laws.FenceLaws.{claim_cut, claim_found_went, claim_went, off_out}
use Rattle.recover_plan.proofs.replay.claim.Goals as goal

pub claim_slot-tried-requires-clause-fenced : goal.claim_slot-tried-requires-clause-fenced
claim_slot-tried-requires-clause-fenced g c =
    rw c.locks_mut.ensures.now (off_out c.args.world.now c.args.host c.args.from c.requires.seen.spelled c.requires.off)

pub returns-in-Ok-Claimed-clause-others : goal.returns-in-Ok-Claimed-clause-others
returns-in-Ok-Claimed-clause-others g c =
    others_lent c.args.world.now c.args.host c.claim_slot-tried.new.self
    (subst Consistent c.locks.ensures c.geometry-geometry.ensures.consistent)
    (rw c.locks_mut.ensures.now at c.claim_slot-tried.ensures.others)

pub returns-in-Ok-Claimed-clause-went : goal.returns-in-Ok-Claimed-clause-went
returns-in-Ok-Claimed-clause-went g c =
    claim_went c.args.world.now (with_locks c.args.world.now c.claim_slot-tried.new.self) c.args.host c.args.of
    (subst Consistent c.locks.ensures c.geometry-geometry.ensures.consistent)
    (subst Consistent c.locks-2.ensures c.geometry-geometry-2.ensures.consistent) (returns-in-Ok-Claimed-clause-others g c) refl c.args.from
    c.requires.seen c.shown.result c.shown.ensures
    (rw c.locks_mut.ensures.now at
    (subst (λ (r : Result Claim StepNo). ClaimsSlot c.locks_mut.result.now c.args.host c.args.of c.args.from r c.claim_slot-tried.new.self)
    (c.in-Ok-Claimed.is ∙ ap (λ (x : Claim). Ok x) (rw c.in-Ok-Claimed.is at c.in-Ok-Claimed.field-0-is)) c.claim_slot-tried.ensures.did))

pub returns-in-Ok-Found-clause-others : goal.returns-in-Ok-Found-clause-others
returns-in-Ok-Found-clause-others g c =
    others_lent c.args.world.now c.args.host c.claim_slot-tried.new.self
    (subst Consistent c.locks.ensures c.geometry-geometry.ensures.consistent)
    (rw c.locks_mut.ensures.now at c.claim_slot-tried.ensures.others)

pub returns-in-Ok-Found-clause-went : goal.returns-in-Ok-Found-clause-went
returns-in-Ok-Found-clause-went g c =
    claim_found_went c.args.world.now (with_locks c.args.world.now c.claim_slot-tried.new.self) c.args.host c.args.of
    (subst Consistent c.locks.ensures c.geometry-geometry.ensures.consistent)
    (subst Consistent c.locks-2.ensures c.geometry-geometry-2.ensures.consistent) (returns-in-Ok-Found-clause-others g c) refl c.args.from
    c.requires.seen c.in-Ok-Found.found c.requires.off
    (rw c.locks_mut.ensures.now at
    (subst (λ (r : Result Claim StepNo). ClaimsSlot c.locks_mut.result.now c.args.host c.args.of c.args.from r c.claim_slot-tried.new.self)
    (c.in-Ok-Found.is ∙ ap (λ (x : Claim). Ok x) (rw c.in-Ok-Found.is at c.in-Ok-Found.field-0-is)) c.claim_slot-tried.ensures.did))

pub returns-in-Err-clause-others : goal.returns-in-Err-clause-others
returns-in-Err-clause-others g c =
    others_lent c.args.world.now c.args.host c.claim_slot-tried.new.self
    (subst Consistent c.locks.ensures c.geometry-geometry.ensures.consistent)
    (rw c.locks_mut.ensures.now at c.claim_slot-tried.ensures.others)

pub returns-in-Err-clause-cut : goal.returns-in-Err-clause-cut
returns-in-Err-clause-cut g c =
    claim_cut c.args.world.now (with_locks c.args.world.now c.claim_slot-tried.new.self) c.args.host c.args.of
    (subst Consistent c.locks.ensures c.geometry-geometry.ensures.consistent)
    (subst Consistent c.locks-2.ensures c.geometry-geometry-2.ensures.consistent) (returns-in-Err-clause-others g c) refl c.args.from
    c.in-Err.why c.requires.seen (rw c.locks_mut.ensures.now at c.in-Err.ensures.did)
    (rw c.locks_mut.ensures.now at c.in-Err.ensures.sound)
