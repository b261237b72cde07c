use Rattle.std.proofs.Common.{ap, refl, subst}
use Rattle.std.specs.Prelude.{Err, Ok}
use Rattle.disk_locks.specs.Calls.{TriesShared}
use Rattle.disk_locks.specs.Consistent.{Consistent}
use Rattle.disk_locks.specs.declared.answers.Got.{Got}
use Rattle.lock_store.specs.declared.answers.StepNo.{StepNo}
use Rattle.plan_parts.specs.laws.FetchLaws.{lock_busy, lock_cut, lock_taken}
use Rattle.plan_parts.specs.laws.MadeCallLaws.{tried_got, tried_held}
use Rattle.plan_parts.specs.laws.TakenLaws.{others_locks}
use Rattle.plan_parts.proofs.taken.Taken.take.Goals as goal

pub returns-in-Ok-Got-clause-went : goal.returns-in-Ok-Got-clause-went
returns-in-Ok-Got-clause-went g c =
    lock_taken c.args.world.now c.lock.new.world c.args.host c.args.what c.args.self.now c.push.new.self
    (subst Consistent c.locks.ensures c.geometry-geometry.ensures.consistent) c.in-Ok-Got.ensures.consistent c.requires.what
    c.requires.shared c.requires.joined c.requires.taking c.in-Ok-Got.ensures.others c.in-Ok-Got.ensures.standing c.requires.out
    (subst (λ (x : Got). TriesShared c.args.world.now.locks c.args.host c.args.what (Ok x) c.lock.new.world.locks)
    c.in-Ok-Got.field-0-is c.in-Ok-Got.ensures.did) c.push.ensures

pub returns-in-Ok-Got-clause-others : goal.returns-in-Ok-Got-clause-others
returns-in-Ok-Got-clause-others g c =
    others_locks c.args.world.now c.lock.new.world c.args.host
    (subst Consistent c.locks.ensures c.geometry-geometry.ensures.consistent) c.in-Ok-Got.ensures.others c.in-Ok-Got.ensures.standing

pub returns-in-Ok-Held-clause-went : goal.returns-in-Ok-Held-clause-went
returns-in-Ok-Held-clause-went g c =
    lock_busy c.args.world.now c.lock.new.world c.args.host c.args.what c.args.self.now c.args.self.now
    (subst Consistent c.locks.ensures c.geometry-geometry.ensures.consistent) c.in-Ok-Held.ensures.consistent c.requires.what
    c.requires.shared c.requires.joined c.requires.taking c.in-Ok-Held.ensures.others c.in-Ok-Held.ensures.standing c.in-Ok-Held.key
    (subst (λ (x : Got). TriesShared c.args.world.now.locks c.args.host c.args.what (Ok x) c.lock.new.world.locks)
    c.in-Ok-Held.field-0-is c.in-Ok-Held.ensures.did) refl

pub returns-in-Ok-Held-clause-others : goal.returns-in-Ok-Held-clause-others
returns-in-Ok-Held-clause-others g c =
    others_locks c.args.world.now c.lock.new.world c.args.host
    (subst Consistent c.locks.ensures c.geometry-geometry.ensures.consistent) c.in-Ok-Held.ensures.others c.in-Ok-Held.ensures.standing

pub returns-in-Err-clause-others : goal.returns-in-Err-clause-others
returns-in-Err-clause-others g c =
    others_locks c.args.world.now c.lock.new.world c.args.host
    (subst Consistent c.locks.ensures c.geometry-geometry.ensures.consistent) c.in-Err.ensures.others c.in-Err.ensures.standing

pub returns-in-Err-clause-cut : goal.returns-in-Err-clause-cut
returns-in-Err-clause-cut g c =
    lock_cut c.args.world.now c.lock.new.world c.args.host c.args.what c.args.self.now c.args.self.now
    (subst Consistent c.locks.ensures c.geometry-geometry.ensures.consistent) c.in-Err.ensures.consistent c.requires.what
    c.requires.shared c.requires.joined c.requires.taking c.in-Err.ensures.others c.in-Err.ensures.standing c.in-Err.why
    c.in-Err.ensures.did (λ at same. c.in-Err.ensures.sound at (ap (λ (x : StepNo). Err x) same))

pub returns-in-Ok-Got-clause-so : goal.returns-in-Ok-Got-clause-so
returns-in-Ok-Got-clause-so g c =
    tried_got c.args.world.now c.lock.new.world c.args.host c.args.what c.args.self.now
    (subst Consistent c.locks.ensures c.geometry-geometry.ensures.consistent) c.in-Ok-Got.ensures.consistent c.requires.what
    c.requires.shared c.requires.joined c.requires.taking c.in-Ok-Got.ensures.others c.in-Ok-Got.ensures.standing c.requires.out
    (subst (λ (x : Got). TriesShared c.args.world.now.locks c.args.host c.args.what (Ok x) c.lock.new.world.locks)
    c.in-Ok-Got.field-0-is c.in-Ok-Got.ensures.did)

pub returns-in-Ok-Held-clause-so : goal.returns-in-Ok-Held-clause-so
returns-in-Ok-Held-clause-so g c =
    tried_held c.args.world.now c.lock.new.world c.args.host c.args.what c.args.self.now
    (subst Consistent c.locks.ensures c.geometry-geometry.ensures.consistent) c.in-Ok-Held.ensures.consistent c.requires.what
    c.requires.shared c.requires.joined c.requires.taking c.in-Ok-Held.ensures.others c.in-Ok-Held.ensures.standing c.in-Ok-Held.key
    (subst (λ (x : Got). TriesShared c.args.world.now.locks c.args.host c.args.what (Ok x) c.lock.new.world.locks)
    c.in-Ok-Held.field-0-is c.in-Ok-Held.ensures.did)
