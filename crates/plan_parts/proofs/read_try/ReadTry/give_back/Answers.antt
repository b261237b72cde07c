use Rattle.std.proofs.Common.{ℕ, subst, sym}
use Rattle.std.specs.Prelude.{Ok}
use Rattle.disk_locks.specs.Calls.{ReleasesRead}
use Rattle.lock_store.specs.declared.answers.Took.{Took}
use Rattle.plan_parts.specs.Holds.{HasGoneOn}
use Rattle.plan_parts.specs.laws.HoldTries.{release_cut, release_done, release_gone}
use Rattle.plan_parts.specs.laws.TakenLaws.{others_locks}
use Rattle.plan_parts.proofs.read_try.ReadTry.give_back.Goals as goal

pub returns-in-Ok-Took-clause-others : goal.returns-in-Ok-Took-clause-others
returns-in-Ok-Took-clause-others g c =
    others_locks c.args.world.now c.release_read.new.world c.args.host c.own_key-own.ensures.consistent c.in-Ok-Took.ensures.others
    c.in-Ok-Took.ensures.standing

pub returns-in-Ok-Found-clause-others : goal.returns-in-Ok-Found-clause-others
returns-in-Ok-Found-clause-others g c =
    others_locks c.args.world.now c.release_read.new.world c.args.host c.own_key-own.ensures.consistent c.in-Ok-Found.ensures.others
    c.in-Ok-Found.ensures.standing

pub returns-in-Err-clause-others : goal.returns-in-Err-clause-others
returns-in-Err-clause-others g c =
    others_locks c.args.world.now c.release_read.new.world c.args.host c.own_key-own.ensures.consistent c.in-Err.ensures.others
    c.in-Err.ensures.standing

pub returns-in-Ok-Took-clause-went : goal.returns-in-Ok-Took-clause-went
returns-in-Ok-Took-clause-went g c =
    release_done c.args.world.now c.release_read.new.world c.args.host c.args.file c.args.self.now c.own_key-own.ensures.consistent
    (returns-in-Ok-Took-clause-others g c) c.in-Ok-Took.ensures.consistent c.in-Ok-Took.ensures.standing c.requires.stands
    (subst (λ (got : Took). ReleasesRead c.args.world.now.locks c.args.host c.args.file c.args.self.now.from (Ok got)
    c.release_read.new.world.locks)
    c.in-Ok-Took.field-0-is c.in-Ok-Took.ensures.did)

pub returns-in-Ok-Found-clause-went : goal.returns-in-Ok-Found-clause-went
returns-in-Ok-Found-clause-went g c =
    release_gone c.args.world.now c.release_read.new.world c.args.host c.args.file c.args.self.now c.own_key-own.ensures.consistent
    (returns-in-Ok-Found-clause-others g c) c.in-Ok-Found.ensures.consistent c.in-Ok-Found.ensures.standing c.in-Ok-Found.word
    c.found.result c.requires.stands
    (subst (λ (got : Took). ReleasesRead c.args.world.now.locks c.args.host c.args.file c.args.self.now.from (Ok got)
    c.release_read.new.world.locks)
    c.in-Ok-Found.field-0-is c.in-Ok-Found.ensures.did)
    (subst (λ (n : ℕ). HasGoneOn n c.args.self.now 1 c.in-Ok-Found.word c.found.result) (sym c.own_key-own.ensures.key) c.found.ensures)

pub returns-in-Err-clause-cut : goal.returns-in-Err-clause-cut
returns-in-Err-clause-cut g c =
    release_cut c.args.world.now c.release_read.new.world c.args.host c.args.file c.args.self.now c.own_key-own.ensures.consistent
    (returns-in-Err-clause-others g c) c.in-Err.why c.requires.stands c.in-Err.ensures.did c.in-Err.ensures.sound
