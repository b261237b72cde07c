use Rattle.std.proofs.Common.{ℕ, ap, subst, sym, ◌∙◌}
use Rattle.std.specs.Prelude.{Ok}
use Rattle.vol_layout.specs.declared.geometry.Geometry.{Geometry}
use Rattle.lock_store.specs.declared.answers.Took.{Took}
use Rattle.lock_store.specs.Views.{LocksView}
use Rattle.disk_locks.specs.Calls.{TriesWrite}
use Rattle.plan_parts.specs.Holds.{CutsEach, HasChecked, HasMet, HasWrite, IsAtWrite, NotedWrite, TakesWrite, WritesFile}
use Rattle.plan_parts.specs.declared.take_write.TakeWrite.{TakeWrite}
use Rattle.plan_parts.specs.laws.HoldChecks.{check_cut, check_gone, write_cut, write_done}
use Rattle.plan_parts.specs.laws.HoldWrites.{write_met}
use Rattle.plan_parts.specs.laws.TakenLaws.{others_locks}
use Rattle.plan_parts.proofs.take_write.TakeWrite.next.Goals as goal

pub returns-in-Ok-Took-clause-others : goal.returns-in-Ok-Took-clause-others
returns-in-Ok-Took-clause-others g c =
    others_locks c.args.world.now c.try_write.new.world c.args.host c.own_key-own.ensures.consistent c.in-Ok-Took.ensures.others
    c.in-Ok-Took.ensures.standing

pub returns-in-Ok-Found-clause-others : goal.returns-in-Ok-Found-clause-others
returns-in-Ok-Found-clause-others g c =
    others_locks c.args.world.now c.try_write.new.world c.args.host c.own_key-own.ensures.consistent c.in-Ok-Found.ensures.others
    c.in-Ok-Found.ensures.standing

pub returns-in-Err-clause-others : goal.returns-in-Err-clause-others
returns-in-Err-clause-others g c =
    others_locks c.args.world.now c.try_write.new.world c.args.host c.own_key-own.ensures.consistent c.in-Err.ensures.others
    c.in-Err.ensures.standing

pub returns-in-Ok-clause-others : goal.returns-in-Ok-clause-others
returns-in-Ok-clause-others g c =
    others_locks c.args.world.now c.read_slot.new.world c.args.host c.own_key-own.ensures.consistent c.in-Ok.ensures.others
    c.in-Ok.ensures.standing

pub returns-in-Err-read_slot-clause-others : goal.returns-in-Err-read_slot-clause-others
returns-in-Err-read_slot-clause-others g c =
    others_locks c.args.world.now c.read_slot.new.world c.args.host c.own_key-own.ensures.consistent c.in-Err-read_slot.ensures.others
    c.in-Err-read_slot.ensures.standing

pub returns-in-Ok-Took-clause-went : goal.returns-in-Ok-Took-clause-went
returns-in-Ok-Took-clause-went g c =
    subst (λ (t : TakeWrite). HasWrite c.args.host c.args.file c.args.world.now c.try_write.new.world t) (sym c.in-Try.is)
    (write_done c.args.world.now c.try_write.new.world c.args.host c.args.file c.own_key-own.ensures.consistent
    (returns-in-Ok-Took-clause-others g c) c.requires.stands.outside c.in-Ok-Took.ensures.consistent c.in-Ok-Took.ensures.standing
    c.in-Try.from c.in-Try.tries
    (subst (λ (got : Took). TriesWrite c.args.world.now.locks c.args.host c.args.file c.in-Try.from (Ok got) c.try_write.new.world.locks)
    c.in-Ok-Took.field-0-is c.in-Ok-Took.ensures.did))

pub returns-in-Ok-Found-clause-went : goal.returns-in-Ok-Found-clause-went
returns-in-Ok-Found-clause-went g c =
    subst (λ (t : TakeWrite). TakesWrite c.args.host c.args.file c.args.world.now c.try_write.new.world t c.met.result) (sym c.in-Try.is)
    (write_met c.args.world.now c.try_write.new.world c.args.host c.args.file c.in-Try.from c.in-Try.tries c.own_key-own.ensures.consistent
    c.in-Ok-Found.ensures.consistent (returns-in-Ok-Found-clause-others g c) c.in-Ok-Found.ensures.standing c.requires.stands.outside
    (subst (λ (t : TakeWrite). IsAtWrite c.args.world.now c.args.host c.args.file t) c.in-Try.is c.requires.stands.at)
    c.in-Ok-Found.word c.met.result
    (subst (λ (got : Took). TriesWrite c.args.world.now.locks c.args.host c.args.file c.in-Try.from (Ok got) c.try_write.new.world.locks)
    c.in-Ok-Found.field-0-is c.in-Ok-Found.ensures.did)
    (subst (λ (n : ℕ). HasMet n c.args.world.now.locks.geometry.hosts c.in-Try.tries c.in-Ok-Found.word c.met.result)
    (sym c.own_key-own.ensures.key)
    (subst (λ (y : Geometry). HasMet c.own_key-own.result.0 y.hosts c.in-Try.tries c.in-Ok-Found.word c.met.result)
    (c.geometry.ensures.geometry ∙ ap (λ (l : LocksView). l.geometry) c.locks.ensures) c.met.ensures)))

pub returns-in-Err-clause-cut : goal.returns-in-Err-clause-cut
returns-in-Err-clause-cut g c =
    subst (λ (t : TakeWrite). CutsEach (WritesFile c.args.file) c.args.host c.args.world.now c.try_write.new.world
    (λ command. NotedWrite command c.args.host c.args.world.now t) c.in-Err.why)
    (sym c.in-Try.is)
    (write_cut c.args.world.now c.try_write.new.world c.args.host c.args.file c.own_key-own.ensures.consistent
    (returns-in-Err-clause-others g c) c.requires.stands.outside c.in-Try.from c.in-Try.tries c.in-Err.why c.in-Err.ensures.did
    c.in-Err.ensures.sound)

pub returns-in-Ok-clause-went : goal.returns-in-Ok-clause-went
returns-in-Ok-clause-went g c =
    subst (λ (t : TakeWrite). TakesWrite c.args.host c.args.file c.args.world.now c.read_slot.new.world t c.checked.result)
    (sym c.in-Check.is)
    (check_gone c.args.world.now c.read_slot.new.world c.args.host c.args.file c.own_key-own.ensures.consistent
    (returns-in-Ok-clause-others g c) c.requires.stands.outside c.in-Ok.ensures.consistent c.in-Ok.ensures.standing c.in-Check.readers
    c.in-Check.at c.in-Ok.slot
    (subst (λ (t : TakeWrite). IsAtWrite c.args.world.now c.args.host c.args.file t) c.in-Check.is c.requires.stands.at)
    c.in-Ok.ensures.did c.checked.result
    (subst (λ (n : ℕ). HasChecked n c.args.world.now.locks.geometry.hosts c.in-Check.readers c.in-Check.at c.in-Ok.slot c.checked.result)
    (sym c.own_key-own.ensures.key)
    (subst (λ (y : Geometry). HasChecked c.own_key-own.result.0 y.hosts c.in-Check.readers c.in-Check.at c.in-Ok.slot c.checked.result)
    (c.geometry.ensures.geometry ∙ ap (λ (l : LocksView). l.geometry) c.locks.ensures) c.checked.ensures)))

pub returns-in-Err-read_slot-clause-cut : goal.returns-in-Err-read_slot-clause-cut
returns-in-Err-read_slot-clause-cut g c =
    subst (λ (t : TakeWrite). CutsEach (WritesFile c.args.file) c.args.host c.args.world.now c.read_slot.new.world
    (λ command. NotedWrite command c.args.host c.args.world.now t) c.in-Err-read_slot.why) (sym c.in-Check.is)
    (check_cut c.args.world.now c.read_slot.new.world c.args.host c.args.file c.own_key-own.ensures.consistent
    (returns-in-Err-read_slot-clause-others g c) c.requires.stands.outside c.in-Check.readers c.in-Check.at c.in-Err-read_slot.why
    c.in-Err-read_slot.ensures.did c.in-Err-read_slot.ensures.sound)
