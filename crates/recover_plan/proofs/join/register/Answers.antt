use Rattle.std.proofs.Common.{ap, subst}
use Rattle.std.specs.Prelude.{Err}
use Rattle.disk_locks.specs.Consistent.{Consistent}
use Rattle.plan_parts.specs.laws.TakenLaws.{others_locks}
use Rattle.recover_plan.specs.laws.RegisterLaws.{dropped_key, no_keys_came, register_came, register_failed_came, register_unheard}
use Rattle.recover_plan.proofs.join.register.Goals as goal

pub ask_key-requires-clause-none : goal.ask_key-requires-clause-none
ask_key-requires-clause-none g c = dropped_key c.args.world.now c.args.host c.requires.stands.at

pub returns-in-Ok-clause-came : goal.returns-in-Ok-clause-came
returns-in-Ok-clause-came g c =
    register_came c.args.world.now c.ask_key.new.world c.args.host c.args.watch.now c.in-Ok.field-0
    (subst Consistent c.locks.ensures c.geometry-geometry.ensures.consistent) c.in-Ok.ensures.consistent c.in-Ok.ensures.others c.in-Ok.ensures.standing c.in-Ok.ensures.did c.requires.stands

pub returns-in-Ok-clause-others : goal.returns-in-Ok-clause-others
returns-in-Ok-clause-others g c =
    others_locks c.args.world.now c.ask_key.new.world c.args.host (subst Consistent c.locks.ensures c.geometry-geometry.ensures.consistent) c.in-Ok.ensures.others c.in-Ok.ensures.standing

pub returns-in-Err-NoKeys-clause-came : goal.returns-in-Err-NoKeys-clause-came
returns-in-Err-NoKeys-clause-came g c =
    rw c.new.ensures (no_keys_came c.args.world.now c.ask_key.new.world c.args.host c.args.watch.now
    (subst Consistent c.locks.ensures c.geometry-geometry.ensures.consistent) c.in-Err-NoKeys.ensures.consistent c.in-Err-NoKeys.ensures.others c.in-Err-NoKeys.ensures.standing
    (rw c.in-Err-NoKeys.field-0-is at c.in-Err-NoKeys.ensures.did) c.requires.stands)

pub returns-in-Err-NoKeys-clause-others : goal.returns-in-Err-NoKeys-clause-others
returns-in-Err-NoKeys-clause-others g c =
    others_locks c.args.world.now c.ask_key.new.world c.args.host (subst Consistent c.locks.ensures c.geometry-geometry.ensures.consistent) c.in-Err-NoKeys.ensures.others c.in-Err-NoKeys.ensures.standing

pub returns-in-Err-NoMemory-clause-others : goal.returns-in-Err-NoMemory-clause-others
returns-in-Err-NoMemory-clause-others g c =
    others_locks c.args.world.now c.ask_key.new.world c.args.host (subst Consistent c.locks.ensures c.geometry-geometry.ensures.consistent) c.in-Err-NoMemory.ensures.others c.in-Err-NoMemory.ensures.standing

pub returns-in-Err-NoMemory-clause-cut : goal.returns-in-Err-NoMemory-clause-cut
returns-in-Err-NoMemory-clause-cut g c =
    register_unheard c.args.world.now c.ask_key.new.world c.args.host c.args.watch.now (returns-in-Err-NoMemory-clause-others g c)
    (rw c.in-Err-NoMemory.field-0-is at c.in-Err-NoMemory.ensures.did) c.requires.stands

pub returns-in-Err-Failed-clause-came : goal.returns-in-Err-Failed-clause-came
returns-in-Err-Failed-clause-came g c =
    rw c.new-in-Err-Failed.ensures (register_failed_came c.args.world.now c.ask_key.new.world c.args.host c.args.watch.now
    (subst Consistent c.locks.ensures c.geometry-geometry.ensures.consistent) c.in-Err-Failed.ensures.consistent c.in-Err-Failed.ensures.others c.in-Err-Failed.ensures.standing
    (rw c.in-Err-Failed.field-0-is at c.in-Err-Failed.ensures.did) c.requires.stands)

pub returns-in-Err-Failed-clause-others : goal.returns-in-Err-Failed-clause-others
returns-in-Err-Failed-clause-others g c =
    others_locks c.args.world.now c.ask_key.new.world c.args.host (subst Consistent c.locks.ensures c.geometry-geometry.ensures.consistent) c.in-Err-Failed.ensures.others c.in-Err-Failed.ensures.standing

pub returns-in-Err-Fenced-clause-cut : goal.returns-in-Err-Fenced-clause-cut
returns-in-Err-Fenced-clause-cut g c = absurd (c.in-Err-Fenced.ensures.fenced (ap Err c.in-Err-Fenced.field-0-is))

pub returns-in-Err-Fenced-clause-memory : goal.returns-in-Err-Fenced-clause-memory
returns-in-Err-Fenced-clause-memory g c = absurd (c.in-Err-Fenced.ensures.fenced (ap Err c.in-Err-Fenced.field-0-is))

pub returns-in-Err-Fenced-clause-others : goal.returns-in-Err-Fenced-clause-others
returns-in-Err-Fenced-clause-others g c =
    others_locks c.args.world.now c.ask_key.new.world c.args.host (subst Consistent c.locks.ensures c.geometry-geometry.ensures.consistent) c.in-Err-Fenced.ensures.others c.in-Err-Fenced.ensures.standing
