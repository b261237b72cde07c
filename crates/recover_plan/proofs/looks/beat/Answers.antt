use Rattle.std.proofs.Common.{subst}
use Rattle.disk_locks.specs.Consistent.{Consistent}
use Rattle.plan_parts.specs.laws.TakenLaws.{others_locks}
use Rattle.watch.specs.Looks.{nothing}
use Rattle.recover_plan.specs.laws.LookLaws.{beat_cut, beat_owes, beat_tables, beat_watched}
use Rattle.recover_plan.proofs.looks.beat.Goals as goal

pub returns-in-Ok-clause-owes : goal.returns-in-Ok-clause-owes
returns-in-Ok-clause-owes g c watch =
    beat_owes c.args.world.now c.show_beat.new.world c.args.host
    (subst Consistent c.locks.ensures c.geometry-geometry.ensures.consistent) c.in-Ok.ensures.consistent c.requires.host c.requires.ready
    c.in-Ok.ensures.others c.in-Ok.ensures.standing watch c.in-Ok.field-0 c.in-Ok.ensures.did

pub returns-in-Ok-clause-watched : goal.returns-in-Ok-clause-watched
returns-in-Ok-clause-watched g c watch =
    beat_watched c.args.world.now c.show_beat.new.world c.args.host
    (subst Consistent c.locks.ensures c.geometry-geometry.ensures.consistent) c.in-Ok.ensures.consistent c.requires.host c.requires.ready
    c.in-Ok.ensures.others c.in-Ok.ensures.standing watch c.in-Ok.field-0 c.in-Ok.ensures.did

pub returns-in-Ok-clause-tables : goal.returns-in-Ok-clause-tables
returns-in-Ok-clause-tables g c =
    beat_tables c.args.world.now c.show_beat.new.world c.args.host
    (subst Consistent c.locks.ensures c.geometry-geometry.ensures.consistent) c.in-Ok.ensures.consistent c.requires.host c.requires.ready
    c.in-Ok.ensures.others c.in-Ok.ensures.standing nothing c.in-Ok.field-0 c.in-Ok.ensures.did

pub returns-in-Ok-clause-others : goal.returns-in-Ok-clause-others
returns-in-Ok-clause-others g c =
    others_locks c.args.world.now c.show_beat.new.world c.args.host
    (subst Consistent c.locks.ensures c.geometry-geometry.ensures.consistent) c.in-Ok.ensures.others c.in-Ok.ensures.standing

pub returns-in-Err-clause-others : goal.returns-in-Err-clause-others
returns-in-Err-clause-others g c =
    others_locks c.args.world.now c.show_beat.new.world c.args.host
    (subst Consistent c.locks.ensures c.geometry-geometry.ensures.consistent) c.in-Err.ensures.others c.in-Err.ensures.standing

pub returns-in-Err-clause-cut : goal.returns-in-Err-clause-cut
returns-in-Err-clause-cut g c =
    beat_cut c.args.world.now c.show_beat.new.world c.args.host c.in-Err.why
    (subst Consistent c.locks.ensures c.geometry-geometry.ensures.consistent) c.requires.host c.requires.ready.joined
    (returns-in-Err-clause-others g c) c.in-Err.ensures.did
