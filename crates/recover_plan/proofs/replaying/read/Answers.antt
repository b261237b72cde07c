use Rattle.std.proofs.Common.{subst}
use Rattle.disk_locks.specs.Consistent.{Consistent}
use Rattle.recover_plan.specs.laws.ReplayLaws.{read_cut, read_went}
use Rattle.recover_plan.specs.declared.replay.Replay.TheVariants as stages
use Rattle.recover_plan.proofs.replaying.read.Goals as goal

pub returns-in-Ok-clause-went : goal.returns-in-Ok-clause-went
returns-in-Ok-clause-went g c =
    read_went c.args.world.now c.replay_read.new.self c.args.host c.args.of c.args.dead
    (subst Consistent c.locks.ensures c.geometry.ensures.consistent) c.in-Ok.ensures.others c.args.entry c.args.k
    c.table_at-which.result c.in-Ok.table c.with_edits.result c.requires.replaying c.in-Ok.ensures.looked
    (rw (c.geometry.ensures.geometry, c.locks.ensures) at c.table_at-which.ensures.has) c.table_at-which.ensures.table
    c.in-Ok.ensures.did c.in-Ok.ensures.table c.with_edits.ensures

pub returns-in-Err-clause-cut : goal.returns-in-Err-clause-cut
returns-in-Err-clause-cut g c =
    read_cut c.args.world.now c.replay_read.new.self c.args.host c.args.of c.args.dead
    (subst Consistent c.locks.ensures c.geometry.ensures.consistent) c.in-Err.ensures.others
    (stages.Read c.args.dead c.args.entry c.args.k) c.table_at-which.result c.in-Err.why c.in-Err.ensures.did c.in-Err.ensures.sound
