use Rattle.std.proofs.Common.{subst}
use Rattle.vol_layout.specs.declared.kind.Kind.TheVariants as kinds
use Rattle.disk_locks.specs.Consistent.{Consistent}
use Rattle.recover_plan.specs.laws.ClaimLaws.{due_at}
use Rattle.recover_plan.specs.laws.ReplayLaws.{write_went, written_cut}
use Rattle.recover_plan.specs.declared.replay.Replay.TheVariants as stages
use Rattle.recover_plan.proofs.replaying.write.Goals as goal

pub returns-in-Ok-clause-went : goal.returns-in-Ok-clause-went
returns-in-Ok-clause-went g c =
    write_went c.args.world.now c.replay_write.new.self c.args.host c.args.of c.args.dead
    (subst Consistent c.locks.ensures c.geometry.ensures.consistent) c.in-Ok.ensures.others c.args.entry c.args.k
    c.next_edit-next.result c.table_at-which.result c.args.kept.now c.behind_write.result c.requires.replaying
    (rw (c.geometry.ensures.geometry, c.locks.ensures) at c.table_at-which.ensures.has) c.table_at-which.ensures.table c.requires.due
    c.in-Ok.ensures.wrote c.in-Ok.ensures.table c.next_edit-next.ensures c.in-Ok.ensures.did c.in-Ok.ensures.valid c.in-Ok.ensures.files
    c.behind_write.ensures

pub returns-in-Err-clause-cut : goal.returns-in-Err-clause-cut
returns-in-Err-clause-cut g c =
    written_cut c.args.world.now c.replay_write.new.self c.args.host c.args.of c.args.dead
    (subst Consistent c.locks.ensures c.geometry.ensures.consistent) c.in-Err.ensures.others
    (stages.Write c.args.dead c.args.entry c.args.k c.args.kept.now) (kinds.Table c.table_at-which.result) _ c.in-Err.why
    (rw (c.geometry.ensures.geometry, c.locks.ensures) at c.table_at-which.ensures.has) c.in-Err.ensures.did

pub replay_write-requires-clause-replay : goal.replay_write-requires-clause-replay
replay_write-requires-clause-replay g c =
    due_at c.args.world.now c.args.host c.args.of c.args.dead.0 c.args.entry.edits c.args.k c.table_at-which.result c.args.kept.now
    c.requires.replaying c.table_at-which.ensures.table c.requires.due
