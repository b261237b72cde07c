use Rattle.std.proofs.Common.{subst}
use Rattle.disk_locks.specs.Consistent.{Consistent}
use Rattle.host_facts.specs.laws.KeptLaws.{others_then}
use Rattle.world_callers.proofs.ReplayLaws.{replay_done, replay_ready}
use Rattle.world_callers.proofs.replaying.replay.Goals as goal

pub replay_read-requires-clause-claims : goal.replay_read-requires-clause-claims
replay_read-requires-clause-claims g c = (c.args.dead, c.requires.claims)

pub replay_write-requires-clause-replay : goal.replay_write-requires-clause-replay
replay_write-requires-clause-replay g c =
    replay_ready c.args.world.now _ c.args.host c.args.dead c.args.which _ _ c.args.entry.now.edits c.requires.edited.0
    c.in_ok-table.ensures.looked c.requires.known c.requires.edited.1 c.requires.edited.2 c.requires.edited.3
    c.in_ok-table.ensures.did.1 c.in_ok-table.ensures.table c.make.ensures.made

pub returns-clause-others : goal.returns-clause-others
returns-clause-others g c =
    others_then c.args.world.now _ _ c.args.host (subst Consistent c.locks.ensures c.geometry-geometry.ensures.consistent)
    c.in_ok-table.ensures.others c.replay_write.ensures.others

pub returns-clause-replayed : goal.returns-clause-replayed
returns-clause-replayed g c =
    replay_done c.args.world.now _ _ c.args.host c.args.which _ _ c.args.entry.now.edits c.replay_write.result
    c.in_ok-table.ensures.looked c.in_ok-table.ensures.did.1 c.make.ensures.made c.replay_write.ensures.table
