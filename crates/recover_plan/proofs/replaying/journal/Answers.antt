use Rattle.std.proofs.Common.{subst}
use Rattle.disk_locks.specs.Consistent.{Consistent}
use Rattle.recover_plan.specs.laws.ReplayLaws.{journal_cut, journal_went}
use Rattle.recover_plan.proofs.replaying.journal.Goals as goal

pub returns-in-Ok-clause-went : goal.returns-in-Ok-clause-went
returns-in-Ok-clause-went g c =
    journal_went c.args.world.now c.replay_journal.new.self c.args.host c.args.of c.args.dead
    (subst Consistent c.locks.ensures c.geometry-geometry.ensures.consistent) c.in-Ok.ensures.others c.in-Ok.entry
    c.behind_journal.result c.requires.claimed c.in-Ok.ensures.looked c.in-Ok.ensures.did c.in-Ok.ensures.entry
    c.behind_journal.ensures.next c.behind_journal.ensures.some

pub returns-in-Err-clause-cut : goal.returns-in-Err-clause-cut
returns-in-Err-clause-cut g c =
    journal_cut c.args.world.now c.replay_journal.new.self c.args.host c.args.of c.args.dead
    (subst Consistent c.locks.ensures c.geometry-geometry.ensures.consistent) c.in-Err.ensures.others c.in-Err.why
    c.in-Err.ensures.did c.in-Err.ensures.sound
