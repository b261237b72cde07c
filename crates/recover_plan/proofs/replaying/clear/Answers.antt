use Rattle.std.proofs.Common.{subst}
use Rattle.vol_layout.specs.declared.kind.Kind.TheVariants as kinds
use Rattle.disk_locks.specs.Consistent.{Consistent}
use Rattle.host_facts.specs.laws.DoneLaws.{dead_applied}
use Rattle.recover_plan.specs.laws.ReplayLaws.{clear_went, written_cut}
use Rattle.recover_plan.specs.declared.replay.Replay.TheVariants as stages
use Rattle.recover_plan.proofs.replaying.clear.Goals as goal

pub returns-in-Ok-clause-went : goal.returns-in-Ok-clause-went
returns-in-Ok-clause-went g c =
    clear_went c.args.world.now c.replay_clear.new.self c.args.host c.args.of c.args.dead
    (subst Consistent c.locks.ensures c.geometry-geometry.ensures.consistent) c.in-Ok.ensures.others c.requires.replayed
    c.in-Ok.ensures.wrote c.in-Ok.ensures.empty c.in-Ok.ensures.did c.in-Ok.ensures.valid c.in-Ok.ensures.files

pub returns-in-Err-clause-cut : goal.returns-in-Err-clause-cut
returns-in-Err-clause-cut g c =
    written_cut c.args.world.now c.replay_clear.new.self c.args.host c.args.of c.args.dead
    (subst Consistent c.locks.ensures c.geometry-geometry.ensures.consistent) c.in-Err.ensures.others (stages.Clear c.args.dead)
    (kinds.Journal c.args.of) _ c.in-Err.why c.requires.replayed.claimed.base.below c.in-Err.ensures.did

pub replay_clear-requires-clause-applied : goal.replay_clear-requires-clause-applied
replay_clear-requires-clause-applied g c =
    dead_applied c.args.world.now c.args.host c.args.of c.requires.replayed.edits c.requires.replayed.known c.requires.replayed.each
