use Rattle.std.proofs.Common.{ap, inr, ◌∙◌}
use Rattle.shared_disk.specs.Seen.{DiskSeen, seen_by}
use Rattle.jobs.specs.Runs.{ByWords}
use Rattle.jobs.proofs.ClusterLaws.{blocks_stay, broken_off}
use Rattle.jobs.proofs.Conclusions.{closed_decides}
use Rattle.jobs.proofs.RunEnds.{has_ended, played_run}
use Rattle.jobs.proofs.running.run_workload.Goals as goal

pub finish-requires : goal.finish-requires
finish-requires g c =
    let w = c.args.workload in
    let old = seen_by g.D.Device c.args.disk in
    let started = c.in-Ok.ensures.started in
    let played = c.in-Ok-play.ensures in
    let ran = played_run w c.args.hosts.now old _ _ c.requires.workload started c.play.ensures.same played.facts played.played in
    record { ended = has_ended w (ByWords c.args.hosts.now) old _ _ ran.0 started c.play.ensures.same played.facts ran.1 }

pub returns-in-Ok-play-clause-decided : goal.returns-in-Ok-play-clause-decided
returns-in-Ok-play-clause-decided g c =
    let w = c.args.workload in
    let old = seen_by g.D.Device c.args.disk in
    let started = c.in-Ok.ensures.started in
    let played = c.in-Ok-play.ensures in
    let ran = played_run w c.args.hosts.now old _ _ c.requires.workload started c.play.ensures.same played.facts played.played in
    closed_decides w (ByWords c.args.hosts.now) old _ _ _ ran.0 _ started c.play.ensures.same ran.1 c.finish.ensures.concluded

pub returns-in-Ok-play-clause-blocks : goal.returns-in-Ok-play-clause-blocks
returns-in-Ok-play-clause-blocks g c =
    c.finish.ensures.blocks
    ∙ blocks_stay c.args.workload (seen_by g.D.Device c.args.disk) _ _ c.in-Ok.ensures.started c.play.ensures.same c.in-Ok-play.ensures.facts

pub returns-in-Err-play-clause-decided : goal.returns-in-Err-play-clause-decided
returns-in-Err-play-clause-decided g c =
    inr (broken_off c.args.workload (seen_by g.D.Device c.args.disk) (seen_by g.D.Device c.close.result.disk) _ _ c.in-Ok.ensures.started c.play.ensures.same
    c.close.ensures.facts (ap (λ (d : DiskSeen). d.state.told) c.close.ensures.disk))

pub returns-in-Err-play-clause-blocks : goal.returns-in-Err-play-clause-blocks
returns-in-Err-play-clause-blocks g c =
    ap (λ (d : DiskSeen). d.state.blocks) c.close.ensures.disk
    ∙ blocks_stay c.args.workload (seen_by g.D.Device c.args.disk) _ _ c.in-Ok.ensures.started c.play.ensures.same c.close.ensures.facts
