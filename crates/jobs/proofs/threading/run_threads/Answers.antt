use Rattle.std.proofs.Common.{ap, inr, ◌∙◌}
use Rattle.shared_disk.specs.Seen.{DiskSeen, seen_by}
use Rattle.jobs.specs.Runs.{ByThreads}
use Rattle.jobs.proofs.ClusterLaws.{blocks_stay, broken_off}
use Rattle.jobs.proofs.Conclusions.{closed_decides}
use Rattle.jobs.proofs.RunEnds.{has_ended}
use Rattle.jobs.proofs.ThreadLaws.{ended_over, threaded_run}
use Rattle.jobs.proofs.threading.run_threads.Goals as goal

pub finish-requires : goal.finish-requires
finish-requires g c =
    let w = c.args.workload in
    let old = seen_by g.D.Device c.args.disk in
    let started = c.in-Ok.ensures.started in
    let same = c.run_phases-cluster.ensures.same in
    let over = ended_over _ c.run_phases-cluster.result.1 _ c.in-Ok-ended.is c.run_phases-cluster.ensures.over in
    let ran = threaded_run w old _ _ c.requires.workload started same over in
    record { ended = has_ended w ByThreads old _ _ ran.0 started same over.facts ran.1 }

pub returns-in-Ok-ended-clause-decided : goal.returns-in-Ok-ended-clause-decided
returns-in-Ok-ended-clause-decided g c =
    let w = c.args.workload in
    let old = seen_by g.D.Device c.args.disk in
    let started = c.in-Ok.ensures.started in
    let same = c.run_phases-cluster.ensures.same in
    let over = ended_over _ c.run_phases-cluster.result.1 _ c.in-Ok-ended.is c.run_phases-cluster.ensures.over in
    let ran = threaded_run w old _ _ c.requires.workload started same over in
    closed_decides w ByThreads old _ _ _ ran.0 _ started same ran.1 c.finish.ensures.concluded

pub returns-in-Ok-ended-clause-blocks : goal.returns-in-Ok-ended-clause-blocks
returns-in-Ok-ended-clause-blocks g c =
    let over = ended_over _ c.run_phases-cluster.result.1 _ c.in-Ok-ended.is c.run_phases-cluster.ensures.over in
    c.finish.ensures.blocks
    ∙ blocks_stay c.args.workload (seen_by g.D.Device c.args.disk) _ _ c.in-Ok.ensures.started c.run_phases-cluster.ensures.same over.facts

pub returns-in-Err-ended-clause-decided : goal.returns-in-Err-ended-clause-decided
returns-in-Err-ended-clause-decided g c =
    inr (broken_off c.args.workload (seen_by g.D.Device c.args.disk) (seen_by g.D.Device c.close.result.disk) _ _ c.in-Ok.ensures.started
    c.run_phases-cluster.ensures.same c.close.ensures.facts (ap (λ (d : DiskSeen). d.state.told) c.close.ensures.disk))

pub returns-in-Err-ended-clause-blocks : goal.returns-in-Err-ended-clause-blocks
returns-in-Err-ended-clause-blocks g c =
    ap (λ (d : DiskSeen). d.state.blocks) c.close.ensures.disk
    ∙ blocks_stay c.args.workload (seen_by g.D.Device c.args.disk) _ _ c.in-Ok.ensures.started c.run_phases-cluster.ensures.same c.close.ensures.facts
