use Rattle.std.proofs.Common.{◌∙◌, ap}
use Rattle.host_threads.proofs.Growing.{begins_on}
use Rattle.host_threads.proofs.Steps.{rounds_on}
use Rattle.host_threads.proofs.drive.round.Goals as goal

pub loop-host-preserved : goal.loop-host-preserved
loop-host-preserved g c =
    let old = c.loop-host.invariant in
    let step = c.in_ok-step.ensures in record {
      began = step.began ∙ old.began;
      entries = begins_on _ _ _ old.entries step.entries;
      lowers = rounds_on g.T.Turns.left g.T.Turns.has_command c.args.value.now c.loop-host.value c.step.new.value c.loop-host.host _ _ (ap g.T.Turns.hosts old.began) old.lowers step.lowers step.hosts;
    }
