use Rattle.plan_parts.specs.Holds.{calls_left}
use Rattle.solo.specs.Starts.{IsTrying}
use Rattle.solo.proofs.taking.takes.Given as goal

abbrev pub invariant-loop-taking : goal.invariant-loop-taking
invariant-loop-taking g l = IsTrying l.fn.world l.world l.fn.file l.take

abbrev pub decreases-loop-taking : goal.decreases-loop-taking
decreases-loop-taking g l = calls_left l.world.locks.geometry.hosts l.take
