use Rattle.std.proofs.Common.{◌-◌}
use Rattle.cluster.specs.Runs.{SameStart}
use Rattle.jobs.proofs.threading.run_phases.Given as goal

abbrev pub invariant-loop-alloc : goal.invariant-loop-alloc
invariant-loop-alloc g l = SameStart l.fn.cluster l.cluster

abbrev pub decreases-loop-alloc : goal.decreases-loop-alloc
decreases-loop-alloc g l = l.cluster.parts.workload.phases - l.cluster.parts.phase
