use Rattle.std.proofs.Common.{◌≤◌, ◌-◌, length}
use Rattle.merge_steps.specs.Sweeps.{ArePassed, IsSweeping}
use Rattle.merge_steps.proofs.sweep.passes.Given as goal

abbrev pub invariant-loop-due : goal.invariant-loop-due
invariant-loop-due g l =
    (l.fn.sweep.at ≤ l.sweep.at) × ArePassed l.world l.host l.room l.number l.fn.sweep (l.sweep.at - l.fn.sweep.at) l.sweep
    × IsSweeping l.world l.room l.sweep

abbrev pub decreases-loop-due : goal.decreases-loop-due
decreases-loop-due g l = length l.room - l.sweep.at
