use Rattle.std.proofs.Common.{◌≤◌}
use Rattle.volume_opening.specs.Blanked.{Blanked}
use Rattle.volume_opening.proofs.format.write_blanks.Given as goal

-- the blocks before this place are written
abbrev pub invariant-loop-place : goal.invariant-loop-place
invariant-loop-place g l = record {
  written : Blanked l.geometry l.from l.place (g.D.Device.state l.initial.disk) (g.D.Device.state l.disk);
  later : g.D.Device.faults l.initial.disk ≤ g.D.Device.faults l.disk;
}
