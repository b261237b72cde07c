use Rattle.std.proofs.Common.{◌≡◌, ◌-◌, ◌≤◌, drop, length, map, take}
use Rattle.std.specs.Prelude.{IfSome, vec_capacity, vec_len}
use Rattle.volume_check.proofs.metadata.runs.read_run.Given as goal

abbrev pub invariant-loop-place : goal.invariant-loop-place
invariant-loop-place g l = record {
  blocks : IfSome (g.D.Device.state l.initial.disk).told (λ told. map (λ block. block.0) l.blocks.items ≡ take (l.place - l.from) (drop l.from told.image));
  long : length l.blocks.items ≡ l.place - l.from;
  counted : vec_len l.blocks ≡ l.place - l.from;
  room : vec_capacity l.blocks ≡ l.to - l.from;
  same : g.D.Device.state l.disk ≡ g.D.Device.state l.initial.disk;
  later : g.D.Device.faults l.initial.disk ≤ g.D.Device.faults l.disk;
  spends : g.D.Device.room l.initial.disk ≤ g.D.Device.room l.disk;
}
