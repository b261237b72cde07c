use Rattle.std.proofs.Common.{◌≡◌, ◌≤◌, ◌-◌, ◌+◌, length, take}
use Rattle.std.specs.Io.KnownBytes.{Appends}
use Rattle.vol_io.proofs.writing.write_all.Given as goal

-- the front of the text was taken, and the sink refused nothing so far
abbrev pub invariant-writing : goal.invariant-writing
invariant-writing g l = record {
  appended : Appends (g.K.Sink.taken l.fn.sink) (g.K.Sink.taken l.sink) (take l.at l.text);
  within : l.at ≤ length l.text;
  later : g.K.Sink.faults l.fn.sink ≤ g.K.Sink.faults l.sink;
  refusals : g.K.Sink.refusals l.sink ≡ g.K.Sink.refusals l.fn.sink;
  room : g.K.Sink.room l.fn.sink ≤ g.K.Sink.room l.sink + l.at;
}

abbrev pub decreases-writing : goal.decreases-writing
decreases-writing g l = length l.text - l.at
