use Rattle.std.proofs.Common.{◌<◌, ℕ}
use Rattle.volume_faults.specs.Spellings.{IsReaderOf}
use Rattle.volume_faults.proofs.spelling.locks.are_readers.Given as goal

abbrev pub invariant-loop-host : goal.invariant-loop-host
invariant-loop-host l = (h : ℕ) → h < l.host → IsReaderOf l.geometry l.counter l.readers h
