use Rattle.slot_lock_blocks.specs.ReaderKeys.{AreReaders}
use Rattle.slot_lock_blocks.proofs.ReaderWalk.{ReadUpTo}
use Rattle.slot_lock_blocks.proofs.readers.Readers.candidate.Given as goal

abbrev pub invariant-loop-host : goal.invariant-loop-host
invariant-loop-host l = AreReaders l.readers × ReadUpTo l.block.0 l.host l.readers
