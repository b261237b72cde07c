use Rattle.std.proofs.Common.{◌≡◌, ◌++◌, take}
use Rattle.std.specs.List.{flat_map}
use Rattle.vol_base.specs.Bytes.{bytes_of}
use Rattle.slot_lock_blocks.proofs.readers.Readers.push_to.Given as goal

abbrev pub invariant-loop-key : goal.invariant-loop-key
invariant-loop-key l = l.draft ≡ l.initial.draft ++ flat_map (bytes_of 8) (take l.key-index l.key-items)
