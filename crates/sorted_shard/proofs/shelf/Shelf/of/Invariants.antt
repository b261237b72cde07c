use Rattle.std.proofs.Common.{◌≤◌, ◌*◌, length, take}
use Rattle.sorted_shard.specs.Shelves.{Gains, entries_in}
use Rattle.sorted_shard.proofs.shelf.Shelf.of.Given as goal

abbrev pub invariant-loop-block : goal.invariant-loop-block
invariant-loop-block l = Gains l.initial.shelf l.shelf (entries_in l.geometry (take l.block-index l.blocks)) × (length l.shelf.entries ≤ 126 * l.block-index)
