use Rattle.std.proofs.Common.{◌≡◌, take}
use Rattle.sorted_shard.proofs.shelf.Shelf.block.Given as goal

abbrev pub invariant-loop-entry : goal.invariant-loop-entry
invariant-loop-entry l = l.hints ≡ record { geometry = l.initial.hints.geometry; entries = take l.entry-index l.entry-items }
