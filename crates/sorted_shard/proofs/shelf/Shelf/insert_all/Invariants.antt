use Rattle.std.proofs.Common.{take}
use Rattle.sorted_shard.specs.Shelves.{Gains}
use Rattle.sorted_shard.proofs.shelf.Shelf.insert_all.Given as goal

abbrev pub invariant-loop-k : goal.invariant-loop-k
invariant-loop-k l = Gains l.initial.self l.self (take l.k l.hints.entries)
