use Rattle.std.proofs.Common.{◌≡◌, drop, take}
use Rattle.hint_blocks.proofs.hints.Hints.drop_first.Given as goal

abbrev pub invariant-loop-k : goal.invariant-loop-k
invariant-loop-k g l = l.rest ≡ record { geometry = l.self.geometry; entries = drop 1 (take l.k l.self.entries) }
