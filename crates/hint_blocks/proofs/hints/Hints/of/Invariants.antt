use Rattle.std.proofs.Common.{◌≡◌, take}
use Rattle.std.specs.List.{filter_map}
use Rattle.hint_blocks.proofs.hints.Hints.of.Given as goal

abbrev pub invariant-loop-k : goal.invariant-loop-k
invariant-loop-k g l = l.hints ≡ record { geometry = l.geometry; entries = filter_map (g.T.Hint.read l.geometry) (take l.k l.packed.entries) }
