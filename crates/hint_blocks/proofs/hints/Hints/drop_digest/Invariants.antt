use Rattle.std.proofs.Common.{◌≡◌, take}
use Rattle.hint_blocks.specs.HintLists.{without}
use Rattle.hint_blocks.proofs.hints.Hints.drop_digest.Given as goal

abbrev pub invariant-loop-k : goal.invariant-loop-k
invariant-loop-k g l = l.kept ≡ record { geometry = l.self.geometry; entries = without g.T.Hint.digest_bytes l.digest.0 (take l.k l.self.entries) }
