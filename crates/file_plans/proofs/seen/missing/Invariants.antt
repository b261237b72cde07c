use Rattle.held_cache.specs.Kept.{kept_at}
use Rattle.file_plans.specs.Says.{AreKnown}
use Rattle.file_plans.proofs.seen.missing.Given as goal

abbrev pub invariant-loop-index : goal.invariant-loop-index
invariant-loop-index l = AreKnown (kept_at l.cache l.host) l.file l.from l.index
