use Rattle.std.proofs.Common.{◌≡◌, ◌⊎◌, ◌≤◌}
use Rattle.held_cache.specs.Kept.{kept_at}
use Rattle.file_plans.specs.Says.{AreFound}
use Rattle.file_plans.proofs.seen.remains.Given as goal

abbrev pub invariant-loop-index : goal.invariant-loop-index
invariant-loop-index l =
    AreFound l.geometry (kept_at l.cache l.host) l.file l.from l.index l.found × ((l.index ≡ l.from) ⊎ (l.index ≤ l.to))
