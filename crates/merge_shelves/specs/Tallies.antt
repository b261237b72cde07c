-- The nine counts, added up, and one of them raised.
use Rattle.std.specs.Prelude.{◌≡◌, ◌≢◌, ◌+◌, ℕ}
use Rattle.vol_base.specs.declared.answer.MergeCounts.{MergeCounts}
use Rattle.merge_decide.specs.declared.outcome.MergeCount.{MergeCount}
use Rattle.merge_decide.specs.Counted.{count_in}

-- the nine counts, added up
abbrev pub total : MergeCounts → ℕ
total m = m.stale + m.unique + m.linked + m.already + m.differs + m.gone + m.posted + m.full + m.skipped

-- this count rose by one, and the others stayed
pub record IsRaised (one : MergeCount) (old new : MergeCounts) : Type 0 where
  pub raised : count_in one new ≡ count_in one old + 1
  pub others : (other : MergeCount) → other ≢ one → count_in other new ≡ count_in other old
  pub more : total new ≡ total old + 1
