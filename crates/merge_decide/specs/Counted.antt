-- How an entry of a log is counted.
use Rattle.std.specs.Prelude.{ℕ}
use Rattle.vol_base.specs.declared.answer.MergeCounts.{MergeCounts}
use Rattle.merge_decide.specs.declared.action.Action.{Action}
use Rattle.merge_decide.specs.declared.action.Action.TheVariants.{Stale, PutUnique, Share, Promote, Post}
use Rattle.merge_decide.specs.declared.outcome.MergeCount.{MergeCount}
use Rattle.merge_decide.specs.declared.outcome.MergeCount.TheVariants as counts
use Rattle.merge_decide.specs.declared.outcome.Outcome.{Outcome}
use Rattle.merge_decide.specs.declared.outcome.Outcome.TheVariants as outcomes
use Rattle.merge_decide.specs.declared.outcome.PromoteOutcome.{PromoteOutcome}
use Rattle.merge_decide.specs.declared.outcome.PromoteOutcome.TheVariants as promoted
use Rattle.merge_decide.specs.declared.outcome.ShareOutcome.{ShareOutcome}
use Rattle.merge_decide.specs.declared.outcome.ShareOutcome.TheVariants as shared

-- an action ends with an outcome of its kind
abbrev pub EndsWith : Action → Outcome → Type 0
EndsWith (Share slot) (outcomes.Shared outcome) = Unit {0}
EndsWith (Share slot) outcome = ⊥
EndsWith (Promote file index) (outcomes.Promoted outcome) = Unit {0}
EndsWith (Promote file index) outcome = ⊥
EndsWith action outcomes.Done = Unit {0}
EndsWith action outcome = ⊥

-- the entry's place was compared with a slot
abbrev pub share_count : ShareOutcome → MergeCount
share_count shared.Linked = counts.Linked
share_count shared.Already = counts.Already
share_count shared.Differs = counts.Differs
share_count shared.NoSource = counts.Gone
share_count shared.Hole = counts.Stale

-- another place was compared with the slot that the entry's place was promoted to
abbrev pub other_count : ShareOutcome → MergeCount
other_count shared.Linked = counts.Linked
other_count shared.Already = counts.Already
other_count shared.Differs = counts.Differs
other_count shared.NoSource = counts.Gone
other_count shared.Hole = counts.Gone

-- the entry's place was to be promoted
abbrev pub promote_count : PromoteOutcome → MergeCount
promote_count promoted.Hole = counts.Stale
promote_count promoted.Marked = counts.Skipped
promote_count promoted.PartFull = counts.Full
promote_count promoted.Posted = counts.Posted
promote_count (promoted.Shared outcome) = other_count outcome

-- the count that the entry raises; an outcome of another kind than the action's never comes
abbrev pub counted : Action → Outcome → MergeCount
counted Stale outcome = counts.Stale
counted PutUnique outcome = counts.Unique
counted (Share slot) (outcomes.Shared outcome) = share_count outcome
counted (Post slot) outcome = counts.Posted
counted (Promote file index) (outcomes.Promoted outcome) = promote_count outcome
counted action outcome = counts.Skipped

-- how often a count was raised
abbrev pub count_in : MergeCount → MergeCounts → ℕ
count_in counts.Stale m = m.stale
count_in counts.Unique m = m.unique
count_in counts.Linked m = m.linked
count_in counts.Already m = m.already
count_in counts.Differs m = m.differs
count_in counts.Gone m = m.gone
count_in counts.Posted m = m.posted
count_in counts.Full m = m.full
count_in counts.Skipped m = m.skipped
