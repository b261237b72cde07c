-- What each call of `next` says: the step that it made, and the plan behind it.
use Rattle.std.specs.Prelude.{◌≡◌, ◌+◌, ◌<◌, ℕ}
use Rattle.vol_base.specs.declared.answer.Answer.TheVariants as answers
use Rattle.vol_layout.specs.declared.geometry.Geometry.{Geometry}
use Rattle.host_runs.specs.Rests.{hint_pushed}
use Rattle.plan_parts.specs.declared.take_write.TakeWrite.{TakeWrite}
use Rattle.plan_parts.specs.declared.taking.Taking.{Taking}
use Rattle.plan_parts.specs.declared.taking.Taking.TheVariants as taking
use Rattle.hint_plans.specs.Scans.{index_at}
use Rattle.hint_plans.specs.declared.plan.Come.TheVariants as comes
use Rattle.hint_plans.specs.declared.scan.Scan.{Scan}
use Rattle.vol_base.specs.declared.answer.Step.{Step}
use Rattle.vol_base.specs.declared.block.Digest.{Digest}
use Rattle.vol_base.specs.declared.command.Command.{Command}
use Rattle.vol_base.specs.declared.command.Command.TheVariants as commands
use Rattle.hint_blocks.specs.declared.entry.LogEntry.{LogEntry}
use Rattle.hint_blocks.specs.HintLists.{HintList}
use Rattle.host_facts.specs.Views.{WorldView}
use Rattle.hint_plans.specs.Plans.{HasCome, MayHint, later_of, step_of}
use Rattle.hint_plans.specs.declared.plan.Come.{Come}
use Rattle.hint_plans.specs.declared.plan.Doing.{Doing}
use Rattle.hint_plans.specs.declared.plan.Doing.TheVariants as doings

-- a command on hints
abbrev pub IsOfPlan : Command → Type 0
IsOfPlan commands.Log = Unit {0}
IsOfPlan (commands.Scribble place k seen) = Unit {0}
IsOfPlan (commands.Scan f i) = Unit {0}
IsOfPlan command = ⊥

-- the file of a scan is one of the volume
abbrev pub HasPlace : Geometry → Command → Type 0
HasPlace g (commands.Scan f i) = f < g.files
HasPlace g command = Unit {0}

-- what it does first
abbrev pub first_of : Command → Doing
first_of (commands.Scribble place k seen) = doings.Asks (record { place = place; number = k; seen = seen })
first_of commands.Log = doings.ReadsLog 0
first_of (commands.Scan f i) = doings.BeginsScan f i
first_of command = doings.Ended

-- what is done with the digest that was waited for
abbrev pub supplied : Digest → Doing → Doing
supplied digest (doings.Asks s) = doings.Puts s digest
supplied digest (doings.AsksBlock s block) = doings.ReadsBlock (record s { done = s.done + 1 })
supplied digest doing = doing

-- the pending hints with that of the digest of the block that a scan read last
abbrev pub hinted : Scan → Digest → HintList LogEntry → HintList LogEntry
hinted s digest pending = record pending { entries = hint_pushed s.file pending.entries (digest, index_at s) }

abbrev pub pending_behind : Digest → Doing → HintList LogEntry → HintList LogEntry
pending_behind digest (doings.AsksBlock s block) pending = hinted s digest pending
pending_behind digest doing pending = pending

-- the next block may become one
abbrev pub MaySupply : Geometry → Doing → Type 0
MaySupply g (doings.AsksBlock s block) = MayHint g s
MaySupply g doing = Unit {0}

-- what comes behind a step towards the hold of a file
abbrev pub behind_hold : ℕ → ℕ → Taking TakeWrite → Come
behind_hold f i (taking.More t) = comes.More (doings.HoldsFile f i t)
behind_hold f i taking.Taken = comes.More (doings.ReadsHead f i)
behind_hold f i (taking.Busy key) = comes.Answered (answers.Busy key)

-- the step says what was done, and so does the plan behind it
pub record HasStepped (h : ℕ) (v w : WorldView) (pending after : HintList LogEntry) (doing later : Doing) (step : Step) : Type 0 where
  pub come : Come
  pub step_is : step ≡ step_of come
  pub later_is : later ≡ later_of come
  pub came : HasCome h v w pending after doing come
