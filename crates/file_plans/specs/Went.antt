-- What a step of a plan did.
use Rattle.plan_parts.specs.declared.taking.Taking.{Taking}
use Rattle.plan_parts.specs.declared.taking.Taking.TheVariants as taking
use Rattle.plan_parts.specs.declared.take_write.TakeWrite.{TakeWrite}
use Rattle.plan_parts.specs.declared.read_try.ReadTry.{ReadTry}
use Rattle.plan_parts.specs.declared.outcome.Outcome.TheVariants.{Busy}
use Rattle.vol_base.specs.declared.answer.Answer.TheVariants as answers
use Rattle.std.specs.Prelude.{None}
use Rattle.std.specs.Prelude.{Option}
use Rattle.vol_layout.specs.declared.geometry.Geometry.{Geometry}
use Rattle.file_plans.specs.Says.{Known}
use Rattle.file_plans.specs.Sights.{IsSight, MayPlace}
use Rattle.file_plans.specs.declared.sight.Sight.TheVariants.{Settled}
use Rattle.vol_base.specs.declared.plain.PlainReply.{PlainReply}
use Rattle.std.specs.Prelude.{true}
use Rattle.file_plans.specs.declared.stage.Stage.TheVariants as stages
use Rattle.plan_parts.specs.declared.outcome.Outcome.TheVariants.{Open, Placed}
use Rattle.plan_parts.specs.Steps.{answer_of}
use Rattle.vol_layout.specs.declared.kind.Resource.{Resource}
use Rattle.plan_parts.specs.declared.outcome.Outcome.{Outcome}
use Rattle.std.specs.Prelude.{[], ◌∷◌, List, Some, true}
use Rattle.vol_layout.specs.declared.kind.Table.{Table}
use Rattle.std.specs.Prelude.{◌≡◌, ◌≢◌, ℕ}
use Rattle.vol_base.specs.declared.answer.Next.{Next}
use Rattle.vol_base.specs.declared.answer.Next.TheVariants.{Answered, More, Work}
use Rattle.vol_base.specs.declared.answer.Step.{Step}
use Rattle.vol_base.specs.declared.command.Command.{Command}
use Rattle.lock_store.specs.declared.answers.StepNo.{StepNo}
use Rattle.held_cache.specs.Kept.{Cache, CanKeep, kept_at}
use Rattle.host_facts.specs.Views.{WorldView}
use Rattle.host_runs.specs.Notes.{Notes}
use Rattle.plan_parts.specs.Cuts.{IsCutBy}
use Rattle.plan_parts.specs.Steps.{IsAtRest, OwesStep}
use Rattle.file_plans.specs.Bases.{IsCached}
use Rattle.file_plans.specs.Calls.{Runs}
use Rattle.file_plans.specs.Stands.{At, NotedAt}
use Rattle.file_plans.specs.declared.state.Core.{Core}
use Rattle.file_plans.specs.declared.stage.Stage.{Stage}

-- what is kept for other hosts stays
pub record LeavesOthers (h : ℕ) (c d : Cache) : Type 0 where
  pub volume : d.volume ≡ c.volume
  pub others : (x : ℕ) (t : Table) → CanKeep c.volume x t → x ≢ h → kept_at d x t ≡ kept_at c x t

-- the plan stands where it goes on
abbrev pub StandsBehind : WorldView → Cache → Core → Next → Stage → Type 0
StandsBehind w d core More stage = At w d core stage
StandsBehind w d core (Work block) stage = ⊥
StandsBehind w d core (Answered answer) stage = Unit {0}

-- the notes agree where it goes on, and rest where it was answered
abbrev pub NotedBehind : Command → WorldView → Core → Next → Stage → Notes → Type 0
NotedBehind command w core More stage n = NotedAt command w core stage n
NotedBehind command w core (Work block) stage n = ⊥
NotedBehind command w core (Answered answer) stage n = IsAtRest w core.host n

-- a step was made from one stage to another: the turn owes nothing, what comes next stands, and what is kept for the host is right
pub record Went (v w : WorldView) (d : Cache) (old new : Core) (before : Stage) (step : Step) (after : Stage) : Type 0 where
  pub host : new.host ≡ old.host
  pub call : new.call ≡ old.call
  pub cached : IsCached w d old.host
  pub stands : StandsBehind w d new step.next after
  pub in_range : MayPlace v.locks.geometry old.call step.placed
  pub owes : (command : Command) → Runs command old.call
      → OwesStep command old.host v w step (NotedAt command v old before) (NotedBehind command w new step.next after)

-- a step was refused, and cuts the command
abbrev pub IsCutAt : WorldView → WorldView → Core → Stage → StepNo → Type 0
IsCutAt v w core stage why =
    (command : Command) → Runs command core.call → IsCutBy command core.host v w why (NotedAt command v core stage)

-- what comes behind a step by which no record stands: the locks that were taken are freed first; then the command is answered by what
-- it has come to, or goes on
abbrev pub IsRest : List Resource → Outcome → Next → Stage → Type 0
IsRest (r ∷ more) outcome next stage = (next ≡ More) × (stage ≡ stages.Frees)
IsRest [] Open next stage = (next ≡ More) × (stage ≡ stages.Sees)
IsRest [] outcome next stage = (next ≡ Answered (answer_of outcome)) × (stage ≡ stages.Over)

-- what comes behind the read of a table: the reply that it settles, or one more look
abbrev pub IsSettledBy : Geometry → Known → Core → Core → Step → Stage → Option PlainReply → Type 0
IsSettledBy g known old new step stage None = (new ≡ old) × (step ≡ record { placed = None; called = true; next = More }) × (stage ≡ stages.Sees)
IsSettledBy g known old new step stage (Some reply) =
    IsSight g known old.call (Settled reply) × (new ≡ record old { outcome = Placed reply }) × (step.placed ≡ Some reply)
    × (step.called ≡ true) × IsRest new.taken new.outcome step.next stage

abbrev pub IsSeen : Geometry → Known → Core → Core → Step → Stage → Type 0
IsSeen g known old new step stage = (reply : Option PlainReply) × IsSettledBy g known old new step stage reply

-- a step that made a call, and is not the place of one
abbrev pub step_of : Next → Step
step_of next = record { placed = None; called = true; next = next }

-- what comes behind a step towards a write hold, and towards a read hold
abbrev pub IsHeldBehind : Core → Core → Taking TakeWrite → Step → Stage → Type 0
IsHeldBehind old new (taking.More t) step stage = (new ≡ old) × (step ≡ step_of More) × (stage ≡ stages.Writes t)
IsHeldBehind old new taking.Taken step stage = (new ≡ old) × (step ≡ step_of More) × (stage ≡ stages.Sees)
IsHeldBehind old new (taking.Busy key) step stage =
    (new ≡ record old { outcome = Busy key }) × (step ≡ step_of (Answered (answers.Busy key))) × (stage ≡ stages.Over)

abbrev pub IsReadBehind : Core → Core → Taking ReadTry → Step → Stage → Type 0
IsReadBehind old new (taking.More t) step stage = (new ≡ old) × (step ≡ step_of More) × (stage ≡ stages.Reads t)
IsReadBehind old new taking.Taken step stage = (new ≡ old) × (step ≡ step_of More) × (stage ≡ stages.Sees)
IsReadBehind old new (taking.Busy key) step stage =
    (new ≡ record old { outcome = Busy key }) × (step ≡ step_of (Answered (answers.Busy key))) × (stage ≡ stages.Over)
