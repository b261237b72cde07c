-- What a step of a plan did, and what is done first.
use Rattle.std.specs.Prelude.{◌≡◌, false, if◌then◌else◌, None, Some}
use Rattle.vol_base.specs.declared.answer.Next.{Next}
use Rattle.vol_base.specs.declared.answer.Next.TheVariants.{Answered, More, Work}
use Rattle.vol_base.specs.declared.answer.Step.{Step}
use Rattle.vol_base.specs.declared.block.Block.{Block}
use Rattle.vol_base.specs.declared.command.Command.{Command}
use Rattle.held_cache.specs.Kept.{Cache}
use Rattle.host_facts.specs.Views.{WorldView}
use Rattle.host_runs.specs.Awaited.{wanted}
use Rattle.host_runs.specs.Notes.{Notes}
use Rattle.plan_parts.specs.Steps.{IsAtRest, OwesStep}
use Rattle.file_plans.specs.Bases.{IsCached}
use Rattle.file_plans.specs.Calls.{Runs, is_write}
use Rattle.file_plans.specs.Sights.{MayPlace}
use Rattle.file_plans.specs.Stands.{At, NotedAt}
use Rattle.file_plans.specs.Went.{IsCutAt, Went}
use Rattle.lock_store.specs.declared.answers.StepNo.{StepNo}
use Rattle.file_plans.specs.declared.call.FileCall.{FileCall}
use Rattle.file_plans.specs.declared.state.Core.{Core}
use Rattle.file_plans.specs.declared.stage.Stage.{Stage}
use Rattle.file_plans.specs.declared.stage.Stage.TheVariants as stages

-- a write asks for the digest of its block first
abbrev pub first_of : FileCall → Stage
first_of call = if is_write call then stages.Asks else stages.Begins

-- the digest of this block is waited for, which the command asks for; nothing was done, and the plan stands as before
pub record IsWaiting (v w : WorldView) (d : Cache) (old new : Core) (before : Stage) (step : Step) (after : Stage) (block : Block) : Type 0 where
  pub from : before ≡ stages.Asks
  pub same : w ≡ v
  pub core : new ≡ old
  pub stage : after ≡ stages.Asks
  pub stands : At w d new stages.Asks
  pub called : step.called ≡ false
  pub placed : step.placed ≡ None
  pub wants : (command : Command) (n : Notes) → Runs command old.call → NotedAt command v old stages.Asks n
      → wanted v.locks.geometry command n.calls n.digests n.asks ≡ Some block

-- the command was answered: the turn owes nothing, its host is at rest, and what is kept for it is right
pub record IsEnded (v w : WorldView) (d : Cache) (old : Core) (before : Stage) (step : Step) : Type 0 where
  pub cached : IsCached w d old.host
  pub in_range : MayPlace v.locks.geometry old.call step.placed
  pub owes : (command : Command) → Runs command old.call
      → OwesStep command old.host v w step (NotedAt command v old before) (λ n. IsAtRest w old.host n)

-- what a step did, by what comes next
abbrev pub HasStepped : WorldView → WorldView → Cache → Core → Core → Stage → Step → Stage → Next → Type 0
HasStepped v w d old new before step after More = Went v w d old new before step after
HasStepped v w d old new before step after (Work block) = IsWaiting v w d old new before step after block
HasStepped v w d old new before step after (Answered answer) = IsEnded v w d old before step

-- a step was refused; none is where a digest is asked for
abbrev pub IsRefused : WorldView → WorldView → Core → Stage → StepNo → Type 0
IsRefused v w core stages.Asks why = ⊥
IsRefused v w core stage why = IsCutAt v w core stage why
