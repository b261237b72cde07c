-- What each call of `next` says: the step that it made, and the plan behind it.
use Rattle.std.specs.Prelude.{◌≡◌, ◌≢◌, ◌<◌, ◌≤◌, ℕ, List, Option}
use Rattle.vol_base.specs.declared.answer.Step.{Step}
use Rattle.vol_base.specs.declared.command.Command.{Command}
use Rattle.vol_base.specs.declared.command.Command.TheVariants as commands
use Rattle.lock_store.specs.declared.answers.StepNo.{StepNo}
use Rattle.lock_store.specs.declared.answers.StepNo.TheVariants.{NoMemory}
use Rattle.lock_store.specs.Memories.{dropped}
use Rattle.lock_store.specs.Views.{host_at}
use Rattle.watch.specs.declared.watch.Look.{Look}
use Rattle.watch.specs.Looks.{count_of, look_at}
use Rattle.host_facts.specs.Views.{WorldView}
use Rattle.plan_parts.specs.Steps.{IsReady, OwesStep}
use Rattle.recover_plan.specs.CallsLeft.{calls_left}
use Rattle.recover_plan.specs.KeptVolumes.{VolumeStays}
use Rattle.recover_plan.specs.KnownTables.{TablesStay}
use Rattle.recover_plan.specs.Plans.{Agrees, Behind, StandsBehind, command_of, later_of, step_of}
use Rattle.recover_plan.specs.declared.plan.Come.{Come}
use Rattle.recover_plan.specs.declared.plan.Doing.{Doing}
use Rattle.recover_plan.specs.declared.plan.Doing.TheVariants as doings

-- a command on slots, with another host in place of the own one
abbrev pub IsOfPlan : ℕ → Command → Type 0
IsOfPlan h commands.Join = Unit {0}
IsOfPlan h commands.Leave = Unit {0}
IsOfPlan h commands.Beat = Unit {0}
IsOfPlan h (commands.Look of) = of ≢ h
IsOfPlan h (commands.Recover of) = of ≢ h
IsOfPlan h command = ⊥

-- what it does first
abbrev pub first_of : Command → Doing
first_of commands.Join = doings.Register
first_of commands.Leave = doings.Unlock
first_of commands.Beat = doings.Beat
first_of (commands.Look of) = doings.Look of
first_of (commands.Recover of) = doings.Begin of
first_of command = doings.Ended

-- the plan of a command may begin: of a `join` while its host is down, and else while it is ready; a `look` and a `recover` are of a
-- host of the volume
abbrev pub MayBegin : WorldView → ℕ → Command → Type 0
MayBegin v h commands.Join = host_at v.locks h ≡ dropped
MayBegin v h (commands.Look of) = IsReady v h × (of < v.locks.geometry.hosts)
MayBegin v h (commands.Recover of) = IsReady v h × (of < v.locks.geometry.hosts)
MayBegin v h command = IsReady v h

-- a step may be refused for this: where a key is asked for only for want of memory, and a `recover` only where its host was seen three times
abbrev pub MayStop : List (Option Look) → Doing → StepNo → Type 0
MayStop watch doings.Register why = why ≡ NoMemory
MayStop watch (doings.Begin of) why = 3 ≤ count_of (look_at watch of)
MayStop watch doing why = Unit {0}

-- the step that was made owes what a run asks of it, the plan behind it stands, or its host is at rest, what the host knows of its
-- tables stays, and fewer steps are left
pub record HasStepped (h : ℕ) (v w : WorldView) (watch after : List (Option Look)) (doing later : Doing) (step : Step) : Type 0 where
  pub come : Come
  pub step_is : step ≡ step_of come
  pub later_is : later ≡ later_of come
  pub owes : OwesStep (command_of doing) h v w step (Agrees h v watch doing) (Behind h w after come)
  pub stands : StandsBehind w h after doing come
  pub tables : TablesStay h v w (command_of doing) step
  pub volume : VolumeStays v w (command_of doing) step
  pub fewer : calls_left w h later < calls_left v h doing
