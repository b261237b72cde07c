-- The plan of a command: which one runs it, what stands between two of its steps, and what its host's notes agree with there.
use Rattle.std.specs.Prelude.{◌≡◌, ℕ, [], None}
use Rattle.vol_base.specs.declared.answer.Answer.TheVariants.{Cut}
use Rattle.vol_base.specs.declared.answer.Next.{Next}
use Rattle.vol_base.specs.declared.answer.Next.TheVariants.{Answered, More, Work}
use Rattle.vol_base.specs.declared.answer.Step.{Step}
use Rattle.vol_base.specs.declared.command.Command.{Command}
use Rattle.vol_base.specs.declared.command.Command.TheVariants as commands
use Rattle.file_plans.specs.Bases.{IsCached}
use Rattle.file_plans.specs.Calls.{Runs}
use Rattle.file_plans.specs.Plans.{first_of}
use Rattle.file_plans.specs.Stands.{At, NotedAt}
use Rattle.file_plans.specs.declared.plan.FilePlan.{FilePlan}
use Rattle.held_cache.specs.Kept.{Cache, ForgetsHost}
use Rattle.host_facts.specs.Views.{WorldView}
use Rattle.host_runs.specs.Awaited.{wanted}
use Rattle.host_runs.specs.Notes.{Notes}
use Rattle.plan_parts.specs.Steps.{IsAtRest, OwesStep}
use Rattle.plan_parts.specs.declared.outcome.Outcome.TheVariants.{Open}
use Rattle.merge_plan.specs.Plans as merges
use Rattle.merge_plan.specs.declared.plan.Doing.TheVariants as merge_doings
use Rattle.recover_plan.specs.Nexts as slots
use Rattle.recover_plan.specs.PlanSteps.{AreWatched}
use Rattle.hint_plans.specs.Nexts as hint_steps
use Rattle.hint_plans.specs.Plans as hints
use Rattle.recover_plan.specs.Plans.{Agrees, PlanStands, command_of}
use Rattle.serve_plan.specs.Plans as serves
use Rattle.serve_plan.specs.declared.plan.Doing.TheVariants.{Begins}
use Rattle.serve_plan.specs.laws.StillLaws.{no_counts}
use Rattle.share_plans.specs.Gatherings as collections
use Rattle.share_plans.specs.declared.collect.CollectPlan.{CollectPlan}
use Rattle.share_plans.specs.declared.collection.Gathering.TheVariants.{LocksPart}
use Rattle.share_plans.specs.laws.GatheringStays.{begun}
use Rattle.cluster.specs.declared.plan.Plan.{Plan}
use Rattle.cluster.specs.Carries.{IsCarried, IsWriteNoted}
use Rattle.cluster.specs.declared.plan.Plan.TheVariants.{Collects, Files, Hints, Merges, Serves, Slots}
use Rattle.cluster.specs.declared.carried.Carried.{Carried}

-- a command that a plan runs: one on a file, the closing of a file, a collection, one on hints, a serve, a merge, or one on slots that is not of the
-- host's own
abbrev pub IsPlanned : ℕ → Command → Type 0
IsPlanned h (commands.Create f) = Unit {0}
IsPlanned h (commands.Size f n) = Unit {0}
IsPlanned h (commands.Write f i n) = Unit {0}
IsPlanned h (commands.Read f i) = Unit {0}
IsPlanned h (commands.Punch f i) = Unit {0}
IsPlanned h (commands.Remove f) = Unit {0}
IsPlanned h (commands.Close f) = Unit {0}
IsPlanned h (commands.Collect p) = Unit {0}
IsPlanned h commands.Log = Unit {0}
IsPlanned h (commands.Scan f i) = Unit {0}
IsPlanned h (commands.Scribble place n seen) = Unit {0}
IsPlanned h commands.Serve = Unit {0}
IsPlanned h commands.Merge = Unit {0}
IsPlanned h command = slots.IsOfPlan h command

-- the plan is this host's, and runs the command
abbrev pub IsOf : ℕ → Command → Plan → Type 0
IsOf h command (Files plan) = (plan.core.host ≡ h) × Runs command plan.core.call
IsOf h command (Slots plan) = (plan.host ≡ h) × (command_of plan.doing ≡ command)
IsOf h command (Collects plan) = (plan.core.host ≡ h) × (commands.Collect plan.core.part ≡ command)
IsOf h command (Hints plan) = (plan.host ≡ h) × (hints.command_of plan.doing ≡ command)
IsOf h command (Serves plan) = (plan.host ≡ h) × (commands.Serve ≡ command)
IsOf h command (Merges plan) = (plan.host ≡ h) × (commands.Merge ≡ command)

-- a plan on a file before its first step: it has taken nothing, and come to nothing
pub record IsFirst (plan : FilePlan) : Type 0 where
  pub taken : plan.core.taken ≡ []
  pub comes : plan.core.outcome ≡ Open
  pub stage : plan.stage ≡ first_of plan.core.call

-- a collection before its first step
pub record IsFirstCollection (h : ℕ) (command : Command) (plan : CollectPlan) : Type 0 where
  pub part : ℕ
  pub command_is : command ≡ commands.Collect part
  pub core : plan.core ≡ begun h part
  pub stage : plan.stage ≡ LocksPart

-- the plan of a command at its beginning
abbrev pub IsBegun : ℕ → Command → Plan → Type 0
IsBegun h command (Files plan) = (plan.core.host ≡ h) × Runs command plan.core.call × IsFirst plan
IsBegun h command (Slots plan) = (plan.host ≡ h) × (plan.doing ≡ slots.first_of command) × slots.IsOfPlan h command
IsBegun h command (Collects plan) = IsFirstCollection h command plan
IsBegun h command (Hints plan) = (plan.host ≡ h) × (plan.doing ≡ hint_steps.first_of command) × hint_steps.IsOfPlan command
IsBegun h command (Serves plan) = (plan.host ≡ h) × (commands.Serve ≡ command) × (plan.counts ≡ no_counts) × (plan.doing ≡ Begins)
IsBegun h command (Merges plan) = (plan.host ≡ h) × (commands.Merge ≡ command) × (plan.doing ≡ merge_doings.Begins)

-- between two commands: what a host keeps beside its plan is right, and so is what is kept of tables for it
pub record IsResting (v : WorldView) (c : Cache) (h : ℕ) (carried : Carried) : Type 0 where
  pub watched : AreWatched v h carried.watch
  pub volume : carried.pending.geometry ≡ v.locks.geometry
  pub cached : IsCached v c h

-- and its notes agree with both
pub record RestsWith (h : ℕ) (v : WorldView) (carried : Carried) (n : Notes) : Type 0 where
  pub rests : IsAtRest v h n
  pub watch_is : n.watch ≡ carried.watch
  pub pending_is : n.pending ≡ carried.pending.entries

-- what stands before each step: the plan, what its host keeps beside it, and what is kept of tables for it
abbrev pub PlanAt : WorldView → Cache → ℕ → Carried → Plan → Type 0
PlanAt v c h carried (Files plan) = At v c plan.core plan.stage × IsCarried v h carried
PlanAt v c h carried (Slots plan) =
    PlanStands v h carried.watch plan.doing × IsCached v c h × (carried.pending.geometry ≡ v.locks.geometry)
PlanAt v c h carried (Collects plan) = collections.At v plan.core plan.stage × IsResting v c h carried
PlanAt v c h carried (Hints plan) = hints.PlanStands v h carried.pending plan.doing × IsResting v c h carried
PlanAt v c h carried (Serves plan) = serves.PlanStands v h plan.counts plan.doing × IsResting v c h carried
PlanAt v c h carried (Merges plan) = merges.PlanStands v h carried.room plan.doing × IsResting v c h carried

-- what the notes agree with there; no digest is waited for but by a command on hints or a merge
abbrev pub PlanNoted : Command → WorldView → ℕ → Carried → Plan → Notes → Type 0
PlanNoted command v h carried (Files plan) n =
    NotedAt command v plan.core plan.stage n × (n.watch ≡ carried.watch)
    × (wanted v.locks.geometry command n.calls n.digests n.asks ≡ None) × (n.pending ≡ carried.pending.entries)
    × IsWriteNoted v.locks.geometry command carried.digest n
PlanNoted command v h carried (Slots plan) n = Agrees h v carried.watch plan.doing n × (n.pending ≡ carried.pending.entries)
PlanNoted command v h carried (Collects plan) n =
    collections.NotedAt v plan.core plan.stage n × (n.watch ≡ carried.watch) × (n.pending ≡ carried.pending.entries)
PlanNoted command v h carried (Hints plan) n = hints.Agrees h v carried.pending.entries plan.doing n × (n.watch ≡ carried.watch)
PlanNoted command v h carried (Serves plan) n =
    serves.Agrees h v plan.counts plan.doing n × (n.watch ≡ carried.watch) × (n.pending ≡ carried.pending.entries)
PlanNoted command v h carried (Merges plan) n =
    merges.Agrees h v carried.pending.entries carried.room plan.doing n × (n.watch ≡ carried.watch)

-- behind a step: the plan stands, or its host is between two commands
abbrev pub StandsBehind : Command → WorldView → Cache → ℕ → Carried → Plan → Next → Type 0
StandsBehind command w d h carried plan (Answered answer) = IsResting w d h carried
StandsBehind command w d h carried plan (Work block) = ⊥
StandsBehind command w d h carried plan More = IsOf h command plan × PlanAt w d h carried plan

abbrev pub NotedBehind : Command → WorldView → ℕ → Carried → Plan → Next → Notes → Type 0
NotedBehind command w h carried plan (Answered answer) n = RestsWith h w carried n
NotedBehind command w h carried plan (Work block) n = ⊥
NotedBehind command w h carried plan More n = PlanNoted command w h carried plan n

-- what a step did: it owes nothing to a turn of a run, and what comes behind it stands
pub record HasStepped (command : Command) (h : ℕ) (v w : WorldView) (d : Cache) (carried after : Carried) (old new : Plan) (step : Step)
    : Type 0 where
  pub owes : OwesStep command h v w step (PlanNoted command v h carried old) (NotedBehind command w h after new step.next)
  pub stands : StandsBehind command w d h after new step.next

-- what is kept of tables for a host over a step on slots or a step that shares blocks: those of a host that stays joined and shares none; and none
-- behind a cut
abbrev pub ForgetsFor : Command → ℕ → Cache → Cache → Type 0
ForgetsFor commands.Beat h c d = d ≡ c
ForgetsFor (commands.Look of) h c d = d ≡ c
ForgetsFor (commands.Recover of) h c d = d ≡ c
ForgetsFor command h c d = ForgetsHost c d h

abbrev pub ForgetsBehind : Next → ℕ → Cache → Cache → Type 0
ForgetsBehind (Answered (Cut by)) h c d = ForgetsHost c d h
ForgetsBehind next h c d = d ≡ c
