-- What a step of the plan did.
use Rattle.std.specs.Prelude.{◌≡◌, ◌⊎◌, ◌<◌, ◌+◌, ℕ, None, Option, Some, false, true}
use Rattle.vol_base.specs.declared.answer.Answer.TheVariants.{Cut, Served}
use Rattle.vol_base.specs.declared.answer.CutBy.{CutBy}
use Rattle.vol_base.specs.declared.answer.Next.TheVariants as nexts
use Rattle.vol_base.specs.declared.answer.ServeCounts.{ServeCounts}
use Rattle.vol_base.specs.declared.answer.Step.{Step}
use Rattle.vol_base.specs.declared.block.Block.{Block}
use Rattle.vol_base.specs.declared.command.Command.TheVariants.{Serve}
use Rattle.vol_layout.specs.declared.kind.Kind.TheVariants as kinds
use Rattle.vol_layout.specs.Places.{place_of}
use Rattle.shared_disk.specs.Events.{Acts, Event, Tests}
use Rattle.host_facts.specs.Views.{WorldView}
use Rattle.host_runs.specs.NotedCalls.{ShowsKind}
use Rattle.host_runs.specs.Notes.{Notes}
use Rattle.plan_parts.specs.Steps.{IsAtRest, IsReady, OwesStep}
use Rattle.share_plans.specs.Closings.{KeepsHolds}
use Rattle.share_plans.specs.Went as share
use Rattle.share_plans.specs.Went.{came_of}
use Rattle.share_plans.specs.declared.share.SharePlan.{SharePlan}
use Rattle.share_plans.specs.declared.sharing.Shared.{Shared}
use Rattle.serve_plan.specs.Files.{IsNextHeld, behind_file}
use Rattle.serve_plan.specs.Plans.{Agrees, PlanStands, left}
use Rattle.serve_plan.specs.Requests.{IsAnswered, IsReadOf, empty_requests}
use Rattle.serve_plan.specs.declared.plan.Come.{Come}
use Rattle.serve_plan.specs.declared.plan.Come.TheVariants as comes
use Rattle.serve_plan.specs.declared.plan.Doing.{Doing}
use Rattle.serve_plan.specs.declared.plan.Doing.TheVariants as doings

-- the block of a file's requests was read, and what comes next follows from it
abbrev pub HasRead : ℕ → WorldView → WorldView → ServeCounts → ℕ → Come → Type 0
HasRead h v w counts f come =
    (e : Event) × (block : Block) × (next : Option ℕ) × Acts e v.locks.disk w.locks.disk
    × ShowsKind v.locks.geometry (kinds.Request f) block.0 (Some e) × IsNextHeld w h (f + 1) next
    × IsReadOf v.locks.geometry h f block next counts come

-- what the step did. The first held file is looked for, and where there is none no call is made; its block of requests is read; a share makes a
-- step; the block that was read is changed to an empty one by a test-and-set
abbrev pub Does : ℕ → WorldView → WorldView → ServeCounts → ServeCounts → Doing → Come → Type 0
Does h v w old new doings.Begins come =
    (new ≡ old)
    × ((IsNextHeld v h 0 None × (come ≡ comes.Uncalled (Served old)))
    ⊎ ((f : ℕ) × IsNextHeld v h 0 (Some f) × HasRead h v w old f come))
Does h v w old new (doings.Reads f) come = (new ≡ old) × HasRead h v w old f come
Does h v w old new (doings.Shares s plan) come =
    (after : SharePlan) × (answer : Option Shared)
    × share.Went v w plan.core after.core plan.stage (came_of after.stage answer) × IsAnswered h s after answer old new come
Does h v w old new (doings.Empties f block) come =
    (new ≡ old) × (e : Event) × (next : Option ℕ) × Acts e v.locks.disk w.locks.disk
    × (e.call ≡ Tests (place_of v.locks.geometry (kinds.Request f)) block.0 empty_requests) × IsNextHeld w h (f + 1) next
    × (come ≡ behind_file next old)
Does h v w old new doings.Ended come = ⊥

-- the step that says what was done, and what is done next
abbrev pub step_of : Come → Step
step_of (comes.More doing) = record { placed = None; called = true; next = nexts.More }
step_of (comes.Answered answer) = record { placed = None; called = true; next = nexts.Answered answer }
step_of (comes.Uncalled answer) = record { placed = None; called = false; next = nexts.Answered answer }

abbrev pub later_of : Come → Doing
later_of (comes.More doing) = doing
later_of come = doings.Ended

-- what stands behind it, and what the notes agree with there
abbrev pub StandsBehind : WorldView → ℕ → ServeCounts → Come → Type 0
StandsBehind w h counts (comes.More later) = PlanStands w h counts later
StandsBehind w h counts come = IsReady w h

abbrev pub Behind : ℕ → WorldView → ServeCounts → Come → Notes → Type 0
Behind h w counts (comes.More later) n = Agrees h w counts later n
Behind h w counts come n = IsAtRest w h n

-- a step made one device call or none, which is a turn of the run
pub record Went (h : ℕ) (v w : WorldView) (old new : ServeCounts) (doing : Doing) (come : Come) : Type 0 where
  pub owes : OwesStep Serve h v w (step_of come) (Agrees h v old doing) (Behind h w new come)
  pub does : Does h v w old new doing come
  pub stands : StandsBehind w h new come
  pub keeps : KeepsHolds h v w
  pub fewer : left w.locks.geometry (later_of come) < left v.locks.geometry doing

-- a step was refused, and cuts the command: the device is as before
pub record IsCutOff (h : ℕ) (v w : WorldView) (old : ServeCounts) (doing : Doing) (step : Step) : Type 0 where
  pub by : CutBy
  pub step_is : step ≡ step_of (comes.Answered (Cut by))
  pub state : w.locks.disk.state ≡ v.locks.disk.state
  pub owes : OwesStep Serve h v w step (Agrees h v old doing) (IsAtRest w h)

-- what a step did
abbrev pub HasStepped : ℕ → WorldView → WorldView → ServeCounts → ServeCounts → Doing → Doing → Step → Type 0
HasStepped h v w old new doing later step =
    ((come : Come) × Went h v w old new doing come × (step ≡ step_of come) × (later ≡ later_of come))
    ⊎ IsCutOff h v w old doing step
