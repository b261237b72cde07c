-- What stands between two steps of the plan of a command on slots, and what its host's notes agree with there.
use Rattle.std.specs.Prelude.{◌≡◌, ◌≢◌, ◌≤◌, ◌<◌, ℕ, List, None, Option, Some, true, false}
use Rattle.vol_base.specs.declared.answer.Next.TheVariants as next
use Rattle.vol_base.specs.declared.answer.Step.{Step}
use Rattle.vol_base.specs.declared.command.Command.{Command}
use Rattle.vol_base.specs.declared.command.Command.TheVariants as commands
use Rattle.vol_layout.specs.declared.kind.Resource.{Resource}
use Rattle.vol_layout.specs.Ranges.{HasResource}
use Rattle.image_view.specs.HostKeys.{slot_state_at}
use Rattle.lock_store.specs.Memories.{claim_of, dropped, holds}
use Rattle.lock_store.specs.Views.{host_at, key_at}
use Rattle.disk_locks.specs.Sure.{Sure}
use Rattle.watch.specs.declared.watch.Look.{Look}
use Rattle.watch.specs.Looks.{count_of, look_at}
use Rattle.host_facts.specs.Facts.{locks_of}
use Rattle.host_facts.specs.Views.{WorldView}
use Rattle.host_runs.specs.Notes.{Notes}
use Rattle.plan_parts.specs.Steps.{IsReady, OwesStep}
use Rattle.recover_plan.specs.CallsLeft.{calls_left}
use Rattle.recover_plan.specs.KeptVolumes.{VolumeStays}
use Rattle.recover_plan.specs.KnownTables.{TablesStay}
use Rattle.recover_plan.specs.PlanSteps.{AreWatched, OpenNoted, RestsWith, called_step}
use Rattle.recover_plan.specs.RecoverNotes.{IsUnderWay, StageNoted}
use Rattle.recover_plan.specs.Replaying.{IsRecoverer, IsSwept}
use Rattle.recover_plan.specs.Stages.{Stands}
use Rattle.recover_plan.specs.declared.plan.Come.{Come}
use Rattle.recover_plan.specs.declared.plan.Come.TheVariants as comes
use Rattle.recover_plan.specs.declared.plan.Doing.{Doing}
use Rattle.recover_plan.specs.declared.plan.Doing.TheVariants as doings

-- a host that has freed its slot, and is to take its key off: it holds nothing, and the slot is free, which it left
pub record HasFreedSlot (v : WorldView) (h : ℕ) : Type 0 where
  pub key : key_at v.locks h ≢ 0
  pub none : (r : Resource) → HasResource v.locks.geometry r → holds (host_at v.locks h) r ≡ false
  pub free : Sure v.locks h (λ image. ((host_at v.locks h).freed ≡ true) × (slot_state_at v.locks.geometry image h ≡ 0))

-- a host that has a key, and is to enter its own slot, which it has not claimed
pub record IsEntering (v : WorldView) (h : ℕ) : Type 0 where
  pub base : IsRecoverer v h h
  pub unclaimed : claim_of (host_at v.locks h) h ≡ 0

-- a ready host that recovers another one, which it has seen unchanged three times
pub record IsRecovering (v : WorldView) (h of : ℕ) (watch : List (Option Look)) : Type 0 where
  pub ready : IsReady v h
  pub below : of < v.locks.geometry.hosts
  pub other : of ≢ h
  pub thrice : 3 ≤ count_of (look_at watch of)

-- the command of a plan
abbrev pub command_of : Doing → Command
command_of doings.Register = commands.Join
command_of doings.Enter = commands.Join
command_of doings.EnterAgain = commands.Join
command_of (doings.Over stage) = commands.Join
command_of (doings.Retake dead) = commands.Join
command_of doings.Unlock = commands.Leave
command_of doings.Fence = commands.Leave
command_of doings.Beat = commands.Beat
command_of (doings.Look of) = commands.Look of
command_of (doings.Begin of) = commands.Recover of
command_of (doings.First of stage) = commands.Recover of
command_of (doings.Again of stage) = commands.Recover of
command_of (doings.Free of dead) = commands.Recover of
command_of doings.Ended = commands.Beat

-- what the world is before each step
abbrev pub StandsAt : WorldView → ℕ → List (Option Look) → Doing → Type 0
StandsAt v h watch doings.Register = host_at v.locks h ≡ dropped
StandsAt v h watch doings.Enter = IsEntering v h
StandsAt v h watch doings.EnterAgain = IsEntering v h
StandsAt v h watch (doings.Over stage) = Stands v h h stage
StandsAt v h watch (doings.Retake dead) = IsSwept v h h dead.0 (locks_of v.locks.geometry)
StandsAt v h watch doings.Unlock = IsReady v h
StandsAt v h watch doings.Fence = HasFreedSlot v h
StandsAt v h watch doings.Beat = IsReady v h
StandsAt v h watch (doings.Look of) = IsReady v h × (of < v.locks.geometry.hosts)
StandsAt v h watch (doings.Begin of) = IsReady v h × (of < v.locks.geometry.hosts) × (of ≢ h)
StandsAt v h watch (doings.First of stage) = IsRecovering v h of watch × Stands v h of stage
StandsAt v h watch (doings.Again of stage) = IsRecovering v h of watch × Stands v h of stage
StandsAt v h watch (doings.Free of dead) = IsRecovering v h of watch × IsSwept v h of dead.0 (locks_of v.locks.geometry)
StandsAt v h watch doings.Ended = ⊥

-- with what its host remembers of the slots of other hosts
pub record PlanStands (v : WorldView) (h : ℕ) (watch : List (Option Look)) (doing : Doing) : Type 0 where
  pub host : h < v.locks.geometry.hosts
  pub at : StandsAt v h watch doing
  pub watched : AreWatched v h watch

-- the notes of a `join` or a `recover` that made so many tries
pub record TriesNoted (h of : ℕ) (v : WorldView) (watch : List (Option Look)) (k : ℕ) (n : Notes) : Type 0 where
  pub under_way : IsUnderWay h of v watch None None n
  pub count : n.tries.count ≡ k

-- what the notes agree with before each step
abbrev pub Agrees : ℕ → WorldView → List (Option Look) → Doing → Notes → Type 0
Agrees h v watch doings.Register n = TriesNoted h h v watch 0 n
Agrees h v watch doings.Enter n = TriesNoted h h v watch 0 n
Agrees h v watch doings.EnterAgain n = TriesNoted h h v watch 2 n
Agrees h v watch (doings.Over stage) n = StageNoted commands.Join h h watch 1 v stage n
Agrees h v watch (doings.Retake dead) n = IsUnderWay h h v watch (Some dead.0) None n
Agrees h v watch doings.Unlock n = OpenNoted commands.Leave h v watch n
Agrees h v watch doings.Fence n = OpenNoted commands.Leave h v watch n
Agrees h v watch doings.Beat n = OpenNoted commands.Beat h v watch n
Agrees h v watch (doings.Look of) n = OpenNoted (commands.Look of) h v watch n
Agrees h v watch (doings.Begin of) n = TriesNoted h of v watch 0 n
Agrees h v watch (doings.First of stage) n = StageNoted (commands.Recover of) h of watch 0 v stage n
Agrees h v watch (doings.Again of stage) n = StageNoted (commands.Recover of) h of watch 1 v stage n
Agrees h v watch (doings.Free of dead) n = IsUnderWay h of v watch (Some dead.0) None n
Agrees h v watch doings.Ended n = ⊥

-- the step that says what was done
abbrev pub step_of : Come → Step
step_of (comes.More doing) = called_step next.More
step_of (comes.Answered answer) = called_step (next.Answered answer)
step_of (comes.Uncalled answer) = record { placed = None; called = false; next = next.Answered answer }

-- what is done next
abbrev pub later_of : Come → Doing
later_of (comes.More doing) = doing
later_of come = doings.Ended

-- what stands behind it, and what the notes agree with there
abbrev pub StandsBehind : WorldView → ℕ → List (Option Look) → Doing → Come → Type 0
StandsBehind w h watch doing (comes.More later) = PlanStands w h watch later × (command_of later ≡ command_of doing)
StandsBehind w h watch doing come = AreWatched w h watch

abbrev pub Behind : ℕ → WorldView → List (Option Look) → Come → Notes → Type 0
Behind h w watch (comes.More later) n = Agrees h w watch later n
Behind h w watch come n = RestsWith h w watch n

-- what was done by a step of a plan
pub record Came (h : ℕ) (v w : WorldView) (watch after : List (Option Look)) (doing : Doing) (come : Come) : Type 0 where
  pub owes : OwesStep (command_of doing) h v w (step_of come) (Agrees h v watch doing) (Behind h w after come)
  pub stands : StandsBehind w h after doing come
  pub tables : TablesStay h v w (command_of doing) (step_of come)
  pub volume : VolumeStays v w (command_of doing) (step_of come)
  pub fewer : calls_left w h (later_of come) < calls_left v h doing
