-- A host as the cluster keeps it: what stands between two of its turns, and what one turn does.
use Rattle.std.specs.Prelude.{◌≡◌, ◌⊎◌, ◌+◌, ◌-◌, ◌<◌, ◌==◌, ℕ, Bool, true, false, Err, None, Ok, Option, Result, Some, is_none, is_some, if◌then◌else◌}
use Rattle.vol_base.specs.declared.answer.Answer.{Answer}
use Rattle.vol_base.specs.declared.answer.Answer.TheVariants.{Cut, Down, Fine, Up}
use Rattle.vol_base.specs.declared.answer.Step.{Step}
use Rattle.vol_base.specs.declared.plain.NoMemory.{NoMemory}
use Rattle.vol_base.specs.declared.command.Command.{Command}
use Rattle.vol_base.specs.declared.command.Command.TheVariants as commands
use Rattle.shared_disk.specs.Events.{Event}
use Rattle.held_cache.specs.Kept.{Cache}
use Rattle.histories.specs.Joined.{death_after}
use Rattle.host_facts.specs.Views.{WorldView}
use Rattle.host_notes.specs.Owes.{joined_in}
use Rattle.host_runs.specs.Notes.{Notes}
use Rattle.lock_store.specs.Memories.{dropped}
use Rattle.lock_store.specs.Views.{host_at}
use Rattle.plan_parts.specs.Steps.{IsReady, ended_of}
use Rattle.cluster.specs.HostTurns.{IsHostTurn}
use Rattle.cluster.specs.declared.carried.Carried.{Carried}
use Rattle.cluster.specs.Plans.{HasStepped, IsOf, IsPlanned, IsResting, PlanAt, PlanNoted, RestsWith}
use Rattle.cluster.specs.declared.plan.Plan.{Plan}
use Rattle.cluster.specs.declared.seat.Done.{Done}
use Rattle.cluster.specs.declared.seat.Seat.{Seat}

-- a command of the language that the cluster knows: a `die`, or one that a plan runs
abbrev pub IsKnown : ℕ → Command → Type 0
IsKnown h (commands.Die calls) = Unit {0}
IsKnown h command = IsPlanned h command

-- between two commands a host is ready, or was dropped
abbrev pub RestsAs : WorldView → ℕ → Option Plan → Type 0
RestsAs v h None = IsReady v h ⊎ (host_at v.locks h ≡ dropped)
RestsAs v h (Some plan) = Unit {0}

-- whether it is joined: between two commands exactly where it has a key, and in a command by its sort
abbrev pub joined_of : WorldView → ℕ → Command → Option Plan → Bool
joined_of v h command None = is_some (host_at v.locks h).key
joined_of v h command (Some plan) = joined_in command

-- what stands between two turns
abbrev pub PlanStandsOf : Command → WorldView → Cache → ℕ → Carried → Option Plan → Type 0
PlanStandsOf command v c h carried None = IsResting v c h carried
PlanStandsOf command v c h carried (Some plan) = IsOf h command plan × PlanAt v c h carried plan

-- the answer of a command that comes without a plan: `up` and `down` by whether the host is joined, and that of a `die`
abbrev pub at_once : Command → Bool → Option Answer
at_once commands.Join true = Some Up
at_once commands.Join false = None
at_once command false = Some Down
at_once (commands.Die calls) true = Some Fine
at_once command true = None

-- what its notes agree with
abbrev pub PlanNotedOf : Command → WorldView → ℕ → Carried → Option Plan → Notes → Type 0
PlanNotedOf command v h carried None n = RestsWith h v carried n
PlanNotedOf command v h carried (Some plan) n = PlanNoted command v h carried plan n

-- the calls that are left until the host dies: as many as its standing death has, but those that it made since
abbrev pub IsLeft : Option ℕ → ℕ → Option ℕ → Type 0
IsLeft None dying left = left ≡ None
IsLeft (Some n) dying left = (k : ℕ) × (left ≡ Some k) × (dying + k ≡ n) × (0 < k)

-- the standing death behind a turn
abbrev pub death_behind : Command → Option Answer → Option ℕ → Option ℕ
death_behind command None death = death
death_behind command (Some answer) death = death_after command answer death

-- what is left behind a call, and behind an answer
abbrev pub less : Option ℕ → Option ℕ
less None = None
less (Some k) = if k == 1 then None else Some (k - 1)

abbrev pub is_last : Option ℕ → Bool
is_last None = false
is_last (Some k) = k == 1

-- one step of the plan of a command, which is kept where the command goes on
pub record HasMoved (command : Command) (h : ℕ) (v w : WorldView) (d : Cache) (old new : Seat) (step : Step) : Type 0 where
  pub before : Plan
  pub after : Plan
  pub was : old.plan ≡ Some before
  pub stepped : HasStepped command h v w d old.carried new.carried before after step
  pub is : new.plan ≡ (if is_none (ended_of step.next) then Some after else None)
  pub left : new.left ≡ old.left

-- a step ended its command
abbrev pub is_answered : Result Step NoMemory → Bool
is_answered (Ok step) = is_some (ended_of step.next)
is_answered (Err no') = false

-- one turn: whatever the notes were that agreed with the seat, it is a turn of the host, and the notes behind it agree again
pub record MakesTurn (command : Command) (h : ℕ) (v w : WorldView) (d : Cache) (old new : Seat) (done : Done) : Type 0 where
  pub made : Option Event
  pub stands : PlanStandsOf command w d h new.carried new.plan
  pub plan : is_some new.plan ≡ is_none done.ended
  pub goes : done.ended ≡ None → joined_of v h command old.plan ≡ joined_in command
  pub turn : (death : Option ℕ) (n : Notes) → PlanNotedOf command v h old.carried old.plan n → IsLeft death n.dying old.left
      → (later : Notes)
      × IsHostTurn v.locks.geometry h (joined_of v h command old.plan) death command v.locks.disk w.locks.disk made done.placed done.ended n later
      × PlanNotedOf command w h new.carried new.plan later
      × IsLeft (death_behind command done.ended death) later.dying new.left

-- behind an answer by which the host is cut no death stands
abbrev pub left_behind : Option Answer → Option ℕ → Option ℕ
left_behind (Some (Cut by)) left = None
left_behind ended left = left
