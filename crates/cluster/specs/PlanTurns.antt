-- How many turns a command under way may still take, and that each turn by which it goes on leaves fewer.
use Rattle.std.specs.Prelude.{◌≡◌, ◌≢◌, ◌<◌, ◌≤◌, ◌+◌, ◌-◌, ◌^◌, ℕ, true, None, Option, Some, is_some}
use Rattle.vol_base.specs.declared.answer.Answer.{Answer}
use Rattle.vol_base.specs.declared.answer.Next.{Next}
use Rattle.vol_base.specs.declared.answer.Next.TheVariants.{More}
use Rattle.vol_base.specs.declared.answer.Turn.{Turn}
use Rattle.vol_base.specs.declared.answer.Turn.TheVariants.{Answered, Idle, Moved, Work}
use Rattle.vol_base.specs.declared.block.Block.{Block}
use Rattle.file_plans.specs.Turns.{turns_at}
use Rattle.held_cache.specs.Kept.{Cache}
use Rattle.hint_plans.specs.Plans as hints
use Rattle.host_facts.specs.Views.{WorldView}
use Rattle.merge_plan.specs.Plans as merges
use Rattle.recover_plan.specs.CallsLeft.{calls_left}
use Rattle.serve_plan.specs.Plans as serves
use Rattle.share_plans.specs.Gatherings.{left}
use Rattle.cluster.specs.LinesLeft.{lines_left}
use Rattle.cluster.specs.Parts.{asked_of}
use Rattle.cluster.specs.Views.{PartsView, seat_at}
use Rattle.cluster.specs.declared.carried.Carried.{Carried}
use Rattle.cluster.specs.declared.plan.Plan.{Plan}
use Rattle.cluster.specs.declared.plan.Plan.TheVariants.{Collects, Files, Hints, Merges, Serves, Slots}
use Rattle.cluster.specs.declared.seat.Seat.{Seat}

-- of a plan: its steps, and the turn in which a digest is handed in
abbrev pub plan_left : WorldView → Cache → Carried → Plan → ℕ
plan_left v c carried (Files plan) = turns_at v c plan.core plan.stage
plan_left v c carried (Slots plan) = calls_left v plan.host plan.doing
plan_left v c carried (Collects plan) = left plan.core plan.stage
plan_left v c carried (Hints plan) = hints.left v.locks.geometry plan.doing
plan_left v c carried (Serves plan) = serves.left v.locks.geometry plan.doing
plan_left v c carried (Merges plan) = merges.left carried.room plan.doing

-- of a host: none where no command is under way
abbrev pub seat_left : WorldView → Cache → Carried → Option Plan → ℕ
seat_left v c carried None = 0
seat_left v c carried (Some plan) = plan_left v c carried plan

-- behind the turn by which a command goes on or begins fewer than this are left: those before it, and 2 ^ 28 - 1 where none was under way,
-- since no command has 2 ^ 28 turns at its beginning
abbrev pub turn_limit : WorldView → Cache → Carried → Option Plan → ℕ
turn_limit v c carried None = 2 ^ 28 - 1
turn_limit v c carried (Some plan) = plan_left v c carried plan

-- where a plan goes on, fewer turns are left
abbrev pub IsSooner : WorldView → Cache → Carried → Plan → WorldView → Cache → Carried → Plan → Next → Type 0
IsSooner v c carried old w d after new next = next ≡ More → plan_left w d after new < plan_left v c carried old

-- where a command goes on behind a turn of its host
abbrev pub GoesSooner : WorldView → Cache → Seat → WorldView → Cache → Seat → Option Answer → Type 0
GoesSooner v c old w d new ended = ended ≡ None → seat_left w d new.carried new.plan < turn_limit v c old.carried old.plan

-- of a host of the cluster
abbrev pub seat_left_of : PartsView → ℕ → ℕ
seat_left_of v h = seat_left v.world v.cache (seat_at v h).carried (seat_at v h).plan

abbrev pub turn_limit_of : PartsView → ℕ → ℕ
turn_limit_of v h = turn_limit v.world v.cache (seat_at v h).carried (seat_at v h).plan

-- how many lines of the phase have no answer
abbrev pub lines_left_of : PartsView → ℕ
lines_left_of v = lines_left v.workload.lines v.ledger.answers v.phase

-- a turn of a host leaves the plans of all others, and no more turns of each of them
pub record LeavesTurns (v : PartsView) (h : ℕ) (u : PartsView) : Type 0 where
  pub workload : u.workload ≡ v.workload
  pub plan : (k : ℕ) → k ≢ h → (seat_at u k).plan ≡ (seat_at v k).plan
  pub left : (k : ℕ) → k < v.workload.geometry.hosts → k ≢ h → seat_left_of u k ≤ seat_left_of v k

-- the command of the host goes on, or begins; no line got an answer
pub record HasGoneOn (v : PartsView) (h : ℕ) (u : PartsView) : Type 0 where
  pub lines : lines_left_of u ≡ lines_left_of v
  pub busy : is_some (seat_at u h).plan ≡ true
  pub sooner : seat_left_of u h < turn_limit_of v h
  pub others : LeavesTurns v h u

-- it was answered, so one line less is left
pub record HasEnded (v : PartsView) (h : ℕ) (u : PartsView) : Type 0 where
  pub lines : lines_left_of u + 1 ≡ lines_left_of v
  pub free : (seat_at u h).plan ≡ None
  pub others : LeavesTurns v h u

-- by what the turn was
abbrev pub IsSoonerFor : PartsView → ℕ → Turn → PartsView → Type 0
IsSoonerFor v h Moved u = HasGoneOn v h u
IsSoonerFor v h (Answered answer) u = HasEnded v h u
IsSoonerFor v h (Work block) u = u ≡ v
IsSoonerFor v h Idle u = u ≡ v

-- a digest was handed in, where the host waited for one: its command begins, or goes on
abbrev pub IsSuppliedFor : Option Block → PartsView → ℕ → PartsView → Type 0
IsSuppliedFor None v h u = u ≡ v
IsSuppliedFor (Some block) v h u = (asked_of u h ≡ None) × HasGoneOn v h u

abbrev pub IsSuppliedTurns : PartsView → ℕ → PartsView → Type 0
IsSuppliedTurns v h u = IsSuppliedFor (asked_of v h) v h u
