-- A number that each turn lowers by which a command begins, goes on or is answered: 2 ^ 28 for each line of the phase without an answer, less
-- the turns that the commands under way have used.
use Rattle.std.specs.Prelude.{◌≡◌, ◌↔◌, ◌+◌, ◌-◌, ◌*◌, ◌<◌, ◌≤◌, ◌^◌, ℕ, Bool, List, None, false, if◌then◌else◌, length, slice_index_or, slice_set}
use Rattle.std.specs.List.{sum}
use Rattle.vol_base.specs.declared.answer.Turn.{Turn}
use Rattle.vol_base.specs.declared.answer.Turn.TheVariants.{Answered, Idle, Moved, Work}
use Rattle.cluster.specs.PlanTurns.{lines_left_of, seat_left_of}
use Rattle.cluster.specs.Runs.{Inv, IsIdle}
use Rattle.cluster.specs.Views.{BudgetView, ClusterView, PartsView, seat_at}

-- the turns that the command under way of a host has used
abbrev pub used_at : List ℕ → ℕ → ℕ
used_at used h = slice_index_or used h 0

-- by host; with those that are left they are fewer than 2 ^ 28, and none where no command is under way
pub record AreUsed (v : PartsView) (used : List ℕ) : Type 0 where
  pub long : length used ≡ v.workload.geometry.hosts
  pub free : (h : ℕ) → h < v.workload.geometry.hosts → (seat_at v h).plan ≡ None → used_at used h ≡ 0
  pub within : (h : ℕ) → h < v.workload.geometry.hosts → used_at used h + seat_left_of v h < 2 ^ 28

pub record IsBudget (v : PartsView) (used : List ℕ) (left : ℕ) : Type 0 where
  pub are : AreUsed v used
  pub is : left + sum used ≡ lines_left_of v * 2 ^ 28

-- a command begins or goes on
abbrev pub with_turn : BudgetView → ℕ → BudgetView
with_turn b h = record { used = slice_set b.used h (used_at b.used h + 1); left = b.left - 1 }

pub record CanGoOn (b : BudgetView) (h : ℕ) : Type 0 where
  pub host : h < length b.used
  pub few : used_at b.used h < 2 ^ 28
  pub some : 0 < b.left

-- it is answered
abbrev pub with_end : BudgetView → ℕ → BudgetView
with_end b h = record { used = slice_set b.used h 0; left = b.left - (2 ^ 28 - used_at b.used h) }

pub record CanEnd (b : BudgetView) (h : ℕ) : Type 0 where
  pub host : h < length b.used
  pub few : used_at b.used h < 2 ^ 28
  pub some : 2 ^ 28 - used_at b.used h ≤ b.left

-- behind a turn of a host
abbrev pub counted : BudgetView → ℕ → Turn → BudgetView
counted b h Moved = with_turn b h
counted b h (Answered answer) = with_end b h
counted b h (Work block) = b
counted b h Idle = b

-- behind a digest that is handed in
abbrev pub supplied_in : BudgetView → ℕ → Bool → BudgetView
supplied_in b h waits = if waits then with_turn b h else b

abbrev pub CanCount : BudgetView → ℕ → Turn → Type 0
CanCount b h Moved = CanGoOn b h
CanCount b h (Answered answer) = CanEnd b h
CanCount b h (Work block) = Unit {0}
CanCount b h Idle = Unit {0}

-- of a cluster at every time; until memory is refused the number is that of the budget
pub record IsMeasured (v : ClusterView) : Type 0 where
  pub none : (v.budget.left ≡ 0) ↔ IsIdle v.parts
  pub live : v.spent ≡ false → IsBudget v.parts v.budget.used v.budget.left

-- what holds of a cluster between any two calls
pub record IsKept (v : ClusterView) : Type 0 where
  pub inv : Inv v
  pub measured : IsMeasured v
