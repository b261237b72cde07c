-- What a contract sees of the cluster.
use Rattle.std.specs.Prelude.{◌≡◌, ℕ, Bool, List, [], None, Option, slice_index_or}
use Rattle.std.specs.Option.{option_map_or}
use Rattle.vol_base.specs.declared.answer.Answer.{Answer}
use Rattle.vol_base.specs.declared.answer.MergeCounts.{MergeCounts}
use Rattle.vol_base.specs.declared.command.Command.{Command}
use Rattle.vol_base.specs.declared.command.Command.TheVariants.{Beat}
use Rattle.plain_files.specs.declared.history.Placed.{Placed}
use Rattle.workload.specs.declared.line.Line.{Line}
use Rattle.workload.specs.declared.line.Workload.{Workload}
use Rattle.shared_disk.specs.Seen.{DiskSeen}
use Rattle.held_cache.specs.Kept.{Cache}
use Rattle.host_facts.specs.Views.{WorldView}
use Rattle.host_runs.specs.NextLines.{line_at, next_line}
use Rattle.host_runs.specs.Notes.{Notes}
use Rattle.host_runs.specs.RunStates.{RunEvent, RunState}
use Rattle.vol_layout.specs.declared.geometry.Geometry.{Geometry}
use Rattle.merge_plan.specs.declared.room.MergeRoom.{MergeRoom}
use Rattle.watch.specs.Looks.{nothing}
use Rattle.cluster.specs.Carries.{IsFresh}
use Rattle.cluster.specs.declared.seat.Seat.{Seat}

-- what came to be known: the answers by position, the history, and its entries and the answers in the order in which they came
pub record LedgerView : Type 0 where
  pub answers : List (Option Answer)
  pub history : List Placed
  pub events : List RunEvent

-- the hosts over their one world, with what is kept of tables for them, the workload, its phase, and what came to be known; for each
-- host the position of its first command without an answer, and its seat
pub record PartsView : Type 0 where
  pub world : WorldView
  pub cache : Cache
  pub workload : Workload
  pub phase : ℕ
  pub ledger : LedgerView
  pub heads : List (Option ℕ)
  pub seats : List Seat

-- by host the turns that its command under way has used, and the turns that the phase has left at most
pub record BudgetView : Type 0 where
  pub used : List ℕ
  pub left : ℕ

-- the device at the beginning, whether a turn was refused memory, the parts, and the turns that are left
pub record ClusterView : Type 0 where
  pub began : DiskSeen
  pub spent : Bool
  pub parts : PartsView
  pub budget : BudgetView

-- the seat of a host that has not begun
pub record IsFirstSeat (g : Geometry) (seat : Seat) : Type 0 where
  pub plan : seat.plan ≡ None
  pub carried : IsFresh g seat.carried
  pub left : seat.left ≡ None

-- one of no host, for the numbers behind the last one's
abbrev pub no_counts : MergeCounts
no_counts = record { stale = 0; unique = 0; linked = 0; already = 0; differs = 0; gone = 0; posted = 0; full = 0; skipped = 0 }

abbrev pub no_room : Geometry → MergeRoom
no_room g =
    record {
      logs = [];
      filled = [];
      read = [];
      sweep = record { at = 0; counts = no_counts; shelf = record { geometry = g; blocks = 0; entries = [] } };
    }

abbrev pub no_seat : Geometry → Seat
no_seat g =
    record {
      plan = None;
      carried = record { watch = nothing; pending = record { geometry = g; entries = [] }; digest = None; room = no_room g };
      left = None;
    }

-- the seat of a host, and the position of its first command without an answer
abbrev pub seat_at : PartsView → ℕ → Seat
seat_at v h = slice_index_or v.seats h (no_seat v.workload.geometry)

abbrev pub head_at : PartsView → ℕ → Option ℕ
head_at v h = slice_index_or v.heads h None

-- the device as it is seen
abbrev pub disk_of : PartsView → DiskSeen
disk_of v = v.world.locks.disk

-- the state of a run with these notes
abbrev pub state_of : PartsView → (ℕ → Notes) → RunState
state_of v notes =
    record {
      device = disk_of v;
      phase = v.phase;
      answers = v.ledger.answers;
      history = v.ledger.history;
      events = v.ledger.events;
      notes = notes;
    }

-- the line that a host is at, and its command; any command where it is at none
abbrev pub line_of : PartsView → ℕ → Option Line
line_of v h = line_at v.workload.lines (next_line v.workload.lines v.ledger.answers v.phase h)

abbrev pub at_command : PartsView → ℕ → Command
at_command v h = option_map_or (λ line. line.command) (line_of v h) Beat
