-- What each call of the parts does.
use Rattle.std.specs.Prelude.{◌≡◌, ◌≢◌, ◌+◌, ◌++◌, ◌<◌, ◌≤◌, ◌==◌, ℕ, IsSome, IsTrue, List, None, Option, Some, is_some, slice_get, slice_set, if◌then◌else◌}
use Rattle.vol_base.specs.declared.answer.Answer.{Answer}
use Rattle.vol_base.specs.declared.block.Block.{Block}
use Rattle.vol_base.specs.declared.command.Command.{Command}
use Rattle.vol_base.specs.declared.block.Digest.{Digest}
use Rattle.workload.specs.declared.line.Line.{Line}
use Rattle.file_plans.specs.Went.{LeavesOthers}
use Rattle.held_cache.specs.Kept.{Cache}
use Rattle.histories.specs.Lines.{IsLine}
use Rattle.host_facts.specs.Others.{Others}
use Rattle.host_facts.specs.Views.{WorldView}
use Rattle.host_runs.specs.RunStates.{answered, entry_at, events_at}
use Rattle.lock_store.specs.Views.{host_at}
use Rattle.host_runs.specs.Notes.{Notes}
use Rattle.workload.specs.Ranges.{is_in_range}
use Rattle.cluster.specs.Asking.{asked_with}
use Rattle.cluster.specs.Hands.{IsHandedIn}
use Rattle.cluster.specs.Seats.{IsKnown, MakesTurn, PlanNotedOf, PlanStandsOf}
use Rattle.cluster.specs.Views.{LedgerView, PartsView, line_of, seat_at}
use Rattle.cluster.specs.declared.seat.Done.{Done}
use Rattle.cluster.specs.declared.seat.Seat.{Seat}

-- the block whose digest a host waits for, which is at this command
abbrev pub asked_by : PartsView → ℕ → Command → Option Block
asked_by v h command = asked_with v.workload.geometry (seat_at v h).plan (is_some (host_at v.world.locks h).key) command

abbrev pub asked_at : PartsView → ℕ → Option Line → Option Block
asked_at v h None = None
asked_at v h (Some line) = asked_by v h line.command

abbrev pub asked_of : PartsView → ℕ → Option Block
asked_of v h = asked_at v h (line_of v h)

-- the first line of a host from a position on
pub record IsOwnFrom (lines : List Line) (from h p : ℕ) : Type 0 where
  pub line : Line
  pub is : IsLine lines p line
  pub host : line.host ≡ h
  pub later : from ≤ p
  pub first : (q : ℕ) (l : Line) → from ≤ q → q < p → IsLine lines q l → l.host ≢ h

abbrev pub IsOpenFrom : List Line → ℕ → ℕ → Option ℕ → Type 0
IsOpenFrom lines from h None = (q : ℕ) (l : Line) → from ≤ q → IsLine lines q l → l.host ≢ h
IsOpenFrom lines from h (Some p) = IsOwnFrom lines from h p

-- the lists behind a turn: its entry, and its answer
abbrev pub noted_in : ℕ → Done → LedgerView → LedgerView
noted_in position done ledger =
    record {
      answers = answered position done.ended ledger.answers;
      history = ledger.history ++ entry_at position done.placed;
      events = ledger.events ++ events_at position done.placed done.ended;
    }

-- and the host's first position without an answer
abbrev pub opened : ℕ → Option Answer → Option ℕ → List (Option ℕ) → List (Option ℕ)
opened h None next heads = heads
opened h (Some answer) next heads = slice_set heads h next

-- the parts behind a turn
abbrev pub acted : PartsView → ℕ → ℕ → WorldView → Cache → Seat → Option ℕ → Done → PartsView
acted v h position w d seat next done =
    record v {
      world = w;
      cache = d;
      ledger = noted_in position done v.ledger;
      heads = opened h done.ended next v.heads;
      seats = slice_set v.seats h seat;
    }

-- the host's seat made a turn, and leaves to others what is theirs
pub record HasActed (v : PartsView) (h : ℕ) (command : Command) (w : WorldView) (d : Cache) (seat : Seat) (done : Done) : Type 0 where
  pub made : MakesTurn command h v.world w d (seat_at v h) seat done
  pub others : Others h v.world w
  pub leaves : LeavesOthers h v.cache d

-- the command of the line at a position
pub record IsCommandAt (v : PartsView) (position : ℕ) (command : Command) : Type 0 where
  pub line : Line
  pub is : IsLine v.workload.lines position line
  pub command_is : command ≡ line.command

-- a position, if its line is of the phase
abbrev pub if_phase : ℕ → ℕ → Option Line → Option ℕ
if_phase phase position None = None
if_phase phase position (Some line) = if line.phase == phase then Some position else None

abbrev pub of_phase : List Line → ℕ → ℕ → Option ℕ
of_phase lines phase position = if_phase phase position (slice_get lines position)

-- a host may make a turn of this command, which asks for no digest
pub record MayStep (v : PartsView) (h : ℕ) (command : Command) : Type 0 where
  pub known : IsKnown h command
  pub range : IsTrue (is_in_range v.workload.geometry command)
  pub stands : PlanStandsOf command v.world v.cache h (seat_at v h).carried (seat_at v h).plan
  pub noted : (n : Notes) × PlanNotedOf command v.world h (seat_at v h).carried (seat_at v h).plan n
  pub asks : asked_by v h command ≡ None

-- its seat made it
pub record IsStepped (v : PartsView) (h : ℕ) (command : Command) (u : PartsView) (done : Done) : Type 0 where
  pub seat : Seat
  pub act : HasActed v h command u.world u.cache seat done
  pub is : u ≡ record v { world = u.world; cache = u.cache; seats = slice_set v.seats h seat }

-- and it is noted
pub record IsNoted (v : PartsView) (h position : ℕ) (done : Done) (u : PartsView) : Type 0 where
  pub head : Option ℕ
  pub from : IsSome done.ended → IsOpenFrom v.workload.lines (position + 1) h head
  pub is : u ≡ record v { ledger = noted_in position done v.ledger; heads = opened h done.ended head v.heads }

-- a host took a digest
pub record HasTaken (v : PartsView) (h : ℕ) (command : Command) (digest : Digest) (u : PartsView) : Type 0 where
  pub seat : Seat
  pub handed : IsHandedIn h command digest (seat_at v h) seat
  pub is : u ≡ record v { seats = slice_set v.seats h seat }
