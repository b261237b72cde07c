-- What holds of the cluster between two calls, with the notes of a run, and what a turn does of it.
use Rattle.std.specs.Prelude.{◌≡◌, ◌+◌, ◌<◌, ◌^◌, ℕ, All, IsSome, List, [], ◌∷◌, None, Option, Some, is_some, length, true}
use Rattle.vol_base.specs.declared.answer.Answer.{Answer}
use Rattle.vol_base.specs.declared.answer.Turn.{Turn}
use Rattle.vol_base.specs.declared.block.Digest.{Digest}
use Rattle.vol_layout.specs.Ranges.{IsGeometry}
use Rattle.workload.specs.Workloads.{IsAllowed}
use Rattle.workload.specs.declared.line.Line.{Line}
use Rattle.histories.specs.Joined.{is_joined, standing_death}
use Rattle.histories.specs.Lines.{IsLine}
use Rattle.histories.specs.Phases.{ArePhased}
use Rattle.host_notes.specs.Owes.{joined_in}
use Rattle.host_runs.specs.Notes.{Notes}
use Rattle.host_runs.specs.Awaited.{awaited}
use Rattle.host_runs.specs.Runs.{IsTurn, supplied}
use Rattle.host_runs.specs.laws.Orderly.{HasAnswer, IsOrderlyState}
use Rattle.host_runs.specs.laws.Seated.{IsSeated}
use Rattle.cluster.specs.Seats.{IsKnown, IsLeft, PlanNotedOf, PlanStandsOf}
use Rattle.cluster.specs.Views.{PartsView, at_command, disk_of, line_of, head_at, seat_at, state_of}

-- a line that the cluster can run
abbrev pub IsKnownLine : Line → Type 0
IsKnownLine line = IsKnown line.host line.command

-- the first position of a host's lines without an answer: each line of it before has one; where there is none, all have one
pub record IsFirstOpen (lines : List Line) (answers : List (Option Answer)) (h p : ℕ) : Type 0 where
  pub line : Line
  pub is : IsLine lines p line
  pub host : line.host ≡ h
  pub without : HasAnswer answers p → ⊥
  pub before : (q : ℕ) (l : Line) → q < p → IsLine lines q l → l.host ≡ h → HasAnswer answers q

abbrev pub IsHead : List Line → List (Option Answer) → ℕ → Option ℕ → Type 0
IsHead lines answers h None = (q : ℕ) (l : Line) → IsLine lines q l → l.host ≡ h → HasAnswer answers q
IsHead lines answers h (Some p) = IsFirstOpen lines answers h p

-- how many positions have an answer
abbrev pub given_in : List (Option Answer) → ℕ
given_in [] = 0
given_in (None ∷ answers) = given_in answers
given_in (Some answer ∷ answers) = given_in answers + 1

-- whatever came: the workload is one that the cluster can run, and the lists are as long as they are to be
pub record IsSound (v : PartsView) : Type 0 where
  pub phased : ArePhased v.workload.lines
  pub allowed : All (IsAllowed v.workload.geometry) v.workload.lines
  pub known : All IsKnownLine v.workload.lines
  pub few : length v.workload.lines < 2 ^ 32
  pub phases : v.workload.phases < 2 ^ 32
  pub phase : v.phase < v.workload.phases
  pub geometry : v.world.locks.geometry ≡ v.workload.geometry
  pub volume : IsGeometry v.workload.geometry
  pub long : length v.ledger.answers ≡ length v.workload.lines
  pub seats : length v.seats ≡ v.workload.geometry.hosts
  pub heads : length v.heads ≡ v.workload.geometry.hosts
  pub head : (h : ℕ) → h < v.workload.geometry.hosts → IsHead v.workload.lines v.ledger.answers h (head_at v h)
  pub past : (p : ℕ) (line : Line) → IsLine v.workload.lines p line → line.phase < v.phase → HasAnswer v.ledger.answers p
  pub events : length v.ledger.events ≡ length v.ledger.history + given_in v.ledger.answers

-- until memory is refused: the plan of each command under way stands, of the line that its host is at; and a host in a `join` is not
-- joined, and any other one in a command is
pub record IsStanding (v : PartsView) : Type 0 where
  pub stands : (h : ℕ) → h < v.workload.geometry.hosts
      → PlanStandsOf (at_command v h) v.world v.cache h (seat_at v h).carried (seat_at v h).plan
  pub busy : (h : ℕ) → h < v.workload.geometry.hosts → is_some (seat_at v h).plan ≡ true → IsSome (line_of v h)
  pub joined : (h : ℕ) → h < v.workload.geometry.hosts → is_some (seat_at v h).plan ≡ true
      → is_joined v.workload.lines v.ledger.answers h ≡ joined_in (at_command v h)

-- the notes of each host agree with its seat
pub record Agree (v : PartsView) (notes : ℕ → Notes) : Type 0 where
  pub noted : (h : ℕ) → h < v.workload.geometry.hosts
      → PlanNotedOf (at_command v h) v.world h (seat_at v h).carried (seat_at v h).plan (notes h)
  pub left : (h : ℕ) → h < v.workload.geometry.hosts
      → IsLeft (standing_death v.workload.lines v.ledger.answers h) (notes h).dying (seat_at v h).left

-- there are notes that agree, of a run's state
pub record IsSteady (v : PartsView) : Type 0 where
  pub notes : ℕ → Notes
  pub agree : Agree v notes
  pub orderly : IsOrderlyState v.workload (state_of v notes)
  pub seated : (h : ℕ) → IsSeated v.workload (state_of v notes) h

-- a turn is one of a run, from all notes that agree to some that agree
abbrev pub Turned : PartsView → ℕ → Turn → PartsView → Type 0
Turned v h turn u =
    (notes : ℕ → Notes) → Agree v notes
    → (later : ℕ → Notes) × IsTurn v.workload h turn (state_of v notes) (state_of u later) × Agree u later

-- a turn that was refused memory: all that a run sees is as before, and the device had no room left
pub record IsUnmoved (v u : PartsView) : Type 0 where
  pub workload : u.workload ≡ v.workload
  pub phase : u.phase ≡ v.phase
  pub ledger : u.ledger ≡ v.ledger
  pub state : (disk_of u).state ≡ (disk_of v).state
  pub room : (disk_of v).room ≡ 0

-- a digest that was handed in, noted where the host waits for one
abbrev pub Supplied : PartsView → ℕ → Digest → PartsView → Type 0
Supplied v h digest u =
    (notes : ℕ → Notes) → Agree v notes
    → (later : ℕ → Notes) × (state_of u later ≡ supplied h digest (awaited v.workload (state_of v notes) h) (state_of v notes)) × Agree u later
