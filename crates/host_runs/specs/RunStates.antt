-- The states of a run.
use Rattle.std.specs.Prelude.{◌++◌, ◌∷◌, ℕ, List, [], Option, Some, None, length, replicate, slice_set}
use Rattle.std.specs.Option.{option_map_or}
use Rattle.vol_base.specs.declared.answer.Answer.{Answer}
use Rattle.vol_base.specs.declared.plain.PlainReply.{PlainReply}
use Rattle.plain_files.specs.declared.history.Placed.{Placed}
use Rattle.workload.specs.declared.line.Workload.{Workload}
use Rattle.shared_disk.specs.Seen.{DiskSeen}
use Rattle.host_runs.specs.Notes.{Notes, no_notes}

-- what came to be known in a run: an entry of the history, or the answer at a position
pub data RunEvent : Type 0 where
  Entered : Placed → RunEvent
  Answered : ℕ → Answer → RunEvent

-- a state of a run: what the device shows, the phase, the answers by position, the history, its entries and the answers in the
-- order in which they came, and the notes of each host
pub record RunState : Type 0 where
  pub device : DiskSeen
  pub phase : ℕ
  pub answers : List (Option Answer)
  pub history : List Placed
  pub events : List RunEvent
  pub notes : ℕ → Notes

-- the first state: no position is answered, and nothing is noted
abbrev pub opening : Workload → DiskSeen → RunState
opening w device =
    record {
      device = device;
      phase = 0;
      answers = replicate (length w.lines) None;
      history = [];
      events = [];
      notes = λ host. no_notes;
    }

-- the entry of a position, if it got one
abbrev pub entry_at : ℕ → Option PlainReply → List Placed
entry_at position placed = option_map_or (λ reply. record { line = position; reply = reply } ∷ []) placed []

-- the answers after that of a position, if it got one
abbrev pub answered : ℕ → Option Answer → List (Option Answer) → List (Option Answer)
answered position None answers = answers
answered position (Some answer) answers = slice_set answers position (Some answer)

-- the events of a turn: the entry comes before the answer
abbrev pub events_at : ℕ → Option PlainReply → Option Answer → List RunEvent
events_at position placed ended =
    option_map_or (λ reply. Entered (record { line = position; reply = reply }) ∷ []) placed []
    ++ option_map_or (λ answer. Answered position answer ∷ []) ended []
