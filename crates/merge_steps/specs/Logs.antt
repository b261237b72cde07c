-- What the calls of a merge did with the own log blocks of its host.
use Rattle.std.specs.Prelude.{◌≡◌, ◌≢◌, ◌+◌, ◌<◌, ◌≤◌, ℕ, Bool, List, [], ◌∷◌, Some, false, true, length, replicate, slice_get, slice_set}
use Rattle.vol_layout.specs.declared.geometry.Geometry.{Geometry}
use Rattle.vol_layout.specs.declared.kind.Kind.TheVariants as kinds
use Rattle.vol_layout.specs.Places.{kind_at}
use Rattle.shared_disk.specs.Events.{Call, Fences, Reads, Registers, Tests, Writes}
use Rattle.hint_blocks.specs.declared.entry.LogEntry.{LogEntry}
use Rattle.host_runs.specs.HintCauses.{empty_log, hints_of_log, logged_hints}
use Rattle.host_runs.specs.Notes.{NotedCall}
use Rattle.host_runs.specs.NotedCalls.{ShowsKind, SomeCall, WritesKind, sum_read}

-- so many were read, in order, with so many hints in all; which of them had some; and those before this one were written empty that had
pub record LogsRead : Type 0 where
  pub read : ℕ
  pub hints : ℕ
  pub filled : List Bool
  pub emptied : ℕ

-- before the first call
abbrev pub unread : LogsRead
unread = record { read = 0; hints = 0; filled = replicate 16 false; emptied = 0 }

abbrev pub are_some : List LogEntry → Bool
are_some [] = false
are_some (hint ∷ hints) = true

-- behind the read of the next one
abbrev pub read_more : Geometry → List ℕ → LogsRead → LogsRead
read_more g block r =
    record { read = r.read + 1; hints = r.hints + length (logged_hints g block); filled = slice_set r.filled r.read (are_some (logged_hints g block)); emptied = r.emptied }

-- behind the write of the next one, or where it had no hint
abbrev pub emptied_more : LogsRead → LogsRead
emptied_more r = record r { emptied = r.emptied + 1 }

-- the calls say so
pub record AreLogs (g : Geometry) (h : ℕ) (r : LogsRead) (calls : List NotedCall) : Type 0 where
  pub read : (l : ℕ) → l < r.read → (block : List ℕ) × SomeCall (ShowsKind g (kinds.Log h l) block) calls
  pub unread : (l : ℕ) (block : List ℕ) → r.read ≤ l → SomeCall (ShowsKind g (kinds.Log h l) block) calls → ⊥
  pub filled : (l : ℕ) (block : List ℕ) → SomeCall (ShowsKind g (kinds.Log h l) block) calls → logged_hints g block ≢ []
      → slice_get r.filled l ≡ Some true
  pub emptied : (l : ℕ) → l < r.emptied → slice_get r.filled l ≡ Some true → SomeCall (WritesKind g (kinds.Log h l) empty_log) calls
  pub many : sum_read g (hints_of_log g h) calls ≡ r.hints
  pub room : (r.read ≤ 16) × (length r.filled ≡ 16)

-- the call shows none of these blocks
abbrev pub SparesLogs : Geometry → ℕ → Call → Type 0
SparesLogs g h (Reads place) = (l : ℕ) → kind_at g place ≢ Some (kinds.Log h l)
SparesLogs g h (Writes place block) = Unit {0}
SparesLogs g h (Tests place old new) = (l : ℕ) → kind_at g place ≢ Some (kinds.Log h l)
SparesLogs g h (Registers of) = Unit {0}
SparesLogs g h (Fences target) = Unit {0}
