-- The causes of the answers that count hints: to `log`, `scan`, `merge`, `serve` and `collect`.
use Rattle.std.specs.Prelude.{◌≡◌, ◌≢◌, ◌⊎◌, ◌+◌, ◌==◌, ◌&&◌, ◌++◌, ◌∷◌, ◌<◌, ℕ, zero, suc, Bool, true, false, List, [], Option, Some, codes, filter, is_some, length, map, nat_lt, if◌then◌else◌}
use Rattle.std.specs.List.{range_with_len}
use Rattle.vol_base.specs.declared.answer.MergeCounts.{MergeCounts}
use Rattle.vol_base.specs.declared.answer.ServeCounts.{ServeCounts}
use Rattle.vol_layout.specs.declared.field.Edit.{Edit}
use Rattle.vol_layout.specs.declared.field.Field.{Field}
use Rattle.vol_layout.specs.declared.field.Field.TheVariants.{Head, Pointer, Slot}
use Rattle.vol_layout.specs.declared.geometry.Geometry.{Geometry}
use Rattle.vol_layout.specs.declared.kind.Kind.{Kind}
use Rattle.vol_layout.specs.declared.kind.Kind.TheVariants as kinds
use Rattle.vol_layout.specs.declared.kind.Table.TheVariants as tables
use Rattle.vol_layout.specs.Journal.{edits_of}
use Rattle.image_view.specs.Images.{Image}
use Rattle.image_view.specs.Numbers.{logical}
use Rattle.image_view.specs.Pointers.{named}
use Rattle.hint_blocks.specs.declared.entry.LogEntry.{LogEntry}
use Rattle.hint_blocks.specs.declared.entry.Request.{Request}
use Rattle.hint_blocks.specs.Entries.{log_bytes, log_entry_of, request_of}
use Rattle.hint_blocks.specs.HintLists.{hint_block, hints_in}
use Rattle.host_runs.specs.DeviceCalls.{OnImage}
use Rattle.host_runs.specs.Memories.{HasFile}
use Rattle.host_runs.specs.Moments.{Moment}
use Rattle.host_runs.specs.Notes.{NotedCall}
use Rattle.host_runs.specs.NotedCalls.{ShowsKind, SomeCall, WritesKind, sum_read, sum_written}

-- the hints in a log block, and in a block of requests
abbrev pub logged_hints : Geometry → List ℕ → List LogEntry
logged_hints g block = hints_in (codes "DEDELOGS") (log_entry_of g) block

abbrev pub requested_hints : Geometry → List ℕ → List Request
requested_hints g block = hints_in (codes "DEDEREQS") (request_of g) block

-- the block of a log that has no entry
abbrev pub empty_log : List ℕ
empty_log = hint_block (codes "DEDELOGS") []

-- each own log block was read, and has a hint
abbrev pub AreLogsFull : Geometry → ℕ → List NotedCall → Type 0
AreLogsFull g host calls =
    (l : ℕ) → l < g.logs → (block : List ℕ) × SomeCall (ShowsKind g (kinds.Log host l) block) calls × (logged_hints g block ≢ [])

-- so many pending hints were logged: all of them, in one own log block; none where none is pending or each log block has one
abbrev pub HasLogged : Moment → ℕ → Type 0
HasLogged m zero = (m.old.pending ≡ []) ⊎ AreLogsFull m.geometry m.host m.now.calls
HasLogged m (suc n) =
    (suc n ≡ length m.old.pending)
    × (l : ℕ) × WritesKind m.geometry (kinds.Log m.host l) (hint_block (codes "DEDELOGS") (map log_bytes m.old.pending)) m.event

-- the indexes from I to I + 125 below a file's length that are no holes
abbrev pub mapped_from : Geometry → Image → ℕ → ℕ → List ℕ
mapped_from g image f i =
    filter (λ k. nat_lt (k + 1) (logical g image (Head f)) && is_some (named (logical g image (Pointer f k)))) (range_with_len i 126)

-- so many blocks were scanned, each of whose digests was handed in; the volume is as it was at the command's last call
pub record HasScanned (m : Moment) (f i n : ℕ) : Type 0 where
  pub digests : n ≡ length m.now.digests
  pub earlier : List NotedCall
  pub last : NotedCall
  pub calls : m.now.calls ≡ earlier ++ last ∷ []
  pub mapped : OnImage last.before (λ image. n ≡ length (mapped_from m.geometry image f i))

-- how many hints a block has that is a log block of this host, and one that is a block of requests
abbrev pub hints_of_log : Geometry → ℕ → Option Kind → List ℕ → ℕ
hints_of_log g host (Some (kinds.Log of l)) block = if of == host then length (logged_hints g block) else 0
hints_of_log g host kind block = 0

abbrev pub hints_of_requests : Geometry → Option Kind → List ℕ → ℕ
hints_of_requests g (Some (kinds.Request f)) block = length (requested_hints g block)
hints_of_requests g kind block = 0

-- each own log block was read, and written empty where it had hints; the nine counts add up to the hints that were read
pub record HasMerged (m : Moment) (counts : MergeCounts) : Type 0 where
  pub read : (l : ℕ) → l < m.geometry.logs → (block : List ℕ) × SomeCall (ShowsKind m.geometry (kinds.Log m.host l) block) m.now.calls
  pub emptied : (l : ℕ) (block : List ℕ) → l < m.geometry.logs → SomeCall (ShowsKind m.geometry (kinds.Log m.host l) block) m.now.calls
      → logged_hints m.geometry block ≢ [] → SomeCall (WritesKind m.geometry (kinds.Log m.host l) empty_log) m.now.calls
  pub counted : counts.stale + counts.unique + counts.linked + counts.already + counts.differs + counts.gone
      + counts.posted + counts.full + counts.skipped ≡ sum_read m.geometry (hints_of_log m.geometry m.host) m.now.calls

-- the requests of each held file were read; the four counts add up to the requests that were read
pub record HasServed (m : Moment) (counts : ServeCounts) : Type 0 where
  pub read : (f : ℕ) → HasFile m.geometry m.now.memory.holds f
      → (block : List ℕ) × SomeCall (ShowsKind m.geometry (kinds.Request f) block) m.now.calls
  pub counted : counts.linked + counts.already + counts.differs + counts.gone
      ≡ sum_read m.geometry (hints_of_requests m.geometry) m.now.calls

-- whether a field is a slot of the arena
abbrev pub is_slot : Field → Bool
is_slot (Slot s) = true
is_slot field = false

-- an edit by which a slot of the arena is emptied
abbrev pub empties_slot : Edit → Bool
empties_slot e = is_slot e.field && e.number == 0

-- how many slots of the arena the record of this host's journal empties
abbrev pub slots_emptied : ℕ → Option Kind → List ℕ → ℕ
slots_emptied host (Some (kinds.Journal of)) block = if of == host then length (filter empties_slot (edits_of block)) else 0
slots_emptied host kind block = 0

-- the table of the part was read, and so many slots were emptied by the records that were written
pub record HasCollected (m : Moment) (p n : ℕ) : Type 0 where
  pub read : (block : List ℕ) × SomeCall (ShowsKind m.geometry (kinds.Table (tables.Part p)) block) m.now.calls
  pub emptied : n ≡ sum_written m.geometry (slots_emptied m.host) m.now.calls
