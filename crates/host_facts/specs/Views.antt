-- What a contract sees of the world: the locks, and each host's record in memory.
use Rattle.std.specs.Prelude.{◌==◌, ℕ, List, [], None, Option, Some, slice_index_or, if◌then◌else◌}
use Rattle.vol_layout.specs.declared.field.Edit.{Edit}
use Rattle.journal_block.specs.JournalRecord.{JournalRecord}
use Rattle.lock_store.specs.Views.{LocksView, key_at}

pub record WorldView : Type 0 where
  pub locks : LocksView
  pub standing : List (Option JournalRecord)

-- the record that a host committed last and has not finished, as it is in memory
abbrev pub standing_at : WorldView → ℕ → Option JournalRecord
standing_at w h = slice_index_or w.standing h None

-- the edits of a record that was made under this key
abbrev pub edits_under : ℕ → Option JournalRecord → List Edit
edits_under key None = []
edits_under key (Some r) = if r.key == key then r.edits else []

-- the edits of the record in memory, which counts only while the host has the record's key
abbrev pub record_at : WorldView → ℕ → List Edit
record_at w h = edits_under (key_at w.locks h) (standing_at w h)

-- the world with other locks
abbrev pub with_locks : WorldView → LocksView → WorldView
with_locks w locks = record w { locks = locks }
