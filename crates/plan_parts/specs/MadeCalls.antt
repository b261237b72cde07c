-- Which device call a step of a transaction made, where it is quiet.
use Rattle.std.specs.Prelude.{◌≡◌, ℕ, Bool, false, true, List, [], ◌∷◌, None, Option, Some}
use Rattle.vol_base.specs.Packing.{packed_bytes}
use Rattle.vol_base.specs.declared.block.Key.{Key}
use Rattle.vol_base.specs.declared.command.Command.{Command}
use Rattle.vol_layout.specs.declared.kind.Kind.{Kind}
use Rattle.vol_layout.specs.declared.kind.Kind.TheVariants as kinds
use Rattle.vol_layout.specs.declared.kind.Resource.{Resource}
use Rattle.vol_layout.specs.Journal.{journal_bytes}
use Rattle.vol_layout.specs.Places.{place_of}
use Rattle.shared_disk.specs.Events.{Done, Event, Shows, Writes, event}
use Rattle.slot_lock_blocks.specs.declared.lock.LockWord.TheVariants as words
use Rattle.slot_lock_blocks.specs.LockWords.{lock_bytes}
use Rattle.journal_block.specs.JournalRecord.{JournalRecord}
use Rattle.lock_store.specs.Events.{read_of}
use Rattle.lock_store.specs.Views.{key_at}
use Rattle.host_notes.specs.Asked.{hold_call, unlock_call}
use Rattle.host_runs.specs.Tries.{frees_locks}
use Rattle.host_facts.specs.Views.{WorldView}
use Rattle.host_facts.specs.Wrote.{FilesStay}
use Rattle.plan_parts.specs.Fetched.{SparesFull}
use Rattle.plan_parts.specs.QuietCalls.{Noted, Quiet, QuietCall}
use Rattle.plan_parts.specs.declared.applying.Applied.{Applied}
use Rattle.plan_parts.specs.declared.applying.Applied.TheVariants as applied
use Rattle.plan_parts.specs.declared.kept.Kept.{Kept}
use Rattle.plan_parts.specs.declared.outcome.Outcome.{Outcome}
use Rattle.plan_parts.specs.declared.outcome.Outcome.TheVariants.{Busy, Open}

-- a lock was to be taken: it was free, or showed a key
abbrev pub try_of : WorldView → ℕ → Resource → Option Key → Event
try_of v h r None = event (key_at v.locks h) (hold_call v.locks h r) Done
try_of v h r (Some key) = event (key_at v.locks h) (hold_call v.locks h r) (Shows (lock_bytes (words.Held key)))

-- a lock was freed
abbrev pub freeing_of : WorldView → ℕ → Resource → Event
freeing_of v h r = event (key_at v.locks h) (unlock_call v.locks r) Done

-- a table was read
abbrev pub reading_of : WorldView → ℕ → Kept → Event
reading_of v h kept = event (key_at v.locks h) (read_of v.locks (kinds.Table kept.which)) (Shows (packed_bytes 4 kept.table))

-- a block of a kind was written
abbrev pub writing_of : WorldView → ℕ → Kind → List ℕ → Event
writing_of v h kind block = event (key_at v.locks h) (Writes (place_of v.locks.geometry kind) block) Done

-- what a step of a record wrote: a table, or the empty journal
abbrev pub step_of : WorldView → ℕ → Applied → Event
step_of v h (applied.Wrote kept) = writing_of v h (kinds.Table kept.which) (packed_bytes 4 kept.table)
step_of v h applied.Finished = writing_of v h (kinds.Journal h) (journal_bytes 0 [])

-- a try of a lock is quiet where it was taken, and where it was not for a command that frees no dead host's locks
abbrev pub TriedSo : ℕ → WorldView → WorldView → Resource → Option Key → Type 0
TriedSo h v w r None = Quiet h v w (try_of v h r None)
TriedSo h v w r (Some key) =
    (command : Command) → frees_locks command ≡ false
    → QuietCall command h v w (try_of v h r (Some key)) (Noted command h v Open) (Noted command h w (Busy key))

-- a read of a table is quiet, but where it has to be noted that the volume is full
abbrev pub ReadSo : ℕ → WorldView → WorldView → Kept → Type 0
ReadSo h v w kept =
    (command : Command) (outcome : Outcome) → SparesFull command h v kept.which
    → QuietCall command h v w (reading_of v h kept) (Noted command h v outcome) (Noted command h w outcome)

-- a commit is quiet where the files stay
abbrev pub CommittedSo : ℕ → WorldView → WorldView → JournalRecord → Type 0
CommittedSo h v w entry = FilesStay v w → Quiet h v w (writing_of v h (kinds.Journal h) (journal_bytes entry.key entry.edits))

-- a step of a record is quiet
abbrev pub AppliedSo : ℕ → WorldView → WorldView → Applied → Type 0
AppliedSo h v w applied = Quiet h v w (step_of v h applied)

-- and so is the freeing of the lock that was taken last, if there is one
abbrev pub FreedSo : ℕ → WorldView → WorldView → List Resource → List Resource → Bool → Type 0
FreedSo h v w taken after true = (r : Resource) × (taken ≡ r ∷ after) × Quiet h v w (freeing_of v h r)
FreedSo h v w taken after false = Unit {0}
