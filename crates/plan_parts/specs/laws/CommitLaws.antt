-- The commit of a record.
use Rattle.std.proofs.Common.{◌≡◌, ◌<◌, ℕ, List, None, Option, ap, arith, length}
use Rattle.std.specs.Prelude.{All, IsSome, Ok, map}
use Rattle.vol_base.specs.declared.command.Command.{Command}
use Rattle.vol_base.specs.declared.plain.PlainReply.{PlainReply}
use Rattle.vol_base.specs.PlainCalls.{plain_call_of}
use Rattle.vol_layout.specs.declared.kind.Kind.TheVariants as kinds
use Rattle.vol_layout.specs.Edits.{IsEdit}
use Rattle.vol_layout.specs.Journal.{journal_bytes}
use Rattle.vol_layout.specs.Places.{place_of}
use Rattle.shared_disk.specs.Events.{Done, Writes, event}
use Rattle.shared_disk.specs.State.{OnImages}
use Rattle.journal_block.specs.JournalRecord.{IsJournalRecord, JournalRecord}
use Rattle.call_effects.specs.Places.{Places}
use Rattle.lock_store.specs.Calls.{WritesBlock}
use Rattle.lock_store.specs.Views.{host_at, key_at, told_of}
use Rattle.host_facts.specs.Facts.Fact.{RecordIs}
use Rattle.host_facts.specs.Knows.{Knows}
use Rattle.host_facts.specs.Others.{Others}
use Rattle.host_facts.specs.Views.{WorldView}
use Rattle.host_facts.specs.Wrote.{FilesStay, HasValidImage, Wrote}
use Rattle.plan_parts.specs.Commits.{Committed}
use Rattle.plan_parts.specs.KeptTables.{AreKept}
use Rattle.plan_parts.specs.PlacedCalls.{PlacedCall}
use Rattle.plan_parts.specs.QuietCalls.{Noted, Quiet}
use Rattle.plan_parts.specs.TableOrder.{tables_of}
use Rattle.plan_parts.specs.declared.kept.Kept.{Kept}
use Rattle.plan_parts.specs.declared.outcome.Outcome.{Outcome}
use Rattle.plan_parts.specs.laws.ApplyingLaws.{committed}
use Rattle.plan_parts.specs.laws.PlacedLaws.{placed_write}
use Rattle.plan_parts.specs.laws.QuietCallLaws.{quiet_write, write_event}

module _ (v w : WorldView) (h : ℕ) (entry : JournalRecord) (done : Unit) (below : h < v.locks.geometry.hosts)
    (did : WritesBlock v.locks h (kinds.Journal h) (journal_bytes entry.key entry.edits) (host_at v.locks h) (Ok done) w.locks)
    (others : Others h v w) (valid : HasValidImage w) where
  -- the write of the record is a place of a plain call, where the files then are as that leaves them
  pub placed_commit : (command : Command) (reply : Option PlainReply) (outcome : Outcome)
      → OnImages (Places v.locks.geometry (plain_call_of command) reply) (told_of v.locks) (told_of w.locks)
      → (IsSome reply → IsSome (plain_call_of command))
      → PlacedCall command h v w (write_event command v w h (kinds.Journal h) (journal_bytes entry.key entry.edits)) reply
      (Noted command h v outcome) (Noted command h w outcome)
  placed_commit command reply outcome files file =
      placed_write command h v w (kinds.Journal h) (journal_bytes entry.key entry.edits) reply outcome done below did others valid files
      file

  -- and quiet, where no file changed
  pub quiet_commit : FilesStay v w
      → Quiet h v w
      (event (key_at v.locks h) (Writes (place_of v.locks.geometry (kinds.Journal h)) (journal_bytes entry.key entry.edits)) Done)
  quiet_commit files command outcome =
      quiet_write command v w h (kinds.Journal h) (journal_bytes entry.key entry.edits) outcome done below did others valid files

  pub record_committed : (left : List Kept) → IsJournalRecord entry → All (IsEdit v.locks.geometry) entry.edits → AreKept v h left
      → map (λ (k : Kept). k.which) left ≡ tables_of entry.edits
      → Wrote h (kinds.Journal h) (journal_bytes entry.key entry.edits) entry.edits None v w → Knows w h (RecordIs entry.edits)
      → Committed h v w entry left
  record_committed left well edits kept order wrote stands = record {
    wrote = wrote;
    stands = committed v w h (journal_bytes entry.key entry.edits) entry.edits left
        (λ none. let long : length entry.edits ≡ 0 = ap length none in absurd (omega (arith, long, well.some))) edits kept order wrote
        stands;
    event = event (key_at v.locks h) (Writes (place_of v.locks.geometry (kinds.Journal h)) (journal_bytes entry.key entry.edits)) Done;
    placed = placed_commit;
    quiet = quiet_commit;
  }
