-- What the commit of a record did, and the look at a lock that confirms a read hold.
use Rattle.std.specs.Prelude.{ℕ, IsSome, List, None, Option}
use Rattle.vol_base.specs.declared.command.Command.{Command}
use Rattle.vol_base.specs.declared.plain.PlainReply.{PlainReply}
use Rattle.vol_base.specs.PlainCalls.{plain_call_of}
use Rattle.vol_layout.specs.declared.kind.Kind.TheVariants as kinds
use Rattle.vol_layout.specs.Journal.{journal_bytes}
use Rattle.shared_disk.specs.Events.{Event}
use Rattle.shared_disk.specs.State.{OnImages}
use Rattle.journal_block.specs.JournalRecord.{JournalRecord}
use Rattle.call_effects.specs.Places.{Places}
use Rattle.lock_store.specs.Views.{told_of}
use Rattle.host_facts.specs.Looks.{Looks}
use Rattle.host_facts.specs.Views.{WorldView}
use Rattle.host_facts.specs.Wrote.{FilesStay, Wrote}
use Rattle.plan_parts.specs.Applies.{IsApplying}
use Rattle.plan_parts.specs.PlacedCalls.{PlacedCall}
use Rattle.plan_parts.specs.QuietCalls.{Noted, Quiet}
use Rattle.plan_parts.specs.declared.kept.Kept.{Kept}
use Rattle.plan_parts.specs.declared.outcome.Outcome.{Outcome}

-- the record stands, on its way into its tables. The write of it may be the place of a plain call, as the files then are; and where they
-- stay it is quiet
pub record Committed (h : ℕ) (v w : WorldView) (entry : JournalRecord) (left : List Kept) : Type 0 where
  pub wrote : Wrote h (kinds.Journal h) (journal_bytes entry.key entry.edits) entry.edits None v w
  pub stands : IsApplying w h entry.edits left
  pub event : Event
  pub placed : (command : Command) (reply : Option PlainReply) (outcome : Outcome)
      → OnImages (Places v.locks.geometry (plain_call_of command) reply) (told_of v.locks) (told_of w.locks)
      → (IsSome reply → IsSome (plain_call_of command))
      → PlacedCall command h v w event reply (Noted command h v outcome) (Noted command h w outcome)
  pub quiet : FilesStay v w → Quiet h v w event

-- the lock of a file was read, and nothing changed
pub record Confirmed (h : ℕ) (v w : WorldView) : Type 0 where
  pub looks : Looks h v w
  pub event : Event
  pub quiet : Quiet h v w event
