-- Data blocks that a plan reads and writes, and the lock that it reads to confirm a read hold.
use Rattle.std.proofs.Common.{◌≡◌, ◌≢◌, ◌<◌, ℕ, List, None, Option, Some, refl, subst, sym, true}
use Rattle.std.specs.Prelude.{Err, Ok}
use Rattle.vol_base.specs.NumberBlock.{number_block}
use Rattle.vol_base.specs.declared.block.Block.{Block}
use Rattle.vol_base.specs.declared.command.Command.TheVariants.{Write}
use Rattle.vol_base.specs.declared.plain.PlainCall.TheVariants as calls
use Rattle.vol_base.specs.declared.plain.PlainReply.TheVariants as replies
use Rattle.vol_layout.specs.declared.field.Field.TheVariants.{Count}
use Rattle.vol_layout.specs.declared.kind.Kind.TheVariants as kinds
use Rattle.vol_layout.specs.declared.kind.Resource.{Resource}
use Rattle.vol_layout.specs.declared.kind.Resource.TheVariants.{File}
use Rattle.vol_layout.specs.Fields.{HasField}
use Rattle.shared_disk.specs.Events.{Shows, event}
use Rattle.shared_disk.specs.State.{OnImages, Told}
use Rattle.call_effects.specs.Places.{IsPlaced}
use Rattle.lock_store.specs.declared.answers.StepNo.{StepNo}
use Rattle.lock_store.specs.declared.answers.StepNo.TheVariants as steps
use Rattle.lock_store.specs.Calls.{AnyBlock, ReadsBlock, WritesBlock}
use Rattle.lock_store.specs.Events.{read_of}
use Rattle.lock_store.specs.Memories.{may_read}
use Rattle.lock_store.specs.Tries.{ConfirmsLock}
use Rattle.lock_store.specs.Views.{host_at, key_at, told_of}
use Rattle.disk_locks.specs.Consistent.{Consistent}
use Rattle.disk_locks.specs.Others as locks'
use Rattle.disk_locks.specs.Sure.{BothTold}
use Rattle.host_facts.specs.Looks.{Looks}
use Rattle.host_facts.specs.Others.{Others}
use Rattle.host_facts.specs.Views.{WorldView}
use Rattle.host_facts.specs.Wrote.{HasValidImage}
use Rattle.host_facts.specs.laws.FactLaws.{joined_key, reader_joined}
use Rattle.host_facts.specs.laws.LockFacts.{confirmed_law}
use Rattle.plan_parts.specs.Commits.{Confirmed}
use Rattle.plan_parts.specs.Cuts.{IsCut}
use Rattle.plan_parts.specs.PlacedCalls.{PlacedCall}
use Rattle.plan_parts.specs.QuietCalls.{Noted, Quiet}
use Rattle.plan_parts.specs.declared.outcome.Outcome.{Outcome}
use Rattle.plan_parts.specs.laws.CutCallLaws.{cut_read}
use Rattle.plan_parts.specs.laws.PlacedLaws.{placed_write}
use Rattle.plan_parts.specs.laws.QuietCallLaws.{quiet_read, valid_now, write_event}
use Rattle.plan_parts.specs.laws.TakenLaws.{locks_else, others_locks}

-- a data block was read
pub quiet_block : (v w : WorldView) (h d : ℕ) (block : Block) → Consistent v.locks → HasField v.locks.geometry (Count d)
    → ReadsBlock v.locks h (kinds.Number d) (Ok block) w.locks → Others h v w
    → Quiet h v w (event (key_at v.locks h) (read_of v.locks (kinds.Number d)) (Shows block.0))
quiet_block v w h d block c has did others command outcome =
    quiet_read command v w h (kinds.Number d) block.0 outcome has (λ of e. cc) did others (valid_now v c) (λ f i n r is e. absurd cc)

-- its read was refused by the device: any block is of its kind
pub cut_block : (v w : WorldView) (h d : ℕ) (why : StepNo) → Others h v w → ReadsBlock v.locks h (kinds.Number d) (Err why) w.locks
    → IsCut h v w why
cut_block v w h d why others did = cut_read v w h (kinds.Number d) AnyBlock why others did (never why did)
  where
    never : (why : StepNo) → ReadsBlock v.locks h (kinds.Number d) (Err why) w.locks → (at : ℕ) → why ≡ steps.Bad at
        → told_of v.locks ≡ None
    never (steps.Bad there) refused at is = absurd (refused.1.2 tt)
    never other refused at is = absurd cc

-- a relation of told images, in the words of the device
pub both_images : (old new : Option Told) (R : List (List ℕ) → List (List ℕ) → Type 0) → BothTold old new R → OnImages R old new
both_images None None R both = both
both_images None (Some u) R both = both
both_images (Some t) None R both = both
both_images (Some t) (Some u) R both = both

-- a data block was written in place, which is the place of the write of a file that it is
pub placed_own : (v w : WorldView) (h f i n d : ℕ) (outcome : Outcome) (done : Unit) → HasField v.locks.geometry (Count d)
    → WritesBlock v.locks h (kinds.Number d) (number_block n).0 (host_at v.locks h) (Ok done) w.locks → Others h v w → HasValidImage w
    → BothTold (told_of v.locks) (told_of w.locks) (IsPlaced v.locks.geometry (calls.Write f i (number_block n)) replies.Done)
    → PlacedCall (Write f i n) h v w (write_event (Write f i n) v w h (kinds.Number d) (number_block n).0) (Some replies.Done)
    (Noted (Write f i n) h v outcome) (Noted (Write f i n) h w outcome)
placed_own v w h f i n d outcome done has did others valid placed =
    placed_write (Write f i n) h v w (kinds.Number d) (number_block n).0 (Some replies.Done) outcome done has did others valid
    (both_images (told_of v.locks) (told_of w.locks) (IsPlaced v.locks.geometry (calls.Write f i (number_block n)) replies.Done) placed)
    (λ is. refl)

-- the lock of a file that the host may read was read
pub lock_confirmed : (v w : WorldView) (h f : ℕ) (done : Unit) → Consistent v.locks → f < v.locks.geometry.files
    → ConfirmsLock v.locks h (File f) (Ok done) w.locks → locks'.Others h v.locks w.locks → w.standing ≡ v.standing → Confirmed h v w
lock_confirmed v w h f done c has did others same = record {
  looks = subst (λ (x : WorldView). Looks h v x) (sym (locks_else v w same)) (confirmed_law v h w.locks c others (File f) did);
  event = event (key_at v.locks h) (read_of v.locks (kinds.Lock (File f))) (Shows did.0);
  quiet = λ command outcome.
      quiet_read command v w h (kinds.Lock (File f)) did.0 outcome has (λ of e. cc) did.1 (others_locks v w h c others same) (valid_now v c)
      (λ g i n r is e. absurd cc);
}

-- a host that may read something has a key
pub reader_key : (v : WorldView) (h : ℕ) (r : Resource) → Consistent v.locks → may_read (host_at v.locks h) r ≡ true
    → key_at v.locks h ≢ 0
reader_key v h r c may =
    joined_key v.locks.geometry.hosts _ h (host_at v.locks h) (c.memories h)
    (reader_joined v.locks.geometry.hosts _ h (host_at v.locks h) r (c.memories h) may)
