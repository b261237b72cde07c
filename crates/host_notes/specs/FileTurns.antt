-- What a turn of a command on a file shows, and the notes behind it.
use Rattle.std.specs.Prelude.{◌≡◌, ◌∷◌, ℕ, false, [], List, Option, None, IfSome, IsSome}
use Rattle.vol_base.specs.declared.block.Block.{Block}
use Rattle.vol_base.specs.declared.block.Digest.{Digest}
use Rattle.vol_base.specs.declared.command.Command.{Command}
use Rattle.vol_base.specs.declared.command.Command.TheVariants.{Write}
use Rattle.vol_base.specs.declared.plain.PlainReply.{PlainReply}
use Rattle.vol_base.specs.declared.plain.PlainReply.TheVariants.{Done}
use Rattle.vol_base.specs.PlainCalls.{plain_call_of}
use Rattle.vol_layout.specs.declared.geometry.Geometry.{Geometry}
use Rattle.shared_disk.specs.Events.{Event, Reply, Refuses}
use Rattle.shared_disk.specs.Seen.{DiskSeen}
use Rattle.shared_disk.specs.State.{OnImages}
use Rattle.image_view.specs.Valid.{IsValid}
use Rattle.hint_blocks.specs.declared.entry.LogEntry.{LogEntry}
use Rattle.call_effects.specs.Places.{Places}
use Rattle.host_runs.specs.CallRights.{MayCall}
use Rattle.host_runs.specs.DeviceCalls.{ActsOnce, OnImage}
use Rattle.host_runs.specs.FileUses.{file_tried}
use Rattle.host_runs.specs.FullCauses.{MeetsFull}
use Rattle.host_runs.specs.Memories.{AreFileLocks}
use Rattle.host_runs.specs.Moments.{Moment}
use Rattle.host_runs.specs.Notes.{NotedCall, Notes, at_rest}
use Rattle.host_runs.specs.Rests.{hint_pushed}
use Rattle.host_runs.specs.TurnFacts.{Marks}
use Rattle.host_notes.specs.Owes.{plan_moment}

-- a command on a file: one of the six plain ones, a `scan`, or a `close`
abbrev pub IsOnFile : Command → Type 0
IsOnFile command = IsSome (file_tried command)

-- the device did what was asked, or showed a block; there is no call, or one to which it did so
abbrev pub IsGiven : Reply → Type 0
IsGiven (Refuses cause) = ⊥
IsGiven reply = Unit {0}

abbrev pub IsAnswered : Option Event → Type 0
IsAnswered made = IfSome made (λ e. IsGiven e.reply)

-- a turn of a command on a file whose call was not refused, whether the command goes on or is answered
pub record FileTurn (g : Geometry) (h : ℕ) (command : Command) (old new : DiskSeen) (made : Option Event) (placed : Option PlainReply)
    (n : Notes) : Type 0 where
  pub on : IsOnFile command
  pub acts : ActsOnce made old new
  pub answered : IsAnswered made
  pub may : MayCall (plan_moment g h command old new made placed n) made
  pub marks : Marks (plan_moment g h command old new made placed n)
  pub files : OnImages (Places g (plain_call_of command) placed) old.state.told new.state.told
  pub valid : OnImage new.state (IsValid g new.state.counter)
  pub file : IsSome placed → IsSome (plain_call_of command)
  pub once : IsSome placed → n.placed ≡ None

-- the host rests behind an answer: it holds locks of files alone, and has its slot
pub record IsResting (m : Moment) : Type 0 where
  pub locks : AreFileLocks m.geometry m.now.memory.holds
  pub stays : m.now.memory.left ≡ false

-- no `write` met the volume full
abbrev pub MeetsNoFull : Geometry → Command → List NotedCall → Type 0
MeetsNoFull g command calls = (f i n : ℕ) → command ≡ Write f i n → MeetsFull g calls → ⊥

-- the notes of a command that goes on, and asks for this digest
abbrev pub asking : Moment → Option Block → Notes
asking m block = record m.now { asks = block }

abbrev pub going_on : Moment → Notes
going_on m = asking m None

-- the notes behind an answer by which the host is not dropped, with these pending hints
abbrev pub at_answer : Moment → List LogEntry → Notes
at_answer m pending = at_rest m.now.memory m.now.dying pending m.old.watch

-- a `write` for which one digest was handed in leaves one more hint
abbrev pub with_written : Command → List Digest → List LogEntry → List LogEntry
with_written (Write f i n) (digest ∷ []) pending = hint_pushed f pending (digest, i)
with_written command digests pending = pending

-- the pending hints behind a plain reply: those of before, but where it is done
abbrev pub pending_after : PlainReply → Moment → List LogEntry
pending_after Done m = with_written m.command m.now.digests m.old.pending
pending_after reply m = m.old.pending
