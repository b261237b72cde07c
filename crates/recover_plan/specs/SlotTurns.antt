-- What a turn of a command on slots shows: of a `join`, a `leave`, a `beat`, a `look` and a `recover`.
use Rattle.std.specs.Prelude.{◌≡◌, ℕ, List, None, Option, IsSomeAnd}
use Rattle.vol_base.specs.declared.answer.Answer.{Answer}
use Rattle.vol_base.specs.declared.answer.Answer.TheVariants.{Free}
use Rattle.vol_base.specs.declared.answer.Answer.TheVariants as answers
use Rattle.vol_base.specs.declared.command.Command.{Command}
use Rattle.vol_base.specs.declared.command.Command.TheVariants.{Beat, Join, Leave, Look, Recover}
use Rattle.vol_base.specs.PlainCalls.{plain_call_of}
use Rattle.vol_layout.specs.declared.geometry.Geometry.{Geometry}
use Rattle.shared_disk.specs.Events.{Event, Shows}
use Rattle.shared_disk.specs.Seen.{DiskSeen}
use Rattle.shared_disk.specs.State.{OnImages}
use Rattle.image_view.specs.Valid.{IsValid}
use Rattle.call_effects.specs.Places.{Places}
use Rattle.slot_lock_blocks.specs.declared.slot.Slot.{Slot}
use Rattle.slot_lock_blocks.specs.declared.slot.Slot.TheVariants as slots
use Rattle.watch.specs.declared.watch.Look.{Look as Seen}
use Rattle.host_runs.specs.CallRights.{MayCall}
use Rattle.host_runs.specs.DeviceCalls.{ActsOnce, OnImage}
use Rattle.host_runs.specs.Moments.{Moment}
use Rattle.host_runs.specs.Notes.{Notes, at_rest}
use Rattle.host_runs.specs.TurnFacts.{Marks}
use Rattle.host_notes.specs.Owes.{plan_moment}

-- a command on slots
abbrev pub IsOnSlot : Command → Type 0
IsOnSlot Join = Unit {0}
IsOnSlot Leave = Unit {0}
IsOnSlot Beat = Unit {0}
IsOnSlot (Look of) = Unit {0}
IsOnSlot (Recover of) = Unit {0}
IsOnSlot command = ⊥

-- a turn of a command on slots, whether the command goes on or is answered: no file changes, and no reply has its place
pub record SlotTurn (g : Geometry) (h : ℕ) (command : Command) (old new : DiskSeen) (made : Option Event) (n : Notes) : Type 0 where
  pub on : IsOnSlot command
  pub acts : ActsOnce made old new
  pub may : MayCall (plan_moment g h command old new made None n) made
  pub marks : Marks (plan_moment g h command old new made None n)
  pub files : OnImages (Places g (plain_call_of command) None) old.state.told new.state.told
  pub valid : OnImage new.state (IsValid g new.state.counter)
  pub unplaced : n.placed ≡ None

-- the turn's call showed a block
abbrev pub ShowsBlock : Option Event → Type 0
ShowsBlock made = IsSomeAnd made (λ e. (block : List ℕ) × (e.reply ≡ Shows block))

-- the notes behind an answer by which the host is not dropped, with these looks
abbrev pub at_look : Moment → List (Option Seen) → Notes
at_look m watch = at_rest m.now.memory m.now.dying m.old.pending watch

-- what a look at a slot answers, which was seen so often in a row
abbrev pub look_answer : Slot → ℕ → Answer
look_answer slots.Free count = Free
look_answer (slots.Live key beat) count = answers.Seen count
look_answer (slots.Recovering key by) count = answers.Seen count
