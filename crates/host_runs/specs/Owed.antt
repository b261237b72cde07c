-- Where an answer has to come: the other direction of each cause that is exact.
use Rattle.std.specs.Prelude.{◌≡◌, ◌≢◌, ◌<◌, ℕ, true, false, [], Option, Some, IfSome, IsSomeAnd}
use Rattle.vol_base.specs.declared.answer.Answer.{Answer}
use Rattle.vol_base.specs.declared.answer.Answer.TheVariants as answers
use Rattle.vol_base.specs.declared.answer.CutBy.TheVariants as cuts
use Rattle.vol_base.specs.declared.block.Key.{Key}
use Rattle.vol_base.specs.declared.command.Command.TheVariants as commands
use Rattle.vol_layout.specs.declared.kind.Kind.TheVariants as kinds
use Rattle.slot_lock_blocks.specs.declared.slot.Slot.TheVariants as slots
use Rattle.shared_disk.specs.declared.answers.DiskNo.TheVariants as refusals
use Rattle.watch.specs.Looks.{count_of, look_at}
use Rattle.host_runs.specs.DeviceCalls.{IsRefused}
use Rattle.host_runs.specs.FileUses.{is_hint_place}
use Rattle.host_runs.specs.FullCauses.{MeetsFull}
use Rattle.host_runs.specs.HintCauses.{AreLogsFull}
use Rattle.host_runs.specs.Moments.{Moment}
use Rattle.host_runs.specs.NotedCalls.{ShowsSlot}
use Rattle.host_runs.specs.SlotCauses.{ClaimFinds, ClaimFindsLive, HasEntered, HasSeen}

-- no cut: a cut of the command stands before each other answer
abbrev pub IsNoCut : Answer → Type 0
IsNoCut (answers.Cut by) = ⊥
IsNoCut answer = Unit {0}

-- this answer comes in this turn, or a cut
abbrev pub Gets : Answer → Option Answer → Type 0
Gets answer ended = IsSomeAnd ended (λ given. IsNoCut given → given ≡ answer)

-- where the command ends, it ends with this answer, or with a cut
abbrev pub EndsWith : Answer → Option Answer → Type 0
EndsWith answer ended = IfSome ended (λ given. IsNoCut given → given ≡ answer)

-- by the device's refusals, by whether the host is joined, and by the place of a `scribble`
pub record OwesAtOnce (m : Moment) (ended : Option Answer) : Type 0 where
  pub fenced : IsRefused refusals.Fenced m.event → ended ≡ Some (answers.Cut cuts.Fenced)
  pub failed : IsRefused refusals.Failed m.event → ended ≡ Some (answers.Cut cuts.Fault)
  pub no_keys : IsRefused refusals.NoKeys m.event → ended ≡ Some answers.NoKeys
  pub up : m.command ≡ commands.Join → m.joined ≡ true → ended ≡ Some answers.Up
  pub down : m.command ≢ commands.Join → m.joined ≡ false → ended ≡ Some answers.Down
  pub refused : (place n seen : ℕ) → m.command ≡ commands.Scribble place n seen → m.joined ≡ true → is_hint_place m.geometry place ≡ false
      → ended ≡ Some answers.Refused

-- by the tries of the command, and by a volume that it met full
pub record OwesAtEnd (m : Moment) (ended : Option Answer) : Type 0 where
  pub busy : (key : Key) → m.now.tries.shown ≡ Some key.0 → EndsWith (answers.Busy key) ended
  pub full : (f i n : ℕ) → m.command ≡ commands.Write f i n → MeetsFull m.geometry m.now.calls → EndsWith answers.Full ended

-- by the slot that a command entered, read, or found
pub record OwesBySlot (m : Moment) (ended : Option Answer) : Type 0 where
  pub joined : (key : Key) → m.command ≡ commands.Join → HasEntered m key → Gets (answers.Joined key) ended
  pub unseen : (of : ℕ) → m.command ≡ commands.Look of → ShowsSlot m.geometry (kinds.Slot of) slots.Free m.event → Gets answers.Free ended
  pub seen : (of n : ℕ) → m.command ≡ commands.Look of → HasSeen m of n → Gets (answers.Seen n) ended
  pub few : (of : ℕ) → m.command ≡ commands.Recover of → m.joined ≡ true → count_of (look_at m.old.watch of) < 3
      → ended ≡ Some (answers.Alive (count_of (look_at m.old.watch of)))
  pub live : (of : ℕ) → m.command ≡ commands.Recover of → ClaimFindsLive m of → Gets (answers.Alive 1) ended
  pub free : (of : ℕ) → m.command ≡ commands.Recover of → ClaimFinds m of slots.Free → Gets answers.Free ended

-- by the hints that a `log` has, and the blocks that it read
pub record OwesByLog (m : Moment) (ended : Option Answer) : Type 0 where
  pub nothing : m.command ≡ commands.Log → m.joined ≡ true → m.old.pending ≡ [] → ended ≡ Some (answers.Logged 0)
  pub full : m.command ≡ commands.Log → AreLogsFull m.geometry m.host m.now.calls → Gets (answers.Logged 0) ended
