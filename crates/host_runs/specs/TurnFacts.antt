-- What a turn's calls may write into slots and locks, and what its host holds when its command was answered.
use Rattle.std.specs.Prelude.{◌≡◌, ◌≢◌, ◌⊎◌, ◌<◌, ℕ, false, List, [], None, Option, Some, IfSome, IsSome}
use Rattle.vol_base.specs.declared.answer.Answer.{Answer}
use Rattle.vol_base.specs.declared.answer.Answer.TheVariants as answers
use Rattle.vol_base.specs.declared.command.Command.{Command}
use Rattle.vol_base.specs.declared.command.Command.TheVariants as commands
use Rattle.vol_layout.specs.declared.kind.Kind.{Kind}
use Rattle.vol_layout.specs.declared.kind.Kind.TheVariants as kinds
use Rattle.vol_layout.specs.declared.kind.Resource.{Resource}
use Rattle.vol_layout.specs.declared.kind.Resource.TheVariants as resources
use Rattle.vol_layout.specs.Places.{kind_at}
use Rattle.shared_disk.specs.Events.{Call, Reply, Done, Fences, Tests, Writes}
use Rattle.image_view.specs.HostKeys.{slot_state_at}
use Rattle.host_runs.specs.DeviceCalls.{HasDone, OnImage}
use Rattle.host_runs.specs.FileUses.{file_tried, file_used, try_of}
use Rattle.host_runs.specs.Memories.{AreFileLocks, memory_after}
use Rattle.host_runs.specs.Moments.{Moment}
use Rattle.host_runs.specs.Words.{key_in, reader_in, state_in}

-- only a command on a file tries the lock of that file
abbrev pub MayHold : Command → Resource → Type 0
MayHold command (resources.File f) = file_used command ≡ Some f
MayHold command r = Unit {0}

-- only the lock of a file is read: a command on it puts the own key among the readers, and its `close` takes the key out
abbrev pub MayRead : Command → Resource → ℕ → ℕ → Type 0
MayRead command (resources.File f) own reader =
    ((reader ≡ own) × (file_used command ≡ Some f)) ⊎ ((reader ≡ 0) × (command ≡ commands.Close f))
MayRead command r own reader = ⊥

-- what a test-and-set of a lock asks to write: the own key, as its holder or its reader. A command that takes the lock of its file
-- tries no other file's lock, and after its first try only from the word that it found last
pub record MayTestLock (m : Moment) (key : ℕ) (r : Resource) (old new : List ℕ) : Type 0 where
  pub held : state_in new ≡ 1 → (key_in new ≡ key) × MayHold m.command r
  pub read : state_in new ≡ 2 → MayRead m.command r key (reader_in new m.host)
  pub again : (f : ℕ) → r ≡ resources.File f → IsSome (try_of m.command)
      → (file_tried m.command ≡ Some f) × IfSome m.old.tries.found (λ word. old ≡ word)

-- what a test-and-set asks to write: into a slot what it will, where it is the host's own or the one that it recovers; nothing behind the
-- volume's blocks
abbrev pub MayTest : Moment → ℕ → Option Kind → List ℕ → List ℕ → Type 0
MayTest m key (Some (kinds.Lock r)) old new = MayTestLock m key r old new
MayTest m key (Some (kinds.Slot of)) old new = (of ≡ m.host) ⊎ (m.command ≡ commands.Recover of)
MayTest m key None old new = ⊥
MayTest m key kind old new = Unit {0}

-- what a test-and-set that was done may have changed: in a lock that is read no key of another host; a slot enters under the own
-- key, is claimed from another key, or is freed
abbrev pub MaySwap : Moment → ℕ → Option Kind → List ℕ → List ℕ → Type 0
MaySwap m key (Some (kinds.Lock r)) old new = state_in new ≡ 2 → (n : ℕ) → n < 16 → n ≢ m.host → reader_in new n ≡ reader_in old n
MaySwap m key (Some (kinds.Slot of)) old new =
    ((of ≡ m.host) × (state_in new ≡ 1) × (key_in new ≡ key))
    ⊎ ((state_in new ≡ 2) × (state_in old ≢ 0) × (key_in old ≢ key))
    ⊎ ((state_in new ≡ 0) × ((of ≡ m.host) ⊎ (state_in old ≡ 2)))
MaySwap m key kind old new = Unit {0}

-- what a plain write may write: a lock is freed; the own slot is freed, or beats under the own key; nothing behind the volume's blocks
abbrev pub MayWrite : Moment → ℕ → Option Kind → List ℕ → Type 0
MayWrite m key (Some (kinds.Lock r)) block = state_in block ≡ 0
MayWrite m key (Some (kinds.Slot of)) block = (of ≡ m.host) × ((state_in block ≡ 0) ⊎ ((state_in block ≡ 1) × (key_in block ≡ key)))
MayWrite m key None block = ⊥
MayWrite m key kind block = Unit {0}

-- what a call may write into slots and locks
abbrev pub MayMark : Moment → ℕ → Call → Reply → Type 0
MayMark m key (Tests at old new) Done = MayTest m key (kind_at m.geometry at) old new × MaySwap m key (kind_at m.geometry at) old new
MayMark m key (Tests place old new) reply = MayTest m key (kind_at m.geometry place) old new
MayMark m key (Writes place block) reply = MayWrite m key (kind_at m.geometry place) block
MayMark m key call reply = Unit {0}

abbrev pub Marks : Moment → Type 0
Marks m = IfSome m.event (λ e. MayMark m e.key e.call e.reply)

-- a host that has left holds no lock, and its slot is free
pub record HasLeft (m : Moment) : Type 0 where
  pub holds : m.now.memory.holds ≡ []
  pub slot : OnImage m.after (λ image. slot_state_at m.geometry image m.host ≡ 0)

-- what holds when a command was answered: the host holds locks of files alone, and has its slot if it entered; the fence of its
-- own key is the last call of a `leave`, by which the host has left
pub record AreAtEnd (m : Moment) (ended : Option Answer) : Type 0 where
  pub rests : IfSome ended (λ answer. AreFileLocks m.geometry (memory_after answer m.command m.now.memory).holds)
  pub stays : IfSome ended (λ answer. (memory_after answer m.command m.now.memory).left ≡ false)
  pub last : (own : ℕ) → m.command ≡ commands.Leave → HasDone (Fences own) m.event → ended ≡ Some answers.Fine
  pub left : m.command ≡ commands.Leave → ended ≡ Some answers.Fine → HasLeft m
