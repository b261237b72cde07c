-- What holds at each state of a run of a tidy workload.
use Rattle.std.specs.Prelude.{true, false, ◌≡◌, ◌≢◌, ◌⊎◌, ◌<◌, ◌≤◌, ◌%◌, ◌/◌, ℕ, List, [], Option, Some, None, Contains, IsSome, slice_get}
use Rattle.vol_base.specs.declared.answer.Answer.{Answer}
use Rattle.vol_layout.specs.declared.geometry.Geometry.{Geometry}
use Rattle.vol_layout.specs.declared.kind.Kind.{Kind}
use Rattle.vol_layout.specs.declared.kind.Kind.TheVariants as kinds
use Rattle.vol_layout.specs.declared.kind.Resource.TheVariants as resources
use Rattle.vol_layout.specs.Places.{kind_at}
use Rattle.workload.specs.declared.line.Line.{Line}
use Rattle.workload.specs.declared.line.Workload.{Workload}
use Rattle.shared_disk.specs.State.{State}
use Rattle.image_view.specs.Images.{Image}
use Rattle.image_view.specs.Valid.{IsValid}
use Rattle.histories.specs.Lines.{IsAnswered, IsLine}
use Rattle.host_runs.specs.DeviceCalls.{OnImage}
use Rattle.host_runs.specs.FileUses.{file_tried, file_used, try_of}
use Rattle.host_runs.specs.Memories.{AreFileLocks, HasFile, Memory}
use Rattle.host_runs.specs.NextLines.{next_line}
use Rattle.host_runs.specs.Notes.{Notes}
use Rattle.host_runs.specs.laws.Orderly.{HasAnswer, IsOrderlyState}
use Rattle.host_runs.specs.RunStates.{RunState}
use Rattle.host_runs.specs.laws.Seated.{IsSeated}
use Rattle.host_runs.specs.Steps.{IsAtLine}
use Rattle.host_runs.specs.Tidy.{Closes, IsUnstopped}
use Rattle.host_runs.specs.Tries.{no_tries}
use Rattle.host_runs.specs.Words.{key_in, reader_in, state_in}

-- a host with this key holds the lock at this place
abbrev pub IsHolder : (ℕ → Memory) → ℕ → ℕ → Type 0
IsHolder memories place key = (h : ℕ) × ((memories h).key ≡ Some key) × Contains (memories h).holds place

-- a host reads the file of the lock at this place, or is about to leave
abbrev pub IsReader : Memory → ℕ → Type 0
IsReader memory place = Contains memory.reads place ⊎ (memory.left ≡ true)

-- a host whose key is among the readers at this place does so
abbrev pub AreReading : (ℕ → Memory) → ℕ → List ℕ → Type 0
AreReading memories place word = (h key : ℕ) → h < 16 → (memories h).key ≡ Some key → reader_in word h ≡ key → IsReader (memories h) place

-- a held lock shows the key of a host that holds it, a read one no key of a host that does not read; a slot is free, or live
-- under its host's key
abbrev pub WordSays : (ℕ → Memory) → ℕ → Option Kind → List ℕ → Type 0
WordSays memories place (Some (kinds.Lock r)) word = (state_in word ≡ 1 → IsHolder memories place (key_in word)) × (state_in word ≡ 2 → AreReading memories place word)
WordSays memories place (Some (kinds.Slot h)) slot = (state_in slot ≡ 0) ⊎ ((state_in slot ≡ 1) × ((memories h).key ≡ Some (key_in slot)))
WordSays memories place kind block = Unit {0}

abbrev pub AreShown : Geometry → (ℕ → Memory) → Image → Type 0
AreShown g memories image = (place : ℕ) (block : List ℕ) → slice_get image place ≡ Some block → WordSays memories place (kind_at g place) block

-- the keys of hosts are registered, and their own; a host without one has no lock; and slots and locks show what hosts have in mind
pub record IsOnDisk (g : Geometry) (state : State) (memories : ℕ → Memory) : Type 0 where
  pub told : IsSome state.told
  pub registered : (h key : ℕ) → (memories h).key ≡ Some key → Contains state.keys key
  pub own : (h key : ℕ) → (memories h).key ≡ Some key → (key ≢ 0) × (key % 16 ≡ h)
  pub given : (h key : ℕ) → (memories h).key ≡ Some key → key / 16 ≤ state.counter
  pub empty : (h : ℕ) → (memories h).key ≡ None → ((memories h).holds ≡ []) × ((memories h).reads ≡ [])
  pub shown : OnImage state (AreShown g memories)

-- the memories of all hosts
abbrev pub memories_of : (ℕ → Notes) → ℕ → Memory
memories_of notes h = (notes h).memory

-- a line of the host uses the file, in this phase at the latest, and no line of the host that closes it was answered behind
pub record IsUsing (lines : List Line) (given : List (Option Answer)) (phase h f : ℕ) : Type 0 where
  pub position : ℕ
  pub line : Line
  pub is : IsLine lines position line
  pub of : line.host ≡ h
  pub reached : line.phase ≤ phase
  pub file : file_used line.command ≡ Some f
  pub still : (q : ℕ) (m : Line) → position < q → IsLine lines q m → m.host ≡ h → Closes f m.command → HasAnswer given q → ⊥

-- what a command found last in its file's lock stands there
abbrev pub IsFoundStill : Geometry → State → ℕ → List ℕ → Type 0
IsFoundStill g state f word = OnImage state (λ image. (place : ℕ) → kind_at g place ≡ Some (kinds.Lock (resources.File f)) → slice_get image place ≡ Some word)

-- no other host's key is among the readers
abbrev pub IsReadAlone : (ℕ → Memory) → ℕ → List ℕ → Type 0
IsReadAlone memories host word = (h key : ℕ) → h < 16 → h ≢ host → (memories h).key ≡ Some key → reader_in word h ≢ key

-- the state is in order; each host has its key where it is to have one; the disk agrees with what hosts have in mind; a host at
-- rest holds files alone, and only files that its lines use; the command under way has shown no key; and no answer is `busy` or a cut
pub record IsTidyState (w : Workload) (s : RunState) : Type 0 where
  pub orderly : IsOrderlyState w s
  pub seated : (h : ℕ) → IsSeated w s h
  pub valid : OnImage s.device.state (IsValid w.geometry s.device.state.counter)
  pub disk : IsOnDisk w.geometry s.device.state (memories_of s.notes)
  pub rests : (h : ℕ) → (s.notes h).calls ≡ [] → AreFileLocks w.geometry (s.notes h).memory.holds
  pub stays : (h : ℕ) → (s.notes h).calls ≡ [] → (s.notes h).memory.left ≡ false
  pub idle : (h : ℕ) → next_line w.lines s.answers s.phase h ≡ None → (s.notes h).calls ≡ []
  pub holds : (h f : ℕ) → HasFile w.geometry (s.notes h).memory.holds f → IsUsing w.lines s.answers s.phase h f
  pub reads : (h f : ℕ) → HasFile w.geometry (s.notes h).memory.reads f → IsUsing w.lines s.answers s.phase h f
  pub fresh : (h : ℕ) → (s.notes h).calls ≡ [] → (s.notes h).tries ≡ no_tries
  pub counted : (h p : ℕ) (line : Line) → IsAtLine w.lines s h p line → IsSome (try_of line.command) → (s.notes h).tries.found ≡ None
      → (s.notes h).tries.count ≡ 0
  pub found : (h p f : ℕ) (line : Line) (word : List ℕ) → IsAtLine w.lines s h p line → file_tried line.command ≡ Some f
      → (s.notes h).tries.found ≡ Some word → IsFoundStill w.geometry s.device.state f word
  pub alone : (h p f : ℕ) (line : Line) (word : List ℕ) → IsAtLine w.lines s h p line → file_used line.command ≡ Some f
      → (s.notes h).tries.found ≡ Some word → IsReadAlone (memories_of s.notes) h word
  pub shown : (h : ℕ) → (s.notes h).tries.shown ≡ None
  pub unstopped : (p : ℕ) (answer : Answer) → IsAnswered s.answers p answer → IsUnstopped answer
