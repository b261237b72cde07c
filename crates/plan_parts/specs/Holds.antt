-- The hold of a file on its way: what stands between two steps, what the notes say there, and what each step did.
use Rattle.std.specs.Prelude.{◌≡◌, ◌≢◌, ◌⊎◌, ◌+◌, ◌-◌, ◌≤◌, ◌<◌, ℕ, suc, zero, Bool, true, false, List, Option, None, Some, IfSome, IsSome, option_map, slice_index}
use Rattle.std.specs.Option.{option_or}
use Rattle.vol_base.specs.declared.block.Key.{Key}
use Rattle.vol_base.specs.declared.command.Command.{Command}
use Rattle.vol_base.specs.declared.command.Command.TheVariants.{Close}
use Rattle.vol_layout.specs.declared.kind.Resource.TheVariants.{File}
use Rattle.shared_disk.specs.Events.{Event}
use Rattle.slot_lock_blocks.specs.declared.lock.LockWord.{LockWord}
use Rattle.slot_lock_blocks.specs.declared.lock.LockWord.TheVariants as words
use Rattle.slot_lock_blocks.specs.declared.slot.Slot.{Slot}
use Rattle.slot_lock_blocks.specs.LockWords.{IsLockWord, lock_bytes, lock_readers}
use Rattle.slot_lock_blocks.specs.Slots.{slot_key}
use Rattle.lock_store.specs.declared.answers.StepNo.{StepNo}
use Rattle.lock_store.specs.Memories.{holds, reads}
use Rattle.lock_store.specs.Views.{LocksView, host_at, key_at}
use Rattle.disk_locks.specs.Calls.{with_reader}
use Rattle.disk_locks.specs.Freeing.{HaveEnded, IsOpen}
use Rattle.disk_locks.specs.Keys.{HasEnded, HasEntered}
use Rattle.disk_locks.specs.Sure.{Sure}
use Rattle.host_runs.specs.FileUses.{ToRead, ToWrite, file_used, try_of}
use Rattle.host_runs.specs.Notes.{Notes}
use Rattle.host_runs.specs.Tries.{Tries}
use Rattle.host_facts.specs.LockResults.{Gains}
use Rattle.host_facts.specs.Looks.{Looks}
use Rattle.host_facts.specs.Relocks.{Relocks}
use Rattle.host_facts.specs.Views.{WorldView}
use Rattle.plan_parts.specs.Cuts.{IsCutBy}
use Rattle.plan_parts.specs.OtherReaders.{HasNone, IsNext, IsOther, lowest_in}
use Rattle.plan_parts.specs.QuietCalls.{Noted, QuietCall}
use Rattle.plan_parts.specs.declared.outcome.Outcome.TheVariants.{Busy, Open}
use Rattle.plan_parts.specs.declared.read_try.ReadTry.{ReadTry}
use Rattle.plan_parts.specs.declared.take_write.TakeWrite.{TakeWrite}
use Rattle.plan_parts.specs.declared.take_write.TakeWrite.TheVariants as writes
use Rattle.plan_parts.specs.declared.taking.Taking.{Taking}
use Rattle.plan_parts.specs.declared.taking.Taking.TheVariants as taking

-- what the lock of a file is hoped to have: nothing, or the own key alone where the host reads the file
abbrev pub alone : Bool → ℕ → ℕ → LockWord
alone true h own = with_reader words.Free h own
alone false h own = words.Free

-- for a host and a file
abbrev pub alone_word : LocksView → ℕ → ℕ → LockWord
alone_word v h f = alone (reads (host_at v h) (File f)) h (key_at v h)

-- the commands on a file that are to read it, that are to have it alone, and that give a read hold of it back
abbrev pub ReadsFile : ℕ → Command → Type 0
ReadsFile f command = (file_used command ≡ Some f) × (try_of command ≡ Some ToRead)

abbrev pub WritesFile : ℕ → Command → Type 0
WritesFile f command = (file_used command ≡ Some f) × (try_of command ≡ Some ToWrite)

abbrev pub ReleasesFile : ℕ → Command → Type 0
ReleasesFile f command = command ≡ Close f

-- the word that a command found last in the lock, behind so many tries, which it tries from
abbrev pub found_of : ℕ → LockWord → Option (List ℕ)
found_of zero from = None
found_of (suc n) from = Some (lock_bytes from)

-- the numbers of keys
abbrev pub number_of : Option Key → Option ℕ
number_of key = option_map (λ (k : Key). k.0) key

-- what the notes say of the tries
abbrev pub tries_of : ReadTry → Tries
tries_of t = record { count = t.tries; found = found_of t.tries t.from; reader = number_of t.reader; shown = None }

abbrev pub write_tries : TakeWrite → Option ℕ → Tries
write_tries (writes.Try from tries) reader = record { count = tries; found = found_of tries from; reader = reader; shown = None }
write_tries (writes.Check readers at) reader =
    record { count = 1; found = Some (lock_bytes (words.Read readers)); reader = reader; shown = None }

-- the notes of a command that has come to nothing yet, and whose tries are these
pub record AtTries (command : Command) (h : ℕ) (v : WorldView) (t : Tries) (n : Notes) : Type 0 where
  pub noted : Noted command h v Open n
  pub tries_are : n.tries ≡ t

-- the notes at a try for a read hold, or to give it back; and at a step for a write hold, whatever reader is noted
abbrev pub NotedTry : Command → ℕ → WorldView → ReadTry → Notes → Type 0
NotedTry command h v t n = AtTries command h v (tries_of t) n

abbrev pub NotedWrite : Command → ℕ → WorldView → TakeWrite → Notes → Type 0
NotedWrite command h v t n = (reader : Option ℕ) × AtTries command h v (write_tries t reader) n

-- a host that is joined and does not hold the file
pub record IsOutside (v : WorldView) (h f : ℕ) : Type 0 where
  pub joined : (host_at v.locks h).joined ≡ true
  pub file : f < v.locks.geometry.files
  pub out : holds (host_at v.locks h) (File f) ≡ false

-- a word that a hold is tried from: the first is what is hoped, and behind it another reader was found
pub record IsTrying (v : WorldView) (h f last : ℕ) (t : ReadTry) : Type 0 where
  pub outside : IsOutside v h f
  pub word : IsLockWord t.from
  pub unheld : IsOpen t.from
  pub tries : t.tries ≤ last
  pub first : t.tries ≡ 0 → t.from ≡ alone_word v.locks h f
  pub met : t.tries ≢ 0 → IsSome t.reader
  pub other : IfSome t.reader (λ key. key.0 ≢ key_at v.locks h)

-- a host that does not read the file, and is to read it; three tries are made
pub record IsReadTaking (v : WorldView) (h f : ℕ) (t : ReadTry) : Type 0 where
  pub trying : IsTrying v h f 2 t
  pub unread : reads (host_at v.locks h) (File f) ≡ false

-- a host that reads the file, and is to read it no more; two tries are made
pub record IsReleasing (v : WorldView) (h f : ℕ) (t : ReadTry) : Type 0 where
  pub trying : IsTrying v h f 1 t
  pub reads_it : reads (host_at v.locks h) (File f) ≡ true
  pub among : slice_index (lock_readers t.from) h ≡ key_at v.locks h

-- each other key has entered, and those at places before this one have ended
pub record ReadersAre (l : LocksView) (h : ℕ) (readers : List ℕ) (at : ℕ) : Type 0 where
  pub entered : (y : ℕ) → IsOther (key_at l h) (slice_index readers y) → HasEntered l (slice_index readers y)
  pub ended : (y : ℕ) → y < at → IsOther (key_at l h) (slice_index readers y) → HasEnded l (slice_index readers y)

-- as far as the host is sure of it
abbrev pub AreChecked : LocksView → ℕ → List ℕ → ℕ → Type 0
AreChecked l h readers at = Sure l h (λ image. ReadersAre l h readers at)

-- a word that a write hold is tried from: every other reader's key in it has ended; but behind one try it is what is hoped
pub record IsWriteTry (v : WorldView) (h f : ℕ) (from : LockWord) (tries : ℕ) : Type 0 where
  pub word : IsLockWord from
  pub unheld : IsOpen from
  pub few : tries < 3
  pub ended : Sure v.locks h (λ image. HaveEnded v.locks h from)
  pub hoped : tries ≢ 1 → from ≡ alone_word v.locks h f

-- readers that were found, of which those before this place have ended
pub record IsWriteCheck (v : WorldView) (h : ℕ) (readers : List ℕ) (at : ℕ) : Type 0 where
  pub word : IsLockWord (words.Read readers)
  pub below : at < v.locks.geometry.hosts
  pub other : IsOther (key_at v.locks h) (slice_index readers at)
  pub checked : AreChecked v.locks h readers at

-- a host that is to have the file alone
abbrev pub IsAtWrite : WorldView → ℕ → ℕ → TakeWrite → Type 0
IsAtWrite v h f (writes.Try from tries) = IsWriteTry v h f from tries
IsAtWrite v h f (writes.Check readers at) = IsWriteCheck v h readers at

pub record IsWriteTaking (v : WorldView) (h f : ℕ) (t : TakeWrite) : Type 0 where
  pub outside : IsOutside v h f
  pub at : IsAtWrite v h f t

-- the key by which a lock is held
abbrev pub holder_of : LockWord → Option ℕ
holder_of words.Free = None
holder_of (words.Held key) = Some key.0
holder_of (words.Read readers) = None

-- the other reader that is noted behind a word that was found
abbrev pub reader_behind : ℕ → ReadTry → LockWord → Option ℕ
reader_behind own t word = option_or (lowest_in own (lock_readers word)) (number_of t.reader)

-- what is done with another word that was found: its holder is shown; behind the last try the reader is; else it is tried from
abbrev pub HasGoneOn : ℕ → ReadTry → ℕ → LockWord → Taking ReadTry → Type 0
HasGoneOn own t last word (taking.More u) =
    (holder_of word ≡ None) × (t.tries ≢ last) × (u.from ≡ word) × (u.tries ≡ t.tries + 1) × (number_of u.reader ≡ reader_behind own t word)
HasGoneOn own t last word taking.Taken = ⊥
HasGoneOn own t last word (taking.Busy key) =
    (holder_of word ≡ Some key.0) ⊎ ((holder_of word ≡ None) × (t.tries ≡ last) × (reader_behind own t word ≡ Some key.0))

-- what comes of readers whose slots were read before this place
abbrev pub IsChecking : ℕ → ℕ → List ℕ → ℕ → TakeWrite → Type 0
IsChecking own hosts readers from (writes.Check same at) = (same ≡ readers) × IsNext own readers from hosts at
IsChecking own hosts readers from (writes.Try next tries) = (next ≡ words.Read readers) × (tries ≡ 1) × HasNone own readers from hosts

-- what is done with other readers that were found by a try for a write hold: they are checked behind the first one; later the lowest
-- other key is shown
abbrev pub HasMetReaders : ℕ → ℕ → ℕ → List ℕ → Taking TakeWrite → Type 0
HasMetReaders own hosts tries readers (taking.More u) =
    ((tries ≡ 0) × IsChecking own hosts readers 0 u)
    ⊎ ((tries ≢ 0) × (u ≡ writes.Try (words.Read readers) (tries + 1)) × (lowest_in own readers ≡ None))
HasMetReaders own hosts tries readers taking.Taken = ⊥
HasMetReaders own hosts tries readers (taking.Busy key) = (tries ≢ 0) × (lowest_in own readers ≡ Some key.0)

-- and with another word: its holder is shown, and a free one is tried from
abbrev pub HasMet : ℕ → ℕ → ℕ → LockWord → Taking TakeWrite → Type 0
HasMet own hosts tries words.Free result = result ≡ taking.More (writes.Try words.Free (tries + 1))
HasMet own hosts tries (words.Held key) result = result ≡ taking.Busy key
HasMet own hosts tries (words.Read readers) result = HasMetReaders own hosts tries readers result

-- what is done with a slot that was read
abbrev pub HasChecked : ℕ → ℕ → List ℕ → ℕ → Slot → Taking TakeWrite → Type 0
HasChecked own hosts readers at slot (taking.More u) = (slot_key slot ≢ slice_index readers at) × IsChecking own hosts readers (at + 1) u
HasChecked own hosts readers at slot taking.Taken = ⊥
HasChecked own hosts readers at slot (taking.Busy key) = (slot_key slot ≡ slice_index readers at) × (key.0 ≡ slice_index readers at)

-- the call was made by which each such command goes from notes to notes
pub record IsAsked (Is : Command → Type 0) (h : ℕ) (v w : WorldView) (Before After : Command → Notes → Type 0) : Type 0 where
  pub event : Event
  pub quiet : (command : Command) → Is command → QuietCall command h v w event (Before command) (After command)

-- a step was refused, and cuts each such command
abbrev pub CutsEach : (Command → Type 0) → ℕ → WorldView → WorldView → (Command → Notes → Type 0) → StepNo → Type 0
CutsEach Is h v w Before why = (command : Command) → Is command → IsCutBy command h v w why (Before command)

-- nothing was taken yet, and the next stage stands
pub record HasMore (Is : Command → Type 0) (h : ℕ) (v w : WorldView) (Before After : Command → Notes → Type 0) (Stands : Type 0) : Type 0
  where
    pub looks : Looks h v w
    pub stands : Stands
    pub asked : IsAsked Is h v w Before After

-- another host's key was shown, and nothing was taken
pub record HasBusy (Is : Command → Type 0) (h : ℕ) (v w : WorldView) (Before : Command → Notes → Type 0) (key : Key) : Type 0 where
  pub looks : Looks h v w
  pub asked : IsAsked Is h v w Before (λ c. Noted c h w (Busy key))

-- the file is read
pub record HasRead (h f : ℕ) (v w : WorldView) (t : ReadTry) : Type 0 where
  pub gains : Gains h (File f) v w
  pub reads_it : reads (host_at w.locks h) (File f) ≡ true
  pub out : holds (host_at w.locks h) (File f) ≡ false
  pub asked : IsAsked (ReadsFile f) h v w (λ c. NotedTry c h v t) (λ c. Noted c h w Open)

-- the file is held
pub record HasWrite (h f : ℕ) (v w : WorldView) (t : TakeWrite) : Type 0 where
  pub gains : Gains h (File f) v w
  pub held : holds (host_at w.locks h) (File f) ≡ true
  pub unread : reads (host_at w.locks h) (File f) ≡ false
  pub asked : IsAsked (WritesFile f) h v w (λ c. NotedWrite c h v t) (λ c. Noted c h w Open)

-- the file is read no more
pub record HasReleased (h f : ℕ) (v w : WorldView) (t : ReadTry) : Type 0 where
  pub relocks : Relocks h (File f) v w
  pub unread : reads (host_at w.locks h) (File f) ≡ false
  pub out : holds (host_at w.locks h) (File f) ≡ false
  pub asked : IsAsked (ReleasesFile f) h v w (λ c. NotedTry c h v t) (λ c. Noted c h w Open)

-- what a step for a read hold did, by what it says
abbrev pub TakesRead : ℕ → ℕ → WorldView → WorldView → ReadTry → Taking ReadTry → Type 0
TakesRead h f v w t (taking.More u) =
    (u.tries ≡ t.tries + 1) × HasMore (ReadsFile f) h v w (λ c. NotedTry c h v t) (λ c. NotedTry c h w u) (IsReadTaking w h f u)
TakesRead h f v w t taking.Taken = HasRead h f v w t
TakesRead h f v w t (taking.Busy key) = HasBusy (ReadsFile f) h v w (λ c. NotedTry c h v t) key

-- and one that gives the hold back
abbrev pub GivesBack : ℕ → ℕ → WorldView → WorldView → ReadTry → Taking ReadTry → Type 0
GivesBack h f v w t (taking.More u) =
    (u.tries ≡ t.tries + 1) × HasMore (ReleasesFile f) h v w (λ c. NotedTry c h v t) (λ c. NotedTry c h w u) (IsReleasing w h f u)
GivesBack h f v w t taking.Taken = HasReleased h f v w t
GivesBack h f v w t (taking.Busy key) = HasBusy (ReleasesFile f) h v w (λ c. NotedTry c h v t) key

-- how many device calls are left at most: a check is behind the first try, and one of so many places
abbrev pub calls_left : ℕ → TakeWrite → ℕ
calls_left hosts (writes.Try from zero) = 3 + hosts
calls_left hosts (writes.Try from (suc tries)) = 2 - tries
calls_left hosts (writes.Check readers at) = 2 + (hosts - at)

-- what a step for a write hold did
abbrev pub TakesWrite : ℕ → ℕ → WorldView → WorldView → TakeWrite → Taking TakeWrite → Type 0
TakesWrite h f v w t (taking.More u) =
    (calls_left v.locks.geometry.hosts u < calls_left v.locks.geometry.hosts t)
    × HasMore (WritesFile f) h v w (λ c. NotedWrite c h v t) (λ c. NotedWrite c h w u) (IsWriteTaking w h f u)
TakesWrite h f v w t taking.Taken = HasWrite h f v w t
TakesWrite h f v w t (taking.Busy key) = HasBusy (WritesFile f) h v w (λ c. NotedWrite c h v t) key
