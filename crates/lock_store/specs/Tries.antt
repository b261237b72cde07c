-- Tries of locks: what may be found, and what a try did.
use Rattle.std.specs.Prelude.{◌≡◌, ◌≢◌, ℕ, List, Result, Ok, Err, true, false, slice_index}
use Rattle.vol_layout.specs.declared.kind.Kind.TheVariants as kinds
use Rattle.vol_layout.specs.declared.kind.Resource.{Resource}
use Rattle.vol_layout.specs.Places.{place_of}
use Rattle.shared_disk.specs.Events.{Done, Shows}
use Rattle.slot_lock_blocks.specs.declared.lock.LockWord.{LockWord}
use Rattle.slot_lock_blocks.specs.declared.lock.LockWord.TheVariants.{Free, Held, Read}
use Rattle.slot_lock_blocks.specs.LockWords.{IsLockWord, SpellsLock, lock_bytes}
use Rattle.lock_store.specs.declared.answers.StepNo.{StepNo}
use Rattle.lock_store.specs.declared.answers.Took.{Took}
use Rattle.lock_store.specs.declared.answers.Took.TheVariants as took
use Rattle.lock_store.specs.declared.host.HostState.{HostState}
use Rattle.lock_store.specs.declared.purpose.Purpose.{Purpose}
use Rattle.lock_store.specs.declared.purpose.Purpose.TheVariants as purposes
use Rattle.lock_store.specs.declared.purpose.Trier.{Trier}
use Rattle.lock_store.specs.Events.{Did, IsRefusal, read_of, swap_of}
use Rattle.lock_store.specs.Memories.{key_of, reads}
use Rattle.lock_store.specs.Views.{LocksView, host_at}

-- the lock has the trier's key at its host's place only where the trier reads the file
abbrev pub MayBeAmong : Trier → List ℕ → Type 0
MayBeAmong who readers = slice_index readers who.host ≡ who.key.0 → who.reads ≡ true

-- the word may stand where this try finds another one than it hoped for: of no other word can a valid volume show it
abbrev pub MayFind : Purpose → Trier → LockWord → Type 0
MayFind purposes.Share who Free = ⊥
MayFind purposes.Share who (Held key) = key.0 ≢ who.key.0
MayFind purposes.Share who (Read readers) = ⊥
MayFind purposes.Read who Free = Unit {0}
MayFind purposes.Read who (Held key) = key.0 ≢ who.key.0
MayFind purposes.Read who (Read readers) = MayBeAmong who readers
MayFind purposes.Write who Free = who.reads ≡ false
MayFind purposes.Write who (Held key) = key.0 ≢ who.key.0
MayFind purposes.Write who (Read readers) = MayBeAmong who readers
MayFind purposes.Release who Free = ⊥
MayFind purposes.Release who (Held key) = ⊥
MayFind purposes.Release who (Read readers) = slice_index readers who.host ≡ who.key.0
MayFind purposes.Clear who word = Unit {0}

-- the block is of its kind where this try finds it
abbrev pub FitsLock : Purpose → Trier → List ℕ → Type 0
FitsLock purpose who block = (word : LockWord) × SpellsLock block word × MayFind purpose who word

-- a try of a lock from one word to another, after which the host's memory is m: taken, another word found, or refused
abbrev pub TriesLock : LocksView → ℕ → Resource → Purpose → Trier → LockWord → LockWord → HostState
    → Result Took StepNo → LocksView → Type 0
TriesLock v h r purpose who from to m (Ok took.Took) w =
    Did v h (swap_of v (kinds.Lock r) (lock_bytes from) (lock_bytes to)) Done m w
TriesLock v h r purpose who from to m (Ok (took.Found word)) w =
    Did v h (swap_of v (kinds.Lock r) (lock_bytes from) (lock_bytes to)) (Shows (lock_bytes word)) (host_at v h) w
    × IsLockWord word × MayFind purpose who word
TriesLock v h r purpose who from to m (Err why) w =
    IsRefusal v h (swap_of v (kinds.Lock r) (lock_bytes from) (lock_bytes to)) (place_of v.geometry (kinds.Lock r))
    (FitsLock purpose who) why w

-- the host that tries a resource's lock, as it is in memory
abbrev pub trier : ℕ → HostState → Resource → Trier
trier h m r = record { host = h; key = record { 0 = key_of m }; reads = reads m r }

-- the block spells some lock word
abbrev pub IsLockBlock : List ℕ → Type 0
IsLockBlock block = (word : LockWord) × SpellsLock block word

-- a lock was read, and is one
abbrev pub ConfirmsLock : LocksView → ℕ → Resource → Result Unit StepNo → LocksView → Type 0
ConfirmsLock v h r (Ok done) w =
    (block : List ℕ) × Did v h (read_of v (kinds.Lock r)) (Shows block) (host_at v h) w × IsLockBlock block
ConfirmsLock v h r (Err why) w =
    IsRefusal v h (read_of v (kinds.Lock r)) (place_of v.geometry (kinds.Lock r)) IsLockBlock why w
