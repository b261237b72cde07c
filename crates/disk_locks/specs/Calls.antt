-- What each call of the locks did, in the words of the store.
use Rattle.std.specs.Prelude.{◌≡◌, ◌⊎◌, ◌+◌, ◌-◌, ◌^◌, ◌==◌, ℕ, Err, IfSome, List, None, Ok, Result, false, min, slice_set, true, if◌then◌else◌}
use Rattle.std.specs.Str.{bytes_eq}
use Rattle.vol_base.specs.declared.block.Key.{Key}
use Rattle.vol_layout.specs.declared.kind.Kind.TheVariants as kinds
use Rattle.vol_layout.specs.declared.kind.Resource.{Resource}
use Rattle.vol_layout.specs.declared.kind.Resource.TheVariants.{File, Part, Group}
use Rattle.slot_lock_blocks.specs.declared.lock.LockWord.{LockWord}
use Rattle.slot_lock_blocks.specs.declared.lock.LockWord.TheVariants as words
use Rattle.slot_lock_blocks.specs.declared.slot.Slot.{Slot}
use Rattle.slot_lock_blocks.specs.declared.slot.Slot.TheVariants as slots
use Rattle.slot_lock_blocks.specs.LockWords.{lock_bytes, lock_readers}
use Rattle.slot_lock_blocks.specs.ReaderKeys.{nobody}
use Rattle.slot_lock_blocks.specs.Slots.{slot_bytes, slot_key}
use Rattle.lock_store.specs.declared.answers.Claim.{Claim}
use Rattle.lock_store.specs.declared.answers.Claim.TheVariants.{Claimed, Found}
use Rattle.lock_store.specs.declared.answers.StepNo.{StepNo}
use Rattle.lock_store.specs.declared.answers.StepNo.TheVariants.{Bad}
use Rattle.lock_store.specs.declared.answers.Took.{Took}
use Rattle.lock_store.specs.declared.answers.Took.TheVariants as took
use Rattle.lock_store.specs.declared.host.HostState.{HostState}
use Rattle.lock_store.specs.declared.purpose.Purpose.TheVariants.{Clear, Read, Release, Share, Write}
use Rattle.lock_store.specs.declared.purpose.SlotUse.{SlotUse}
use Rattle.lock_store.specs.declared.purpose.SlotUse.TheVariants as uses
use Rattle.lock_store.specs.Calls.{WritesBlock}
use Rattle.lock_store.specs.Memories.{claim_of, entered, key_of, left, with_beat, with_claim, with_hold, with_read, writing}
use Rattle.lock_store.specs.SlotTries.{TriesSlot}
use Rattle.lock_store.specs.Tries.{TriesLock, trier}
use Rattle.lock_store.specs.Views.{LocksView, host_at, key_at, told_of}
use Rattle.disk_locks.specs.declared.answers.Got.{Got}
use Rattle.disk_locks.specs.declared.answers.Got.TheVariants as got

-- a number as a key
abbrev pub key : ℕ → Key
key n = record { 0 = n }

-- the lock that the host holds
abbrev pub own_lock : LocksView → ℕ → LockWord
own_lock v h = words.Held (key (key_at v h))

-- the lock that these hosts read: a free one, where nobody does
abbrev pub word_of : List ℕ → LockWord
word_of readers = if bytes_eq readers nobody then words.Free else words.Read readers

-- the lock with the host as a reader under this key, and without it
abbrev pub with_reader : LockWord → ℕ → ℕ → LockWord
with_reader from h own = words.Read (slice_set (lock_readers from) h own)

abbrev pub without_reader : LockWord → ℕ → LockWord
without_reader from h = word_of (slice_set (lock_readers from) h 0)

-- the lock of a part or a group was tried from free to held
abbrev pub TriesHold : LocksView → ℕ → Resource → Result Took StepNo → LocksView → Type 0
TriesHold v h r result w =
    TriesLock v h r Share (trier h (host_at v h) r) words.Free (own_lock v h) (with_hold r true (host_at v h)) result w

abbrev pub TriesShared : LocksView → ℕ → Resource → Result Got StepNo → LocksView → Type 0
TriesShared v h r (Ok got.Got) w = TriesHold v h r (Ok took.Took) w
TriesShared v h r (Ok (got.Held other)) w = TriesHold v h r (Ok (took.Found (words.Held other))) w
TriesShared v h r (Err why) w = TriesHold v h r (Err why) w

-- the lock of a file was tried from a word to the same with the own key as a reader's
abbrev pub TriesRead : LocksView → ℕ → ℕ → LockWord → Result Took StepNo → LocksView → Type 0
TriesRead v h f from result w =
    TriesLock v h (File f) Read (trier h (host_at v h) (File f)) from (with_reader from h (key_at v h))
    (with_read f true (host_at v h)) result w

-- the lock of a file was tried from a word to held; a host that read the file reads it no more
abbrev pub TriesWrite : LocksView → ℕ → ℕ → LockWord → Result Took StepNo → LocksView → Type 0
TriesWrite v h f from result w =
    TriesLock v h (File f) Write (trier h (host_at v h) (File f)) from (own_lock v h) (writing f (host_at v h)) result w

-- the lock of a file was tried from a word to the same without the own key
abbrev pub ReleasesRead : LocksView → ℕ → ℕ → LockWord → Result Took StepNo → LocksView → Type 0
ReleasesRead v h f from result w =
    TriesLock v h (File f) Release (trier h (host_at v h) (File f)) from (without_reader from h)
    (with_read f false (host_at v h)) result w

-- a lock that the host held was freed
abbrev pub Unlocks : LocksView → ℕ → Resource → Result Unit StepNo → LocksView → Type 0
Unlocks v h r result w = WritesBlock v h (kinds.Lock r) (lock_bytes words.Free) (with_hold r false (host_at v h)) result w

-- a dead host's lock was freed, or had another word
abbrev pub ClearsLock : LocksView → ℕ → ℕ → Resource → Result Took StepNo → LocksView → Type 0
ClearsLock v h dead r result w =
    TriesLock v h r Clear (trier h (host_at v h) r) (words.Held (key dead)) words.Free (host_at v h) result w

abbrev pub FreesLock : LocksView → ℕ → ℕ → Resource → Result Unit StepNo → LocksView → Type 0
FreesLock v h dead r (Ok done) w =
    ClearsLock v h dead r (Ok took.Took) w ⊎ ((word : LockWord) × ClearsLock v h dead r (Ok (took.Found word)) w)
FreesLock v h dead r (Err why) w = ClearsLock v h dead r (Err why) w

-- a slot is entered from a free one, or from the own claim
abbrev pub entry_use : Slot → SlotUse
entry_use slots.Free = uses.Take
entry_use (slots.Live key beat) = uses.Take
entry_use (slots.Recovering key by) = uses.Retake

-- the own slot was entered
abbrev pub EntersSlot : LocksView → ℕ → Slot → Result Claim StepNo → LocksView → Type 0
EntersSlot v h from result w =
    TriesSlot v h h (entry_use from) from (slots.Live (key (key_at v h)) 0) (entered h (host_at v h)) result w

-- the beat after this one, which stands still at its type's end
abbrev pub next_beat : ℕ → ℕ
next_beat beat = min (beat + 1) (2 ^ 64 - 1)

-- the next beat was shown in the own slot
abbrev pub Beats : LocksView → ℕ → Result Unit StepNo → LocksView → Type 0
Beats v h result w =
    let beat = next_beat (host_at v h).beat in
    WritesBlock v h (kinds.Slot h) (slot_bytes (slots.Live (key (key_at v h)) beat)) (with_beat beat (host_at v h)) result w

-- a slot was claimed: it is recovering by the host, and shows the dead key still
abbrev pub ClaimsSlot : LocksView → ℕ → ℕ → Slot → Result Claim StepNo → LocksView → Type 0
ClaimsSlot v h y from result w =
    TriesSlot v h y uses.Take from (slots.Recovering (key (slot_key from)) (key (key_at v h)))
    (with_claim y (slot_key from) (host_at v h)) result w

-- the slot as the host knows it: recovering by it where it claimed the slot, and else its own live one
abbrev pub slot_of : HostState → ℕ → Slot
slot_of m y =
    if claim_of m y == 0 then slots.Live (key (key_of m)) m.beat else slots.Recovering (key (claim_of m y)) (key (key_of m))

-- the host's memory once the slot is free
abbrev pub freeing : ℕ → HostState → HostState
freeing y m = if claim_of m y == 0 then left m else with_claim y 0 m

-- a slot was tried from what the host knows to free
abbrev pub ClearsSlot : LocksView → ℕ → ℕ → Result Claim StepNo → LocksView → Type 0
ClearsSlot v h y result w =
    TriesSlot v h y uses.Clear (slot_of (host_at v h) y) slots.Free (freeing y (host_at v h)) result w

abbrev pub FreesSlot : LocksView → ℕ → ℕ → Result Unit StepNo → LocksView → Type 0
FreesSlot v h y (Ok done) w = ClearsSlot v h y (Ok Claimed) w ⊎ ((slot : Slot) × ClearsSlot v h y (Ok (Found slot)) w)
FreesSlot v h y (Err why) w = ClearsSlot v h y (Err why) w

-- a part or a group, whose lock is held by one host at a time
abbrev pub IsShared : Resource → Type 0
IsShared (File f) = ⊥
IsShared (Part p) = Unit {0}
IsShared (Group r) = Unit {0}

-- a block that is not of its kind comes only where the device does not tell its content
abbrev pub IsSound : {T : Type 0} → Result T StepNo → LocksView → Type 0
IsSound result v = (place : ℕ) → result ≡ Err (Bad place) → told_of v ≡ None

-- where the device tells its content, the step frees the slot
abbrev pub IsFreed : LocksView → ℕ → ℕ → Result Unit StepNo → LocksView → Type 0
IsFreed v h y (Ok done) w = IfSome (told_of v) (λ t. ClearsSlot v h y (Ok Claimed) w)
IsFreed v h y (Err why) w = Unit {0}
