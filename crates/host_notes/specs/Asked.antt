-- What each call of the locks asks of the device.
use Rattle.std.specs.Prelude.{◌≡◌, ℕ}
use Rattle.vol_layout.specs.declared.geometry.Geometry.{Geometry}
use Rattle.vol_layout.specs.declared.kind.Kind.{Kind}
use Rattle.vol_layout.specs.declared.kind.Kind.TheVariants as kinds
use Rattle.vol_layout.specs.declared.kind.Resource.{Resource}
use Rattle.vol_layout.specs.declared.kind.Resource.TheVariants.{File}
use Rattle.vol_layout.specs.Places.{place_of}
use Rattle.shared_disk.specs.Events.{Call, Reply, Fences, Reads, Refuses, Registers, Shows, Tests, Writes}
use Rattle.slot_lock_blocks.specs.declared.lock.LockWord.{LockWord}
use Rattle.slot_lock_blocks.specs.declared.lock.LockWord.TheVariants as words
use Rattle.slot_lock_blocks.specs.declared.slot.Slot.{Slot}
use Rattle.slot_lock_blocks.specs.declared.slot.Slot.TheVariants as slots
use Rattle.slot_lock_blocks.specs.LockWords.{lock_bytes}
use Rattle.slot_lock_blocks.specs.Slots.{slot_bytes, slot_key}
use Rattle.lock_store.specs.Events.{swap_of}
use Rattle.lock_store.specs.Views.{LocksView, host_at, key_at}
use Rattle.disk_locks.specs.Calls.{key, next_beat, own_lock, slot_of, with_reader, without_reader}
use Rattle.disk_locks.specs.MayWrite.{IsWritable}

-- a lock is tried from one word to another, and a slot from one content to another
abbrev pub lock_try : LocksView → Resource → LockWord → LockWord → Call
lock_try v r from to = swap_of v (kinds.Lock r) (lock_bytes from) (lock_bytes to)

abbrev pub slot_try : LocksView → ℕ → Slot → Slot → Call
slot_try v y from to = swap_of v (kinds.Slot y) (slot_bytes from) (slot_bytes to)

-- a free lock is to be held; the own key is to be among a file's readers, or to hold the file, or to be among its readers no more;
-- the lock of a dead key is to be free; and a lock is freed
abbrev pub hold_call : LocksView → ℕ → Resource → Call
hold_call v h r = lock_try v r words.Free (own_lock v h)

abbrev pub read_call : LocksView → ℕ → ℕ → LockWord → Call
read_call v h f from = lock_try v (File f) from (with_reader from h (key_at v h))

abbrev pub write_call : LocksView → ℕ → ℕ → LockWord → Call
write_call v h f from = lock_try v (File f) from (own_lock v h)

abbrev pub release_call : LocksView → ℕ → ℕ → LockWord → Call
release_call v h f from = lock_try v (File f) from (without_reader from h)

abbrev pub clear_call : LocksView → ℕ → Resource → Call
clear_call v dead r = lock_try v r (words.Held (key dead)) words.Free

abbrev pub unlock_call : LocksView → Resource → Call
unlock_call v r = Writes (place_of v.geometry (kinds.Lock r)) (lock_bytes words.Free)

-- the own slot is entered, and shows the next beat; a slot is claimed, and freed
abbrev pub enter_call : LocksView → ℕ → Slot → Call
enter_call v h from = slot_try v h from (slots.Live (key (key_at v h)) 0)

abbrev pub beat_call : LocksView → ℕ → Call
beat_call v h =
    Writes (place_of v.geometry (kinds.Slot h)) (slot_bytes (slots.Live (key (key_at v h)) (next_beat (host_at v h).beat)))

abbrev pub claim_call : LocksView → ℕ → ℕ → Slot → Call
claim_call v h y from = slot_try v y from (slots.Recovering (key (slot_key from)) (key (key_at v h)))

abbrev pub free_call : LocksView → ℕ → ℕ → Call
free_call v h y = slot_try v y (slot_of (host_at v h) y) slots.Free

-- the place of a block that is no superblock, no slot and no lock
pub record IsPlainPlace (g : Geometry) (place : ℕ) : Type 0 where
  pub kind : Kind
  pub writable : IsWritable g kind
  pub at : place ≡ place_of g kind

-- a call that marks nothing: a read, and a call at a plain place
abbrev pub IsPlain : Geometry → Call → Type 0
IsPlain g (Reads place) = Unit {0}
IsPlain g (Writes place block) = IsPlainPlace g place
IsPlain g (Tests place old new) = IsPlainPlace g place
IsPlain g (Registers of) = ⊥
IsPlain g (Fences target) = ⊥

-- a call that changed nothing of which a host keeps notes: it was refused, showed a block, takes a key off, or marks nothing
abbrev pub IsQuiet : Geometry → Call → Reply → Type 0
IsQuiet g call (Refuses cause) = Unit {0}
IsQuiet g call (Shows block) = Unit {0}
IsQuiet g (Fences target) reply = Unit {0}
IsQuiet g call reply = IsPlain g call
