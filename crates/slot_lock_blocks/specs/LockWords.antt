use Rattle.std.specs.Prelude.{◌≡◌, ◌≢◌, ℕ, List, ◌++◌, codes}
use Rattle.std.specs.List.{flat_map}
use Rattle.vol_base.specs.Bytes.{bytes_of, zeros}
use Rattle.slot_lock_blocks.specs.declared.lock.LockWord.{LockWord}
use Rattle.slot_lock_blocks.specs.declared.lock.LockWord.TheVariants.{Free, Held, Read}
use Rattle.slot_lock_blocks.specs.Keys.{IsKey, header_bytes}
use Rattle.slot_lock_blocks.specs.ReaderKeys.{AreReaders, nobody}

-- the number of a lock's state
abbrev pub lock_state : LockWord → ℕ
lock_state Free = 0
lock_state (Held key) = 1
lock_state (Read readers) = 2

-- the key by which a lock is held, 0 for none; a read lock is held by no key
abbrev pub lock_key : LockWord → ℕ
lock_key Free = 0
lock_key (Held key) = key.0
lock_key (Read readers) = 0

-- the keys of a lock's readers by host number
abbrev pub lock_readers : LockWord → List ℕ
lock_readers Free = nobody
lock_readers (Held key) = nobody
lock_readers (Read readers) = readers

-- a lock word in range: a held one has a key, and a read one a reader
abbrev pub IsLockWord : LockWord → Type 0
IsLockWord Free = Unit {0}
IsLockWord (Held key) = IsKey key.0
IsLockWord (Read readers) = AreReaders readers × (readers ≢ nobody)

-- the one spelling of a lock word: the readers' keys stand from byte 64 on
unfoldable pub lock_bytes : LockWord → List ℕ
lock_bytes word =
    header_bytes (codes "DEDELOCK") (lock_state word) (lock_key word) ++ zeros 40
    ++ flat_map (bytes_of 8) (lock_readers word) ++ zeros 3904

-- the block spells this lock word, which is in range
abbrev pub SpellsLock : List ℕ → LockWord → Type 0
SpellsLock bytes word = IsLockWord word × (bytes ≡ lock_bytes word)
