-- The numbers of a spelled lock are those of the lock word.
use Rattle.std.proofs.Common.{◌≡◌, ◌<◌, ◌+◌, ◌*◌, ◌^◌, ℕ, List, ◌++◌, length, slice_index, refl, ap, ◌∙◌, arith, append_assoc, length-append}
use Rattle.std.specs.Prelude.{codes}
use Rattle.std.specs.List.{flat_map}
use Rattle.std.proofs.lemmas.Option.{slice_get-get_or}
use Rattle.vol_base.specs.Bytes.{bytes_of, zeros, u32_at, u64_at}
use Rattle.vol_base.specs.laws.BytesLaws.{length-zeros}
use Rattle.vol_base.specs.laws.RowLaws.{number_at-row}
use Rattle.slot_lock_blocks.specs.declared.lock.LockWord.{LockWord}
use Rattle.slot_lock_blocks.specs.declared.lock.LockWord.TheVariants.{Free, Held, Read}
use Rattle.slot_lock_blocks.specs.Keys.{header_bytes}
use Rattle.slot_lock_blocks.specs.laws.HeaderLaws.{header-state, header-key, length-header_bytes}
use Rattle.slot_lock_blocks.specs.ReaderKeys.{AreReaders, StandIn}
use Rattle.slot_lock_blocks.specs.laws.ReaderLaws.{AreReaders-nobody}
use Rattle.slot_lock_blocks.specs.LockWords.{IsLockWord, SpellsLock, lock_bytes, lock_key, lock_readers, lock_state}

-- what stands at each place of a lock
pub record LockNumbers (bytes : List ℕ) (word : LockWord) : Type 0 where
  pub state : u32_at bytes 8 ≡ lock_state word
  pub key : u64_at bytes 16 ≡ lock_key word
  pub readers : StandIn bytes (lock_readers word)

readers_of : (word : LockWord) → IsLockWord word → AreReaders (lock_readers word)
readers_of Free h = AreReaders-nobody
readers_of (Held key) h = AreReaders-nobody
readers_of (Read readers) h = h.0

small : (word : LockWord) → IsLockWord word → (lock_state word < 3) × (lock_key word < 256 ^ 8)
small Free h = (omega arith, omega arith)
small (Held key) h = (omega arith, omega (arith, h.1))
small (Read readers) h = (omega arith, omega arith)

-- the keys of readers from byte 64 on
row : (front rest readers : List ℕ) (host : ℕ) → length front ≡ 64 → AreReaders readers → host < 16
    → u64_at (front ++ flat_map (bytes_of 8) readers ++ rest) (64 + 8 * host) ≡ slice_index readers host
row front rest readers host long are h =
    let inside : host < length readers = omega (arith, are.long) in
    number_at-row 8 host (64 + 8 * host) front rest readers (slice_index readers host) (slice_get-get_or readers host 0 inside)
    (omega (arith, are.width host 0 inside)) (omega (arith, long))

written : (word : LockWord) → IsLockWord word → LockNumbers (lock_bytes word) word
unfolding lock_bytes
written word h =
    let s = small word h in
    let front = header_bytes (codes "DEDELOCK") (lock_state word) (lock_key word) in
    let keys = flat_map (bytes_of 8) (lock_readers word) in
    let long = length-header_bytes (codes "DEDELOCK") (lock_state word) (lock_key word) refl in
    let behind = append_assoc (front ++ zeros 40) keys (zeros 3904) ∙ append_assoc front (zeros 40) (keys ++ zeros 3904) in
    record {
      state = ap (λ (xs : List ℕ). u32_at xs 8) behind ∙ header-state (codes "DEDELOCK") (zeros 40 ++ (keys ++ zeros 3904)) (lock_state word) (lock_key word) refl (omega (arith, s.0));
      key = ap (λ (xs : List ℕ). u64_at xs 16) behind ∙ header-key (codes "DEDELOCK") (zeros 40 ++ (keys ++ zeros 3904)) (lock_state word) (lock_key word) refl s.1;
      readers = λ host. row (front ++ zeros 40) (zeros 3904) (lock_readers word) host (omega (arith, long, length-append front (zeros 40), length-zeros 40)) (readers_of word h);
    }

-- the numbers of a block that spells a lock word
pub lock_numbers : (bytes : List ℕ) (word : LockWord) → SpellsLock bytes word → LockNumbers bytes word
lock_numbers bytes word h =
    let w = written word h.0 in
    record {
      state = ap (λ (xs : List ℕ). u32_at xs 8) h.1 ∙ w.state;
      key = ap (λ (xs : List ℕ). u64_at xs 16) h.1 ∙ w.key;
      readers = λ host below. ap (λ (xs : List ℕ). u64_at xs (64 + 8 * host)) h.1 ∙ w.readers host below;
    }
