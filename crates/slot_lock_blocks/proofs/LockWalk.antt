-- A lock word is what its numbers say.
use Rattle.std.proofs.Common.{◌≡◌, ◌≢◌, ◌<◌, ℕ, List, refl, sym, ap, ◌∙◌, arith}
use Rattle.vol_base.specs.declared.block.Key.{Key}
use Rattle.vol_base.specs.Bytes.{u32_at, u64_at}
use Rattle.slot_lock_blocks.specs.declared.lock.LockWord.{LockWord}
use Rattle.slot_lock_blocks.specs.declared.lock.LockWord.TheVariants.{Free, Held, Read}
use Rattle.slot_lock_blocks.specs.ReaderKeys.{AreReaders, StandIn, nobody}
use Rattle.slot_lock_blocks.specs.LockWords.{SpellsLock}
use Rattle.slot_lock_blocks.specs.laws.LockLaws.{lock_numbers}
use Rattle.slot_lock_blocks.proofs.KeyLaws.{same_key}

pub is_free : (bytes : List ℕ) (word : LockWord) → SpellsLock bytes word → u32_at bytes 8 ≡ 0 → word ≡ Free
is_free bytes Free h none = refl
is_free bytes (Held key) h none = absurd (omega (arith, (lock_numbers bytes (Held key) h).state))
is_free bytes (Read readers) h none = absurd (omega (arith, (lock_numbers bytes (Read readers) h).state))

pub is_held : (bytes : List ℕ) (word : LockWord) (key : Key) → SpellsLock bytes word → u32_at bytes 8 ≡ 1 → key.0 ≡ u64_at bytes 16
    → word ≡ Held key
is_held bytes Free key h one k = absurd (omega (arith, (lock_numbers bytes Free h).state))
is_held bytes (Held x) key h one k = ap (λ y. Held y) (same_key x key (sym (k ∙ (lock_numbers bytes (Held x) h).key)))
is_held bytes (Read readers) key h one k = absurd (omega (arith, (lock_numbers bytes (Read readers) h).state))

pub has_holder : (bytes : List ℕ) (word : LockWord) → SpellsLock bytes word → u32_at bytes 8 ≡ 1 → u64_at bytes 16 ≢ 0
has_holder bytes Free h one = absurd (omega (arith, (lock_numbers bytes Free h).state))
has_holder bytes (Held key) h one = λ none. h.0.0 (sym (lock_numbers bytes (Held key) h).key ∙ none)
has_holder bytes (Read readers) h one = absurd (omega (arith, (lock_numbers bytes (Read readers) h).state))

-- the readers of a lock that is read, which stand in its block
pub record IsRead (bytes : List ℕ) (word : LockWord) : Type 0 where
  pub readers : List ℕ
  pub are : AreReaders readers
  pub some : readers ≢ nobody
  pub stand : StandIn bytes readers
  pub word_is : word ≡ Read readers

pub is_read : (bytes : List ℕ) (word : LockWord) → SpellsLock bytes word → u32_at bytes 8 ≡ 2 → IsRead bytes word
is_read bytes Free h two = absurd (omega (arith, (lock_numbers bytes Free h).state))
is_read bytes (Held key) h two = absurd (omega (arith, (lock_numbers bytes (Held key) h).state))
is_read bytes (Read keys) h two =
    record { readers = keys; are = h.0.0; some = h.0.1; stand = (lock_numbers bytes (Read keys) h).readers; word_is = refl }

pub has_state : (bytes : List ℕ) (word : LockWord) → SpellsLock bytes word → u32_at bytes 8 < 3
has_state bytes Free h = omega (arith, (lock_numbers bytes Free h).state)
has_state bytes (Held key) h = omega (arith, (lock_numbers bytes (Held key) h).state)
has_state bytes (Read readers) h = omega (arith, (lock_numbers bytes (Read readers) h).state)
