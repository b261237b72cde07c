-- What a host remembers of locks, behind each call of the locks.
use Rattle.std.proofs.Common.{◌≡◌, ◌<◌, ◌%◌, ℕ, false, true, refl, sym, ap, ◌∙◌, inl, inr, arith}
use Rattle.std.specs.Prelude.{Ok}
use Rattle.vol_base.specs.declared.block.Key.{Key}
use Rattle.vol_layout.specs.declared.kind.Kind.TheVariants as kinds
use Rattle.vol_layout.specs.declared.kind.Resource.{Resource}
use Rattle.vol_layout.specs.declared.kind.Resource.TheVariants.{File}
use Rattle.vol_layout.specs.declared.geometry.Geometry.{Geometry}
use Rattle.vol_layout.specs.Ranges.{HasResource, IsGeometry}
use Rattle.shared_disk.specs.Events.{Done, Shows}
use Rattle.slot_lock_blocks.specs.declared.lock.LockWord.{LockWord}
use Rattle.slot_lock_blocks.specs.declared.lock.LockWord.TheVariants as words
use Rattle.slot_lock_blocks.specs.LockWords.{IsLockWord, lock_bytes}
use Rattle.lock_store.specs.declared.answers.Took.TheVariants as took
use Rattle.lock_store.specs.Events.{read_of}
use Rattle.lock_store.specs.declared.host.HostState.{HostState}
use Rattle.lock_store.specs.Memories.{holds, with_hold, with_read, writing}
use Rattle.lock_store.specs.Tries.{ConfirmsLock}
use Rattle.lock_store.specs.Views.{LocksView, host_at, key_at}
use Rattle.disk_locks.specs.declared.answers.Got.TheVariants as got
use Rattle.disk_locks.specs.Calls.{ClearsLock, FreesLock, IsShared, ReleasesRead, TriesRead, TriesShared, TriesWrite, Unlocks, own_lock, with_reader, without_reader}
use Rattle.disk_locks.specs.Consistent.{Consistent}
use Rattle.disk_locks.specs.SameElse.{SameElse}
use Rattle.host_facts.specs.laws.GuardLaws.{hold_else, hold_is, read_else, read_is, writing_else}
use Rattle.host_runs.specs.Memories.{Memory}
use Rattle.host_runs.specs.Words.{reader_in, state_in}
use Rattle.host_notes.specs.Asked.{clear_call, hold_call, read_call, release_call, unlock_call, write_call}
use Rattle.host_notes.specs.Remembered.{IsRemembered, RemembersCall, RemembersMade}
use Rattle.host_notes.specs.laws.QuietMemories.{remembered_same}
use Rattle.host_notes.specs.lemmas.LockNotes.{apart_read, apart_released, apart_shared, apart_unlocked, apart_writing, lock_noted}
use Rattle.host_notes.specs.lemmas.OwnKeys.{joined_key}
use Rattle.host_notes.specs.lemmas.WrittenBlocks.{block_written}
use Rattle.host_notes.specs.lemmas.Words.{free_word, held_word, one_is_no_two, reading_word, released_word, zero_is_no_one, zero_is_no_two}

file_small : (g : Geometry) (f : ℕ) → IsGeometry g → f < g.files → f < 64
file_small g f range has = omega (arith, range.files.1, has)

-- a memory does not differ from itself
same_else : (g : Geometry) (r : Resource) (m : HostState) → SameElse g r m m
same_else g r m = record {
  key = refl;
  beat = refl;
  joined = refl;
  freed = refl;
  holds_same = λ q has other. refl;
  reads_same = λ q has other. refl;
  claims_same = λ y. refl;
}

module _ (v l : LocksView) (h : ℕ) (memory : Memory) (is : IsRemembered v.geometry memory (host_at v h)) where
  -- the lock of a part or a group was taken, or found held
  pub remembered_shared : (r : Resource) → Consistent v → (host_at v h).joined ≡ true → HasResource v.geometry r → IsShared r
      → TriesShared v h r (Ok got.Got) l → RemembersCall v h memory (hold_call v h r) Done l
  remembered_shared r c joined has shared did =
      let own = joined_key v h c joined in
      let m = host_at v h in
      let word = held_word (key_at v h) own.is in
      let noted = lock_noted v.geometry r (key_at v h) (lock_bytes (own_lock v h)) memory m (with_hold r true m) has
      (hold_else v.geometry r true m c.geometry has) refl (λ one. hold_is v.geometry r true m c.geometry has (c.memories h).held)
      (λ two reader. absurd (one_is_no_two word.0 two)) (apart_shared r m shared (c.memories h).reading is.apart) is in
      block_written v.geometry h (key_at v h) (kinds.Lock r) (lock_bytes (own_lock v h)) memory has
      (with_hold r true m) (host_at l h) did.mine noted

  pub remembered_shared_held : (r : Resource) (other : Key) → TriesShared v h r (Ok (got.Held other)) l
      → RemembersCall v h memory (hold_call v h r) (Shows (lock_bytes (words.Held other))) l
  remembered_shared_held r other did =
      remembered_same v l h memory (hold_call v h r) (Shows (lock_bytes (words.Held other))) is tt did.0.mine

  -- a file is read, held, or read no more; or its lock had another word
  pub remembered_read : (f : ℕ) (from : LockWord) → Consistent v → (host_at v h).joined ≡ true → f < v.geometry.files
      → holds (host_at v h) (File f) ≡ false → IsLockWord from
      → TriesRead v h f from (Ok took.Took) l → RemembersCall v h memory (read_call v h f from) Done l
  remembered_read f from c joined has out word did =
      let own = joined_key v h c joined in
      let m = host_at v h in
      let block = lock_bytes (with_reader from h (key_at v h)) in
      let reading = reading_word from h (key_at v h) word own.small own.is own.of in
      let noted = lock_noted v.geometry (File f) (key_at v h) block memory m (with_read f true m) has
      (read_else v.geometry f true m) refl (λ one. absurd (one_is_no_two one reading.state))
      (λ two reader. read_is v.geometry f true m c.geometry has (c.memories h).reading) (apart_read f m out is.apart) is in
      block_written v.geometry h (key_at v h) (kinds.Lock (File f)) block memory has (with_read f true m) (host_at l h) did.mine noted

  pub remembered_read_found : (f : ℕ) (from word : LockWord) → TriesRead v h f from (Ok (took.Found word)) l
      → RemembersCall v h memory (read_call v h f from) (Shows (lock_bytes word)) l
  remembered_read_found f from word did = remembered_same v l h memory (read_call v h f from) (Shows (lock_bytes word)) is tt did.0.mine

  pub remembered_write : (f : ℕ) (from : LockWord) → Consistent v → (host_at v h).joined ≡ true → f < v.geometry.files
      → TriesWrite v h f from (Ok took.Took) l → RemembersCall v h memory (write_call v h f from) Done l
  remembered_write f from c joined has did =
      let own = joined_key v h c joined in
      let m = host_at v h in
      let word = held_word (key_at v h) own.is in
      let small = file_small v.geometry f c.geometry has in
      let noted = lock_noted v.geometry (File f) (key_at v h) (lock_bytes (own_lock v h)) memory m (writing f m) has
      (writing_else v.geometry f m c.geometry has) refl (λ one. hold_is v.geometry (File f) true m c.geometry has (c.memories h).held)
      (λ two reader. absurd (one_is_no_two word.0 two)) (apart_writing f m small (c.memories h).reading is.apart) is in
      block_written v.geometry h (key_at v h) (kinds.Lock (File f)) (lock_bytes (own_lock v h)) memory has
      (writing f m) (host_at l h) did.mine noted

  pub remembered_write_found : (f : ℕ) (from word : LockWord) → TriesWrite v h f from (Ok (took.Found word)) l
      → RemembersCall v h memory (write_call v h f from) (Shows (lock_bytes word)) l
  remembered_write_found f from word did = remembered_same v l h memory (write_call v h f from) (Shows (lock_bytes word)) is tt did.0.mine

  pub remembered_release : (f : ℕ) (from : LockWord) → Consistent v → (host_at v h).joined ≡ true → f < v.geometry.files → IsLockWord from
      → ReleasesRead v h f from (Ok took.Took) l → RemembersCall v h memory (release_call v h f from) Done l
  remembered_release f from c joined has word did =
      let own = joined_key v h c joined in
      let m = host_at v h in
      let block = lock_bytes (without_reader from h) in
      let released = released_word from h word own.small in
      let small = file_small v.geometry f c.geometry has in
      let none = λ (two : state_in block ≡ 2) (reader : reader_in block (key_at v h % 16) ≡ key_at v h).
      own.some (sym reader ∙ ap (reader_in block) own.of ∙ released.mine two) in
      let noted = lock_noted v.geometry (File f) (key_at v h) block memory m (with_read f false m) has
      (read_else v.geometry f false m) refl (λ one. absurd (released.unheld one))
      (λ two reader. absurd (none two reader)) (apart_released f m small (c.memories h).reading is.apart) is in
      block_written v.geometry h (key_at v h) (kinds.Lock (File f)) block memory has (with_read f false m) (host_at l h) did.mine noted

  pub remembered_release_found : (f : ℕ) (from word : LockWord) → ReleasesRead v h f from (Ok (took.Found word)) l
      → RemembersCall v h memory (release_call v h f from) (Shows (lock_bytes word)) l
  remembered_release_found f from word did =
      remembered_same v l h memory (release_call v h f from) (Shows (lock_bytes word)) is tt did.0.mine

  -- a lock that the host held was freed
  pub remembered_unlock : (r : Resource) (done : Unit) → Consistent v → HasResource v.geometry r → Unlocks v h r (Ok done) l
      → RemembersCall v h memory (unlock_call v r) Done l
  remembered_unlock r done c has did =
      let m = host_at v h in
      let noted = lock_noted v.geometry r (key_at v h) (lock_bytes words.Free) memory m (with_hold r false m) has
      (hold_else v.geometry r false m c.geometry has) refl (λ one. absurd (zero_is_no_one free_word one))
      (λ two reader. absurd (zero_is_no_two free_word two))
      (apart_unlocked v.geometry r m c.geometry has (c.memories h).held is.apart) is in
      block_written v.geometry h (key_at v h) (kinds.Lock r) (lock_bytes words.Free) memory has
      (with_hold r false m) (host_at l h) did.mine noted

  -- a lock was read
  pub remembered_confirm : (r : Resource) (done : Unit) (did : ConfirmsLock v h r (Ok done) l)
      → RemembersCall v h memory (read_of v (kinds.Lock r)) (Shows did.0) l
  remembered_confirm r done did = remembered_same v l h memory (read_of v (kinds.Lock r)) (Shows did.0) is tt did.1.mine

  -- the lock of a dead key was freed, or had another word
  pub remembered_clear : (dead : ℕ) (r : Resource) → Consistent v → HasResource v.geometry r → ClearsLock v h dead r (Ok took.Took) l
      → RemembersCall v h memory (clear_call v dead r) Done l
  remembered_clear dead r c has did =
      let m = host_at v h in
      let noted = lock_noted v.geometry r (key_at v h) (lock_bytes words.Free) memory m m has (same_else v.geometry r m) refl
      (λ one. absurd (zero_is_no_one free_word one)) (λ two reader. absurd (zero_is_no_two free_word two)) is.apart is in
      block_written v.geometry h (key_at v h) (kinds.Lock r) (lock_bytes words.Free) memory has m (host_at l h) did.mine noted

  pub remembered_clear_found : (dead : ℕ) (r : Resource) (word : LockWord) → ClearsLock v h dead r (Ok (took.Found word)) l
      → RemembersCall v h memory (clear_call v dead r) (Shows (lock_bytes word)) l
  remembered_clear_found dead r word did = remembered_same v l h memory (clear_call v dead r) (Shows (lock_bytes word)) is tt did.0.mine

  -- either, as it is told of the call
  pub remembered_frees_lock : (dead : ℕ) (r : Resource) (done : Unit) → Consistent v → HasResource v.geometry r
      → FreesLock v h dead r (Ok done) l
      → RemembersMade v h memory (clear_call v dead r) l
  remembered_frees_lock dead r done c has did = elim did [
    | inl cleared ↦ (Done, cleared.acts, remembered_clear dead r c has cleared)
    | inr found ↦ (Shows (lock_bytes found.0), found.1.0.acts, remembered_clear_found dead r found.0 found.1)
  ]
