-- Each call at a lock is one that its turn may make, and writes what a host may write there.
use Rattle.std.proofs.Common.{◌≡◌, ◌<◌, ℕ, None, Some, false, is_some, true, ap, sym, ◌∙◌, inl, inr, true≢false}
use Rattle.std.specs.Prelude.{IfSome}
use Rattle.vol_base.specs.declared.command.Command.TheVariants.{Close}
use Rattle.vol_layout.specs.declared.kind.Kind.TheVariants as kinds
use Rattle.vol_layout.specs.declared.kind.Resource.{Resource}
use Rattle.vol_layout.specs.declared.kind.Resource.TheVariants.{File}
use Rattle.vol_layout.specs.Ranges.{HasResource}
use Rattle.shared_disk.specs.Events.{Reply, event}
use Rattle.slot_lock_blocks.specs.declared.lock.LockWord.{LockWord}
use Rattle.slot_lock_blocks.specs.declared.lock.LockWord.TheVariants as words
use Rattle.slot_lock_blocks.specs.LockWords.{IsLockWord, lock_bytes}
use Rattle.lock_store.specs.Views.{LocksView, host_at, key_at}
use Rattle.disk_locks.specs.Calls.{IsShared, key, own_lock, with_reader, without_reader}
use Rattle.disk_locks.specs.Consistent.{Consistent}
use Rattle.host_runs.specs.FileUses.{file_tried, file_used, try_of}
use Rattle.host_runs.specs.Moments.{Moment}
use Rattle.host_runs.specs.Words.{reader_in}
use Rattle.host_notes.specs.Allowed.{IsAllowed, IsTurnOf}
use Rattle.host_notes.specs.Asked.{clear_call, hold_call, read_call, release_call, unlock_call, write_call}
use Rattle.host_notes.specs.lemmas.CallMarks.{again, shared_held, shared_no_file, test_allowed, tried_of, write_allowed}
use Rattle.host_notes.specs.lemmas.OwnKeys.{joined_key}
use Rattle.host_notes.specs.lemmas.Words.{free_word, held_word, one_is_no_two, reading_word, released_word, zero_is_no_one, zero_is_no_two}

module _ (v : LocksView) (h : ℕ) (m : Moment) (turn : IsTurnOf v h m) (c : Consistent v) where
  -- to hold a part or a group
  pub allowed_hold : (r : Resource) (reply : Reply) → (host_at v h).joined ≡ true → HasResource v.geometry r → IsShared r
      → IsAllowed m (event (key_at v h) (hold_call v h r) reply)
  allowed_hold r reply joined has shared =
      let own = joined_key v h c joined in
      let word = held_word (key_at v h) own.is in
      test_allowed v h m turn (kinds.Lock r) has reply (lock_bytes words.Free) (lock_bytes (own_lock v h))
      (record {
        held = λ one. (word.1, shared_held m.command r shared);
        read = λ two. absurd (one_is_no_two word.0 two);
        again = λ f file tries. absurd (shared_no_file r f shared file);
      })
      (λ two. absurd (one_is_no_two word.0 two))

  -- to read a file, and to hold it: its command tries no other lock of a file, and from the word that it found last
  pub allowed_read : (f : ℕ) (from : LockWord) (reply : Reply) → (host_at v h).joined ≡ true → f < v.geometry.files → IsLockWord from
      → file_used m.command ≡ Some f → IfSome m.old.tries.found (λ word. lock_bytes from ≡ word)
      → IsAllowed m (event (key_at v h) (read_call v h f from) reply)
  allowed_read f from reply joined has word on found =
      let own = joined_key v h c joined in
      let block = lock_bytes (with_reader from h (key_at v h)) in
      let reading = reading_word from h (key_at v h) word own.small own.is own.of in
      test_allowed v h m turn (kinds.Lock (File f)) has reply (lock_bytes from) block
      (record {
        held = λ one. absurd (one_is_no_two one reading.state);
        read = λ two. inl (ap (reader_in block) turn.host ∙ reading.mine, on);
        again = λ e same tries. again m f (lock_bytes from) (tried_of m.command f on) found e same;
      })
      (λ two n lt other. reading.others n lt (λ e. other (e ∙ sym turn.host)))

  pub allowed_write : (f : ℕ) (from : LockWord) (reply : Reply) → (host_at v h).joined ≡ true → f < v.geometry.files
      → file_used m.command ≡ Some f → IfSome m.old.tries.found (λ word. lock_bytes from ≡ word)
      → IsAllowed m (event (key_at v h) (write_call v h f from) reply)
  allowed_write f from reply joined has on found =
      let own = joined_key v h c joined in
      let word = held_word (key_at v h) own.is in
      test_allowed v h m turn (kinds.Lock (File f)) has reply (lock_bytes from) (lock_bytes (own_lock v h))
      (record {
        held = λ one. (word.1, on);
        read = λ two. absurd (one_is_no_two word.0 two);
        again = λ e same tries. again m f (lock_bytes from) (tried_of m.command f on) found e same;
      })
      (λ two. absurd (one_is_no_two word.0 two))

  -- to read a file no more
  pub allowed_release : (f : ℕ) (from : LockWord) (reply : Reply) → (host_at v h).joined ≡ true → f < v.geometry.files → IsLockWord from
      → m.command ≡ Close f → IfSome m.old.tries.found (λ word. lock_bytes from ≡ word)
      → IsAllowed m (event (key_at v h) (release_call v h f from) reply)
  allowed_release f from reply joined has word closes found =
      let own = joined_key v h c joined in
      let block = lock_bytes (without_reader from h) in
      let released = released_word from h word own.small in
      test_allowed v h m turn (kinds.Lock (File f)) has reply (lock_bytes from) block
      (record {
        held = λ one. absurd (released.unheld one);
        read = λ two. inr (ap (reader_in block) turn.host ∙ released.mine two, closes);
        again = λ e same tries. again m f (lock_bytes from) (ap file_tried closes) found e same;
      })
      (λ two n lt other. released.others two n lt (λ e. other (e ∙ sym turn.host)))

  -- to free a lock, and that of a dead key, in a command that tries no file's lock
  pub allowed_unlock : (r : Resource) (reply : Reply) → HasResource v.geometry r
      → IsAllowed m (event (key_at v h) (unlock_call v r) reply)
  allowed_unlock r reply has = write_allowed v h m turn (kinds.Lock r) has reply (lock_bytes words.Free) free_word

  pub allowed_clear : (dead : ℕ) (r : Resource) (reply : Reply) → HasResource v.geometry r → try_of m.command ≡ None
      → IsAllowed m (event (key_at v h) (clear_call v dead r) reply)
  allowed_clear dead r reply has none =
      test_allowed v h m turn (kinds.Lock r) has reply (lock_bytes (words.Held (key dead))) (lock_bytes words.Free)
      (record {
        held = λ one. absurd (zero_is_no_one free_word one);
        read = λ two. absurd (zero_is_no_two free_word two);
        again = λ f file tries. let is : is_some (try_of m.command) ≡ false = ap is_some none in absurd (true≢false (sym tries ∙ is));
      })
      (λ two. absurd (zero_is_no_two free_word two))
