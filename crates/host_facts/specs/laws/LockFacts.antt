-- What each call on a lock leaves to the host that makes it: one law an answer.
use Rattle.std.proofs.Common.{◌≡◌, ◌⊎◌, ◌<◌, ◌≤◌, ◌/◌, ◌∙◌, inl, inr, ℕ, List, false, true, refl, sym, ap, subst}
use Rattle.std.specs.Prelude.{Contains, Ok}
use Rattle.vol_base.specs.declared.block.Key.{Key}
use Rattle.vol_layout.specs.declared.kind.Kind.TheVariants as kinds
use Rattle.vol_layout.specs.declared.kind.Resource.{Resource}
use Rattle.vol_layout.specs.declared.kind.Resource.TheVariants.{File}
use Rattle.vol_layout.specs.Places.{place_of}
use Rattle.vol_layout.specs.Ranges.{HasResource}
use Rattle.shared_disk.specs.State.{Stands}
use Rattle.slot_lock_blocks.specs.declared.lock.LockWord.{LockWord}
use Rattle.slot_lock_blocks.specs.declared.lock.LockWord.TheVariants as words
use Rattle.slot_lock_blocks.specs.declared.slot.Slot.{Slot}
use Rattle.slot_lock_blocks.specs.LockWords.{lock_bytes}
use Rattle.slot_lock_blocks.specs.Slots.{IsSlot, slot_bytes, slot_key}
use Rattle.image_view.specs.Images.{block_at}
use Rattle.lock_store.specs.declared.answers.Took.TheVariants as took
use Rattle.lock_store.specs.declared.host.HostState.{HostState}
use Rattle.lock_store.specs.Memories.{holds, reads, with_hold, with_read, writing}
use Rattle.lock_store.specs.SlotTries.{ReadsSlot, slot_by}
use Rattle.lock_store.specs.Tries.{ConfirmsLock}
use Rattle.lock_store.specs.Views.{LocksView, counter_of, host_at, key_at, keys_of}
use Rattle.disk_locks.specs.declared.answers.Got.TheVariants.{Got, Held}
use Rattle.disk_locks.specs.Agreement.{by_in, shown_in}
use Rattle.disk_locks.specs.Calls.{ReleasesRead, TriesRead, TriesShared, TriesWrite, Unlocks, own_lock, with_reader, without_reader}
use Rattle.disk_locks.specs.Consistent.{Consistent}
use Rattle.disk_locks.specs.Others as locks'
use Rattle.disk_locks.specs.SameElse.{SameElse}
use Rattle.disk_locks.specs.laws.GivenLaws.{SlotPlaces, slot_given, slot_places}
use Rattle.host_facts.specs.Facts.Fact.{Given}
use Rattle.host_facts.specs.Knows.{Knows}
use Rattle.host_facts.specs.LockResults.{Gains}
use Rattle.host_facts.specs.SlotResults.{HasSeen}
use Rattle.host_facts.specs.Looks.{Looks}
use Rattle.host_facts.specs.Relocks.{Relocks}
use Rattle.host_facts.specs.Views.{WorldView, record_at, with_locks}
use Rattle.host_facts.specs.laws.FindsLaws.{registered_some, stands_sure, sure_found}
use Rattle.host_facts.specs.laws.GuardLaws.{HasAll, guard_else, guard_more, hold_all, hold_else, hold_is, read_all, read_else, read_is, writing_all, writing_else}
use Rattle.host_facts.specs.laws.LockWrites.{LockWritten, fact_stays, shown_kept, shows_law, tested, wrote}

module _ (v : WorldView) (h : ℕ) (l : LocksView) (is : Consistent v.locks) (others : locks'.Others h v.locks l) where
  -- what a lock's write leaves, from the memory that the host then has
  relocked : (r : Resource) (block : List ℕ) (m : HostState) → LockWritten h (kinds.Lock r) block v (with_locks v l) → host_at l h ≡ m
      → SameElse v.locks.geometry r (host_at v.locks h) m → Relocks h r v (with_locks v l)
  relocked r block m step mine same = record {
    memory = subst (λ (n : HostState). SameElse v.locks.geometry r (host_at v.locks h) n) (sym mine) same;
    registered = step.registered;
    keys = step.keys;
    passes = step.passes;
    facts = λ a other. fact_stays v h l is others step.passes m mine same.key a
        (λ guard. guard_else v.locks.geometry r (host_at v.locks h) m (record_at v h) a same other guard)
        (λ y of below was now. shown_kept v h l is others (kinds.Lock r) block y step below (λ e. cc));
  }

  -- and where the memory has all that it had
  gained : (r : Resource) (block : List ℕ) (m : HostState) → LockWritten h (kinds.Lock r) block v (with_locks v l) → host_at l h ≡ m
      → SameElse v.locks.geometry r (host_at v.locks h) m → HasAll v.locks.geometry (host_at v.locks h) m → Gains h r v (with_locks v l)
  gained r block m step mine same all = record {
    relocks = relocked r block m step mine same;
    facts = λ a. fact_stays v h l is others step.passes m mine same.key a
        (λ guard. guard_more v.locks.geometry (host_at v.locks h) m (record_at v h) a all
        (λ y of claim none. claim (sym (same.claims_same y) ∙ none)) guard)
        (λ y of below was now. shown_kept v h l is others (kinds.Lock r) block y step below (λ e. cc));
  }

  -- the lock of a part or a group was taken
  pub got_law : (r : Resource) → HasResource v.locks.geometry r → TriesShared v.locks h r (Ok Got) l
      → Gains h r v (with_locks v l) × (holds (host_at l h) r ≡ true) × (reads (host_at l h) r ≡ reads (host_at v.locks h) r)
  got_law r has did =
      let g = v.locks.geometry in
      let m = host_at v.locks h in
      let n = with_hold r true m in
      let long = (is.memories h).held in
      let own = lock_bytes (own_lock v.locks h) in
      let step = tested v h l is others (kinds.Lock r) (lock_bytes words.Free) own n has tt refl did in (
        gained r own n step did.mine (hold_else g r true m is.geometry has) (hold_all g r m is.geometry has long),
        ap (λ (k : HostState). holds k r) did.mine ∙ hold_is g r true m is.geometry has long,
        ap (λ (k : HostState). reads k r) did.mine,
      )

  -- it is held by another host
  pub held_law : (r : Resource) (key : Key) → TriesShared v.locks h r (Ok (Held key)) l → Looks h v (with_locks v l)
  held_law r key did = shows_law v h l is others _ _ did.0

  -- a file is read
  pub read_law : (f : ℕ) (from : LockWord) → f < v.locks.geometry.files → TriesRead v.locks h f from (Ok took.Took) l
      → Gains h (File f) v (with_locks v l) × (reads (host_at l h) (File f) ≡ true)
      × (holds (host_at l h) (File f) ≡ holds (host_at v.locks h) (File f))
  read_law f from has did =
      let g = v.locks.geometry in
      let m = host_at v.locks h in
      let n = with_read f true m in
      let long = (is.memories h).reading in
      let to = lock_bytes (with_reader from h (key_at v.locks h)) in
      let step = tested v h l is others (kinds.Lock (File f)) (lock_bytes from) to n has tt refl did in (
        gained (File f) to n step did.mine (read_else g f true m) (read_all g f m is.geometry has long),
        ap (λ (k : HostState). reads k (File f)) did.mine ∙ read_is g f true m is.geometry has long,
        ap (λ (k : HostState). holds k (File f)) did.mine,
      )

  pub read_found_law : (f : ℕ) (from word : LockWord) → TriesRead v.locks h f from (Ok (took.Found word)) l → Looks h v (with_locks v l)
  read_found_law f from word did = shows_law v h l is others _ _ did.0

  -- a file is held
  pub wrote_hold_law : (f : ℕ) (from : LockWord) → f < v.locks.geometry.files → TriesWrite v.locks h f from (Ok took.Took) l
      → Gains h (File f) v (with_locks v l) × (holds (host_at l h) (File f) ≡ true) × (reads (host_at l h) (File f) ≡ false)
  wrote_hold_law f from has did =
      let g = v.locks.geometry in
      let m = host_at v.locks h in
      let n = writing f m in
      let lengths = is.memories h in
      let own = lock_bytes (own_lock v.locks h) in
      let step = tested v h l is others (kinds.Lock (File f)) (lock_bytes from) own n has tt refl did in (
        gained (File f) own n step did.mine (writing_else g f m is.geometry has) (writing_all g f m is.geometry has lengths.held),
        ap (λ (k : HostState). holds k (File f)) did.mine ∙ hold_is g (File f) true m is.geometry has lengths.held,
        ap (λ (k : HostState). reads k (File f)) did.mine ∙ read_is g f false m is.geometry has lengths.reading,
      )

  pub hold_found_law : (f : ℕ) (from word : LockWord) → TriesWrite v.locks h f from (Ok (took.Found word)) l → Looks h v (with_locks v l)
  hold_found_law f from word did = shows_law v h l is others _ _ did.0

  -- a file is read no more
  pub released_law : (f : ℕ) (from : LockWord) → f < v.locks.geometry.files → ReleasesRead v.locks h f from (Ok took.Took) l
      → Relocks h (File f) v (with_locks v l) × (reads (host_at l h) (File f) ≡ false)
      × (holds (host_at l h) (File f) ≡ holds (host_at v.locks h) (File f))
  released_law f from has did =
      let g = v.locks.geometry in
      let m = host_at v.locks h in
      let to = lock_bytes (without_reader from h) in
      let step = tested v h l is others (kinds.Lock (File f)) (lock_bytes from) to (with_read f false m) has tt refl did in (
        relocked (File f) to (with_read f false m) step did.mine (read_else g f false m),
        ap (λ (k : HostState). reads k (File f)) did.mine ∙ read_is g f false m is.geometry has (is.memories h).reading,
        ap (λ (k : HostState). holds k (File f)) did.mine,
      )

  pub release_found_law : (f : ℕ) (from word : LockWord) → ReleasesRead v.locks h f from (Ok (took.Found word)) l
      → Looks h v (with_locks v l)
  release_found_law f from word did = shows_law v h l is others _ _ did.0

  -- a lock is held no more
  pub unlocked_law : (r : Resource) → HasResource v.locks.geometry r → Unlocks v.locks h r (Ok tt) l
      → Relocks h r v (with_locks v l) × (holds (host_at l h) r ≡ false) × (reads (host_at l h) r ≡ reads (host_at v.locks h) r)
  unlocked_law r has did =
      let g = v.locks.geometry in
      let m = host_at v.locks h in
      let free = lock_bytes words.Free in
      let step = wrote v h l is others (kinds.Lock r) free (with_hold r false m) has tt refl did in (
        relocked r free (with_hold r false m) step did.mine (hold_else g r false m is.geometry has),
        ap (λ (k : HostState). holds k r) did.mine ∙ hold_is g r false m is.geometry has (is.memories h).held,
        ap (λ (k : HostState). reads k r) did.mine,
      )

  -- a lock was read
  pub confirmed_law : (r : Resource) → ConfirmsLock v.locks h r (Ok tt) l → Looks h v (with_locks v l)
  confirmed_law r did = shows_law v h l is others _ _ did.1

  -- a key of a slot that stands was given
  key_given : (y : ℕ) (slot : Slot) (k : ℕ) → y < v.locks.geometry.hosts → IsSlot slot
      → Contains (keys_of v.locks) (key_at v.locks h)
      → Stands v.locks.disk.state (place_of v.locks.geometry (kinds.Slot y)) (slot_bytes slot)
      → ((block : List ℕ) → SlotPlaces block slot → (shown_in block ≡ k) ⊎ (by_in block ≡ k)) → Knows v h (Given k)
  key_given y slot k below fits here stands which = record {
    guard = registered_some v.locks h is here;
    sure =
        let g = v.locks.geometry in
        sure_found v.locks h (λ i. block_at g i (kinds.Slot y) ≡ slot_bytes slot) (λ i. k / 16 ≤ counter_of v.locks) is (λ i finds shows.
        let block = block_at g i (kinds.Slot y) in
        let given = slot_given (counter_of v.locks) y block (finds.agrees.valid.slots y below) in
        elim (which block (slot_places block slot (fits, shows))) [
          | inl shown ↦ subst (λ n. n / 16 ≤ counter_of v.locks) shown given.0
          | inr by ↦ subst (λ n. n / 16 ≤ counter_of v.locks) by given.1
        ]) (stands_sure v.locks h (kinds.Slot y) (slot_bytes slot) stands);
  }

  -- a slot that stands was seen
  pub slot_seen : (y : ℕ) (slot : Slot) → y < v.locks.geometry.hosts → IsSlot slot
      → Stands v.locks.disk.state (place_of v.locks.geometry (kinds.Slot y)) (slot_bytes slot) → Looks h v (with_locks v l)
      → HasSeen h slot v (with_locks v l)
  slot_seen y slot below fits stands looks = record {
    looks = looks;
    shown = looks.facts (Given (slot_key slot))
        (key_given y slot (slot_key slot) below fits looks.registered stands (λ block places. inl places.shown));
    by = looks.facts (Given (slot_by slot))
        (key_given y slot (slot_by slot) below fits looks.registered stands (λ block places. inr places.by));
  }

  -- a slot was read
  pub slot_read_law : (y : ℕ) (slot : Slot) → y < v.locks.geometry.hosts → ReadsSlot v.locks h y (Ok slot) l
      → HasSeen h slot v (with_locks v l)
  slot_read_law y slot has did =
      slot_seen y slot has did.1 did.0.acts.changes.0 (shows_law v h l is others _ _ did.0)
