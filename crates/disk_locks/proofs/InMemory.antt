-- Consistent locks hold in memory what the image says.
use Rattle.std.proofs.Common.{◌≡◌, ◌≢◌, ℕ, refl, sym, ◌∙◌, inl, inr}
use Rattle.std.specs.Prelude.{IfSome}
use Rattle.std.proofs.lemmas.Bool.{cases_Bool}
use Rattle.vol_layout.specs.declared.kind.Kind.TheVariants as kinds
use Rattle.slot_lock_blocks.specs.declared.lock.LockWord.{LockWord}
use Rattle.slot_lock_blocks.specs.declared.lock.LockWord.TheVariants as words
use Rattle.slot_lock_blocks.specs.LockWords.{lock_key, lock_state}
use Rattle.image_view.specs.HostKeys.{by_key_at, live_key_at, lock_key_at, lock_state_at, reader_key_at, slot_key_at, slot_state_at}
use Rattle.image_view.specs.Images.{Image, block_at}
use Rattle.lock_store.specs.Memories.{may_read}
use Rattle.lock_store.specs.Views.{LocksView, counter_of, host_at, key_at, keys_of, told_of}
use Rattle.disk_locks.specs.Agreement.{Agrees}
use Rattle.disk_locks.specs.Consistent.{Consistent}
use Rattle.disk_locks.specs.InMemory.{IsHeldInMemory}
use Rattle.disk_locks.proofs.Called.{told_map}
use Rattle.disk_locks.specs.laws.GivenLaws.{lock_places}
use Rattle.disk_locks.proofs.Holds.{clash}

-- a lock that shows a key is held
keyed_held : (word : LockWord) → lock_key word ≢ 0 → lock_state word ≡ 1
keyed_held words.Free some = absurd (some refl)
keyed_held (words.Held key) some = refl
keyed_held (words.Read readers) some = absurd (some refl)

in_memory : (v : LocksView) (image : Image) (h : ℕ) → Consistent v → Agrees v.geometry (counter_of v) (keys_of v) v.hosts image → key_at v h ≢ 0
    → IsHeldInMemory v.geometry (keys_of v) image h (host_at v h)
unfolding lock_state_at lock_key_at reader_key_at live_key_at by_key_at slot_state_at slot_key_at
in_memory v image h is agrees some =
    let agree = agrees.agree h some in
    let named = (is.memories h).named some in
    record {
      held = λ here r has holds_it.
          let by = (agree (kinds.Lock r) has).held here holds_it in
          let l = agrees.valid.locks r has in
          let n = lock_places (block_at v.geometry image (kinds.Lock r)) l.word l.spelled in
          record { held = n.state ∙ keyed_held l.word (λ none. some (sym by ∙ n.holder ∙ none)); by = by };
      read = λ here r has reads_it. (agree (kinds.Lock r) has).read here reads_it;
      live = λ here r may. elim (cases_Bool (host_at v h).joined) [
        | inl joined ↦ ((agree (kinds.Slot h) named.0).live here joined refl).0
        | inr out ↦ absurd (clash (may_read (host_at v h) r) may ((is.memories h).out out r))
      ];
      shown_held = λ r has held. (agree (kinds.Lock r) has).mine held.by;
      shown_read = λ r has reader. (agree (kinds.Lock r) has).read_mine reader;
      shown_slot = λ y below shown. (agree (kinds.Slot y) below).mine shown;
      shown_by = λ y below by. (agree (kinds.Slot y) below).by_mine by;
      claimed = λ here y below claim.
          let a = agree (kinds.Slot y) below in
          ((a.by here claim).0, (a.by here claim).1, a.dead here claim);
    }

pub held_in_memory : (v : LocksView) → Consistent v
    → IfSome (told_of v) (λ t. (h : ℕ) → key_at v h ≢ 0 → IsHeldInMemory v.geometry (keys_of v) t.image h (host_at v h))
held_in_memory v is = told_map (told_of v) (λ t. Agrees v.geometry (counter_of v) (keys_of v) v.hosts t.image) _ is.told
    (λ t agrees h some. in_memory v t.image h is agrees some)
