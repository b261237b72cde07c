-- What a registered host may read is held by no other key.
use Rattle.std.proofs.Common.{◌≡◌, ◌≢◌, ◌<◌, ℕ, List, slice_index, true, sym, ◌∙◌, arith, inl, inr}
use Rattle.std.specs.Prelude.{Contains}
use Rattle.std.proofs.lemmas.Bool.{cases_Bool}
use Rattle.vol_layout.specs.declared.geometry.Geometry.{Geometry}
use Rattle.vol_layout.specs.declared.kind.Kind.TheVariants as kinds
use Rattle.vol_layout.specs.declared.kind.Resource.{Resource}
use Rattle.vol_layout.specs.Ranges.{HasResource}
use Rattle.slot_lock_blocks.specs.declared.lock.LockWord.{LockWord}
use Rattle.slot_lock_blocks.specs.declared.lock.LockWord.TheVariants as words
use Rattle.slot_lock_blocks.specs.LockWords.{lock_readers, lock_state}
use Rattle.slot_lock_blocks.specs.laws.ReaderLaws.{slice_index-nobody}
use Rattle.image_view.specs.HostKeys.{IsHeldBy, lock_key_at, lock_state_at}
use Rattle.image_view.specs.Images.{Image, block_at}
use Rattle.image_view.specs.Valid.{IsValid}
use Rattle.lock_store.specs.declared.host.HostState.{HostState}
use Rattle.lock_store.specs.Memories.{holds, key_of, may_read, reads}
use Rattle.lock_store.specs.Views.{LocksView, counter_of, host_at, key_at, keys_of}
use Rattle.disk_locks.specs.Agreement.{Agrees, LockAgrees}
use Rattle.disk_locks.specs.Consistent.{Consistent}
use Rattle.disk_locks.specs.laws.GivenLaws.{lock_places}

-- a lock that has a reader is held by nobody
read_unheld : (word : LockWord) (x : ℕ) → slice_index (lock_readers word) x ≢ 0 → lock_state word ≢ 1
read_unheld words.Free x some e = some (slice_index-nobody x)
read_unheld (words.Held key) x some e = some (slice_index-nobody x)
read_unheld (words.Read readers) x some e = cc

-- the lock of what a registered host may read is held by no other key
pub readable_alone : (g : Geometry) (counter : ℕ) (keys : List ℕ) (image : Image) (x : ℕ) (m : HostState) (r : Resource)
    → IsValid g counter image → HasResource g r → x < 16 → LockAgrees keys x m r (block_at g image (kinds.Lock r))
    → Contains keys (key_of m) → key_of m ≢ 0 → may_read m r ≡ true → (k : ℕ) → k ≢ key_of m → IsHeldBy g image r k → ⊥
unfolding lock_state_at lock_key_at
readable_alone g counter keys image x m r valid has below agree here some may k other held =
    let block = block_at g image (kinds.Lock r) in
    let l = valid.locks r has in
    let n = lock_places block l.word l.spelled in
    elim (cases_Bool (holds m r)) [
      | inl holds_it ↦ other (sym held.by ∙ agree.held here holds_it)
      | inr not_held ↦
          let reads_it : reads m r ≡ true = rw not_held at may in
          read_unheld l.word x (λ none. some (sym (agree.read here reads_it) ∙ n.reader x below ∙ none)) (sym n.state ∙ held.held)
    ]

-- the same between two calls
pub readable_apart : (v : LocksView) (image : Image) (x : ℕ) (r : Resource) → Consistent v
    → Agrees v.geometry (counter_of v) (keys_of v) v.hosts image → key_at v x ≢ 0 → Contains (keys_of v) (key_at v x)
    → HasResource v.geometry r → may_read (host_at v x) r ≡ true → (k : ℕ) → k ≢ key_at v x → IsHeldBy v.geometry image r k → ⊥
readable_apart v image x r is agrees some here has may k other held =
    let below = ((is.memories x).named some).0 in
    readable_alone v.geometry (counter_of v) (keys_of v) image x (host_at v x) r agrees.valid has (omega (arith, below, is.geometry.hosts.1))
    (agrees.agree x some (kinds.Lock r) has) here some may k other held
