-- What a host with a registered key finds of its own holds, its slot and its claims.
use Rattle.std.proofs.Common.{◌≡◌, ◌≢◌, ◌%◌, ◌^◌, ◌<◌, ◌==◌, ℕ, true, refl, sym, ◌∙◌, subst, inl, inr, arith}
use Rattle.std.specs.Prelude.{Contains}
use Rattle.std.proofs.lemmas.Bool.{cases_Bool}
use Rattle.vol_layout.specs.declared.kind.Kind.TheVariants as kinds
use Rattle.vol_layout.specs.declared.kind.Resource.{Resource}
use Rattle.vol_layout.specs.Ranges.{HasResource}
use Rattle.slot_lock_blocks.specs.declared.lock.LockWord.{LockWord}
use Rattle.slot_lock_blocks.specs.declared.lock.LockWord.TheVariants as words
use Rattle.slot_lock_blocks.specs.LockWords.{lock_key, lock_state}
use Rattle.image_view.specs.HostKeys.{IsHeldBy, live_key_at, lock_key_at, lock_state_at, slot_key_at, slot_state_at}
use Rattle.image_view.specs.Images.{Image, block_at}
use Rattle.lock_store.specs.Memories.{claim_of, holds, may_read}
use Rattle.lock_store.specs.Views.{LocksView, counter_of, host_at, key_at, keys_of}
use Rattle.disk_locks.specs.Agreement.{holder_in}
use Rattle.disk_locks.specs.Keys.{IsOff}
use Rattle.disk_locks.specs.laws.GivenLaws.{lock_places, slot_given}
use Rattle.host_facts.specs.Finds.{Finds}

-- it is a host of the volume, whose key is one of its own and fits its width
pub host_found : (v : LocksView) (h : ℕ) (image : Image) → Finds v h image → h < v.geometry.hosts
host_found v h image found = ((found.consistent.memories h).named found.some).0

pub key_found : (v : LocksView) (h : ℕ) (image : Image) → Finds v h image → (key_at v h % 16 ≡ h) × (key_at v h < 2 ^ 64)
key_found v h image found =
    let named = (found.consistent.memories h).named found.some in
    (named.1, omega (arith, named.2, found.consistent.device.fits))

-- the lock of a held resource is held by its key
pub held_found : (v : LocksView) (h : ℕ) (image : Image) (r : Resource) → Finds v h image → HasResource v.geometry r
    → holds (host_at v h) r ≡ true → IsHeldBy v.geometry image r (key_at v h)
unfolding lock_state_at lock_key_at
held_found v h image r found has held =
    let block = block_at v.geometry image (kinds.Lock r) in
    let by : holder_in block ≡ key_at v h = (found.agrees.agree h found.some (kinds.Lock r) has).held found.here held in
    let l = found.agrees.valid.locks r has in
    let n = lock_places block l.word l.spelled in
    record { held = n.state ∙ keyed_held l.word (λ none. found.some (sym by ∙ n.holder ∙ none)); by = by }
  where
    keyed_held : (word : LockWord) → lock_key word ≢ 0 → lock_state word ≡ 1
    keyed_held words.Free some = absurd (some refl)
    keyed_held (words.Held key) some = refl
    keyed_held (words.Read readers) some = absurd (some refl)

-- a host that holds something is joined
pub holder_joined : (v : LocksView) (h : ℕ) (image : Image) (r : Resource) → Finds v h image → holds (host_at v h) r ≡ true
    → (host_at v h).joined ≡ true
holder_joined v h image r found held =
    elim (cases_Bool (host_at v h).joined) [
      | inl joined ↦ joined
      | inr out ↦
          let may : may_read (host_at v h) r ≡ true = rw held refl in
          let none = (found.consistent.memories h).out out r in
          absurd (let bad : ⊥ = cc in bad)
    ]

-- the slot of a joined host is live under its key, and so shows it
pub live_found : (v : LocksView) (h : ℕ) (image : Image) → Finds v h image → (host_at v h).joined ≡ true
    → live_key_at v.geometry image h ≡ key_at v h
unfolding live_key_at slot_state_at slot_key_at
live_found v h image found joined =
    ((found.agrees.agree h found.some (kinds.Slot h) (host_found v h image found)).live found.here joined refl).0

pub joined_found : (v : LocksView) (h : ℕ) (image : Image) → Finds v h image → (host_at v h).joined ≡ true
    → slot_key_at v.geometry image h ≡ key_at v h
unfolding live_key_at
joined_found v h image found joined =
    let live = live_found v h image found joined in
    elim (cases_Bool (slot_state_at v.geometry image h == 1)) [
      | inl state ↦ rw state at live
      | inr other ↦ absurd (found.some (sym (rw other at live)))
    ]

-- a claimed slot shows the dead key, which was given and is registered no more
pub claim_found : (v : LocksView) (h : ℕ) (image : Image) (y : ℕ) → Finds v h image → y < v.geometry.hosts → claim_of (host_at v h) y ≢ 0
    → slot_key_at v.geometry image y ≡ claim_of (host_at v h) y
unfolding slot_key_at
claim_found v h image y found below claim = ((found.agrees.agree h found.some (kinds.Slot y) below).by found.here claim).1

pub dead_off : (v : LocksView) (h : ℕ) (image : Image) (y : ℕ) → Finds v h image → y < v.geometry.hosts → claim_of (host_at v h) y ≢ 0
    → IsOff v.disk.state (slot_key_at v.geometry image y)
unfolding slot_key_at
dead_off v h image y found below claim = record {
  some = λ none. claim (sym (claim_found v h image y found below claim) ∙ none);
  given = (slot_given (counter_of v) y (block_at v.geometry image (kinds.Slot y)) (found.agrees.valid.slots y below)).0;
  off = (found.agrees.agree h found.some (kinds.Slot y) below).dead found.here claim;
}

pub claim_off : (v : LocksView) (h : ℕ) (image : Image) (y : ℕ) → Finds v h image → y < v.geometry.hosts → claim_of (host_at v h) y ≢ 0
    → IsOff v.disk.state (claim_of (host_at v h) y)
claim_off v h image y found below claim =
    subst (IsOff v.disk.state) (claim_found v h image y found below claim) (dead_off v h image y found below claim)

-- a joined host has not claimed its own slot
pub joined_unclaimed : (v : LocksView) (h : ℕ) (image : Image) → Finds v h image → (host_at v h).joined ≡ true
    → claim_of (host_at v h) h ≢ 0 → ⊥
joined_unclaimed v h image found joined claim =
    let off = dead_off v h image h found (host_found v h image found) claim in
    off.off (subst (λ (k : ℕ). Contains (keys_of v) k) (sym (joined_found v h image found joined)) found.here)
