-- What it means that a host holds something in memory, in the words of images.
use Rattle.std.specs.Prelude.{◌≡◌, ◌≢◌, ◌⊎◌, ◌<◌, ℕ, true, List, Contains}
use Rattle.vol_layout.specs.declared.geometry.Geometry.{Geometry}
use Rattle.vol_layout.specs.declared.kind.Resource.{Resource}
use Rattle.vol_layout.specs.Ranges.{HasResource}
use Rattle.image_view.specs.HostKeys.{IsHeldBy, by_key_at, live_key_at, reader_key_at, slot_key_at}
use Rattle.image_view.specs.Images.{Image}
use Rattle.lock_store.specs.declared.host.HostState.{HostState}
use Rattle.lock_store.specs.Memories.{claim_of, holds, key_of, may_read, reads}

-- while the host's key is registered: each lock that it holds is held by its key, each that it reads has its key as a reader's, and
-- then its slot is live under the key; a claimed slot is recovering by the key, and the key that it shows is not registered.
-- Whether the key is registered or not: a lock shows it only where the host holds or reads it, or has left its slot; a slot shows it
-- only where the host is joined, and has it as `by` only where the host claimed the slot
pub record IsHeldInMemory (g : Geometry) (keys : List ℕ) (image : Image) (h : ℕ) (m : HostState) : Type 0 where
  pub held : Contains keys (key_of m) → (r : Resource) → HasResource g r → holds m r ≡ true → IsHeldBy g image r (key_of m)
  pub read : Contains keys (key_of m) → (r : Resource) → HasResource g r → reads m r ≡ true → reader_key_at g image r h ≡ key_of m
  pub live : Contains keys (key_of m) → (r : Resource) → may_read m r ≡ true → live_key_at g image h ≡ key_of m
  pub shown_held : (r : Resource) → HasResource g r → IsHeldBy g image r (key_of m) → holds m r ≡ true
  pub shown_read : (r : Resource) → HasResource g r → reader_key_at g image r h ≡ key_of m → (reads m r ≡ true) ⊎ (m.freed ≡ true)
  pub shown_slot : (y : ℕ) → y < g.hosts → slot_key_at g image y ≡ key_of m → m.joined ≡ true
  pub shown_by : (y : ℕ) → y < g.hosts → by_key_at g image y ≡ key_of m → claim_of m y ≢ 0
  pub claimed : Contains keys (key_of m) → (y : ℕ) → y < g.hosts → claim_of m y ≢ 0
      → (by_key_at g image y ≡ key_of m) × (slot_key_at g image y ≡ claim_of m y) × (Contains keys (slot_key_at g image y) → ⊥)
