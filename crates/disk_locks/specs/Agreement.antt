-- Memory and image agree: what each host has in memory, beside the numbers in each block of the volume.
use Rattle.std.specs.Prelude.{◌≡◌, ◌≢◌, ◌⊎◌, ◌+◌, ◌*◌, ◌==◌, ℕ, true, List, Contains, if◌then◌else◌}
use Rattle.vol_base.specs.Bytes.{u32_at, u64_at}
use Rattle.vol_layout.specs.declared.geometry.Geometry.{Geometry}
use Rattle.vol_layout.specs.declared.kind.Kind.{Kind}
use Rattle.vol_layout.specs.declared.kind.Kind.TheVariants as kinds
use Rattle.vol_layout.specs.declared.kind.Resource.{Resource}
use Rattle.vol_layout.specs.Ranges.{HasKind}
use Rattle.image_view.specs.Images.{Image, block_at}
use Rattle.image_view.specs.Valid.{IsValid}
use Rattle.lock_store.specs.declared.host.HostState.{HostState}
use Rattle.lock_store.specs.Memories.{claim_of, holds, key_of, reads}
use Rattle.lock_store.specs.Views.{at}

-- the key by which a lock's block is held, and that under which a host reads
abbrev pub holder_in : List ℕ → ℕ
holder_in block = u64_at block 16

abbrev pub reader_in : List ℕ → ℕ → ℕ
reader_in block h = u64_at block (64 + 8 * h)

-- the key that a slot's block shows, that under which it is live, and that of the host that recovers it; 0 for none
abbrev pub shown_in : List ℕ → ℕ
shown_in block = u64_at block 16

abbrev pub live_in : List ℕ → ℕ
live_in block = if u32_at block 8 == 1 then u64_at block 16 else 0

abbrev pub by_in : List ℕ → ℕ
by_in block = if u32_at block 8 == 2 then u64_at block 24 else 0

-- a lock shows the host's key only where the host holds or reads it, or has left; and it shows it where it does, while the key
-- is registered
pub record LockAgrees (keys : List ℕ) (h : ℕ) (m : HostState) (r : Resource) (block : List ℕ) : Type 0 where
  pub mine : holder_in block ≡ key_of m → holds m r ≡ true
  pub read_mine : reader_in block h ≡ key_of m → (reads m r ≡ true) ⊎ (m.freed ≡ true)
  pub held : Contains keys (key_of m) → holds m r ≡ true → holder_in block ≡ key_of m
  pub read : Contains keys (key_of m) → reads m r ≡ true → reader_in block h ≡ key_of m

-- a slot shows the host's key only where the host is joined, and has it as `by` only where the host claimed it; while the key is
-- registered, a joined host's slot is live with its beat, and a claimed slot shows the dead key, which is not registered
pub record SlotAgrees (keys : List ℕ) (h : ℕ) (m : HostState) (y : ℕ) (block : List ℕ) : Type 0 where
  pub mine : shown_in block ≡ key_of m → m.joined ≡ true
  pub by_mine : by_in block ≡ key_of m → claim_of m y ≢ 0
  pub live : Contains keys (key_of m) → m.joined ≡ true → y ≡ h → (live_in block ≡ key_of m) × (u64_at block 24 ≡ m.beat)
  pub by : Contains keys (key_of m) → claim_of m y ≢ 0 → (by_in block ≡ key_of m) × (shown_in block ≡ claim_of m y)
  pub dead : Contains keys (key_of m) → claim_of m y ≢ 0 → Contains keys (shown_in block) → ⊥

-- a block agrees with what a host has in memory: a lock or a slot; of all other kinds nothing is said
abbrev pub BlockAgrees : List ℕ → ℕ → HostState → Kind → List ℕ → Type 0
BlockAgrees keys h m kinds.Super block = Unit {0}
BlockAgrees keys h m (kinds.Slot y) block = SlotAgrees keys h m y block
BlockAgrees keys h m (kinds.Journal y) block = Unit {0}
BlockAgrees keys h m (kinds.Lock r) block = LockAgrees keys h m r block
BlockAgrees keys h m (kinds.Table t) block = Unit {0}
BlockAgrees keys h m (kinds.Log y l) block = Unit {0}
BlockAgrees keys h m (kinds.Shard s) block = Unit {0}
BlockAgrees keys h m (kinds.Request f) block = Unit {0}
BlockAgrees keys h m (kinds.Number d) block = Unit {0}

-- every block of the volume agrees with what the host has in memory
abbrev pub HostAgrees : Geometry → List ℕ → Image → ℕ → HostState → Type 0
HostAgrees g keys image h m = (kind : Kind) → HasKind g kind → BlockAgrees keys h m kind (block_at g image kind)

-- the image is valid, and agrees with the memory of every host that has a key
pub record Agrees (g : Geometry) (counter : ℕ) (keys : List ℕ) (hosts : List HostState) (image : Image) : Type 0 where
  pub valid : IsValid g counter image
  pub agree : (h : ℕ) → key_of (at hosts h) ≢ 0 → HostAgrees g keys image h (at hosts h)
