use Rattle.std.specs.Prelude.{◌+◌, ◌*◌, ◌≡◌, ◌≢◌, ◌<◌, ◌%◌, ◌^◌, ℕ, List, All, Option, Some, None, length, replicate, slice_index}
use Rattle.vol_base.specs.Bytes.{u64_at}
use Rattle.vol_base.specs.declared.block.Key.{Key}

-- no readers: for each of the 16 hosts a 0
unfoldable pub nobody : List ℕ
nobody = replicate 16 0

-- the keys of readers by host number, 0 for a host that does not read
pub record AreReaders (readers : List ℕ) : Type 0 where
  pub long : length readers ≡ 16
  pub width : All (λ key. key < 2 ^ 64) readers
  pub hosts : (host : ℕ) → slice_index readers host ≢ 0 → slice_index readers host % 16 ≡ host

-- a key that may be missing, as a number: 0 for none
abbrev pub key_number : Option Key → ℕ
key_number None = 0
key_number (Some key) = key.0

-- the keys stand in a lock's block: that of host h at byte 64 + 8 h
abbrev pub StandIn : List ℕ → List ℕ → Type 0
StandIn bytes readers = (host : ℕ) → host < 16 → u64_at bytes (64 + 8 * host) ≡ slice_index readers host
