-- What each host's memory is, whatever the device tells.
use Rattle.std.specs.Prelude.{◌≡◌, ◌≢◌, ◌/◌, ◌%◌, ◌<◌, ◌≤◌, ℕ, None, true, false, length}
use Rattle.vol_layout.specs.declared.kind.Resource.{Resource}
use Rattle.lock_store.specs.declared.host.HostState.{HostState}
use Rattle.lock_store.specs.Memories.{claim_of, key_of, may_read}

-- a key is of the host, which is one of the volume, and was given; a key is not 0; without a key nothing is joined or claimed; a host
-- that is not joined holds and reads nothing; and one that is joined does not claim its own slot
pub record IsMemory (hosts counter h : ℕ) (m : HostState) : Type 0 where
  pub held : length m.held ≡ 144
  pub reading : length m.reading ≡ 64
  pub claims : length m.claims ≡ 16
  pub named : key_of m ≢ 0 → (h < hosts) × (key_of m % 16 ≡ h) × (key_of m / 16 ≤ counter)
  pub none : key_of m ≡ 0 → m.key ≡ None
  pub keyless : key_of m ≡ 0 → m.joined ≡ false
  pub unclaimed : key_of m ≡ 0 → (y : ℕ) → claim_of m y ≡ 0
  pub out : m.joined ≡ false → (r : Resource) → may_read m r ≡ false
  pub own : m.joined ≡ true → claim_of m h ≡ 0
  pub gone : m.freed ≡ true → m.joined ≡ false
