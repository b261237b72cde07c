-- Memories that differ at one resource.
use Rattle.std.specs.Prelude.{◌≡◌, ◌≢◌, ℕ}
use Rattle.vol_layout.specs.declared.geometry.Geometry.{Geometry}
use Rattle.vol_layout.specs.declared.kind.Resource.{Resource}
use Rattle.vol_layout.specs.Ranges.{HasResource}
use Rattle.lock_store.specs.declared.host.HostState.{HostState}
use Rattle.lock_store.specs.Memories.{claim_of, holds, key_of, reads}

-- what a host has in memory but for one resource is as before
pub record SameElse (g : Geometry) (r : Resource) (m n : HostState) : Type 0 where
  pub key : key_of n ≡ key_of m
  pub beat : n.beat ≡ m.beat
  pub joined : n.joined ≡ m.joined
  pub freed : n.freed ≡ m.freed
  pub holds_same : (q : Resource) → HasResource g q → q ≢ r → holds n q ≡ holds m q
  pub reads_same : (q : Resource) → HasResource g q → q ≢ r → reads n q ≡ reads m q
  pub claims_same : (y : ℕ) → claim_of n y ≡ claim_of m y
