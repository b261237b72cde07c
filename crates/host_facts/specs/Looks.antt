-- What a call that writes nothing leaves to the host that makes it.
use Rattle.std.specs.Prelude.{◌≡◌, ℕ, Contains}
use Rattle.lock_store.specs.Views.{host_at, key_at, keys_of}
use Rattle.host_facts.specs.Facts.{Fact}
use Rattle.host_facts.specs.Knows.{Knows}
use Rattle.host_facts.specs.Views.{WorldView}

-- the key was registered; memory, volume and device are as before, and every fact stays
pub record Looks (h : ℕ) (v w : WorldView) : Type 0 where
  pub memory : host_at w.locks h ≡ host_at v.locks h
  pub geometry : w.locks.geometry ≡ v.locks.geometry
  pub state : w.locks.disk.state ≡ v.locks.disk.state
  pub registered : Contains (keys_of v.locks) (key_at v.locks h)
  pub facts : (a : Fact) → Knows v h a → Knows w h a
