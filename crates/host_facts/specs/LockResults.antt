-- What a call that took a lock, or cleared one of a dead host, leaves to the host that makes it.
use Rattle.std.specs.Prelude.{◌≡◌, ◌+◌, ℕ, Contains}
use Rattle.vol_layout.specs.declared.kind.Resource.{Resource}
use Rattle.lock_store.specs.Memories.{claim_of}
use Rattle.lock_store.specs.Views.{host_at, key_at, keys_of}
use Rattle.host_facts.specs.Facts.{Fact, turn_of}
use Rattle.host_facts.specs.Facts.Fact.{Swept}
use Rattle.host_facts.specs.Knows.{Knows}
use Rattle.host_facts.specs.Passes.{Passes}
use Rattle.host_facts.specs.Relocks.{Relocks}
use Rattle.host_facts.specs.Views.{WorldView}

-- a lock was written, and every fact stays
pub record Gains (h : ℕ) (r : Resource) (v w : WorldView) : Type 0 where
  pub relocks : Relocks h r v w
  pub facts : (a : Fact) → Knows v h a → Knows w h a

-- a lock is not held by the dead key: memory is as before, every fact stays, and a sweep that came to this lock has passed it
pub record HasCleared (h dead : ℕ) (r : Resource) (v w : WorldView) : Type 0 where
  pub memory : host_at w.locks h ≡ host_at v.locks h
  pub registered : Contains (keys_of v.locks) (key_at v.locks h)
  pub keys : keys_of w.locks ≡ keys_of v.locks
  pub passes : Passes h v w
  pub facts : (a : Fact) → Knows v h a → Knows w h a
  pub sweeps : (y k : ℕ) → claim_of (host_at v.locks h) y ≡ dead → turn_of v.locks.geometry r ≡ k → Knows v h (Swept y k)
      → Knows w h (Swept y (k + 1))
