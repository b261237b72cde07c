-- What a call that writes a lock leaves to the host that makes it; and which lock or claim guards a fact.
use Rattle.std.specs.Prelude.{◌≡◌, ◌≢◌, ◌/◌, ℕ, Contains, None, Option, Some}
use Rattle.vol_layout.specs.declared.kind.Resource.{Resource}
use Rattle.vol_layout.specs.declared.kind.Resource.TheVariants.{Group}
use Rattle.vol_layout.specs.declared.field.Field.TheVariants.{Count, Slot}
use Rattle.vol_layout.specs.Fields.{resource_of}
use Rattle.vol_layout.specs.Ranges.{per_table}
use Rattle.lock_store.specs.Views.{host_at, key_at, keys_of}
use Rattle.disk_locks.specs.Keys.{owner}
use Rattle.disk_locks.specs.SameElse.{SameElse}
use Rattle.host_facts.specs.Facts.{Fact}
use Rattle.host_facts.specs.Facts.Fact.{BlockIs, DeadRecord, DeadTable, FreshIs, NoneFree, SlotIs, Swept, TableIs}
use Rattle.host_facts.specs.Knows.{Knows}
use Rattle.host_facts.specs.Passes.{Passes}
use Rattle.host_facts.specs.Views.{WorldView}

-- the resource whose hold, or read hold, guards the fact
abbrev pub guard_of : Fact → Option Resource
guard_of (TableIs t p) = Some (owner t)
guard_of (NoneFree r) = Some (Group r)
guard_of (FreshIs d bytes) = Some (resource_of (Count d))
guard_of (SlotIs s d) = Some (Group (d / per_table))
guard_of (BlockIs (Slot s) d bytes) = Some (Group (d / per_table))
guard_of (BlockIs x d bytes) = Some (resource_of x)
guard_of a = None

-- the slot whose claim guards the fact
abbrev pub claim_guard_of : Fact → Option ℕ
claim_guard_of (DeadRecord y es) = Some y
claim_guard_of (DeadTable y x p) = Some y
claim_guard_of (Swept y k) = Some y
claim_guard_of a = None

-- the key was registered and is, memory is as before but for one resource, and every fact stays that this resource does not guard
pub record Relocks (h : ℕ) (r : Resource) (v w : WorldView) : Type 0 where
  pub memory : SameElse v.locks.geometry r (host_at v.locks h) (host_at w.locks h)
  pub registered : Contains (keys_of v.locks) (key_at v.locks h)
  pub keys : keys_of w.locks ≡ keys_of v.locks
  pub passes : Passes h v w
  pub facts : (a : Fact) → guard_of a ≢ Some r → Knows v h a → Knows w h a
