-- The locks that a transaction took, last taken first.
use Rattle.std.specs.Prelude.{◌≡◌, ◌⊎◌, ℕ, Bool, true, false, List, [], ◌∷◌}
use Rattle.vol_layout.specs.declared.kind.Resource.{Resource}
use Rattle.vol_layout.specs.Ranges.{HasResource}
use Rattle.shared_disk.specs.Events.{Event}
use Rattle.lock_store.specs.Memories.{holds, reads}
use Rattle.lock_store.specs.Views.{host_at}
use Rattle.disk_locks.specs.Calls.{IsShared}
use Rattle.host_facts.specs.Facts.Fact.{RecordIs}
use Rattle.host_facts.specs.Knows.{Knows}
use Rattle.host_facts.specs.Relocks.{Relocks}
use Rattle.host_facts.specs.Views.{WorldView}
use Rattle.plan_parts.specs.QuietCalls.{Quiet}

-- the resource is one of them
abbrev pub IsTaken : List Resource → Resource → Type 0
IsTaken [] r = ⊥
IsTaken (s ∷ more) r = (s ≡ r) ⊎ IsTaken more r

-- each is a part or a group of the volume that the host holds, and none is there twice
abbrev pub AreHeld : WorldView → ℕ → List Resource → Type 0
AreHeld v h [] = Unit {0}
AreHeld v h (r ∷ more) =
    HasResource v.locks.geometry r × IsShared r × (holds (host_at v.locks h) r ≡ true) × (IsTaken more r → ⊥) × AreHeld v h more

-- the host holds these parts and groups, and no other one
pub record IsTaking (v : WorldView) (h : ℕ) (taken : List Resource) : Type 0 where
  pub each : AreHeld v h taken
  pub only : (r : Resource) → HasResource v.locks.geometry r → IsShared r → holds (host_at v.locks h) r ≡ true → IsTaken taken r

-- a lock is free; what it does not guard stays known
pub record LockFreed (h : ℕ) (v w : WorldView) (r : Resource) : Type 0 where
  pub relocks : Relocks h r v w
  pub free : holds (host_at w.locks h) r ≡ false
  pub read : reads (host_at w.locks h) r ≡ reads (host_at v.locks h) r
  pub empty : Knows w h (RecordIs [])
  pub event : Event
  pub quiet : Quiet h v w event

-- the lock that was taken last is free; the others are held still
pub record LastFreed (h : ℕ) (v w : WorldView) (taken after : List Resource) : Type 0 where
  pub resource : Resource
  pub last : taken ≡ resource ∷ after
  pub relocks : Relocks h resource v w
  pub free : holds (host_at w.locks h) resource ≡ false
  pub taking : IsTaking w h after
  pub empty : Knows w h (RecordIs [])
  pub event : Event
  pub quiet : Quiet h v w event

-- there was a lock to free; or none, and then no call was made
abbrev pub Frees : ℕ → WorldView → WorldView → List Resource → List Resource → Bool → Type 0
Frees h v w taken after true = LastFreed h v w taken after
Frees h v w taken after false = (taken ≡ []) × (after ≡ []) × (w ≡ v)
