-- What the freeing of a slot, a claimed one or the own one, leaves to the host that makes the call.
use Rattle.std.specs.Prelude.{◌≡◌, ◌≢◌, ◌⊎◌, ℕ, Contains, None, Some}
use Rattle.lock_store.specs.declared.host.HostState.{HostState}
use Rattle.lock_store.specs.Memories.{left, with_claim}
use Rattle.lock_store.specs.Views.{host_at, key_at, keys_of, told_of}
use Rattle.host_facts.specs.Facts.{Fact}
use Rattle.host_facts.specs.Facts.Fact.{DeadRecord, DeadTable, Ended, Given, Off, Swept}
use Rattle.host_facts.specs.Knows.{Knows}
use Rattle.host_facts.specs.Passes.{Passes}
use Rattle.host_facts.specs.Relocks.{claim_guard_of}
use Rattle.host_facts.specs.Views.{WorldView}

-- a slot is free, and the host has this in memory; or, over a device that tells nothing, it found another slot and has what it had;
-- and the facts of one sort stay
pub record SlotFreed (h : ℕ) (m : HostState) (Kept : Fact → Type 0) (v w : WorldView) : Type 0 where
  pub memory : (host_at w.locks h ≡ m) ⊎ ((told_of v.locks ≡ None) × (host_at w.locks h ≡ host_at v.locks h))
  pub registered : Contains (keys_of v.locks) (key_at v.locks h)
  pub keys : keys_of w.locks ≡ keys_of v.locks
  pub passes : Passes h v w
  pub facts : (a : Fact) → Kept a → Knows v h a → Knows w h a

-- a claimed slot is free: every fact stays that its claim does not guard
abbrev pub HasFreed : ℕ → ℕ → WorldView → WorldView → Type 0
HasFreed h y v w = SlotFreed h (with_claim y 0 (host_at v.locks h)) (λ a. claim_guard_of a ≢ Some y) v w

-- the fact is guarded by a key or by a claim alone
abbrev pub IsOfKeyOrClaim : Fact → Type 0
IsOfKeyOrClaim (Given key) = Unit {0}
IsOfKeyOrClaim (Off key) = Unit {0}
IsOfKeyOrClaim (Ended key) = Unit {0}
IsOfKeyOrClaim (DeadRecord y es) = Unit {0}
IsOfKeyOrClaim (DeadTable y x p) = Unit {0}
IsOfKeyOrClaim (Swept y k) = Unit {0}
IsOfKeyOrClaim a = ⊥

-- the own slot is free: the host has left it
abbrev pub HasLeft : ℕ → WorldView → WorldView → Type 0
HasLeft h v w = SlotFreed h (left (host_at v.locks h)) IsOfKeyOrClaim v w
