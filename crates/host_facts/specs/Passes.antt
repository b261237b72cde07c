-- What a call on keys, slots and locks leaves to the host that makes it, whatever that host then has in memory.
use Rattle.std.specs.Prelude.{◌≡◌, ℕ, Contains, None, []}
use Rattle.vol_layout.specs.declared.geometry.Geometry.{Geometry}
use Rattle.vol_layout.specs.declared.kind.Kind.{Kind}
use Rattle.vol_layout.specs.declared.kind.Kind.TheVariants as kinds
use Rattle.vol_layout.specs.Places.{place_of}
use Rattle.vol_layout.specs.Ranges.{HasKind}
use Rattle.shared_disk.specs.Events.{Call, Fences, Reads, Registers, Tests, Writes}
use Rattle.call_effects.specs.Changes.{Changes}
use Rattle.lock_store.specs.Views.{host_at, key_at, keys_of, told_of}
use Rattle.disk_locks.specs.Sure.{BothTold}
use Rattle.host_facts.specs.Facts.{Fact, IsGuarded}
use Rattle.host_facts.specs.Facts.Fact.{Swept}
use Rattle.host_facts.specs.Knows.{Knows}
use Rattle.host_facts.specs.Views.{WorldView, record_at}
use Rattle.host_facts.specs.Wrote.{FilesStay}

-- a slot or a lock
abbrev pub IsLockKind : Kind → Type 0
IsLockKind kinds.Super = ⊥
IsLockKind (kinds.Slot h) = Unit {0}
IsLockKind (kinds.Journal h) = ⊥
IsLockKind (kinds.Lock r) = Unit {0}
IsLockKind (kinds.Table t) = ⊥
IsLockKind (kinds.Log h l) = ⊥
IsLockKind (kinds.Shard s) = ⊥
IsLockKind (kinds.Request f) = ⊥
IsLockKind (kinds.Number d) = ⊥

-- the place of a slot or a lock of the volume
pub record IsLockPlace (g : Geometry) (place : ℕ) : Type 0 where
  pub kind : Kind
  pub lock : IsLockKind kind
  pub has : HasKind g kind
  pub at : place ≡ place_of g kind

-- a call that reads, takes a key off, or writes a slot or a lock
abbrev pub IsLockCall : Geometry → Call → Type 0
IsLockCall g (Reads place) = Unit {0}
IsLockCall g (Writes place block) = IsLockPlace g place
IsLockCall g (Tests place old new) = IsLockPlace g place
IsLockCall g (Registers host) = ⊥
IsLockCall g (Fences target) = Unit {0}

-- the fact is not that locks are not held by a dead key
abbrev pub SaysNoLock : Fact → Type 0
SaysNoLock (Swept y k) = ⊥
SaysNoLock a = Unit {0}

-- the host's key only falls, its record in memory is as before, and no logical number, data block or file changed; and a fact stays
-- where the host still has in memory what guards it
pub record Passes (h : ℕ) (v w : WorldView) : Type 0 where
  pub geometry : w.locks.geometry ≡ v.locks.geometry
  pub key : key_at w.locks h ≡ key_at v.locks h
  pub standing : record_at w h ≡ record_at v h
  pub registered : Contains (keys_of w.locks) (key_at v.locks h) → Contains (keys_of v.locks) (key_at v.locks h)
  pub facts : (a : Fact) → SaysNoLock a → IsGuarded w.locks.geometry (host_at w.locks h) (record_at w h) a → Knows v h a → Knows w h a
  pub images : BothTold (told_of v.locks) (told_of w.locks) (Changes v.locks.geometry [] None)
  pub files : FilesStay v w
