-- What stands between any two steps of a plan behind its hold.
use Rattle.std.specs.Prelude.{◌≡◌, ◌<◌, ℕ, true, Some}
use Rattle.vol_base.specs.Packing.{Packing}
use Rattle.vol_base.specs.declared.plain.PlainCall.TheVariants.{Read}
use Rattle.vol_layout.specs.declared.kind.Resource.TheVariants.{File}
use Rattle.vol_layout.specs.declared.kind.Table.{Table}
use Rattle.lock_store.specs.declared.host.HostState.{HostState}
use Rattle.lock_store.specs.Memories.{holds, may_read}
use Rattle.lock_store.specs.Views.{host_at}
use Rattle.table_blocks.specs.Tables.{IsPackingOf}
use Rattle.held_cache.specs.Kept.{Cache, IsFileTable, kept_at}
use Rattle.host_facts.specs.Facts.Fact.{TableIs}
use Rattle.host_facts.specs.Knows.{Knows}
use Rattle.host_facts.specs.Views.{WorldView}
use Rattle.plan_parts.specs.TakenLocks.{IsTaking}
use Rattle.file_plans.specs.Calls.{file_of, is_write}
use Rattle.file_plans.specs.declared.call.FileCall.{FileCall}
use Rattle.file_plans.specs.declared.call.FileCall.TheVariants.{Close, Plain}
use Rattle.file_plans.specs.declared.state.Core.{Core}
use Rattle.plan_parts.specs.declared.outcome.Outcome.{Outcome}
use Rattle.plan_parts.specs.declared.outcome.Outcome.TheVariants.{Full, Placed}

-- the cache is of the volume, and what it keeps for the host the host knows
pub record IsCached (v : WorldView) (c : Cache) (h : ℕ) : Type 0 where
  pub volume : c.volume ≡ v.locks.geometry
  pub known : (t : Table) (p : Packing) → IsFileTable v.locks.geometry t → kept_at c h t ≡ Some p
      → Knows v h (TableIs t p) × IsPackingOf v.locks.geometry t p

-- a read may be done under a read hold or a write hold of its file, any other call under a write hold
abbrev pub HasHold : FileCall → HostState → Type 0
HasHold (Plain (Read f i)) m = may_read m (File f) ≡ true
HasHold call m = holds m (File (file_of call)) ≡ true

-- the host has its file and the locks that were taken, and no other part or group; its tables are kept as they stand
pub record IsBase (v : WorldView) (c : Cache) (core : Core) : Type 0 where
  pub host : core.host < v.locks.geometry.hosts
  pub file : file_of core.call < v.locks.geometry.files
  pub joined : (host_at v.locks core.host).joined ≡ true
  pub hold : HasHold core.call (host_at v.locks core.host)
  pub taking : IsTaking v core.host core.taken
  pub cached : IsCached v c core.host

-- what a call may come to: only a plain one has a place, and only a write meets the volume full
abbrev pub MayComeTo : FileCall → Outcome → Type 0
MayComeTo (Close f) (Placed reply) = ⊥
MayComeTo call Full = is_write call ≡ true
MayComeTo call outcome = Unit {0}
