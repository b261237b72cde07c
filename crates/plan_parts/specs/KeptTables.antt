-- Tables that a host keeps while it has their locks.
use Rattle.std.specs.Prelude.{◌≡◌, ◌⊎◌, ℕ, true, List, [], ◌∷◌}
use Rattle.vol_layout.specs.declared.kind.Table.{Table}
use Rattle.vol_layout.specs.Ranges.{HasTable}
use Rattle.table_blocks.specs.Tables.{IsPackingOf}
use Rattle.lock_store.specs.Memories.{holds}
use Rattle.lock_store.specs.Views.{host_at}
use Rattle.disk_locks.specs.Keys.{owner}
use Rattle.host_facts.specs.Facts.Fact.{TableIs}
use Rattle.host_facts.specs.Knows.{Knows}
use Rattle.host_facts.specs.Views.{WorldView}
use Rattle.plan_parts.specs.declared.kept.Kept.{Kept}

-- the host has the lock of the table, and knows that it spells what is kept
pub record IsKept (v : WorldView) (h : ℕ) (kept : Kept) : Type 0 where
  pub table : HasTable v.locks.geometry kept.which
  pub held : holds (host_at v.locks h) (owner kept.which) ≡ true
  pub packing : IsPackingOf v.locks.geometry kept.which kept.table
  pub known : Knows v h (TableIs kept.which kept.table)

-- so it is of each of these tables
abbrev pub AreKept : WorldView → ℕ → List Kept → Type 0
AreKept v h [] = Unit {0}
AreKept v h (kept ∷ more) = IsKept v h kept × AreKept v h more

-- the table is one of them
abbrev pub IsLeft : List Kept → Table → Type 0
IsLeft [] t = ⊥
IsLeft (kept ∷ more) t = (kept.which ≡ t) ⊎ IsLeft more t

-- no table is one of them twice
abbrev pub AreTwo : List Kept → Type 0
AreTwo [] = Unit {0}
AreTwo (kept ∷ more) = (IsLeft more kept.which → ⊥) × AreTwo more
